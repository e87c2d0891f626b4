use Rattle.std.proofs.Common.{◌≡◌, ℕ, ◌-◌, ◌<◌, ◌≤◌, ◌∙◌, sym, ap, subst, arith}
use Rattle.kernel_tables.specs.Kernel.{kernel_of, first_page}
use Rattle.space_bank.specs.Bank.{IsFirstFree}
use Rattle.space_bank.proofs.FreeListLaws.{free_list-none, free_list-first}
use Rattle.space_bank.proofs.EntryLaws.{entries-few, memory-few}
use Rattle.space_bank.proofs.pages.first_free_page.Goals as goal

pub returns-then-page-eq0-clause-first : goal.returns-then-page-eq0-clause-first
returns-then-page-eq0-clause-first g c =
    let kernel = kernel_of (g.T.Store.memory c.args.store.now) in
    free_list-none kernel.page_entries (first_page kernel.size) kernel.size kernel.machine.free_page
    (sym c.free_page-page.ensures ∙ c.if-page-eq0.true) c.requires.pages.entries_good.free

pub returns-then-page-eq0-clause-few_pages : goal.returns-then-page-eq0-clause-few_pages
returns-then-page-eq0-clause-few_pages g c =
    let kernel = kernel_of (g.T.Store.memory c.args.store.now) in
    let small : kernel.size ≤ 131072 = omega (arith, c.requires.sized.most) in
    entries-few kernel.page_entries (first_page kernel.size) kernel.size kernel.machine.free_page kernel.machine.pages_taken small
    c.requires.pages.entries_good

pub returns-then-page-eq0-clause-few_of_memory : goal.returns-then-page-eq0-clause-few_of_memory
returns-then-page-eq0-clause-few_of_memory g c =
    let kernel = kernel_of (g.T.Store.memory c.args.store.now) in
    memory-few kernel.size kernel.page_entries kernel.machine.free_page kernel.machine.pages_taken kernel.machine.memory_taken
    kernel.bank c.requires.sized.most c.requires.pages

pub overflow_sub-result : goal.overflow_sub-result
overflow_sub-result g c =
    let kernel = kernel_of (g.T.Store.memory c.args.store.now) in
    let some : 0 < kernel.machine.free_page = omega (arith, c.free_page-page.ensures, c.if-page-eq0.false) in
    let head =
    free_list-first kernel.page_entries (first_page kernel.size) kernel.size kernel.machine.free_page some
    c.requires.pages.entries_good.free
    in
    let base : c.first_bank_page.result ≡ first_page kernel.size = c.first_bank_page.ensures ∙ ap first_page c.bank_size.ensures in
    let number = head.number in
    let page = c.free_page-page.ensures in
    omega arith

pub returns-clause-first : goal.returns-clause-first
returns-clause-first g c =
    let kernel = kernel_of (g.T.Store.memory c.args.store.now) in
    let some : 0 < kernel.machine.free_page = omega (arith, c.free_page-page.ensures, c.if-page-eq0.false) in
    let head =
    free_list-first kernel.page_entries (first_page kernel.size) kernel.size kernel.machine.free_page some
    c.requires.pages.entries_good.free
    in
    let base : c.first_bank_page.result ≡ first_page kernel.size = c.first_bank_page.ensures ∙ ap first_page c.bank_size.ensures in
    let number = head.number in
    let page = c.free_page-page.ensures in
    let same : kernel.machine.free_page - first_page kernel.size ≡ c.free_page-page.result - c.first_bank_page.result = omega arith in
    subst (λ (m : ℕ). IsFirstFree kernel.page_entries (first_page kernel.size) kernel.size kernel.machine.free_page m) same head

pub returns-clause-few_pages : goal.returns-clause-few_pages
returns-clause-few_pages g c =
    let kernel = kernel_of (g.T.Store.memory c.args.store.now) in
    let small : kernel.size ≤ 131072 = omega (arith, c.requires.sized.most) in
    entries-few kernel.page_entries (first_page kernel.size) kernel.size kernel.machine.free_page kernel.machine.pages_taken small
    c.requires.pages.entries_good

pub returns-clause-few_of_memory : goal.returns-clause-few_of_memory
returns-clause-few_of_memory g c =
    let kernel = kernel_of (g.T.Store.memory c.args.store.now) in
    memory-few kernel.size kernel.page_entries kernel.machine.free_page kernel.machine.pages_taken kernel.machine.memory_taken
    kernel.bank c.requires.sized.most c.requires.pages
