use Rattle.std.proofs.Common.{◌≡◌, ℕ, ◌+◌, ◌-◌, ◌<◌, ◌≤◌, ◌∙◌, sym, ap, subst, arith}
use Rattle.kernel_tables.specs.Kernel.{kernel_of, first_page}
use Rattle.kernel_tables.specs.Rows.{entry_at}
use Rattle.space_bank.specs.Bank.{BankGood, IsTakenOnce, memory_taken_one}
use Rattle.space_bank.proofs.BankLaws.{bank_good-page_given, page-counted}
use Rattle.space_bank.proofs.ShareLaws.{page-given_out_of_hand}
use Rattle.std.proofs.Common.{[], ◌∷◌}
use Rattle.kernel_tables.specs.Blocks.{ChangesBlocks, machine_block, page_entry_block}
use Rattle.space_bank.proofs.pages.give_page.Goals as goal

pub free_up-requires-clause-some_page : goal.free_up-requires-clause-some_page
free_up-requires-clause-some_page g c =
    let kernel = kernel_of (g.T.Store.memory c.args.store.now) in
    let inside : c.args.page.0 - first_page kernel.size < kernel.size = omega (arith, c.requires.low, c.requires.high) in
    (page-counted kernel (c.args.page.0 - first_page kernel.size) inside c.requires.taken c.requires.good).0

pub free_up-requires-clause-some_memory : goal.free_up-requires-clause-some_memory
free_up-requires-clause-some_memory g c =
    let kernel = kernel_of (g.T.Store.memory c.args.store.now) in
    let inside : c.args.page.0 - first_page kernel.size < kernel.size = omega (arith, c.requires.low, c.requires.high) in
    let first : first_page kernel.size ≡ c.first_bank_page.result =
    sym (c.first_bank_page.ensures ∙ ap first_page c.bank_size.ensures)
    in
    subst (λ (x : ℕ). memory_taken_one (entry_at kernel.page_entries (c.args.page.0 - x)) ≤ kernel.machine.memory_taken) first
    (page-counted kernel (c.args.page.0 - first_page kernel.size) inside c.requires.taken c.requires.good).1

pub returns-clause-good : goal.returns-clause-good
returns-clause-good g c =
    let kernel = kernel_of (g.T.Store.memory c.args.store.now) in
    let first : first_page kernel.size ≡ c.first_bank_page.result =
    sym (c.first_bank_page.ensures ∙ ap first_page c.bank_size.ensures)
    in
    let inside : c.args.page.0 - c.first_bank_page.result < kernel.size = omega (arith, c.requires.low, c.requires.high) in
    let taken : IsTakenOnce (entry_at kernel.page_entries (c.args.page.0 - c.first_bank_page.result)) =
    subst (λ (x : ℕ). IsTakenOnce (entry_at kernel.page_entries (c.args.page.0 - x))) first c.requires.taken
    in
    subst BankGood (sym c.free_up.ensures.written)
    (bank_good-page_given kernel (c.args.page.0 - c.first_bank_page.result) inside taken c.requires.good)

pub returns-clause-shares : goal.returns-clause-shares
returns-clause-shares g c =
    let kernel = kernel_of (g.T.Store.memory c.args.store.now) in
    let first : first_page kernel.size ≡ c.first_bank_page.result =
    sym (c.first_bank_page.ensures ∙ ap first_page c.bank_size.ensures)
    in
    let inside : c.args.page.0 - c.first_bank_page.result < kernel.size = omega (arith, c.requires.low, c.requires.high) in
    let number : first_page kernel.size + (c.args.page.0 - c.first_bank_page.result) ≡ c.args.page.0 = omega (arith, c.requires.low) in
    let taken : IsTakenOnce (entry_at kernel.page_entries (c.args.page.0 - c.first_bank_page.result)) =
    subst (λ (x : ℕ). IsTakenOnce (entry_at kernel.page_entries (c.args.page.0 - x))) first c.requires.taken
    in
    page-given_out_of_hand kernel (kernel_of (g.T.Store.memory c.free_up.new.store))
    (c.args.page.0 - c.first_bank_page.result) c.args.page.0 number inside taken c.free_up.ensures.written

pub returns-clause-blocks : goal.returns-clause-blocks
returns-clause-blocks g c =
    subst (λ (first : ℕ). ChangesBlocks (g.T.Store.blocks c.args.store.now) (g.T.Store.blocks c.free_up.new.store) (c.args.page.0 ∷ page_entry_block (c.args.page.0 - first) ∷ machine_block ∷ []))
    (c.first_bank_page.ensures ∙ ap first_page c.bank_size.ensures) c.free_up.ensures.blocks
