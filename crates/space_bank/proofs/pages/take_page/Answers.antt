use Rattle.std.proofs.Common.{ℕ, ◌+◌, ◌≡◌, ◌<◌, ◌∙◌, sym, ap, subst, arith}
use Rattle.kernel_tables.specs.Kernel.{Kernel, kernel_of, first_page}
use Rattle.space_bank.specs.Bank.{BankGood}
use Rattle.space_bank.proofs.BankLaws.{bank_good-page_taken}
use Rattle.space_bank.specs.Shares.{PutsPageInHand}
use Rattle.space_bank.proofs.ShareLaws.{page-taken_in_hand}
use Rattle.std.proofs.Common.{[], ◌∷◌, ◌-◌}
use Rattle.kernel_tables.specs.Blocks.{ChangesBlocks, machine_block, page_entry_block}
use Rattle.space_bank.proofs.pages.take_page.Goals as goal

pub overflow_add-result : goal.overflow_add-result
unfolding first_page
overflow_add-result g c =
    let kernel = kernel_of (g.T.Store.memory c.args.store.now) in
    let size : c.bank_size.result ≡ kernel.size = c.bank_size.ensures ∙ ap (λ (k : Kernel). k.size) c.use_page.ensures.written in
    let small = c.requires.sized.most in
    let inside : c.in-Some.n < kernel.size = c.in-Some.ensures.first.inside in
    omega arith

pub returns-in-Some-clause-good : goal.returns-in-Some-clause-good
returns-in-Some-clause-good g c =
    let kernel = kernel_of (g.T.Store.memory c.args.store.now) in
    subst BankGood (sym c.use_page.ensures.written)
    (bank_good-page_taken kernel c.in-Some.n c.args.owner c.in-Some.ensures.first c.requires)

pub returns-in-Some-clause-shares : goal.returns-in-Some-clause-shares
returns-in-Some-clause-shares g c =
    let kernel = kernel_of (g.T.Store.memory c.args.store.now) in
    let new = kernel_of (g.T.Store.memory c.use_page.new.store) in
    let size : c.bank_size.result ≡ kernel.size = c.bank_size.ensures ∙ ap (λ (k : Kernel). k.size) c.use_page.ensures.written in
    let first : first_page kernel.size ≡ c.first_bank_page.result = sym (c.first_bank_page.ensures ∙ ap first_page size) in
    subst (λ (x : ℕ). PutsPageInHand kernel new (x + c.in-Some.n)) first
    (page-taken_in_hand kernel new c.in-Some.n c.args.owner c.in-Some.ensures.first c.use_page.ensures.written)

pub returns-in-Some-clause-blocks : goal.returns-in-Some-clause-blocks
returns-in-Some-clause-blocks g c =
    let kernel = kernel_of (g.T.Store.memory c.args.store.now) in
    let size : c.bank_size.result ≡ kernel.size = c.bank_size.ensures ∙ ap (λ (k : Kernel). k.size) c.use_page.ensures.written in
    let first : c.first_bank_page.result ≡ first_page kernel.size = c.first_bank_page.ensures ∙ ap first_page size in
    let number : c.in-Some.n ≡ c.first_bank_page.result + c.in-Some.n - first_page kernel.size = omega arith in
    subst (λ (n : ℕ). ChangesBlocks (g.T.Store.blocks c.args.store.now) (g.T.Store.blocks c.use_page.new.store) (page_entry_block n ∷ machine_block ∷ []))
    number c.use_page.ensures.blocks
