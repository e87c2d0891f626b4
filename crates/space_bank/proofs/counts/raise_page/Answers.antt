use Rattle.std.proofs.Common.{◌≡◌, ◌+◌, ◌-◌, ◌<◌, ◌∙◌, sym, ap, subst, arith}
use Rattle.kernel_tables.specs.Kernel.{kernel_of, first_page}
use Rattle.kernel_tables.specs.Rows.{entry_at}
use Rattle.space_bank.specs.FreeList.{shares}
use Rattle.space_bank.specs.Bank.{BankGood}
use Rattle.space_bank.proofs.ChangeLaws.{page-raised, bank_good-page_counted, counted_by_number}
use Rattle.std.proofs.Common.{ℕ, [], ◌∷◌}
use Rattle.kernel_tables.specs.Blocks.{ChangesBlocks, page_entry_block}
use Rattle.space_bank.proofs.counts.raise_page.Goals as goal

pub returns-clause-shares : goal.returns-clause-shares
returns-clause-shares g c =
    let kernel = kernel_of (g.T.Store.memory c.args.store.now) in
    let new = kernel_of (g.T.Store.memory c.count_page.new.store) in
    let inside : c.args.page.0 - first_page kernel.size < kernel.size = omega (arith, c.requires.page.low, c.requires.page.high) in
    let number : first_page kernel.size + (c.args.page.0 - first_page kernel.size) ≡ c.args.page.0 = omega (arith, c.requires.page.low) in
    page-raised kernel new (c.args.page.0 - first_page kernel.size) c.args.page.0 number inside c.requires.taken
    (counted_by_number kernel new c.args.page.0 c.first_bank_page.result c.count_in-count.result (λ x. x + 1)
    (c.first_bank_page.ensures ∙ ap first_page c.bank_size.ensures) (c.count_in-count.ensures ∙ ap shares c.page_entry.ensures)
    c.count_page.ensures.counted)

pub returns-clause-good : goal.returns-clause-good
returns-clause-good g c =
    let kernel = kernel_of (g.T.Store.memory c.args.store.now) in
    let new = kernel_of (g.T.Store.memory c.count_page.new.store) in
    let inside : c.args.page.0 - first_page kernel.size < kernel.size = omega (arith, c.requires.page.low, c.requires.page.high) in
    subst BankGood (sym (counted_by_number kernel new c.args.page.0 c.first_bank_page.result c.count_in-count.result (λ x. x + 1)
    (c.first_bank_page.ensures ∙ ap first_page c.bank_size.ensures) (c.count_in-count.ensures ∙ ap shares c.page_entry.ensures)
    c.count_page.ensures.counted))
    (bank_good-page_counted kernel (c.args.page.0 - first_page kernel.size)
    (shares (entry_at kernel.page_entries (c.args.page.0 - first_page kernel.size)) + 1) inside c.requires.taken (omega arith) c.requires.good)

pub returns-clause-blocks : goal.returns-clause-blocks
returns-clause-blocks g c =
    subst (λ (first : ℕ). ChangesBlocks (g.T.Store.blocks c.args.store.now) (g.T.Store.blocks c.count_page.new.store) (page_entry_block (c.args.page.0 - first) ∷ []))
    (c.first_bank_page.ensures ∙ ap first_page c.bank_size.ensures) c.count_page.ensures.blocks
