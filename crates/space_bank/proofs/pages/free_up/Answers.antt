use Rattle.std.proofs.Common.{◌≡◌, ◌+◌, ℕ, inl, inr, refl, sym, subst}
use Rattle.kn_base.specs.Memory.{ChangesBlock}
use Rattle.kernel_tables.specs.Kernel.{kernel_of, first_page}
use Rattle.kernel_tables.specs.Blocks.{machine_block, page_entry_block}
use Rattle.kernel_tables.proofs.BlockLaws.{no_block, one_more}
use Rattle.space_bank.proofs.pages.free_up.Goals as goal

pub returns-clause-blocks : goal.returns-clause-blocks
returns-clause-blocks g c =
    let kernel = kernel_of (g.T.Store.memory c.args.store.now) in
    let number : first_page kernel.size + c.args.n ≡ c.args.page = sym c.requires.number in
    let bytes = one_more c.args.page no_block (inl refl)
    (subst (λ (block : ℕ). ChangesBlock (g.T.Store.blocks c.args.store.now) (g.T.Store.blocks c.clear_bank_page.new.store) block) number c.clear_bank_page.ensures.one_block) in
    let entry = one_more (page_entry_block c.args.n) bytes (inr (inl refl)) c.set_page_entry.ensures.one_block in
    let first = one_more machine_block entry (inr (inr (inl refl))) c.set_free_page.ensures.one_block in
    let taken = one_more machine_block first (inr (inr (inl refl))) c.set_pages_taken.ensures.one_block in
    one_more machine_block taken (inr (inr (inl refl))) c.set_memory_taken.ensures.one_block
