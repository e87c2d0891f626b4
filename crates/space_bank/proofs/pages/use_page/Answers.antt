use Rattle.std.proofs.Common.{inl, inr, refl}
use Rattle.kernel_tables.specs.Blocks.{machine_block, page_entry_block}
use Rattle.kernel_tables.proofs.BlockLaws.{no_block, one_more}
use Rattle.space_bank.proofs.pages.use_page.Goals as goal

pub returns-clause-blocks : goal.returns-clause-blocks
returns-clause-blocks g c =
    let entry = one_more (page_entry_block c.args.n) no_block (inl refl) c.set_page_entry.ensures.one_block in
    let first = one_more machine_block entry (inr (inl refl)) c.set_free_page.ensures.one_block in
    let taken = one_more machine_block first (inr (inl refl)) c.set_pages_taken.ensures.one_block in
    one_more machine_block taken (inr (inl refl)) c.set_memory_taken.ensures.one_block
