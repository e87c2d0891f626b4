use Rattle.std.proofs.Common.{sym, ◌∙◌}
use Rattle.kn_base.proofs.MemoryLaws.{page_at-memory_of}
use Rattle.obj_store.specs.StoreLaws.{page_inside, page_counted}
use Rattle.obj_store.proofs.ram.RamStore.page.Goals as goal

pub block-requires : goal.block-requires
block-requires c = page_inside c.args.self.now c.args.page.0 c.requires

pub returns : goal.returns
returns c =
    c.block.ensures
    ∙ sym
    (page_at-memory_of c.args.self.now.pages c.args.self.now.blocks.items c.args.page.0
    (page_counted c.args.self.now c.args.page.0 c.requires))
