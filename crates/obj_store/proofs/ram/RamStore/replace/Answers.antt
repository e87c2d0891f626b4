use Rattle.std.proofs.Common.{◌≡◌, ◌∙◌, ap, length, set, true, arith}
use Rattle.std.proofs.lemmas.List.{length-set}
use Rattle.obj_store.specs.Ram.{Ram, with_block}
use Rattle.obj_store.specs.Store.{ram_of}
use Rattle.obj_store.specs.StoreLaws.{page_inside}
use Rattle.obj_store.proofs.Pages.{page_written}
use Rattle.obj_store.proofs.ram.RamStore.replace.Goals as goal

pub put_block-requires : goal.put_block-requires
put_block-requires c = page_inside c.args.self.now c.args.page.0 c.requires

pub mark-requires : goal.mark-requires
mark-requires c =
    let inside = page_inside c.args.self.now c.args.page.0 c.requires in
    let same : length c.put_block.new.self.blocks.items ≡ length c.args.self.now.blocks.items =
    ap (λ ram. length ram.blocks) c.put_block.ensures
    ∙ length-set c.args.self.now.blocks.items c.args.page.0 c.args.bytes.now
    in omega arith

-- the block is replaced, and then marked
pub returns-clause-written : goal.returns-clause-written
returns-clause-written c =
    let mark : Ram → Ram = λ ram. record ram { dirty = set ram.dirty c.args.page.0 true } in
    let both : ram_of c.mark.new.self ≡ with_block (ram_of c.args.self.now) c.args.page.0 c.args.bytes.now =
    c.mark.ensures ∙ ap mark c.put_block.ensures
    in page_written c.args.self.now c.mark.new.self c.args.page.0 c.args.bytes.now c.requires both
