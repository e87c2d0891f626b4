use Rattle.std.proofs.Common.{ap, ◌∙◌, take, drop, ◌-◌, ◌+◌, refl}
use Rattle.obj_store.proofs.Keys.{key_read}
use Rattle.obj_store.proofs.ram.RamStore.key_bytes.Goals as goal

-- the bytes are those of the block in which the node stands
pub returns : goal.returns
returns c =
    key_read c.args.self.now c.args.node.0 c.args.place c.block_of.result c.key_offset-at.result
    (c.key_offset-at.result + 16) c.sixteen_bytes.result c.requires.node c.requires.place c.block_of.ensures.place
    c.key_offset-at.ensures refl
    (c.sixteen_bytes.ensures
    ∙ ap (λ block. take (c.key_offset-at.result + 16 - c.key_offset-at.result) (drop c.key_offset-at.result block))
    c.block-block.ensures)
