use Rattle.std.proofs.Common.{◌≡◌, ap, subst, ◌∙◌, ◌+◌, ◌/◌, length, rules}
use Rattle.kn_base.specs.Memory.{ChangesBlock}
use Rattle.obj_store.specs.Store.{ram_of, ram_memory}
use Rattle.obj_store.specs.StoreLaws.{ram-pages}
use Rattle.obj_store.proofs.Pages.{key_written, key_bytes_written, block_changed}
use Rattle.obj_store.proofs.ram.RamStoreStore.set_key.Goals as goal

-- the bytes that are put spell the key
pub returns-clause-written : goal.returns-clause-written
returns-clause-written c =
    let sixteen : length c.bytes_of.result ≡ 16 = search rules in
    key_written c.args.self.now c.put.new.self c.args.node.0 c.args.place c.block_of-number.result c.key_offset.result
    c.bytes_of.result c.args.key c.requires.node c.requires.place c.block_of-number.ensures.place c.key_offset.ensures sixteen
    c.bytes_of.ensures.read_back c.put.ensures

pub returns-clause-bytes : goal.returns-clause-bytes
returns-clause-bytes c =
    key_bytes_written c.args.self.now c.put.new.self c.args.node.0 c.args.place c.block_of-number.result c.key_offset.result
    c.bytes_of.result c.args.key c.block_of-number.ensures.place c.key_offset.ensures c.bytes_of.ensures.value c.put.ensures

pub returns-clause-one_block : goal.returns-clause-one_block
returns-clause-one_block c =
    let place : c.block_of-number.result ≡ length (ram_memory c.args.self.now).pages + c.args.node.0 / 16 =
    c.block_of-number.ensures.place ∙ ap (λ n. n + c.args.node.0 / 16) (ram-pages c.args.self.now)
    in
    subst (λ b. ChangesBlock c.args.self.now.blocks.items c.put.new.self.blocks.items b) place
    (block_changed (ram_of c.args.self.now) (ram_of c.put.new.self) c.block_of-number.result _
    c.block_of-number.ensures.inside c.put.ensures)
