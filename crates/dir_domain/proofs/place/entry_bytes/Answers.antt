use Rattle.std.proofs.Common.{◌≡◌, ◌+◌, ◌-◌, length, ◌∙◌, arith}
use Rattle.dir_domain.proofs.Entries.{entry-spelled}
use Rattle.dir_domain.proofs.place.entry_bytes.Goals as goal

pub returns : goal.returns
returns c =
    let count : 5 + length c.args.name.now - 5 ≡ length c.args.name.now = omega arith in
    entry-spelled c.args.inode (5 + length c.args.name.now - 5) c.copy_from_slice.new.self c.copy_from_slice-2.new.self c.args.name.now (c.copy_from_slice.ensures.after ∙ c.to_le_bytes.ensures) c.copy_from_slice-2.ensures.after count
