use Rattle.std.proofs.Common.{arith, ap, ◌∙◌}
use Rattle.std.specs.Prelude.{option_map}
use Rattle.unix_model.specs.Tables.{with_at}
use Rattle.flat_files.specs.InodeView.{inode_of}
use Rattle.flat_files.specs.InodesView.{inodes_of}
use Rattle.flat_files.proofs.SlotLaws.{table-set}
use Rattle.flat_files.proofs.inodes.Inodes.take.Goals as goal

pub returns-clause-free : goal.returns-clause-free
unfolding inodes_of
returns-clause-free c =
    table-set inode_of c.args.self.now.items.items c.args.number c.take.new.self (omega (arith, c.args.self.now.full))
    ∙ ap (λ inode. with_at (inodes_of c.args.self.now) c.args.number (option_map inode_of inode)) c.take.ensures.after
