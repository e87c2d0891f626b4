use Rattle.std.proofs.Common.{◌≡◌, false, sym, subst}
use Rattle.unix_model.specs.Files as model
use Rattle.flat_files.specs.FilesView.{files_of}
use Rattle.flat_files.specs.InodeView.{inode_of}
use Rattle.flat_files.proofs.ParentLaws.{full-made}
use Rattle.flat_files.proofs.files.Files.make.Goals as goal

pub add_name-requires-clause-place : goal.add_name-requires-clause-place
add_name-requires-clause-place c =
    subst (λ (files : model.Files). model.is_full files c.args.spot.directory ≡ false) (sym c.set_inode.ensures)
    (full-made (files_of c.args.self.now) c.args.number c.args.spot.directory (inode_of c.args.inode) c.requires.empty c.requires.place)
