-- What calls on files ask holds of the first machine, and of one with a file or directory more.
use Rattle.std.proofs.Common.{◌≡◌, ◌≢◌, ℕ, ◌<◌, Some, None, length, slice_set, refl, sym, ap, subst, ◌∙◌, arith}
use Rattle.std.specs.Prelude.{option_map}
use Rattle.std.proofs.lemmas.List.{length-set}
use Rattle.kernel_tables.specs.declared.inode.InodeKind.{InodeKind}
use Rattle.kernel_tables.specs.declared.inode.InodeKind.TheVariants as kind
use Rattle.kernel_tables.specs.declared.row.Row.TheVariants.{Used}
use Rattle.kernel_tables.specs.Kernel.{Kernel}
use Rattle.file_tables.specs.Numbers.{TakesInode, fresh_inode}
use Rattle.file_tables.specs.Roots.{named_by}
use Rattle.file_tables.specs.Rows.{InodesGood}
use Rattle.unix_model.specs.Calls.{call_of}
use Rattle.unix_model.specs.Files.{inode_pages}
use Rattle.unix_model.specs.Room.{promised}
use Rattle.unix_model.specs.Tables.{at}
use Rattle.unix_model.proofs.RoomLaws.{promised-inode}
use Rattle.kernel_machine.specs.Contents.{file_in, places_in}
use Rattle.kernel_machine.specs.Bounds.{Accounted}
use Rattle.kernel_machine.specs.Loose.{Nothing}
use Rattle.kernel_machine.specs.Machine.{KernelMachine, machine_of, inodes_of, held}
use Rattle.kernel_machine.specs.Standing.{Standing}
use Rattle.kernel_machine.specs.View.{view, inode_in, inodes_in, descriptions_in}
use Rattle.kernel_machine.proofs.GoodBounds.{good_is_accounted}
use Rattle.kernel_machine.proofs.LooseLaws.{nothing_loose}
use Rattle.kernel_machine.proofs.RootStands.{standing_with_new_inode}
use Rattle.kernel_machine.proofs.SetLaws.{inode_set}
use Rattle.kernel_machine.proofs.StandingLaws.{good_is_both}
use Rattle.first_machine.specs.First.{IsFirst}
use Rattle.file_trees.specs.Good.{FilesGood}
use Rattle.file_domain.proofs.Keeping.{accounted_still}

pub first_good : (pages quantum : ℕ) (kernel : Kernel) → IsFirst pages quantum kernel → FilesGood kernel
first_good pages quantum kernel first =
    let good = first.good call_of in
    record {
      standing = ((good_is_both call_of kernel).0 good).0;
      accounted = good_is_accounted call_of kernel good;
      promises = ((good_is_both call_of kernel).0 good).1.promises;
    }

-- a file or directory without a length is promised no page
fresh-pages : (machine : KernelMachine) (k : InodeKind) → k ≢ kind.Pipe → inode_pages (Some (inode_in machine (fresh_inode k))) ≡ 0
unfolding inode_in file_in places_in
fresh-pages machine kind.File other = refl
fresh-pages machine kind.Dir other = refl
fresh-pages machine kind.Pipe other = absurd (other refl)
fresh-pages machine kind.Console other = refl

module _ (old new : Kernel) (k : InodeKind) (number : ℕ) (good : FilesGood old) (takes : TakesInode old new k number) (no_pipe : k ≢ kind.Pipe) (all : length old.inodes ≡ 1024)
    (named : named_by new.inodes ≡ named_by old.inodes) (inodes : InodesGood new.inodes) where
  stands : Standing new
  stands = (nothing_loose new).1 (standing_with_new_inode old new k number Nothing takes no_pipe named inodes ((nothing_loose old).0 good.standing))

  none-before : at (view (machine_of old)).files.inodes number ≡ None
  unfolding view inodes_in machine_of inodes_of at
  none-before = ap (option_map (inode_in (machine_of old))) (ap held takes.was_free)

  same-promised : promised (view (machine_of new)) ≡ promised (view (machine_of old))
  unfolding view
  same-promised =
      let below : number < 1024 = takes.high in
      let seen = inode_set old new number (fresh_inode k) (omega arith) takes.state in
      let change = promised-inode (view (machine_of old)) (Some (inode_in (machine_of old) (fresh_inode k))) (descriptions_in (machine_of old)) number below in
      let before : inode_pages (at (view (machine_of old)).files.inodes number) ≡ 0 = ap inode_pages none-before in
      let fresh = fresh-pages (machine_of old) k no_pipe in
      ap promised seen ∙ omega arith

  pub made_good : FilesGood new
  made_good = record {
    standing = stands;
    accounted = subst (λ (n : Kernel). Standing n → Accounted n) (sym takes.state) (λ standing. accounted_still old (record old { inodes = slice_set old.inodes number (Used (fresh_inode k)) }) refl refl (length-set old.inodes number (Used (fresh_inode k)) ∙ all) standing good.accounted) stands;
    promises = ap (λ (n : Kernel). n.machine.promised) takes.state ∙ good.promises ∙ sym same-promised;
  }
