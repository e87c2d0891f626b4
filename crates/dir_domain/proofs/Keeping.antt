-- What calls on directories keep: of the machine one row and its tree have changed, so all that is taken stays accounted for.
use Rattle.std.proofs.Common.{◌≡◌, ◌≢◌, ℕ, ◌*◌, ◌<◌, true, Option, Some, List, length, ap, sym, ◌∙◌, arith}
use Rattle.std.specs.Prelude.{Result, Ok, Err}
use Rattle.kernel_tables.specs.declared.inode.Inode.{Inode}
use Rattle.kernel_tables.specs.Kernel.{Kernel}
use Rattle.forest.specs.Calls.{IsOwn}
use Rattle.forest.specs.Walks.{Mapping}
use Rattle.kernel_forest.specs.Trees.{forest_of}
use Rattle.unix_model.specs.declared.calls.Errno.{Errno}
use Rattle.unix_model.specs.Files.{Directory, Entry, is_directory, parent_of, with_places}
use Rattle.unix_model.specs.Numbers.{pages_of}
use Rattle.unix_model.specs.Room.{promised}
use Rattle.unix_model.specs.State.{Unix, with_files}
use Rattle.unix_model.specs.Tables.{at}
use Rattle.unix_model.proofs.TableLaws.{at-with_at}
use Rattle.kernel_machine.specs.Bounds.{Accounted}
use Rattle.kernel_machine.specs.Machine.{KernelMachine, machine_of}
use Rattle.kernel_machine.specs.View.{view, files_in, inodes_in}
use Rattle.file_trees.specs.Good.{FilesGood}
use Rattle.file_trees.proofs.Accounting.{accounted_with_inode, tree_page_left}
use Rattle.dir_domain.specs.Changes.{AddsName, ChangesPlaces}
use Rattle.dir_domain.specs.Rows.{IsDirectoryRow, inode_seen, places_seen}
use Rattle.dir_domain.proofs.Adding.{promised-with}
use Rattle.dir_domain.proofs.Changing.{has-tree}

-- a page is free where one of a directory is no page of its own
pub dir_page_left : (kernel : Kernel) (dir page : ℕ) (row : Inode) → FilesGood kernel → IsDirectoryRow kernel dir row → page < pages_of row.length
    → (row.root ≢ 0 → (found : Mapping) → IsOwn (forest_of kernel) row.root page found → ⊥) → kernel.machine.pages_taken < kernel.size
dir_page_left kernel dir page row good is below shared = tree_page_left kernel dir page row good is.there (has-tree row.kind is.kind) below (λ found real own. shared real found own)

-- the directory is there still
pub directory-now : (old new : Kernel) (dir : ℕ) (places : List (Option Entry)) → ChangesPlaces old new dir places → is_directory (inode_seen new dir) ≡ true
unfolding view
directory-now old new dir places changes =
    ap (λ (unix : Unix). is_directory (at unix.files.inodes dir)) changes.view
    ∙ ap is_directory (at-with_at (inodes_in (machine_of old)) dir (Some (Directory (parent_of (inode_seen old dir)) places)))

pub directory-added : (old new : Kernel) (dir inode : ℕ) (name : List ℕ) (result : Result (Unit {0}) Errno) → is_directory (inode_seen old dir) ≡ true → AddsName old new dir name inode result
    → is_directory (inode_seen new dir) ≡ true
directory-added old new dir inode name (Ok done) was adds = directory-now old new dir _ adds.1
directory-added old new dir inode name (Err errno) was adds = ap (λ (kernel : Kernel). is_directory (inode_seen kernel dir)) adds.1 ∙ was

module _ (old new : Kernel) (dir : ℕ) (places : List (Option Entry)) (good : FilesGood old) (below : dir < 1024) (changes : ChangesPlaces old new dir places) where
  accounted-now : Accounted new
  unfolding machine_of
  accounted-now =
      accounted_with_inode old new dir (Some (record changes.row { root = changes.root; length = 32 * length places })) below
      (ap (λ (m : KernelMachine). m.roots) changes.machine.rest) (ap (λ (m : KernelMachine). m.domains) changes.machine.rest) (ap (λ (m : KernelMachine). m.inodes) changes.machine.rest)
      changes.standing good.accounted

  pub good-now : new.machine.promised ≡ promised (view (machine_of new)) → FilesGood new
  good-now promises = record { standing = changes.standing; accounted = accounted-now; promises = promises }

  -- as many places are promised as many pages
  pub good-same : is_directory (inode_seen old dir) ≡ true → length places ≡ length (places_seen old dir) → new.machine.promised ≡ old.machine.promised → FilesGood new
  unfolding view
  good-same directory same kept =
      let then = promised-with (view (machine_of old)) dir places below directory in
      let pages = ap (λ n. pages_of (32 * n)) same in
      let equal : promised (with_files (view (machine_of old)) (with_places (files_in (machine_of old)) dir places)) ≡ promised (view (machine_of old)) = omega arith in
      good-now (kept ∙ good.promises ∙ sym equal ∙ ap promised (sym changes.view))
