-- A name is added: the tests of the line, the promise, and the places.
use Rattle.std.proofs.Common.{◌≡◌, ℕ, ◌+◌, ◌*◌, ◌/◌, ◌<◌, true, false, Option, Some, None, List, [], ◌∷◌, ◌++◌, length, set, refl, ap, ap₂, sym, subst, ◌∙◌, arith}
use Rattle.std.specs.Option.{is_some}
use Rattle.std.specs.Prelude.{Ok, Err}
use Rattle.kernel_tables.specs.declared.inode.Inode.{Inode}
use Rattle.kernel_tables.specs.Kernel.{Kernel}
use Rattle.unix_model.specs.declared.calls.Errno.TheVariants.{Eexist, Enospc}
use Rattle.unix_model.specs.Files as model
use Rattle.unix_model.specs.Files.{Entry, inode_named, inode_pages, is_directory, is_full, places_of, parent_of, with_name, with_places}
use Rattle.unix_model.specs.Numbers.{pages_of}
use Rattle.unix_model.specs.Room.{promised, has_room}
use Rattle.unix_model.specs.State.{Unix, with_files}
use Rattle.unix_model.specs.Tables.{at}
use Rattle.unix_model.proofs.RoomLaws.{sum-with_at}
use Rattle.kernel_machine.specs.Contents.{file_in, places_in}
use Rattle.kernel_machine.specs.Laws.{ChangesMemory}
use Rattle.kernel_machine.specs.Machine.{KernelMachine, machine_of, inodes_of}
use Rattle.kernel_machine.specs.Standing.{Standing}
use Rattle.kernel_machine.specs.View.{view, memory_in}
use Rattle.kernel_machine.proofs.MachineLaws.{spaces_changed}
use Rattle.kernel_machine.proofs.PagesHeld.{places-long}
use Rattle.file_trees.specs.Trees.{tree_memory}
use Rattle.file_trees.proofs.FileTrees.{memory_of_root}
use Rattle.file_trees.proofs.Promising.{promising, promise_unseen, same_tree}
use Rattle.dir_domain.specs.Changes.{ChangesPlaces, with_tree, places_for, with_name_added}
use Rattle.dir_domain.specs.Places.{numbered_place}
use Rattle.dir_domain.specs.Rows.{IsDirectoryRow, places_seen, bytes_stored}
use Rattle.dir_domain.proofs.Growing.{hole-behind, places-more, set-last-place}
use Rattle.dir_domain.proofs.Seen.{places-are, tree-whole}

-- ---- the lines of the definitions

pub name-there : (unix : Unix) (dir : ℕ) (name : List ℕ) (inode : ℕ) → is_some (inode_named (places_of (at unix.files.inodes dir)) name) ≡ true
    → with_name_added unix dir name inode ≡ Err Eexist
name-there unix dir name inode e = rw e refl

pub no-place : (unix : Unix) (dir : ℕ) (name : List ℕ) (inode : ℕ) → is_some (inode_named (places_of (at unix.files.inodes dir)) name) ≡ false → is_full unix.files dir ≡ true
    → with_name_added unix dir name inode ≡ Err Enospc
no-place unix dir name inode e full = rw (e, full) refl

pub no-room : (unix : Unix) (dir : ℕ) (name : List ℕ) (inode : ℕ) → is_some (inode_named (places_of (at unix.files.inodes dir)) name) ≡ false → is_full unix.files dir ≡ false
    → has_room (with_files unix (with_name unix.files dir name inode)) ≡ false → with_name_added unix dir name inode ≡ Err Enospc
no-room unix dir name inode e full room = rw (e, full, room) refl

pub added : (unix new : Unix) (dir : ℕ) (name : List ℕ) (inode : ℕ) → is_some (inode_named (places_of (at unix.files.inodes dir)) name) ≡ false → is_full unix.files dir ≡ false
    → has_room (with_files unix (with_name unix.files dir name inode)) ≡ true → new ≡ with_files unix (with_name unix.files dir name inode)
    → with_name_added unix dir name inode ≡ Ok new
added unix new dir name inode e full room is = rw (e, full, room, is) refl

-- ---- what is promised

-- the pages of a directory
dir-pages : (found : Option model.Inode) → is_directory found ≡ true → inode_pages found ≡ pages_of (32 * length (places_of found))
dir-pages None e = absurd (let no : false ≡ true = e in cc)
dir-pages (Some (model.File bytes)) e = absurd (let no : false ≡ true = e in cc)
dir-pages (Some (model.Directory parent places)) e = refl
dir-pages (Some (model.Pipe bytes)) e = absurd (let no : false ≡ true = e in cc)
dir-pages (Some model.Console) e = absurd (let no : false ≡ true = e in cc)

-- the places of a directory change: so does what it is promised
pub promised-with : (unix : Unix) (dir : ℕ) (places : List (Option Entry)) → dir < 1024 → is_directory (at unix.files.inodes dir) ≡ true
    → promised (with_files unix (with_places unix.files dir places)) + pages_of (32 * length (places_of (at unix.files.inodes dir))) ≡ promised unix + pages_of (32 * length places)
unfolding promised
promised-with unix dir places below is =
    let sums = sum-with_at inode_pages unix.files.inodes dir (Some (model.Directory (parent_of (at unix.files.inodes dir)) places)) 1024 below in
    let was = dir-pages (at unix.files.inodes dir) is in
    omega arith

-- ---- more pages are promised, and then places are written

module _ (old : Kernel) (pages : ℕ) where
  abbrev mid : Kernel
  mid = promising old pages

  machine-mid : machine_of mid ≡ record (machine_of old) { words = record old.machine { promised = pages } }
  unfolding machine_of
  machine-mid = spaces_changed old mid (λ mine apart. refl) refl refl

  pub row-with-words : (dir : ℕ) (row : Inode) → IsDirectoryRow old dir row → IsDirectoryRow mid dir row
  unfolding inodes_of
  row-with-words dir row is = record {
    there = is.there;
    kind = is.kind;
    few = is.few;
    whole = is.whole;
    tree = is.tree;
    file = is.file;
    below = is.below;
    used = is.used;
    right = is.right;
  }

  words-beside : (m : KernelMachine) (dir : ℕ) (row : Inode) (root size : ℕ) → ChangesMemory (with_tree (record (machine_of old) { words = record old.machine { promised = pages } }) dir row root size) m root
      → ChangesMemory (with_tree (machine_of old) dir row root size) m root
  unfolding machine_of memory_in
  words-beside m dir row root size changes = record { rest = changes.rest; memories = changes.memories; buffers = changes.buffers; pipes = changes.pipes }

  pub before-words : (new : Kernel) (dir : ℕ) (places : List (Option Entry)) → ChangesPlaces mid new dir places → ChangesPlaces old new dir places
  unfolding view inodes_of
  before-words new dir places changes = record {
    row = changes.row;
    root = changes.root;
    there = changes.there;
    machine = words-beside (machine_of new) dir changes.row changes.root (32 * length places)
        (subst (λ (m : KernelMachine). ChangesMemory (with_tree m dir changes.row changes.root (32 * length places)) (machine_of new) changes.root) machine-mid changes.machine);
    view = changes.view ∙ ap (λ (u : Unix). with_files u (with_places u.files dir places)) (promise_unseen old pages);
    standing = changes.standing;
  }

  next-hole : (dir : ℕ) (row : Inode) → Standing old → IsDirectoryRow old dir row
      → numbered_place (file_in (tree_memory old row.root) (32 * (row.length / 32) + 32)) (row.length / 32) ≡ None
  next-hole dir row standing is =
      let exact = is.whole in
      let whole = tree-whole old row.root standing is.tree in
      hole-behind (tree_memory old row.root) whole row.length (memory_of_root old row.root row.length whole is.file) (row.length / 32) (omega arith)

  -- a place more, which is filled
  pub place-appended : (dir : ℕ) (row : Inode) (place : Option Entry) → Standing old → IsDirectoryRow old dir row
      → set (places_for mid row (row.length + 32)) (row.length / 32) place ≡ places_seen old dir ++ place ∷ []
  place-appended dir row place standing is =
      let n : ℕ = row.length / 32 in
      let exact = is.whole in
      let count : (row.length + 32) / 32 ≡ n + 1 = omega arith in
      let size : row.length + 32 ≡ 32 * n + 32 = omega arith in
      let was : row.length ≡ 32 * n = omega arith in
      let long = places-long (bytes_stored old row) n in
      let seen = places-are old dir row is in
      ap (λ m. set (places_in (file_in m (row.length + 32)) ((row.length + 32) / 32)) n place) (same_tree old pages row.root)
      ∙ ap₂ (λ s k. set (places_in (file_in (tree_memory old row.root) s) k) n place) size count
      ∙ ap (λ places. set places n place) (places-more (tree_memory old row.root) (tree-whole old row.root standing is.tree) n (next-hole dir row standing is))
      ∙ ap (λ s. set (places_in (file_in (tree_memory old row.root) s) n ++ None ∷ []) n place) (sym was)
      ∙ ap (λ k. set (places_in (bytes_stored old row) n ++ None ∷ []) k place) (sym long)
      ∙ set-last-place (places_in (bytes_stored old row) n) place
      ∙ ap (λ places. places ++ place ∷ []) (sym seen)
