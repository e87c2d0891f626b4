-- Where a file has a hole within its length, fewer pages are taken than are promised.
use Rattle.std.proofs.Common.{◌≡◌, ℕ, ◌+◌, ◌%◌, ◌<◌, ◌≤◌, Some, None, length, arith, refl, ap}
use Rattle.std.specs.Prelude.{option_map}
use Rattle.kn_base.specs.declared.key.Key.{Key}
use Rattle.kernel_tables.specs.declared.inode.Inode.{Inode}
use Rattle.kernel_tables.specs.declared.inode.InodeKind.{InodeKind}
use Rattle.kernel_tables.specs.declared.inode.InodeKind.TheVariants.{File, Dir, Pipe, Console}
use Rattle.kernel_tables.specs.Kernel.{Kernel, first_page, inode_at}
use Rattle.kernel_forest.specs.Trees.{forest_of}
use Rattle.forest.specs.Labels.{shared_page}
use Rattle.unix_model.specs.Files.{inode_pages}
use Rattle.unix_model.specs.Numbers.{pages_of}
use Rattle.unix_model.specs.Room.{promised}
use Rattle.unix_model.specs.Tables.{at, count_below, sum_below}
use Rattle.kernel_machine.specs.Contents.{mapped_bytes}
use Rattle.kernel_machine.specs.Machine.{KernelMachine, machine_of, inodes_of}
use Rattle.kernel_machine.specs.Trees.{HasTree}
use Rattle.kernel_machine.specs.View.{view, file_memory, inode_by, inode_in, inodes_in}
use Rattle.kernel_machine.specs.Bounds as law
use Rattle.kernel_machine.specs.Bounds.{Accounted}
use Rattle.kernel_machine.proofs.Counting.{count-never, count-any, count-label, is_label, sum-at-most-one, sum-below-more}
use Rattle.kernel_machine.proofs.PagesHeld.{maps, kind-has, inode-has, inode-few, file-pages, places-pages}
use Rattle.kernel_machine.proofs.PageHolders.{inode-below, inodes-have, file-whole}
use Rattle.kernel_machine.proofs.PageBounds.{bounded-inodes, whole-row}

hole-few : (keys : ℕ → Key) (first size root limit page : ℕ) → page < limit → shared_page keys (root, page) ≡ None → count_below (λ n. maps keys (Some root) limit (first + n)) size + 1 ≤ limit
unfolding maps
hole-few keys first size root limit page below none =
    let all = count-any (λ number n. is_label (first + n) (shared_page keys (root, number))) size limit in
    let zero_here = count-never (λ n. is_label (first + n) (shared_page keys (root, page))) size (λ n under. ap (is_label (first + n)) none) in
    let each = sum-below-more (λ number. count_below (λ n. is_label (first + n) (shared_page keys (root, number))) size) (λ number. 1) limit page below (omega arith)
    (λ number under. count-label first (shared_page keys (root, number)) size) in
    let ones = sum-at-most-one (λ number. 1) limit (λ number under. omega arith) in
    omega arith

kind-left : (machine : KernelMachine) (first size : ℕ) (row : Inode) (kind : InodeKind) (page : ℕ) → HasTree kind → page < pages_of row.length → shared_page machine.forest.keys (row.root, page) ≡ None
    → ((number : ℕ) → length (mapped_bytes (at (file_memory machine row.root) number)) ≡ 4096) → (kind ≡ Dir → row.length % 32 ≡ 0)
    → count_below (λ n. kind-has machine.forest.keys row kind (first + n)) size + 1 ≤ inode_pages (Some (inode_by machine row kind))
unfolding kind-has
kind-left machine first size row File page tree below none whole places = rw (file-pages machine row whole) (hole-few machine.forest.keys first size row.root (pages_of row.length) page below none)
kind-left machine first size row Dir page tree below none whole places = rw (places-pages machine row (places refl)) (hole-few machine.forest.keys first size row.root (pages_of row.length) page below none)
kind-left machine first size row Pipe page tree below none whole places = absurd tree
kind-left machine first size row Console page tree below none whole places = absurd tree

module _ (kernel : Kernel) (good : Accounted kernel) (number : ℕ) (inode : Inode) (page : ℕ) (there : at (inodes_of kernel) number ≡ Some inode) (tree : HasTree inode.kind) (below : page < pages_of inode.length) (none : shared_page (forest_of kernel).keys (inode.root, page) ≡ None) where
  abbrev first : ℕ
  first = first_page kernel.size

  inode-left : count_below (λ n. inode-has (forest_of kernel).keys (at (inodes_of kernel) number) (first + n)) kernel.size + 1 ≤ inode_pages (option_map (inode_in (machine_of kernel)) (at (inodes_of kernel) number))
  unfolding inode-has inode_in machine_of inodes_of at
  inode-left = rw there (kind-left (machine_of kernel) first kernel.size inode inode.kind page tree below none (file-whole kernel good inode.root)
      (whole-row number (inode_at kernel number) inode (good.inodes.right number (inode-below kernel good number inode there)) there))

  inodes-left : count_below (λ n. inodes-have kernel good (first + n)) kernel.size + 1 ≤ sum_below (λ number. inode_pages (at (view (machine_of kernel)).files.inodes number)) 1024
  unfolding inodes-have view inodes_in at machine_of inodes_of
  inodes-left =
      let all = count-any (λ number n. inode-has (forest_of kernel).keys (at (inodes_of kernel) number) (first + n)) kernel.size 1024 in
      let each = sum-below-more (λ number. count_below (λ n. inode-has (forest_of kernel).keys (at (inodes_of kernel) number) (first + n)) kernel.size)
      (λ number. inode_pages (at (view (machine_of kernel)).files.inodes number)) 1024 number (inode-below kernel good number inode there) inode-left
      (λ number under. inode-few (machine_of kernel) first kernel.size (at (inodes_of kernel) number) (λ row there. file-whole kernel good row.root)
      (λ row there. whole-row number (inode_at kernel number) row (good.inodes.right number under) there)) in
      omega arith

  left : kernel.machine.pages_taken < promised (view (machine_of kernel))
  left = let more = bounded-inodes kernel good 1 inodes-left in omega arith

pub hole_is_left : law.HoleIsLeft
unfolding machine_of
hole_is_left kernel number inode page good there tree below none = left kernel good number inode page there tree below none
