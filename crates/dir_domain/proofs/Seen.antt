-- What is seen of a directory: its row, and the bytes of its tree.
use Rattle.std.proofs.Common.{◌≡◌, ◌≢◌, ℕ, ◌-◌, ◌/◌, ◌<◌, ◌≤◌, true, false, Some, None, length, refl, ap, sym, subst, ◌∙◌, arith, ⊎_elim, ◌⊎◌}
use Rattle.std.specs.Prelude.{option_map}
use Rattle.std.proofs.lemmas.Bool.{cases_eq, cases_lt, ne_eqb}
use Rattle.std.proofs.lemmas.List.{get_or_past, length-replicate}
use Rattle.kn_base.specs.Memory.{Memory, zero_page}
use Rattle.kernel_tables.specs.declared.entry.PageOwner.TheVariants.{Directory}
use Rattle.kernel_tables.specs.declared.inode.Inode.{Inode}
use Rattle.kernel_tables.specs.declared.inode.InodeKind.{InodeKind}
use Rattle.kernel_tables.specs.declared.inode.InodeKind.TheVariants.{File, Dir, Pipe, Console}
use Rattle.kernel_tables.specs.declared.row.Row.TheVariants.{Free, Used, Unspelled}
use Rattle.kernel_tables.specs.Kernel.{Kernel, kernel_of, IsBankPage, first_page, memory_page, inode_at}
use Rattle.kernel_tables.proofs.Sizes.{length-inodes}
use Rattle.forest.specs.Objects.{NodeObject, OfFile}
use Rattle.forest.specs.Walks.{map_of}
use Rattle.kernel_forest.specs.Owners.{page_owners, PagesAreOf}
use Rattle.kernel_forest.specs.Trees.{forest_of}
use Rattle.file_tables.specs.Rows.{IsOfKind, IsInodeRow, IsInodeAt, IsDirectory}
use Rattle.unix_model.specs.Files.{is_directory, places_of}
use Rattle.unix_model.specs.Tables.{at}
use Rattle.user_copy.proofs.Pieces.{WholePages}
use Rattle.kernel_machine.specs.Contents.{places_in}
use Rattle.kernel_machine.specs.Machine.{KernelMachine, machine_of, inodes_of, held}
use Rattle.kernel_machine.specs.Standing.{Standing}
use Rattle.kernel_machine.specs.Trees.{IsRootOf}
use Rattle.kernel_machine.specs.View.{inode_by, inode_in, inodes_in, stored}
use Rattle.file_trees.specs.Trees.{IsTree, tree_memory, tree_page}
use Rattle.file_trees.proofs.Contents.{WholeTree}
use Rattle.file_trees.proofs.Pages.{page_absent, page_none, tree_whole}
use Rattle.dir_domain.specs.Rows.{IsDirectoryRow, inode_seen, places_seen, bytes_stored}

-- ---- the row

-- what is seen of a number is what its row holds
pub seen : (kernel : Kernel) (number : ℕ) → inode_seen kernel number ≡ option_map (inode_in (machine_of kernel)) (held (inode_at kernel number))
unfolding inodes_in machine_of inodes_of at
seen kernel number = refl

-- a directory has a number below 1,024
pub directory-below : (memory : Memory) (dir : ℕ) → Standing (kernel_of memory) → is_directory (inode_seen (kernel_of memory) dir) ≡ true → dir < 1024
directory-below memory dir standing is = ⊎_elim
    (λ (t : dir < 1024). t)
    (λ (t : 1024 ≤ dir).
    let none : inode_at (kernel_of memory) dir ≡ Unspelled = get_or_past (kernel_of memory).inodes dir Unspelled (omega (arith, length-inodes memory standing.bank.sized)) in
    let no : false ≡ true = sym (ap (λ row. is_directory (option_map (inode_in (machine_of (kernel_of memory))) (held row))) none) ∙ sym (ap is_directory (seen (kernel_of memory) dir)) ∙ is in
    cc)
    (cases_lt dir 1024)

-- only a directory is seen as one
kind-of : (machine : KernelMachine) (row : Inode) (kind : InodeKind) → is_directory (Some (inode_by machine row kind)) ≡ true → kind ≡ Dir
kind-of machine row File is = absurd (let no : false ≡ true = is in cc)
kind-of machine row Dir is = refl
kind-of machine row Pipe is = absurd (let no : false ≡ true = is in cc)
kind-of machine row Console is = absurd (let no : false ≡ true = is in cc)

row-kind : (machine : KernelMachine) (row : Inode) → is_directory (Some (inode_in machine row)) ≡ true → row.kind ≡ Dir
unfolding inode_in
row-kind machine row is = kind-of machine row row.kind is

-- the row of a directory
pub directory-row : (memory : Memory) (dir : ℕ) (row : Inode) → Standing (kernel_of memory) → is_directory (inode_seen (kernel_of memory) dir) ≡ true
    → inode_at (kernel_of memory) dir ≡ Used row → IsDirectoryRow (kernel_of memory) dir row
unfolding inodes_of at
directory-row memory dir row standing is e =
    let kernel = kernel_of memory in
    let below = directory-below memory dir standing is in
    let there : at (inodes_of kernel) dir ≡ Some row = ap held e in
    let visible : inode_seen kernel dir ≡ Some (inode_in (machine_of kernel) row) = seen kernel dir ∙ ap (λ r. option_map (inode_in (machine_of kernel)) (held r)) e in
    let kind : row.kind ≡ Dir = row-kind (machine_of kernel) row (sym (ap is_directory visible) ∙ is) in
    let right : IsInodeAt dir row = subst (IsInodeRow dir) e (standing.inodes.right dir below) in
    let is_dir : IsDirectory row = subst (λ k. IsOfKind k row) kind right.of_kind in
    let root = subst (λ k. IsRootOf (forest_of kernel) (memory_page kernel) (page_owners kernel) row k) kind (standing.roots.each dir row there) in
    record {
      there = there;
      kind = kind;
      few = is_dir.length;
      whole = is_dir.whole_places;
      tree = λ some. (root some).0;
      file = λ some. (root some).2;
      below = below;
      used = e;
      right = right;
    }

-- its root is that of a tree of a directory, or 0
dir-root : (kernel : Kernel) (dir : ℕ) (row : Inode) → Standing kernel → IsDirectoryRow kernel dir row
    → IsRootOf (forest_of kernel) (memory_page kernel) (page_owners kernel) row Dir
dir-root kernel dir row standing is =
    subst (IsRootOf (forest_of kernel) (memory_page kernel) (page_owners kernel) row) is.kind (standing.roots.each dir row is.there)

pub tree-of-file : (kernel : Kernel) (dir : ℕ) (row : Inode) → Standing kernel → IsDirectoryRow kernel dir row → row.root ≢ 0
    → (forest_of kernel).owner (NodeObject row.root) ≡ Some OfFile
tree-of-file kernel dir row standing is some = (dir-root kernel dir row standing is some).1

pub tree-owned : (kernel : Kernel) (dir : ℕ) (row : Inode) → Standing kernel → IsDirectoryRow kernel dir row → row.root ≢ 0
    → PagesAreOf Directory (page_owners kernel) (map_of (forest_of kernel).keys row.root)
tree-owned kernel dir row standing is some = (dir-root kernel dir row standing is some).3

-- the number of no inode isn't that of a directory
pub no-directory : (kernel : Kernel) (dir : ℕ) → is_directory (inode_seen kernel dir) ≡ true → inode_at kernel dir ≡ Free → ⊥
no-directory kernel dir is e =
    let no : false ≡ true = sym (ap (λ row. is_directory (option_map (inode_in (machine_of kernel)) (held row))) e) ∙ sym (ap is_directory (seen kernel dir)) ∙ is in
    cc

-- ---- the tree

-- page 0 stands for a page that isn't there
pub no-tree : (kernel : Kernel) (root number : ℕ) → Standing kernel → root ≡ 0 → memory_page kernel 0 ≡ tree_page (tree_memory kernel root) number
no-tree kernel root number standing none = standing.unused.zero ∙ sym (page_absent kernel root number none)

pub no-page : (kernel : Kernel) (root number : ℕ) → Standing kernel → root ≢ 0 → map_of (forest_of kernel).keys root number ≡ None
    → memory_page kernel 0 ≡ tree_page (tree_memory kernel root) number
no-page kernel root number standing some none = standing.unused.zero ∙ sym (page_none kernel root number some none)

-- each page has its 4,096 bytes
page-whole : (kernel : Kernel) (page : ℕ) → Standing kernel → (page ≡ 0) ⊎ IsBankPage kernel.size page → length (memory_page kernel page) ≡ 4096
unfolding zero_page
page-whole kernel page standing inside = ⊎_elim
    (λ (t : page ≡ 0). rw t (rw standing.unused.zero (length-replicate {A = ℕ} 4096 0)))
    (λ (t : page ≢ 0). ⊎_elim
    (λ (z : page ≡ 0). absurd (t z))
    (λ (b : IsBankPage kernel.size page). rw (ne_eqb page 0 t) (standing.whole (page - first_page kernel.size) (let low = b.low in let high = b.high in omega (arith, standing.bank.pages.pages))))
    inside)
    (cases_eq page 0)

whole-pages : (kernel : Kernel) → Standing kernel → WholePages kernel
whole-pages kernel standing = record { whole = λ page inside. page-whole kernel page standing inside }

pub tree-whole : (kernel : Kernel) (root : ℕ) → Standing kernel → IsTree kernel root → WholeTree (tree_memory kernel root)
tree-whole kernel root standing tree = tree_whole kernel root standing.bank standing.trees.held.sound tree (whole-pages kernel standing)

-- ---- the places

places-by : (machine : KernelMachine) (row : Inode) (kind : InodeKind) → kind ≡ Dir → places_of (Some (inode_by machine row kind)) ≡ places_in (stored machine row) (row.length / 32)
places-by machine row File is = cc
places-by machine row Dir is = refl
places-by machine row Pipe is = cc
places-by machine row Console is = cc

pub places-are : (kernel : Kernel) (dir : ℕ) (row : Inode) → IsDirectoryRow kernel dir row → places_seen kernel dir ≡ places_in (bytes_stored kernel row) (row.length / 32)
unfolding inodes_in machine_of inodes_of at inode_in
places-are kernel dir row is =
    ap (λ there. places_of (option_map (inode_in (machine_of kernel)) there)) is.there ∙ places-by (machine_of kernel) row row.kind is.kind
