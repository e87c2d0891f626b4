-- A file in the tables and in the flat state.
use Rattle.std.proofs.Common.{◌≡◌, ℕ, ◌-◌, ◌<◌, ◌≤◌, Some, List, [], ◌++◌, length, take, drop, length-drop, ap, sym, subst, ◌∙◌, arith, ⊎_elim, take_all}
use Rattle.std.specs.Prelude.{option_map}
use Rattle.std.proofs.lemmas.Bool.{cases_lt}
use Rattle.std.proofs.lemmas.List.{length-take-le}
use Rattle.kn_base.specs.Rows.{part_at}
use Rattle.kernel_tables.specs.declared.inode.Inode.{Inode}
use Rattle.kernel_tables.specs.declared.inode.InodeKind.{InodeKind}
use Rattle.kernel_tables.specs.declared.inode.InodeKind.TheVariants as kind
use Rattle.kernel_tables.specs.declared.row.Row.TheVariants.{Used}
use Rattle.kernel_tables.specs.Kernel.{Kernel, inode_at, inode_count, memory_page}
use Rattle.file_tables.specs.Rows.{IsInodeRow, IsInodeAt, IsOfKind, IsFile}
use Rattle.unix_model.specs.Files.{Inode as Seen, File, file_bytes}
use Rattle.unix_model.specs.Tables.{at}
use Rattle.kernel_forest.specs.Owners.{page_owners}
use Rattle.kernel_forest.specs.Trees.{forest_of}
use Rattle.kernel_machine.specs.Machine.{machine_of, inodes_of, held}
use Rattle.kernel_machine.specs.Standing.{Standing}
use Rattle.kernel_machine.specs.Trees.{HasTree, IsRootOf}
use Rattle.kernel_machine.specs.View.{view, inodes_in, inode_in, inode_by, stored}
use Rattle.file_trees.specs.Trees.{IsTree}
use Rattle.file_domain.specs.Good.{IsFileAt, bytes_at}
use Rattle.file_domain.specs.Effects.{Reads}

-- the row that is read is the file's
pub same_row : (kernel : Kernel) (number : ℕ) (inode other : Inode) → IsFileAt kernel number other → inode_at kernel number ≡ Used inode → IsFileAt kernel number inode
same_row kernel number inode other file there =
    let both : Used other ≡ Used inode = sym file.there ∙ there in
    let same : other ≡ inode = cc in
    subst (IsFileAt kernel number) same file

pub there_file : (kernel : Kernel) (number : ℕ) (inode : Inode) → IsFileAt kernel number inode → at (inodes_of kernel) number ≡ Some inode
unfolding inodes_of at
there_file kernel number inode file = ap held file.there

pub seen_file : (kernel : Kernel) (number : ℕ) (inode : Inode) → IsFileAt kernel number inode → at (view (machine_of kernel)).files.inodes number ≡ Some (File (stored (machine_of kernel) inode))
unfolding view inodes_in inode_in machine_of inodes_of at
seen_file kernel number inode file =
    ap (option_map (inode_in (machine_of kernel))) (ap held file.there) ∙ ap (λ (k : InodeKind). let seen : Seen = inode_by (machine_of kernel) inode k in Some seen) file.kind

pub bytes_are : (kernel : Kernel) (number : ℕ) (inode : Inode) (bytes : List ℕ) → IsFileAt kernel number inode → bytes_at kernel number ≡ Some bytes → bytes ≡ stored (machine_of kernel) inode
bytes_are kernel number inode bytes file is =
    let both : Some bytes ≡ Some (stored (machine_of kernel) inode) = sym is ∙ ap file_bytes (seen_file kernel number inode file) in
    cc

pub has-tree : (k : InodeKind) → k ≡ kind.File → HasTree k
has-tree kind.File e = tt
has-tree kind.Dir e = tt
has-tree kind.Pipe e = cc
has-tree kind.Console e = cc

-- its root word is that of a tree, or 0
pub file_root : (kernel : Kernel) (number : ℕ) (inode : Inode) → Standing kernel → IsFileAt kernel number inode → IsRootOf (forest_of kernel) (memory_page kernel) (page_owners kernel) inode kind.File
file_root kernel number inode standing file =
    subst (IsRootOf (forest_of kernel) (memory_page kernel) (page_owners kernel) inode) file.kind (standing.roots.each number inode (there_file kernel number inode file))

pub file_tree : (kernel : Kernel) (number : ℕ) (inode : Inode) → Standing kernel → IsFileAt kernel number inode → IsTree kernel inode.root
file_tree kernel number inode standing file some = (file_root kernel number inode standing file some).0

-- a right row
pub right_row : (kernel : Kernel) (number : ℕ) (inode : Inode) → Standing kernel → number < inode_count → IsFileAt kernel number inode → IsInodeAt number inode
right_row kernel number inode standing below file = subst (IsInodeRow number) file.there (standing.inodes.right number below)

pub file_row : (kernel : Kernel) (number : ℕ) (inode : Inode) → Standing kernel → number < inode_count → IsFileAt kernel number inode → IsFile inode
file_row kernel number inode standing below file = subst (λ k. IsOfKind k inode) file.kind (right_row kernel number inode standing below file).of_kind

-- ---- reading

pub piece_of : (bytes : List ℕ) (place count most : ℕ) → count ≤ most → count ≤ length bytes - place → (most ≤ length bytes - place → count ≡ most) → (length bytes - place ≤ most → count ≡ length bytes - place)
    → take most (drop place bytes) ≡ part_at bytes place count
piece_of bytes place count most few within all rest = ⊎_elim
    (λ (t : most < length bytes - place). ap (λ n. take n (drop place bytes)) (sym (all (omega arith))))
    (λ (t : length bytes - place ≤ most).
    let short : length (drop place bytes) ≡ length bytes - place = length-drop place bytes in
    let is : count ≡ length bytes - place = rest t in
    take_all most (drop place bytes) (omega arith) ∙ sym (take_all count (drop place bytes) (omega arith)))
    (cases_lt most (length bytes - place))

pub reads : (bytes old into : List ℕ) (place count : ℕ) → count ≤ length old → count ≤ length bytes - place → (length old ≤ length bytes - place → count ≡ length old) → (length bytes - place ≤ length old → count ≡ length bytes - place)
    → into ≡ part_at bytes place count → Reads bytes place old (into ++ drop count old) count
reads bytes old into place count few within all rest is =
    let piece = piece_of bytes place count (length old) few within all rest in
    let short : length (drop place bytes) ≡ length bytes - place = length-drop place bytes in
    record {
      number = sym (ap length piece ∙ length-take-le count (drop place bytes) (omega arith));
      bytes_now = ap (λ front. front ++ drop count old) (is ∙ sym piece);
    }

pub rest_same : (old : List ℕ) (count : ℕ) → count ≡ 0 → old ≡ [] ++ drop count old
rest_same old count none = ap (λ n. drop n old) (sym none)

-- a row of a file that is longer
pub grown_row : (kernel : Kernel) (number size : ℕ) (inode : Inode) → Standing kernel → number < inode_count → IsFileAt kernel number inode → size ≤ 4194304
    → IsInodeAt number (record inode { length = size })
grown_row kernel number size inode standing below file most =
    let right = right_row kernel number inode standing below file in
    let row = file_row kernel number inode standing below file in
    record {
      of_kind = subst (λ k. IsOfKind k (record inode { length = size })) (sym file.kind) (record { length = most; no_parent = row.no_parent; no_start = row.no_start });
      console = right.console;
      root_kind = right.root_kind;
      root_parent = right.root_parent;
    }

-- a row of a file with another root
pub rooted_row : (kernel : Kernel) (number root : ℕ) (inode : Inode) → Standing kernel → number < inode_count → IsFileAt kernel number inode → IsInodeAt number (record inode { root = root })
rooted_row kernel number root inode standing below file =
    let right = right_row kernel number inode standing below file in
    let row = file_row kernel number inode standing below file in
    record {
      of_kind = subst (λ k. IsOfKind k (record inode { root = root })) (sym file.kind) (record { length = row.length; no_parent = row.no_parent; no_start = row.no_start });
      console = right.console;
      root_kind = right.root_kind;
      root_parent = right.root_parent;
    }
