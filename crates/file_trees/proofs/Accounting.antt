-- What calls on files and directories find, and keep: room for a piece, and that all that is taken is accounted for.
use Rattle.std.proofs.Common.{◌≡◌, ◌≢◌, ℕ, ◌+◌, ◌<◌, ◌≤◌, Option, Some, List, ap, ◌∙◌, arith}
use Rattle.kernel_tables.specs.declared.entry.PageOwner.{PageOwner}
use Rattle.kernel_tables.specs.declared.inode.Inode.{Inode}
use Rattle.kernel_tables.specs.declared.inode.InodeKind.{InodeKind}
use Rattle.kernel_tables.specs.declared.inode.InodeKind.TheVariants.{File, Dir, Pipe, Console}
use Rattle.kernel_tables.specs.Kernel.{Kernel, memory_page}
use Rattle.forest.specs.Calls.{IsOwn}
use Rattle.forest.specs.Forest.{Forest}
use Rattle.forest.specs.Walks.{Mapping}
use Rattle.kernel_forest.specs.Owners.{page_owners}
use Rattle.kernel_forest.specs.Trees.{forest_of}
use Rattle.unix_model.specs.Numbers.{pages_of}
use Rattle.unix_model.specs.Rules.{EndsAt}
use Rattle.unix_model.specs.Tables.{at, with_at}
use Rattle.unix_model.proofs.TableLaws.{at-with_at-other}
use Rattle.domain.specs.Domains.{domains, roots}
use Rattle.kernel_machine.specs.Bounds.{Accounted}
use Rattle.kernel_machine.specs.Machine.{machine_of, inodes_of}
use Rattle.kernel_machine.specs.Standing.{Standing}
use Rattle.kernel_machine.specs.Trees.{HasTree, IsFileTree, IsRootOf}
use Rattle.kernel_machine.proofs.MemoryLaws.{tree-of}
use Rattle.kernel_machine.proofs.NodeBounds.{nodes_accounted}
use Rattle.kernel_machine.proofs.PageBounds.{pages_accounted}
use Rattle.file_trees.specs.Good.{FilesGood}
use Rattle.file_trees.proofs.SharedFiles.{file_page_left}

-- ---- room

pub nodes_left : (kernel : Kernel) → FilesGood kernel → kernel.machine.nodes_taken + 80 ≤ kernel.nodes
nodes_left kernel good =
    let few = nodes_accounted kernel good.accounted in
    let promises = good.promises in
    let most = good.standing.bank.words.promises in
    let all = good.standing.bank.sized.all_nodes in
    omega arith

pub taken_promised : (kernel : Kernel) → FilesGood kernel → kernel.machine.pages_taken ≤ kernel.machine.promised
taken_promised kernel good =
    let few = pages_accounted kernel good.accounted in
    let promises = good.promises in
    omega arith

-- a page is free where one of a file or directory, within its length, is no page of its own
pub tree_page_left : (kernel : Kernel) (number page : ℕ) (inode : Inode) → FilesGood kernel → at (inodes_of kernel) number ≡ Some inode → HasTree inode.kind → page < pages_of inode.length
    → ((found : Mapping) → inode.root ≢ 0 → IsOwn (forest_of kernel) inode.root page found → ⊥) → kernel.machine.pages_taken < kernel.size
tree_page_left kernel number page inode good there tree below shared =
    let less = file_page_left kernel number inode page good.accounted there tree below
    (tree-of (forest_of kernel) (memory_page kernel) (page_owners kernel) inode inode.kind (good.standing.roots.each number inode there) tree) shared in
    let promises = good.promises in
    let most = good.standing.bank.words.promises in
    omega arith

-- ---- what is taken

-- the tree of a file or directory
root-tree : (forest : Forest) (bytes : ℕ → List ℕ) (owner : ℕ → Option PageOwner) (row : Inode) (k : InodeKind) → IsRootOf forest bytes owner row k → HasTree k → row.root ≢ 0
    → IsFileTree forest.keys bytes row.root row.length
root-tree forest bytes owner row File root tree there = (root there).2
root-tree forest bytes owner row Dir root tree there = (root there).2
root-tree forest bytes owner row Pipe root tree there = absurd tree
root-tree forest bytes owner row Console root tree there = absurd tree

-- what stands is accounted for, where no slot and no domain has changed
pub accounted_kept : (old new : Kernel) → roots new ≡ roots old → domains new ≡ domains old → EndsAt 1024 (inodes_of new) → Standing new → Accounted old → Accounted new
unfolding machine_of
accounted_kept old new same_roots same_domains last standing accounted = record {
  bank = standing.bank;
  whole = standing.whole;
  zero = standing.unused.zero;
  trees = standing.trees.held;
  pages_inside = standing.pages_inside;
  filled = standing.filled;
  nodes_held = standing.nodes_held;
  inodes = standing.inodes;
  machine = record {
    held = standing.held;
    in_slots = rw (same_roots, same_domains) accounted.machine.in_slots;
    zombies = rw (same_roots, same_domains) accounted.machine.zombies;
    within =
        λ number inode there tree real page mapping found.
        (root-tree (forest_of new) (memory_page new) (page_owners new) inode inode.kind (standing.roots.each number inode there) tree real).within page mapping found;
    last = last;
  };
}

-- such as where of the inodes one has changed: its tree, its root and its length
pub accounted_with_inode : (old new : Kernel) (number : ℕ) (row : Option Inode) → number < 1024 → (machine_of new).roots ≡ (machine_of old).roots → (machine_of new).domains ≡ (machine_of old).domains
    → (machine_of new).inodes ≡ with_at (machine_of old).inodes number row → Standing new → Accounted old → Accounted new
unfolding machine_of
accounted_with_inode old new number row below same_roots same_domains inodes standing accounted =
    accounted_kept old new same_roots same_domains
    (λ other past. ap (λ (t : ℕ → Option Inode). at t other) inodes ∙ at-with_at-other (inodes_of old) number other row (λ same. absurd (omega arith)) ∙ accounted.machine.last other past)
    standing accounted
