-- What is loose, and where nothing is.
use Rattle.std.proofs.Common.{◌≡◌, ◌≢◌, ◌⊎◌, ℕ, Option, Some, None, true, false, [], refl, sym, ap, subst, ◌∙◌, ⊎_elim, inl, inr}
use Rattle.std.specs.Prelude.{◌==◌}
use Rattle.std.proofs.lemmas.Bool.{cases_Bool, cases_eq, ne_eqb}
use Rattle.kernel_tables.specs.declared.inode.Inode.{Inode}
use Rattle.kernel_tables.specs.declared.inode.InodeKind.{InodeKind}
use Rattle.kernel_tables.specs.declared.inode.InodeKind.TheVariants.{File, Dir, Pipe, Console}
use Rattle.kernel_tables.specs.declared.row.Row.{Row}
use Rattle.kernel_tables.specs.declared.row.Row.TheVariants.{Free, Used, Unspelled}
use Rattle.kernel_tables.specs.Kernel.{Kernel}
use Rattle.space_bank.specs.Shares.{Outside}
use Rattle.kernel_tables.specs.declared.entry.PageOwner.{PageOwner}
use Rattle.forest.specs.Forest.{Forest, NoPageOutside}
use Rattle.forest.specs.Objects.{NodeObject, Owner, OfFile, OfProcess}
use Rattle.unix_model.specs.Tables.{at}
use Rattle.domain.specs.Domains.{Domain}
use Rattle.kernel_forest.specs.Trees.{forest_of, outside_trees, TreesGood}
use Rattle.file_tables.specs.Roots.{named_by, root_key, word_key}
use Rattle.file_tables.proofs.RootLaws.{none_outside}
use Rattle.domain.specs.Keys.{key_of_space}
use Rattle.kernel_machine.specs.Loose as law
use Rattle.kernel_machine.specs.Loose.{Loose, Nothing, Space, Tree, Ring, loose_key, space_of, word_of, root_of, owned_space, HeldBut, IsLoose, StandingBut, outside_with}
use Rattle.kernel_machine.specs.Standing.{Standing}
use Rattle.kernel_machine.specs.Trees.{HasTree}

-- ---- keys

loose-word : (kind : InodeKind) (root : ℕ) → loose_key (word_of kind root) ≡ word_key kind root
loose-word File root = ⊎_elim (λ (t : (root == 0) ≡ true). rw t refl) (λ (t : (root == 0) ≡ false). rw t refl) (cases_Bool (root == 0))
loose-word Dir root = ⊎_elim (λ (t : (root == 0) ≡ true). rw t refl) (λ (t : (root == 0) ≡ false). rw t refl) (cases_Bool (root == 0))
loose-word Pipe root = ⊎_elim (λ (t : (root == 0) ≡ true). rw t refl) (λ (t : (root == 0) ≡ false). rw t refl) (cases_Bool (root == 0))
loose-word Console root = refl

pub loose-root : (row : Row Inode) → loose_key (root_of row) ≡ root_key row
loose-root Free = refl
loose-root (Used inode) = loose-word inode.kind inode.root
loose-root Unspelled = refl

pub loose-space : (space : Option ℕ) → loose_key (space_of space) ≡ key_of_space space
loose-space None = refl
loose-space (Some space) = refl

-- ---- what a row has

pub tree-word : (kind : InodeKind) (root : ℕ) → HasTree kind → root ≢ 0 → word_of kind root ≡ Tree root
tree-word File root tree some = rw (ne_eqb root 0 some) refl
tree-word Dir root tree some = rw (ne_eqb root 0 some) refl
tree-word Pipe root tree some = absurd tree
tree-word Console root tree some = absurd tree

pub ring-word : (kind : InodeKind) (root : ℕ) → kind ≡ Pipe → root ≢ 0 → word_of kind root ≡ Ring root
ring-word File root pipe some = cc
ring-word Dir root pipe some = cc
ring-word Pipe root pipe some = rw (ne_eqb root 0 some) refl
ring-word Console root pipe some = cc

pub word-tree : (kind : InodeKind) (root space : ℕ) → word_of kind root ≡ Tree space → HasTree kind × (root ≢ 0) × (root ≡ space)
word-tree File root space e = ⊎_elim
    (λ (t : root ≡ 0). let no : Nothing ≡ Tree space = sym (ap (word_of File) t) ∙ e in cc)
    (λ (t : root ≢ 0). let both : Tree root ≡ Tree space = sym (tree-word File root tt t) ∙ e in let same : root ≡ space = cc in (tt, t, same))
    (cases_eq root 0)
word-tree Dir root space e = ⊎_elim
    (λ (t : root ≡ 0). let no : Nothing ≡ Tree space = sym (ap (word_of Dir) t) ∙ e in cc)
    (λ (t : root ≢ 0). let both : Tree root ≡ Tree space = sym (tree-word Dir root tt t) ∙ e in let same : root ≡ space = cc in (tt, t, same))
    (cases_eq root 0)
word-tree Pipe root space e = ⊎_elim
    (λ (t : root ≡ 0). let no : Nothing ≡ Tree space = sym (ap (word_of Pipe) t) ∙ e in cc)
    (λ (t : root ≢ 0). let no : Ring root ≡ Tree space = sym (ring-word Pipe root refl t) ∙ e in cc)
    (cases_eq root 0)
word-tree Console root space e = let no : Nothing ≡ Tree space = e in cc

pub word-ring : (kind : InodeKind) (root page : ℕ) → word_of kind root ≡ Ring page → (kind ≡ Pipe) × (root ≢ 0) × (root ≡ page)
word-ring File root page e = ⊎_elim
    (λ (t : root ≡ 0). let no : Nothing ≡ Ring page = sym (ap (word_of File) t) ∙ e in cc)
    (λ (t : root ≢ 0). let no : Tree root ≡ Ring page = sym (tree-word File root tt t) ∙ e in cc)
    (cases_eq root 0)
word-ring Dir root page e = ⊎_elim
    (λ (t : root ≡ 0). let no : Nothing ≡ Ring page = sym (ap (word_of Dir) t) ∙ e in cc)
    (λ (t : root ≢ 0). let no : Tree root ≡ Ring page = sym (tree-word Dir root tt t) ∙ e in cc)
    (cases_eq root 0)
word-ring Pipe root page e = ⊎_elim
    (λ (t : root ≡ 0). let no : Nothing ≡ Ring page = sym (ap (word_of Pipe) t) ∙ e in cc)
    (λ (t : root ≢ 0). let both : Ring root ≡ Ring page = sym (ring-word Pipe root refl t) ∙ e in let same : root ≡ page = cc in (refl, t, same))
    (cases_eq root 0)
word-ring Console root page e = let no : Nothing ≡ Ring page = e in cc

-- a row has no space of a process
pub word-no-space : (kind : InodeKind) (root space : ℕ) → word_of kind root ≢ Space space
word-no-space File root space e = ⊎_elim
    (λ (t : root ≡ 0). let no : Nothing ≡ Space space = sym (ap (word_of File) t) ∙ e in cc)
    (λ (t : root ≢ 0). let no : Tree root ≡ Space space = sym (tree-word File root tt t) ∙ e in cc)
    (cases_eq root 0)
word-no-space Dir root space e = ⊎_elim
    (λ (t : root ≡ 0). let no : Nothing ≡ Space space = sym (ap (word_of Dir) t) ∙ e in cc)
    (λ (t : root ≢ 0). let no : Tree root ≡ Space space = sym (tree-word Dir root tt t) ∙ e in cc)
    (cases_eq root 0)
word-no-space Pipe root space e = ⊎_elim
    (λ (t : root ≡ 0). let no : Nothing ≡ Space space = sym (ap (word_of Pipe) t) ∙ e in cc)
    (λ (t : root ≢ 0). let no : Ring root ≡ Space space = sym (ring-word Pipe root refl t) ∙ e in cc)
    (cases_eq root 0)
word-no-space Console root space e = let no : Nothing ≡ Space space = e in cc

-- ---- one or not

pub space-or-not : (loose : Loose) (space : ℕ) → (loose ≡ Space space) ⊎ (loose ≢ Space space)
space-or-not Nothing space = inr (λ e. cc)
space-or-not (Space one) space = ⊎_elim (λ (t : one ≡ space). inl (ap Space t)) (λ (d : one ≢ space). inr (λ e. d (let same : one ≡ space = cc in same))) (cases_eq one space)
space-or-not (Tree one) space = inr (λ e. cc)
space-or-not (Ring one) space = inr (λ e. cc)

pub tree-or-not : (loose : Loose) (space : ℕ) → (loose ≡ Tree space) ⊎ (loose ≢ Tree space)
tree-or-not Nothing space = inr (λ e. cc)
tree-or-not (Space one) space = inr (λ e. cc)
tree-or-not (Tree one) space = ⊎_elim (λ (t : one ≡ space). inl (ap Tree t)) (λ (d : one ≢ space). inr (λ e. d (let same : one ≡ space = cc in same))) (cases_eq one space)
tree-or-not (Ring one) space = inr (λ e. cc)

pub ring-or-not : (loose : Loose) (page : ℕ) → (loose ≡ Ring page) ⊎ (loose ≢ Ring page)
ring-or-not Nothing page = inr (λ e. cc)
ring-or-not (Space one) page = inr (λ e. cc)
ring-or-not (Tree one) page = inr (λ e. cc)
ring-or-not (Ring one) page = ⊎_elim (λ (t : one ≡ page). inl (ap Ring t)) (λ (d : one ≢ page). inr (λ e. d (let same : one ≡ page = cc in same))) (cases_eq one page)

-- no inode has a space or tree that is loose
pub not-loose : (owner : Owner) (space : ℕ) (domains : ℕ → Domain) (forest : Forest) (page_owner : ℕ → Option PageOwner) (inodes : ℕ → Option Inode) → IsLoose (owned_space owner space) domains forest page_owner inodes
    → (number : ℕ) (inode : Inode) → at inodes number ≡ Some inode → HasTree inode.kind → inode.root ≢ 0 → forest.owner (NodeObject inode.root) ≡ Some OfFile → inode.root ≢ space
not-loose OfProcess space domains forest page_owner inodes loose number inode found tree some owned same =
    let no : Some OfProcess ≡ Some OfFile = sym loose.taken.1 ∙ ap (λ n. forest.owner (NodeObject n)) (sym same) ∙ owned in cc
not-loose OfFile space domains forest page_owner inodes loose number inode found tree some owned same =
    let no : Tree space ≡ Nothing = loose.no_root number inode found (tree-word inode.kind inode.root tree some ∙ ap Tree same) in cc

-- ---- nothing

to-but : (kernel : Kernel) → Standing kernel → StandingBut kernel Nothing
to-but kernel standing =
    let none : outside_with kernel Nothing ≡ named_by kernel.inodes = none_outside (named_by kernel.inodes) in
    record {
      bank = standing.bank;
      whole = standing.whole;
      unused = standing.unused;
      trees = subst (λ (outside : Outside). TreesGood kernel outside []) (sym none) standing.trees;
      pages_inside = subst (λ (outside : Outside). NoPageOutside (forest_of kernel) (outside_trees kernel outside)) (sym none) standing.pages_inside;
      filled = standing.filled;
      rows = standing.rows;
      nodes_held = standing.nodes_held;
      inodes = standing.inodes;
      descriptions = standing.descriptions;
      holdings = standing.holdings;
      roots = standing.roots;
      keepers = standing.keepers;
      held = record {
        spaces = λ space is owned apart. standing.held.spaces space is owned;
        trees = λ space is owned apart. standing.held.trees space is owned;
        buffers = standing.held.buffers;
        pipes = λ page owned apart. standing.held.pipes page owned;
      };
      is_loose = record {
        taken = tt;
        no_space = λ root space has e. cc;
        no_root = λ number inode there e. refl;
      };
    }

from-but : (kernel : Kernel) → StandingBut kernel Nothing → Standing kernel
from-but kernel standing =
    let none : outside_with kernel Nothing ≡ named_by kernel.inodes = none_outside (named_by kernel.inodes) in
    record {
      bank = standing.bank;
      whole = standing.whole;
      unused = standing.unused;
      trees = subst (λ (outside : Outside). TreesGood kernel outside []) none standing.trees;
      pages_inside = subst (λ (outside : Outside). NoPageOutside (forest_of kernel) (outside_trees kernel outside)) none standing.pages_inside;
      filled = standing.filled;
      rows = standing.rows;
      nodes_held = standing.nodes_held;
      inodes = standing.inodes;
      descriptions = standing.descriptions;
      holdings = standing.holdings;
      roots = standing.roots;
      keepers = standing.keepers;
      held = record {
        spaces = λ space is owned. standing.held.spaces space is owned (λ e. cc);
        trees = λ space is owned. standing.held.trees space is owned (λ e. cc);
        buffers = standing.held.buffers;
        pipes = λ page owned. standing.held.pipes page owned (λ e. cc);
      };
    }

pub nothing_loose : law.NothingLoose
nothing_loose kernel = (to-but kernel, from-but kernel)
