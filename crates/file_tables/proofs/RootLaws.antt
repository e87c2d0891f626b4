-- What the table of inodes names, and how its keys are handed over.
use Rattle.std.proofs.Common.{◌≡◌, ℕ, ◌<◌, cond, List, length, set, get_or, refl, ap, sym, subst, ◌∙◌, arith}
use Rattle.std.proofs.Math.Path.{fun_ext}
use Rattle.std.proofs.lemmas.List.Sums.{sum_by-set}
use Rattle.kn_base.specs.declared.key.Key.{Key}
use Rattle.kn_base.specs.declared.key.Key.TheVariants.{Null}
use Rattle.kernel_tables.specs.declared.row.Row.{Row}
use Rattle.kernel_tables.specs.declared.row.Row.TheVariants.{Free, Used, Unspelled}
use Rattle.kernel_tables.specs.declared.inode.InodeKind.{InodeKind}
use Rattle.kernel_tables.specs.declared.inode.InodeKind.TheVariants.{File, Dir, Pipe, Console}
use Rattle.kernel_tables.specs.declared.inode.Inode.{Inode}
use Rattle.kernel_tables.specs.Kernel.{Kernel, inode_at}
use Rattle.space_bank.specs.Shares.{Outside, key_names_page, key_names_node}
use Rattle.space_bank.specs.Laws.{and_outside}
use Rattle.kernel_forest.specs.Trees.{TreesGood}
use Rattle.file_tables.specs.Roots.{root_key, page_roots, node_roots, named_by, ExchangesRoots}
use Rattle.file_tables.specs.Numbers.{fresh_inode}
use Rattle.file_tables.specs.Laws.{WritesFiles, TreesBesideFiles, RootExchanged, RootHandedOver, RootHandedBack, RootKept}

-- what is outside, by its two counts
pub same_counts : {p q : ℕ → ℕ} → p ≡ q → {n m : ℕ → ℕ} → n ≡ m → (let o : Outside = record { pages = p; nodes = n } in o) ≡ record { pages = q; nodes = m }
same_counts pages nodes = cc

same_outside : (a b : Outside) → a.pages ≡ b.pages → a.nodes ≡ b.nodes → a ≡ b
same_outside a b pages nodes = same_counts pages nodes

-- a row is written
pub roots_exchanged : (inodes : List (Row Inode)) (number : ℕ) (row : Row Inode) → number < length inodes
    → and_outside (named_by (set inodes number row)) (root_key (get_or inodes number Unspelled)) ≡ and_outside (named_by inodes) (root_key row)
unfolding page_roots node_roots
roots_exchanged inodes number row inside =
    same_outside (and_outside (named_by (set inodes number row)) (root_key (get_or inodes number Unspelled))) (and_outside (named_by inodes) (root_key row))
    (fun_ext (λ id. sum_by-set (λ r. cond (key_names_page id (root_key r)) 1 0) inodes number row Unspelled inside))
    (fun_ext (λ id. sum_by-set (λ r. cond (key_names_node id (root_key r)) 1 0) inodes number row Unspelled inside))

pub written_roots : (old new : Kernel) (number : ℕ) (row : Row Inode) → length old.inodes ≡ 1024 → number < 1024 → new ≡ record old { inodes = set old.inodes number row }
    → ExchangesRoots old new number row
written_roots old new number row all inside e =
    ap (λ (kernel : Kernel). and_outside (named_by kernel.inodes) (root_key (inode_at old number))) e
    ∙ roots_exchanged old.inodes number row (omega arith)

-- no key more is outside
pub none_outside : (outside : Outside) → and_outside outside Null ≡ outside
none_outside outside = same_outside (and_outside outside Null) outside (fun_ext (λ id. omega arith)) (fun_ext (λ id. omega arith))

-- the same key more outside
same_key : (a b : Outside) (key : Key) → and_outside a key ≡ and_outside b key → a ≡ b
same_key a b key e = same_outside a b
    (fun_ext (λ id. let h = ap (λ (o : Outside). o.pages id) e in omega arith))
    (fun_ext (λ id. let h = ap (λ (o : Outside). o.nodes id) e in omega arith))

beside : (old : Kernel) (inodes : List (Row Inode)) (new : Kernel) (outside : Outside) (hand : List Key) → WritesFiles old new → TreesGood old outside hand → TreesGood new outside hand
beside old inodes new outside hand e trees = subst (λ kernel. TreesGood kernel outside hand) (sym e) (record {
  shares = trees.shares;
  held = trees.held;
  in_hand = trees.in_hand;
  short = trees.short;
  in_trees = trees.in_trees;
  single = trees.single;
})

back : (old new : Kernel) (outside : Outside) (hand : List Key) → WritesFiles old new → TreesGood new outside hand → TreesGood old outside hand
back old new outside hand e trees =
    let now = subst (λ kernel. TreesGood kernel outside hand) e trees in
    record {
      shares = now.shares;
      held = now.held;
      in_hand = now.in_hand;
      short = now.short;
      in_trees = now.in_trees;
      single = now.single;
    }

pub trees_beside : TreesBesideFiles
trees_beside old new outside hand e = (beside old old.inodes new outside hand e, back old new outside hand e)

pub exchanged : RootExchanged
exchanged old new number row hand e roots trees =
    subst (λ outside. TreesGood new outside hand) (sym roots)
    (beside old old.inodes new (and_outside (named_by old.inodes) (root_key row)) hand e trees)

pub handed_over : RootHandedOver
handed_over old new number row hand e roots none trees =
    subst (λ outside. TreesGood new outside hand)
    (ap (and_outside (named_by new.inodes)) none ∙ none_outside (named_by new.inodes))
    (exchanged old new number row hand e roots trees)

pub handed_back : RootHandedBack
handed_back old new number row hand e roots none trees =
    exchanged old new number row hand e roots
    (subst (λ outside. TreesGood old outside hand) (sym (ap (and_outside (named_by old.inodes)) none ∙ none_outside (named_by old.inodes))) trees)

pub kept : RootKept
kept old new number row roots same =
    same_key (named_by new.inodes) (named_by old.inodes) (root_key (inode_at old number))
    (roots ∙ ap (and_outside (named_by old.inodes)) same)

-- a new inode names nothing
fresh_key : (kind : InodeKind) → root_key (Used (fresh_inode kind)) ≡ Null
fresh_key File = refl
fresh_key Dir = refl
fresh_key Pipe = refl
fresh_key Console = refl

pub fresh_roots : (old new : Kernel) (number : ℕ) (kind : InodeKind) (inode : Inode) → inode ≡ fresh_inode kind → length old.inodes ≡ 1024 → number < 1024
    → inode_at old number ≡ Free → new ≡ record old { inodes = set old.inodes number (Used inode) } → named_by new.inodes ≡ named_by old.inodes
fresh_roots old new number kind inode fresh all inside free e =
    kept old new number (Used inode) (written_roots old new number (Used inode) all inside e)
    (ap (λ i. root_key (Used i)) fresh ∙ fresh_key kind ∙ sym (ap root_key free))
