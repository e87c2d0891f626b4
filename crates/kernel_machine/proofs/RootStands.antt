-- What stands but one thing goes along with rows of inodes that get and give up their roots.
use Rattle.std.proofs.Common.{◌≡◌, ◌≢◌, ◌⊎◌, ◌<◌, ℕ, Option, Some, None, true, false, List, [], length, set, slice_index_or, refl, sym, ap, subst, ◌∙◌, arith, ⊎_elim, inl, inr}
use Rattle.std.specs.Option.{is_some}
use Rattle.std.proofs.lemmas.Bool.{cases_eq}
use Rattle.std.proofs.lemmas.List.{get_or-set_same, set-set}
use Rattle.kernel_tables.specs.declared.inode.Inode.{Inode}
use Rattle.kernel_tables.specs.declared.inode.InodeKind.{InodeKind}
use Rattle.kernel_tables.specs.declared.inode.InodeKind.TheVariants.{File, Dir, Pipe, Console}
use Rattle.kernel_tables.specs.declared.entry.PageOwner.TheVariants.{Pipe as PipePage}
use Rattle.kernel_tables.specs.declared.row.Row.{Row}
use Rattle.kernel_tables.specs.declared.row.Row.TheVariants.{Free, Used, Unspelled}
use Rattle.kernel_tables.specs.Kernel.{Kernel, inode_at, first_page, memory_page}
use Rattle.kernel_tables.specs.Rows.{entry_at}
use Rattle.space_bank.specs.Bank.{BankGood}
use Rattle.space_bank.specs.Laws.{and_outside}
use Rattle.space_bank.specs.Shares.{Outside}
use Rattle.forest.specs.Forest.{IsSpace, NoPageOutside}
use Rattle.kernel_forest.specs.Owners.{page_owners}
use Rattle.kernel_forest.specs.Trees.{forest_of, outside_trees, owner_of, tree_in, node_tree, TreesGood}
use Rattle.kernel_forest.proofs.Owners.{owned-in-bank}
use Rattle.file_tables.specs.Numbers.{TakesInode, fresh_inode}
use Rattle.file_tables.specs.Roots.{named_by, root_key, ExchangesRoots}
use Rattle.file_tables.specs.Rows.{InodesGood}
use Rattle.file_tables.proofs.RootLaws.{trees_beside}
use Rattle.unix_model.specs.Tables.{at, with_at}
use Rattle.unix_model.proofs.TableLaws.{at-with_at, at-with_at-other}
use Rattle.domain.specs.Domains.{domains}
use Rattle.kernel_machine.specs.Loose as law
use Rattle.kernel_machine.specs.Loose.{Loose, Nothing, Space, Tree, Ring, loose_key, word_of, root_of, IsTaken, IsLoose, HeldBut, StandingBut, IsRowRoot, outside_with}
use Rattle.kernel_machine.specs.Machine.{KernelMachine, machine_of, inodes_of, held}
use Rattle.kernel_machine.specs.Trees.{HasTree, IsRootOf, RootsGood}
use Rattle.kernel_machine.proofs.LooseLaws.{loose-root, nothing_loose, ring-or-not, ring-word, tree-or-not, tree-word, word-no-space, word-ring, word-tree}
use Rattle.kernel_machine.proofs.MachineLaws.{inode_written}
use Rattle.kernel_machine.proofs.MemoryLaws.{page-of, tree-of}
use Rattle.kernel_machine.proofs.OwnerLaws.{row-inside}

-- ---- what has a root

-- a space is no fixed node, and a page of a pipe none of the tables
space-real : (kernel : Kernel) (space : ℕ) → BankGood kernel → IsSpace (forest_of kernel) [] space → space ≢ 0
unfolding owner_of
space-real kernel space good is same =
    let none : tree_in node_tree (entry_at kernel.node_entries space) ≡ None = ap (λ n. tree_in node_tree (entry_at kernel.node_entries n)) same ∙ ap (tree_in node_tree) (good.nodes.fixed 0 (omega arith)) in
    let no : true ≡ false = sym is.owned ∙ ap is_some none in cc

pub ring-real : (kernel : Kernel) (page : ℕ) → at (page_owners kernel) page ≡ Some PipePage → page ≢ 0
unfolding first_page
ring-real kernel page owned same = let low = owned-in-bank kernel page PipePage owned in absurd (omega arith)

word-taken : (kernel : Kernel) (inode : Inode) (loose : Loose) → word_of inode.kind inode.root ≡ loose → IsRootOf (forest_of kernel) (memory_page kernel) (page_owners kernel) inode inode.kind
    → IsTaken (forest_of kernel) (page_owners kernel) loose
word-taken kernel inode Nothing e is = tt
word-taken kernel inode (Space space) e is = absurd (word-no-space inode.kind inode.root space e)
word-taken kernel inode (Tree root) e is =
    let h = word-tree inode.kind inode.root root e in
    subst (λ n. IsTaken (forest_of kernel) (page_owners kernel) (Tree n)) h.2 (tree-of (forest_of kernel) (memory_page kernel) (page_owners kernel) inode inode.kind is h.0 h.1)
word-taken kernel inode (Ring page) e is =
    let h = word-ring inode.kind inode.root page e in
    ap (at (page_owners kernel)) (sym h.2) ∙ page-of (forest_of kernel) (memory_page kernel) (page_owners kernel) inode inode.kind is h.0

-- ---- a row is written

module _ (old new : Kernel) (number : ℕ) (row : Row Inode) (inside : number < length old.inodes) (now : new ≡ record old { inodes = set old.inodes number row })
    (exchanges : ExchangesRoots old new number row) (good : InodesGood new.inodes) (is_root : IsRowRoot old row) (standing : StandingBut old (root_of row)) where
  was : Loose
  was = root_of (inode_at old number)

  table : ℕ → Option Inode
  table = with_at (inodes_of old) number (held row)

  inodes-now : inodes_of new ≡ with_at (inodes_of old) number (held row)
  unfolding machine_of
  inodes-now = ap (λ (machine : KernelMachine). machine.inodes) (inode_written old new number row inside now)

  -- an inode that is there: that of the row, or another one
  found : (other : ℕ) (inode : Inode) → at (with_at (inodes_of old) number (held row)) other ≡ Some inode
      → ((other ≡ number) × (row ≡ Used inode)) ⊎ ((other ≢ number) × (at (inodes_of old) other ≡ Some inode))
  found other inode there = ⊎_elim
      (λ (t : other ≡ number).
      inl (t, used row inode (sym (at-with_at (inodes_of old) number (held row)) ∙ ap (at (with_at (inodes_of old) number (held row))) (sym t) ∙ there)))
      (λ (d : other ≢ number). inr (d, sym (at-with_at-other (inodes_of old) number other (held row) d) ∙ there))
      (cases_eq other number)
    where
      used : (row : Row Inode) (inode : Inode) → held row ≡ Some inode → row ≡ Used inode
      used Free inode e = cc
      used (Used other) inode e = cc
      used Unspelled inode e = cc

  was-there : (other : ℕ) (inode : Inode) → other ≡ number → at (inodes_of old) other ≡ Some inode → word_of inode.kind inode.root ≡ root_of (inode_at old number)
  unfolding inodes_of at
  was-there other inode same there = by-row (inode_at old number) (sym (ap (λ n. held (inode_at old n)) same) ∙ there)
    where
      by-row : (row : Row Inode) → held row ≡ Some inode → word_of inode.kind inode.root ≡ root_of row
      by-row Free e = cc
      by-row (Used other) e = let same : other ≡ inode = cc in ap (λ (i : Inode). word_of i.kind i.root) (sym same)
      by-row Unspelled e = cc

  -- what stood in the row
  was-inode : (inode : Inode) → inode_at old number ≡ Used inode → at (inodes_of old) number ≡ Some inode
  unfolding inodes_of at
  was-inode inode e = ap held e

  row-root : (inode : Inode) → row ≡ Used inode → IsRootOf (forest_of old) (memory_page old) (page_owners old) inode inode.kind
  row-root inode e = subst (IsRowRoot old) e is_root

  row-word : (inode : Inode) → row ≡ Used inode → word_of inode.kind inode.root ≡ root_of row
  row-word inode e = ap root_of (sym e)

  -- no other inode has the root of the row
  not-row : (other : ℕ) (inode : Inode) (loose : Loose) → at (inodes_of old) other ≡ Some inode → word_of inode.kind inode.root ≡ loose → root_of row ≡ loose → loose ≢ Nothing → ⊥
  not-row other inode loose there e same some = some (sym same ∙ standing.is_loose.no_root other inode there (e ∙ sym same))

  tree-apart : (one two : ℕ) (inode second : Inode) → row ≡ Used inode → at (inodes_of old) two ≡ Some second → HasTree inode.kind → HasTree second.kind → inode.root ≢ 0 → inode.root ≡ second.root → ⊥
  tree-apart one two inode second mine there tree too some same =
      not-row two second (Tree second.root) there (tree-word second.kind second.root too (λ z. some (same ∙ z)))
      (sym (row-word inode mine) ∙ tree-word inode.kind inode.root tree some ∙ ap Tree same) (λ e. cc)

  ring-apart : (one two : ℕ) (inode second : Inode) → row ≡ Used inode → at (inodes_of old) two ≡ Some second → inode.kind ≡ Pipe → second.kind ≡ Pipe → inode.root ≡ second.root → ⊥
  ring-apart one two inode second mine there pipe too same =
      let some = ring-real old inode.root (page-of (forest_of old) (memory_page old) (page_owners old) inode inode.kind (row-root inode mine) pipe) in
      not-row two second (Ring second.root) there (ring-word second.kind second.root too (λ z. some (same ∙ z)))
      (sym (row-word inode mine) ∙ ring-word inode.kind inode.root pipe some ∙ ap Ring same) (λ e. cc)

  roots-good : RootsGood (forest_of old) (memory_page old) (page_owners old) (with_at (inodes_of old) number (held row))
  roots-good =
      record {
        each = λ other inode there. ⊎_elim
            (λ (t : (other ≡ number) × (row ≡ Used inode)). row-root inode t.1)
            (λ (t : (other ≢ number) × (at (inodes_of old) other ≡ Some inode)). standing.roots.each other inode t.1)
            (found other inode there);
        trees_differ = λ one two inode second there also tree too some same. ⊎_elim
            (λ (a : (one ≡ number) × (row ≡ Used inode)). ⊎_elim
            (λ (b : (two ≡ number) × (row ≡ Used second)). a.0 ∙ sym b.0)
            (λ (b : (two ≢ number) × (at (inodes_of old) two ≡ Some second)). absurd (tree-apart one two inode second a.1 b.1 tree too some same))
            (found two second also))
            (λ (a : (one ≢ number) × (at (inodes_of old) one ≡ Some inode)). ⊎_elim
            (λ (b : (two ≡ number) × (row ≡ Used second)). absurd (tree-apart two one second inode b.1 a.1 too tree (λ z. some (same ∙ z)) (sym same)))
            (λ (b : (two ≢ number) × (at (inodes_of old) two ≡ Some second)). standing.roots.trees_differ one two inode second a.1 b.1 tree too some same)
            (found two second also))
            (found one inode there);
        pipes_differ = λ one two inode second there also pipe too same. ⊎_elim
            (λ (a : (one ≡ number) × (row ≡ Used inode)). ⊎_elim
            (λ (b : (two ≡ number) × (row ≡ Used second)). a.0 ∙ sym b.0)
            (λ (b : (two ≢ number) × (at (inodes_of old) two ≡ Some second)). absurd (ring-apart one two inode second a.1 b.1 pipe too same))
            (found two second also))
            (λ (a : (one ≢ number) × (at (inodes_of old) one ≡ Some inode)). ⊎_elim
            (λ (b : (two ≡ number) × (row ≡ Used second)). absurd (ring-apart two one second inode b.1 a.1 too pipe (sym same)))
            (λ (b : (two ≢ number) × (at (inodes_of old) two ≡ Some second)). standing.roots.pipes_differ one two inode second a.1 b.1 pipe too same)
            (found two second also))
            (found one inode there);
      }

  there-now : (other : ℕ) (inode : Inode) → other ≢ number → at (inodes_of old) other ≡ Some inode → at (with_at (inodes_of old) number (held row)) other ≡ Some inode
  there-now other inode apart there = at-with_at-other (inodes_of old) number other (held row) apart ∙ there

  -- the inode of the row, by what it has
  row-inode : (loose : Loose) → root_of row ≡ loose → loose ≢ Nothing → (inode : Inode) × (row ≡ Used inode) × (word_of inode.kind inode.root ≡ loose)
  row-inode loose e some = by-row row e
    where
      by-row : (row : Row Inode) → root_of row ≡ loose → (inode : Inode) × (row ≡ Used inode) × (word_of inode.kind inode.root ≡ loose)
      by-row Free e = absurd (some (sym e))
      by-row (Used inode) e = (inode, refl, e)
      by-row Unspelled e = absurd (some (sym e))

  row-there : (inode : Inode) → row ≡ Used inode → at (with_at (inodes_of old) number (held row)) number ≡ Some inode
  row-there inode e = at-with_at (inodes_of old) number (held row) ∙ ap held e

  held-good : HeldBut (root_of (inode_at old number)) (domains old) (forest_of old) (page_owners old) (with_at (inodes_of old) number (held row))
  held-good =
      record {
        spaces = λ space is owned apart. standing.held.spaces space is owned (no-space row space);
        trees = λ space is owned apart. ⊎_elim
            (λ (t : root_of row ≡ Tree space).
            let h = row-inode (Tree space) t (λ e. cc) in
            let w = word-tree h.0.kind h.0.root space h.2 in (number, h.0, row-there h.0 h.1, w.0, w.2))
            (λ (d : root_of row ≢ Tree space).
            let h = standing.held.trees space is owned d in
            let other : h.0 ≢ number = λ same. apart (sym (was-there h.0 h.1 same h.2) ∙ tree-word h.1.kind h.1.root h.3 (λ z. space-real old space standing.bank is (sym h.4 ∙ z)) ∙ ap Tree h.4) in
            (h.0, h.1, there-now h.0 h.1 other h.2, h.3, h.4))
            (tree-or-not (root_of row) space);
        buffers = standing.held.buffers;
        pipes = λ page owned apart. ⊎_elim
            (λ (t : root_of row ≡ Ring page).
            let h = row-inode (Ring page) t (λ e. cc) in
            let w = word-ring h.0.kind h.0.root page h.2 in (number, h.0, row-there h.0 h.1, w.0, w.2))
            (λ (d : root_of row ≢ Ring page).
            let h = standing.held.pipes page owned d in
            let other : h.0 ≢ number = λ same. apart (sym (was-there h.0 h.1 same h.2) ∙ ring-word h.1.kind h.1.root h.3 (λ z. ring-real old page owned (sym h.4 ∙ z)) ∙ ap Ring h.4) in
            (h.0, h.1, there-now h.0 h.1 other h.2, h.3, h.4))
            (ring-or-not (root_of row) page);
      }
    where
      no-space : (row : Row Inode) (space : ℕ) → root_of row ≢ Space space
      no-space Free space e = cc
      no-space (Used inode) space e = word-no-space inode.kind inode.root space e
      no-space Unspelled space e = cc

  -- what the row had is loose
  loose-by : (before : Row Inode) → inode_at old number ≡ before → IsLoose (root_of before) (domains old) (forest_of old) (page_owners old) (with_at (inodes_of old) number (held row))
  loose-by Free e = record { taken = tt; no_space = λ root space has same. cc; no_root = λ other inode there same. refl }
  loose-by Unspelled e = record { taken = tt; no_space = λ root space has same. cc; no_root = λ other inode there same. refl }
  loose-by (Used before) e =
      record {
        taken = word-taken old before (word_of before.kind before.root) refl (standing.roots.each number before (was-inode before e));
        no_space = λ root space has same. word-no-space before.kind before.root space same;
        no_root = λ other inode there same. ⊎_elim
            (λ (t : (other ≡ number) × (row ≡ Used inode)).
            let alike : word_of before.kind before.root ≡ root_of row = sym same ∙ row-word inode t.1 in
            alike ∙ standing.is_loose.no_root number before (was-inode before e) alike)
            (λ (t : (other ≢ number) × (at (inodes_of old) other ≡ Some inode)). by-word other inode t.0 t.1 (word_of before.kind before.root) refl same)
            (found other inode there);
      }
    where
      by-word : (other : ℕ) (inode : Inode) → other ≢ number → at (inodes_of old) other ≡ Some inode → (loose : Loose) → word_of before.kind before.root ≡ loose → word_of inode.kind inode.root ≡ loose → loose ≡ Nothing
      by-word other inode apart there Nothing mine its = refl
      by-word other inode apart there (Space space) mine its = absurd (word-no-space before.kind before.root space mine)
      by-word other inode apart there (Tree root) mine its =
          let a = word-tree inode.kind inode.root root its in
          let b = word-tree before.kind before.root root mine in
          absurd (apart (standing.roots.trees_differ other number inode before there (was-inode before e) a.0 b.0 a.1 (a.2 ∙ sym b.2)))
      by-word other inode apart there (Ring page) mine its =
          let a = word-ring inode.kind inode.root page its in
          let b = word-ring before.kind before.root page mine in
          absurd (apart (standing.roots.pipes_differ other number inode before there (was-inode before e) a.0 b.0 (a.2 ∙ sym b.2)))

  outside-now : outside_with new (root_of (inode_at old number)) ≡ outside_with old (root_of row)
  outside-now =
      ap (and_outside (named_by new.inodes)) (loose-root (inode_at old number)) ∙ exchanges ∙ ap (and_outside (named_by old.inodes)) (sym (loose-root row))

  root-stands : StandingBut new (root_of (inode_at old number))
  unfolding inodes_of
  root-stands =
      let written : Kernel = record old { inodes = set old.inodes number row } in
      let again : inodes_of written ≡ with_at (inodes_of old) number (held row) = ap inodes_of (sym now) ∙ inodes-now in
      let outside : outside_with written (root_of (inode_at old number)) ≡ outside_with old (root_of row) = ap (λ (k : Kernel). outside_with k (root_of (inode_at old number))) (sym now) ∙ outside-now in
      subst (λ (k : Kernel). StandingBut k (root_of (inode_at old number))) (sym now)
      (record {
        bank = record { sized = standing.bank.sized; words = standing.bank.words; pages = standing.bank.pages; nodes = standing.bank.nodes };
        whole = standing.whole;
        unused = standing.unused;
        trees = subst (λ (out : Outside). TreesGood written out []) (sym outside) ((trees_beside old written (outside_with old (root_of row)) [] refl).0 standing.trees);
        pages_inside = subst (λ (out : Outside). NoPageOutside (forest_of old) (outside_trees old out)) (sym outside) standing.pages_inside;
        filled = standing.filled;
        rows = standing.rows;
        nodes_held = standing.nodes_held;
        inodes = subst (λ (k : Kernel). InodesGood k.inodes) now good;
        descriptions = standing.descriptions;
        holdings = standing.holdings;
        roots = subst (RootsGood (forest_of old) (memory_page old) (page_owners old)) (sym again) roots-good;
        keepers = standing.keepers;
        held = subst (HeldBut (root_of (inode_at old number)) (domains old) (forest_of old) (page_owners old)) (sym again) held-good;
        is_loose = subst (IsLoose (root_of (inode_at old number)) (domains old) (forest_of old) (page_owners old)) (sym again) (loose-by (inode_at old number) refl);
      })

pub standing_with_root : law.StandingWithRoot
standing_with_root old new number row inside now exchanges good is standing = root-stands old new number row inside now exchanges good is standing

-- ---- a new inode

-- a free row is one of the table
free-inside : (rows : List (Row Inode)) (number : ℕ) → slice_index_or rows number Unspelled ≡ Free → number < length rows
free-inside rows number free = row-inside rows number (λ same. let no : Free ≡ Unspelled = sym free ∙ same in cc)

-- a fresh inode has nothing
fresh-word : (kind : InodeKind) → word_of kind 0 ≡ Nothing
fresh-word File = refl
fresh-word Dir = refl
fresh-word Pipe = refl
fresh-word Console = refl

fresh-root : (kernel : Kernel) (kind : InodeKind) → kind ≢ Pipe → IsRootOf (forest_of kernel) (memory_page kernel) (page_owners kernel) (fresh_inode kind) kind
fresh-root kernel File apart = λ some. absurd (some refl)
fresh-root kernel Dir apart = λ some. absurd (some refl)
fresh-root kernel Pipe apart = absurd (apart refl)
fresh-root kernel Console apart = tt

module _ (old new : Kernel) (kind : InodeKind) (number : ℕ) (loose : Loose) (takes : TakesInode old new kind number) (apart : kind ≢ Pipe)
    (named : named_by new.inodes ≡ named_by old.inodes) (good : InodesGood new.inodes) (standing : StandingBut old loose) where
  fresh : Inode
  fresh = fresh_inode kind

  inside-rows : number < length old.inodes
  inside-rows = free-inside old.inodes number takes.was_free

  inodes-fresh : inodes_of new ≡ with_at (inodes_of old) number (Some fresh)
  unfolding machine_of fresh
  inodes-fresh = ap (λ (machine : KernelMachine). machine.inodes) (inode_written old new number (Used (fresh_inode kind)) inside-rows takes.state)

  none-before : at (inodes_of old) number ≡ None
  unfolding inodes_of at
  none-before = ap held takes.was_free

  -- an inode that is there
  found-fresh : (other : ℕ) (inode : Inode) → at (with_at (inodes_of old) number (Some fresh)) other ≡ Some inode → ((other ≡ number) × (fresh ≡ inode)) ⊎ (at (inodes_of old) other ≡ Some inode)
  found-fresh other inode there = ⊎_elim
      (λ (t : other ≡ number).
      let both : Some fresh ≡ Some inode = sym (at-with_at (inodes_of old) number (Some fresh)) ∙ ap (at (with_at (inodes_of old) number (Some fresh))) (sym t) ∙ there in inl (t, (let same : fresh ≡ inode = cc in same)))
      (λ (d : other ≢ number). inr (sym (at-with_at-other (inodes_of old) number other (Some fresh) d) ∙ there))
      (cases_eq other number)

  still : (other : ℕ) (inode : Inode) → at (inodes_of old) other ≡ Some inode → at (with_at (inodes_of old) number (Some fresh)) other ≡ Some inode
  still other inode there =
      at-with_at-other (inodes_of old) number other (Some fresh) (λ same. let no : None ≡ Some inode = sym none-before ∙ ap (at (inodes_of old)) (sym same) ∙ there in cc) ∙ there

  rootless : (inode : Inode) → fresh ≡ inode → inode.root ≡ 0
  unfolding fresh
  rootless inode e = ap (λ (i : Inode). i.root) (sym e)

  no-pipe : (inode : Inode) → fresh ≡ inode → inode.kind ≢ Pipe
  unfolding fresh
  no-pipe inode e pipe = apart (ap (λ (i : Inode). i.kind) e ∙ pipe)

  own-root : IsRootOf (forest_of old) (memory_page old) (page_owners old) fresh fresh.kind
  unfolding fresh
  own-root = fresh-root old kind apart

  own-word : word_of fresh.kind fresh.root ≡ Nothing
  unfolding fresh
  own-word = fresh-word kind

  roots-fresh : RootsGood (forest_of old) (memory_page old) (page_owners old) (with_at (inodes_of old) number (Some fresh))
  roots-fresh =
      record {
        each = λ other inode there. ⊎_elim
            (λ (t : (other ≡ number) × (fresh ≡ inode)). subst (λ (i : Inode). IsRootOf (forest_of old) (memory_page old) (page_owners old) i i.kind) t.1 own-root)
            (λ (t : at (inodes_of old) other ≡ Some inode). standing.roots.each other inode t)
            (found-fresh other inode there);
        trees_differ = λ one two inode second there also tree too some same. ⊎_elim
            (λ (a : (one ≡ number) × (fresh ≡ inode)). absurd (some (rootless inode a.1)))
            (λ (a : at (inodes_of old) one ≡ Some inode). ⊎_elim
            (λ (b : (two ≡ number) × (fresh ≡ second)). absurd (some (same ∙ rootless second b.1)))
            (λ (b : at (inodes_of old) two ≡ Some second). standing.roots.trees_differ one two inode second a b tree too some same)
            (found-fresh two second also))
            (found-fresh one inode there);
        pipes_differ = λ one two inode second there also pipe too same. ⊎_elim
            (λ (a : (one ≡ number) × (fresh ≡ inode)). absurd (no-pipe inode a.1 pipe))
            (λ (a : at (inodes_of old) one ≡ Some inode). ⊎_elim
            (λ (b : (two ≡ number) × (fresh ≡ second)). absurd (no-pipe second b.1 too))
            (λ (b : at (inodes_of old) two ≡ Some second). standing.roots.pipes_differ one two inode second a b pipe too same)
            (found-fresh two second also))
            (found-fresh one inode there);
      }

  held-fresh : HeldBut loose (domains old) (forest_of old) (page_owners old) (with_at (inodes_of old) number (Some fresh))
  held-fresh =
      record {
        spaces = standing.held.spaces;
        trees = λ space is owned but. let h = standing.held.trees space is owned but in (h.0, h.1, still h.0 h.1 h.2, h.3, h.4);
        buffers = standing.held.buffers;
        pipes = λ page owned but. let h = standing.held.pipes page owned but in (h.0, h.1, still h.0 h.1 h.2, h.3, h.4);
      }

  loose-fresh : IsLoose loose (domains old) (forest_of old) (page_owners old) (with_at (inodes_of old) number (Some fresh))
  loose-fresh =
      record {
        taken = standing.is_loose.taken;
        no_space = standing.is_loose.no_space;
        no_root = λ other inode there same. ⊎_elim
            (λ (t : (other ≡ number) × (fresh ≡ inode)). sym same ∙ ap (λ (i : Inode). word_of i.kind i.root) (sym t.1) ∙ own-word)
            (λ (t : at (inodes_of old) other ≡ Some inode). standing.is_loose.no_root other inode t same)
            (found-fresh other inode there);
      }

  fresh-stands : StandingBut new loose
  unfolding inodes_of
  fresh-stands =
      let written : Kernel = record old { inodes = set old.inodes number (Used (fresh_inode kind)) } in
      let again : inodes_of written ≡ with_at (inodes_of old) number (Some fresh) = ap inodes_of (sym takes.state) ∙ inodes-fresh in
      let outside : outside_with written loose ≡ outside_with old loose =
      ap (λ (k : Kernel). outside_with k loose) (sym takes.state) ∙ ap (λ (out : Outside). and_outside out (loose_key loose)) named
      in
      subst (λ (k : Kernel). StandingBut k loose) (sym takes.state)
      (record {
        bank = record { sized = standing.bank.sized; words = standing.bank.words; pages = standing.bank.pages; nodes = standing.bank.nodes };
        whole = standing.whole;
        unused = standing.unused;
        trees = subst (λ (out : Outside). TreesGood written out []) (sym outside) ((trees_beside old written (outside_with old loose) [] refl).0 standing.trees);
        pages_inside = subst (λ (out : Outside). NoPageOutside (forest_of old) (outside_trees old out)) (sym outside) standing.pages_inside;
        filled = standing.filled;
        rows = standing.rows;
        nodes_held = standing.nodes_held;
        inodes = subst (λ (k : Kernel). InodesGood k.inodes) takes.state good;
        descriptions = standing.descriptions;
        holdings = standing.holdings;
        roots = subst (RootsGood (forest_of old) (memory_page old) (page_owners old)) (sym again) roots-fresh;
        keepers = standing.keepers;
        held = subst (HeldBut loose (domains old) (forest_of old) (page_owners old)) (sym again) held-fresh;
        is_loose = subst (IsLoose loose (domains old) (forest_of old) (page_owners old)) (sym again) loose-fresh;
      })

pub standing_with_new_inode : law.StandingWithNewInode
standing_with_new_inode old new kind number loose takes apart named good standing = fresh-stands old new kind number loose takes apart named good standing

-- ---- a new pipe

module _ (old mid new : Kernel) (number page : ℕ) (row : Inode) (takes : TakesInode old mid Pipe number) (written : new ≡ record mid { inodes = set mid.inodes number (Used row) })
    (named : named_by mid.inodes ≡ named_by old.inodes) (exchanges : ExchangesRoots mid new number (Used row)) (kind : row.kind ≡ Pipe) (root : row.root ≡ page) (standing : StandingBut old (Ring page)) where
  in-rows : number < length old.inodes
  in-rows = free-inside old.inodes number takes.was_free

  both-written : new ≡ record old { inodes = set old.inodes number (Used row) }
  both-written =
      written ∙ ap (λ (k : Kernel). let kernel : Kernel = record k { inodes = set k.inodes number (Used row) } in kernel) takes.state
      ∙ ap (λ (rows : List (Row Inode)). let kernel : Kernel = record old { inodes = rows } in kernel) (set-set old.inodes number (Used (fresh_inode Pipe)) (Used row))

  fresh-key : root_key (inode_at mid number) ≡ root_key (inode_at old number)
  fresh-key =
      ap (λ (k : Kernel). root_key (inode_at k number)) takes.state
      ∙ ap root_key (get_or-set_same old.inodes number (Used (fresh_inode Pipe)) Unspelled in-rows)
      ∙ sym (ap root_key takes.was_free)

  both-exchanged : ExchangesRoots old new number (Used row)
  both-exchanged = ap (and_outside (named_by new.inodes)) (sym fresh-key) ∙ exchanges ∙ ap (λ (out : Outside). and_outside out (root_key (Used row))) named

  is-ring : root_of (Used row) ≡ Ring page
  is-ring = ring-word row.kind row.root kind (λ z. ring-real old page standing.is_loose.taken (sym root ∙ z)) ∙ ap Ring root

  ring-right : IsRootOf (forest_of old) (memory_page old) (page_owners old) row row.kind
  ring-right = subst (IsRootOf (forest_of old) (memory_page old) (page_owners old) row) (sym kind) (ap (at (page_owners old)) root ∙ standing.is_loose.taken)

pub standing_with_pipe : law.StandingWithPipe
standing_with_pipe old mid new number page row takes written named exchanges good kind root standing =
    (nothing_loose new).1
    (subst (λ (loose : Loose). StandingBut new loose) (ap root_of takes.was_free)
    (standing_with_root old new number (Used row) (in-rows old mid new number page row takes written named exchanges kind root standing)
    (both-written old mid new number page row takes written named exchanges kind root standing)
    (both-exchanged old mid new number page row takes written named exchanges kind root standing) good
    (ring-right old mid new number page row takes written named exchanges kind root standing)
    (subst (λ (loose : Loose). StandingBut old loose) (sym (is-ring old mid new number page row takes written named exchanges kind root standing)) standing)))
