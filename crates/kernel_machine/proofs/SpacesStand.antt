-- What stands within a turn too goes along with calls on spaces.
use Rattle.std.proofs.Math.Path.{fun_ext}
use Rattle.std.proofs.Common.{◌↔◌, ◌≡◌, ◌≢◌, ◌-◌, ℕ, Option, Some, None, true, false, nat_lt, List, [], refl, sym, ap, ap₂, subst, ◌∙◌, ⊎_elim}
use Rattle.std.specs.Prelude.{option_map}
use Rattle.std.specs.Option.{IsSome}
use Rattle.std.proofs.lemmas.Bool.{cases_eq, cases_Bool, ne_eqb}
use Rattle.kernel_tables.specs.declared.entry.Entry.{Entry}
use Rattle.kernel_tables.specs.declared.entry.Entry.TheVariants.{Free, Taken, Fixed, Unspelled}
use Rattle.kernel_tables.specs.declared.entry.NodeOwner.{NodeOwner}
use Rattle.kernel_tables.specs.declared.entry.NodeOwner.TheVariants.{Domain as DomainNode, Tree as TreeNode, FileTree}
use Rattle.kernel_tables.specs.declared.entry.PageOwner.{PageOwner}
use Rattle.kernel_tables.specs.declared.entry.PageOwner.TheVariants.{Buffer, Pipe as PipePage}
use Rattle.kernel_tables.specs.declared.inode.Inode.{Inode}
use Rattle.kernel_tables.specs.declared.inode.InodeKind.{InodeKind}
use Rattle.kernel_tables.specs.declared.inode.InodeKind.TheVariants.{File, Dir, Pipe, Console}
use Rattle.kernel_tables.specs.declared.row.Row.{Row}
use Rattle.kernel_tables.specs.Kernel.{Kernel, IsBankPage, bank_page, first_page, memory_page}
use Rattle.kernel_tables.specs.Rows.{domain_rows, entry_at, of_domain}
use Rattle.space_bank.specs.Bank.{BankGood}
use Rattle.space_bank.specs.Laws.{and_outside}
use Rattle.space_bank.specs.Shares.{Outside}
use Rattle.forest.specs.Forest.{Forest, IsSpace, NoPageOutside, Sound}
use Rattle.forest.specs.Objects.{PageObject, NodeObject, Owner, OfProcess, OfFile}
use Rattle.forest.specs.Calls.{ChangesMap}
use Rattle.forest.specs.Walks.{Mapping, map_of}
use Rattle.kernel_forest.specs.Owners.{owner_in, page_owner_of, page_owners, PagesAreOf}
use Rattle.kernel_forest.proofs.Bridge.{page_inside}
use Rattle.kernel_forest.proofs.Moves.{bank_page as its_page}
use Rattle.kernel_forest.specs.Apart.{KeepsApart}
use Rattle.kernel_forest.specs.Releases.{KeepsUnreleased}
use Rattle.kernel_forest.specs.Trees.{forest_of, outside_trees, page_tree, TreesGood}
use Rattle.kernel_forest.proofs.ApartLaws.{page_stays_apart, node_stays_apart}
use Rattle.kernel_forest.proofs.GivingNodes.{unreleased}
use Rattle.kernel_forest.proofs.Owners.{pages-kept, pages-taken}
use Rattle.kernel_forest.proofs.RowLaws.{domains_apart}
use Rattle.file_tables.specs.Roots.{named_by}
use Rattle.kn_base.specs.declared.key.Key.{Key}
use Rattle.unix_model.specs.Memory.{Memory, Page}
use Rattle.unix_model.specs.Numbers.{pages_of}
use Rattle.unix_model.specs.Tables.{at}
use Rattle.user_copy.specs.SpaceMemory.{memory_by, page_of, space_memory}
use Rattle.user_copy.specs.Writing.{owner_for}
use Rattle.user_copy.proofs.Pages.{found_owned}
use Rattle.domain.specs.Domains.{Domain, domains, domain_at}
use Rattle.domain.specs.Rules.{RowsGood}
use Rattle.kernel_machine.specs.Contents.{pages_in}
use Rattle.kernel_machine.specs.Held.{AllWhole, NodesHeld}
use Rattle.kernel_machine.specs.Machine.{inodes_of}
use Rattle.kernel_machine.specs.Processes.{HoldingsGood}
use Rattle.kernel_machine.proofs.LooseLaws.{not-loose, nothing_loose}
use Rattle.kernel_machine.proofs.MemoryLaws.{made-same}
use Rattle.kernel_machine.proofs.OwnerLaws.{pages-in-use}
use Rattle.kernel_machine.specs.Loose as law
use Rattle.kernel_machine.specs.Loose.{Loose, Nothing, Space, Tree, Ring, loose_key, IsTaken, IsLoose, HeldBut, StandingBut, outside_with}
use Rattle.kernel_machine.specs.Standing as standing_law
use Rattle.kernel_machine.specs.Standing.{LeavesSpaces}
use Rattle.kernel_machine.specs.Trees.{HasTree, IsFileTree, IsRootOf, RootsGood, KeepersGood, ends_in_zeros, pages_owner}

-- ---- what belongs to no tree

owner-taken : (entry : Entry PageOwner) (owner : PageOwner) → owner_in entry ≡ Some owner → (count : ℕ) × (entry ≡ Taken owner count)
owner-taken (Free next) owner e = cc
owner-taken (Taken held count) owner e = (count, (let same : held ≡ owner = cc in ap (λ o. Taken o count) same))
owner-taken Fixed owner e = cc
owner-taken Unspelled owner e = cc

pub domain-taken : (entry : Entry NodeOwner) → of_domain entry ≡ true → (count : ℕ) × (entry ≡ Taken DomainNode count)
domain-taken (Free next) mine = cc
domain-taken (Taken DomainNode count) mine = (count, refl)
domain-taken (Taken TreeNode count) mine = cc
domain-taken (Taken FileTree count) mine = cc
domain-taken Fixed mine = cc
domain-taken Unspelled mine = cc

-- a page of such an owner keeps it, and none comes to have it
pub owner-kept : (old new : Kernel) (page : ℕ) (owner : PageOwner) → new.size ≡ old.size → KeepsApart old new → page_tree owner ≡ None → at (page_owners old) page ≡ Some owner → at (page_owners new) page ≡ Some owner
unfolding page_owner_of at
owner-kept old new page owner size same none owned = ⊎_elim
    (λ (t : nat_lt page (first_page old.size) ≡ true). let no : None ≡ Some owner = rw t at owned in cc)
    (λ (t : nat_lt page (first_page old.size) ≡ false).
    let was : owner_in (entry_at old.page_entries (page - first_page old.size)) ≡ Some owner = rw t at owned in
    let taken = owner-taken (entry_at old.page_entries (page - first_page old.size)) owner was in
    let now = (page_stays_apart old new (page - first_page old.size) owner taken.0 same none).0.0 taken.1 in
    rw (size, t) (ap owner_in now))
    (cases_Bool (nat_lt page (first_page old.size)))

-- nodes of domains, where whatever belongs to no tree is as it was
pub nodes-kept : (old new : Kernel) → domain_rows new ≡ domain_rows old → KeepsApart old new → NodesHeld (domain_rows old) old.node_entries → NodesHeld (domain_rows new) new.node_entries
nodes-kept old new rows apart held = subst (λ rows. NodesHeld rows new.node_entries) (sym rows)
    (λ node mine.
    let taken = domain-taken (entry_at new.node_entries node) mine in
    let was = (node_stays_apart old new node DomainNode taken.0 apart refl).1 taken.1 in
    held node (ap of_domain was))

-- a tree of a file or directory of a length, with pages of one owner
abbrev IsTreeOf : Kernel → PageOwner → (root size : ℕ) → Type 0
IsTreeOf kernel whose root size =
    IsFileTree (forest_of kernel).keys (memory_page kernel) root size × PagesAreOf whose (page_owners kernel) (map_of (forest_of kernel).keys root)

module _ (old new : Kernel) (space : ℕ) (loose : Loose) (leaves : LeavesSpaces old new space) (bank : BankGood new) (whole : AllWhole new.bank) (standing : StandingBut old loose) where
  size-same : new.size ≡ old.size
  size-same = ap (λ (k : Kernel). k.size) leaves.rest

  inodes-same : new.inodes ≡ old.inodes
  inodes-same = ap (λ (k : Kernel). k.inodes) leaves.rest

  there-same : inodes_of new ≡ inodes_of old
  unfolding inodes_of
  there-same = ap inodes_of leaves.rest

  rows-same : domain_rows new ≡ domain_rows old
  rows-same = leaves.rows_now of_domain domains_apart

  domains-same : domains new ≡ domains old
  domains-same = ap domain_at rows-same

  owned-now : (page : ℕ) (owner : PageOwner) → page_tree owner ≡ None → at (page_owners old) page ≡ Some owner → at (page_owners new) page ≡ Some owner
  owned-now page owner none owned = owner-kept old new page owner size-same leaves.apart_now none owned

  owned-before : (page : ℕ) (owner : PageOwner) → page_tree owner ≡ None → at (page_owners new) page ≡ Some owner → at (page_owners old) page ≡ Some owner
  owned-before page owner none owned = owner-kept new old page owner (sym size-same) (sym leaves.apart_now) none owned

  -- a space and its owner
  space-now : (other : ℕ) (owner : Owner) → IsSpace (forest_of old) [] other × ((forest_of old).owner (NodeObject other) ≡ Some owner) → IsSpace (forest_of new) [] other × ((forest_of new).owner (NodeObject other) ≡ Some owner)
  space-now other owner was = let now = (leaves.spaces other).0 was.0 in (now, (leaves.roots other now).owner ∙ was.1)

  owner-before : (other : ℕ) (owner : Owner) → IsSpace (forest_of new) [] other → (forest_of new).owner (NodeObject other) ≡ Some owner → (forest_of old).owner (NodeObject other) ≡ Some owner
  owner-before other owner is owned = sym (leaves.roots other is).owner ∙ owned

  holdings-good : HoldingsGood (domains new) (forest_of new) (page_owners new)
  holdings-good = subst (λ (table : ℕ → Domain). HoldingsGood table (forest_of new) (page_owners new)) (sym domains-same)
      (record {
        spaces = λ root held has. space-now held OfProcess (standing.holdings.spaces root held has);
        buffers = λ root page has. owned-now page Buffer refl (standing.holdings.buffers root page has);
        spaces_differ = standing.holdings.spaces_differ;
        buffers_differ = standing.holdings.buffers_differ;
      })

  held-good : HeldBut loose (domains new) (forest_of new) (page_owners new) (inodes_of new)
  held-good = subst (λ (table : ℕ → Domain). HeldBut loose table (forest_of new) (page_owners new) (inodes_of new)) (sym domains-same)
      (subst (λ (table : ℕ → Option Inode). HeldBut loose (domains old) (forest_of new) (page_owners new) table) (sym there-same)
      (record {
        spaces = λ held is owned apart. standing.held.spaces held (leaves.roots held is).was (owner-before held OfProcess is owned) apart;
        trees = λ held is owned apart. standing.held.trees held (leaves.roots held is).was (owner-before held OfFile is owned) apart;
        buffers = λ page owned. standing.held.buffers page (owned-before page Buffer refl owned);
        pipes = λ page owned apart. standing.held.pipes page (owned-before page PipePage refl owned) apart;
      }))

  taken-still : (loose : Loose) → IsTaken (forest_of old) (page_owners old) loose → IsTaken (forest_of new) (page_owners new) loose
  taken-still Nothing taken = tt
  taken-still (Space held) taken = space-now held OfProcess taken
  taken-still (Tree held) taken = space-now held OfFile taken
  taken-still (Ring page) taken = owned-now page PipePage refl taken

  loose-good : IsLoose loose (domains new) (forest_of new) (page_owners new) (inodes_of new)
  loose-good = subst (λ (table : ℕ → Domain). IsLoose loose table (forest_of new) (page_owners new) (inodes_of new)) (sym domains-same)
      (subst (λ (table : ℕ → Option Inode). IsLoose loose (domains old) (forest_of new) (page_owners new) table) (sym there-same)
      (record { taken = taken-still loose standing.is_loose.taken; no_space = standing.is_loose.no_space; no_root = standing.is_loose.no_root }))

  keepers-good : KeepersGood (forest_of new)
  keepers-good =
      record {
        of_process = λ held is owned. (leaves.roots held is).keeper ∙ standing.keepers.of_process held (leaves.roots held is).was (owner-before held OfProcess is owned);
        of_file = λ held is owned. (leaves.roots held is).keeper ∙ standing.keepers.of_file held (leaves.roots held is).was (owner-before held OfFile is owned);
      }

  -- what stands, given the roots of files
  stands-with : RootsGood (forest_of new) (memory_page new) (page_owners new) (inodes_of old) → StandingBut new loose
  stands-with roots =
      let outside : outside_with new loose ≡ outside_with old loose = ap (λ (rows : List (Row Inode)). and_outside (named_by rows) (loose_key loose)) inodes-same in
      record {
        bank = bank;
        whole = whole;
        unused = rw (ap (λ (k : Kernel). k.page_zero) leaves.rest, ap (λ (k : Kernel). k.other_words) leaves.rest) standing.unused;
        trees = subst (λ (outside : Outside). TreesGood new outside []) (sym outside) (leaves.trees (outside_with old loose) standing.trees);
        pages_inside = subst (λ (outside : Outside). NoPageOutside (forest_of new) (outside_trees new outside)) (sym outside) (leaves.inside (outside_with old loose) standing.trees standing.pages_inside);
        filled = leaves.filled standing.filled;
        rows = subst RowsGood (sym rows-same) standing.rows;
        nodes_held = nodes-kept old new rows-same leaves.apart_now standing.nodes_held;
        inodes = rw inodes-same standing.inodes;
        descriptions = rw (ap (λ (k : Kernel). k.descriptions) leaves.rest) standing.descriptions;
        holdings = holdings-good;
        roots = subst (λ (table : ℕ → Option Inode). RootsGood (forest_of new) (memory_page new) (page_owners new) table) (sym there-same) roots;
        keepers = keepers-good;
        held = held-good;
        is_loose = loose-good;
      }

  -- the roots of files, where each of their trees is one still, and its pages are one owner's
  roots-with : ((number : ℕ) (inode : Inode) → at (inodes_of old) number ≡ Some inode → HasTree inode.kind → inode.root ≢ 0
      → IsSpace (forest_of old) [] inode.root → (forest_of old).owner (NodeObject inode.root) ≡ Some OfFile
      → IsTreeOf old (pages_owner inode.kind) inode.root inode.length → IsTreeOf new (pages_owner inode.kind) inode.root inode.length)
      → RootsGood (forest_of new) (memory_page new) (page_owners new) (inodes_of old)
  roots-with trees =
      record {
        each = λ number inode there. root-now inode inode.kind (trees number inode there) (standing.roots.each number inode there);
        trees_differ = standing.roots.trees_differ;
        pipes_differ = standing.roots.pipes_differ;
      }
    where
      root-now : (inode : Inode) (kind : InodeKind)
          → (HasTree kind → inode.root ≢ 0 → IsSpace (forest_of old) [] inode.root → (forest_of old).owner (NodeObject inode.root) ≡ Some OfFile
          → IsTreeOf old (pages_owner kind) inode.root inode.length → IsTreeOf new (pages_owner kind) inode.root inode.length)
          → IsRootOf (forest_of old) (memory_page old) (page_owners old) inode kind → IsRootOf (forest_of new) (memory_page new) (page_owners new) inode kind
      root-now inode File tree is = λ some.
          let h = is some in
          let now = space-now inode.root OfFile (h.0, h.1) in
          let still = tree tt some h.0 h.1 (h.2, h.3) in (now.0, now.1, still.0, still.1)
      root-now inode Dir tree is = λ some.
          let h = is some in
          let now = space-now inode.root OfFile (h.0, h.1) in
          let still = tree tt some h.0 h.1 (h.2, h.3) in (now.0, now.1, still.0, still.1)
      root-now inode Pipe tree is = owned-now inode.root PipePage refl is
      root-now inode Console tree is = is

-- ---- a tree of a file, by its memory

mapped-from : (b1 b2 : ℕ → List ℕ) (m1 m2 : Option Mapping) → option_map (page_of b2) m2 ≡ option_map (page_of b1) m1 → (mapping : Mapping) → m2 ≡ Some mapping
    → (was : Mapping) × (m1 ≡ Some was) × (mapping.writable ≡ was.writable)
mapped-from b1 b2 None m2 e mapping is = let no : Some (page_of b2 mapping) ≡ None = ap (option_map (page_of b2)) (sym is) ∙ e in cc
mapped-from b1 b2 (Some was) m2 e mapping is =
    let both : Some (page_of b2 mapping) ≡ Some (page_of b1 was) = ap (option_map (page_of b2)) (sym is) ∙ e in
    let same : page_of b2 mapping ≡ page_of b1 was = cc in
    (was, refl, ap (λ (page : Page). page.writable) same)

pub tree-by-memory : (k1 k2 : ℕ → Key) (b1 b2 : ℕ → List ℕ) (root size : ℕ) → memory_by b2 (map_of k2 root) ≡ memory_by b1 (map_of k1 root) → IsFileTree k1 b1 root size → IsFileTree k2 b2 root size
unfolding memory_by
tree-by-memory k1 k2 b1 b2 root size e tree =
    let here = λ (page : ℕ). ap (λ (memory : Memory). memory page) e in
    record {
      some_page =
          let t = tree.some_page in
          let now = mapped-from b2 b1 (map_of k2 root t.0) (map_of k1 root t.0) (sym (here t.0)) t.1 t.2 in (t.0, now.0, now.1);
      within = λ page mapping is. let was = mapped-from b1 b2 (map_of k1 root page) (map_of k2 root page) (here page) mapping is in tree.within page was.0 was.1;
      writable = λ page mapping is.
          let was = mapped-from b1 b2 (map_of k1 root page) (map_of k2 root page) (here page) mapping is in was.2 ∙ tree.writable page was.0 was.1;
      zeros = subst (λ (memory : Memory). ends_in_zeros size (pages_in memory (pages_of size)) ≡ true) (sym e) tree.zeros;
    }

-- ---- calls

spaces-same : (old new : Forest) (space : ℕ) (map : ℕ → Option Mapping) → ChangesMap old new space map → (other : ℕ) → IsSpace old [] other ↔ IsSpace new [] other
spaces-same old new space map changes other = (
  λ is. ⊎_elim
      (λ (t : other ≡ space). subst (λ n. IsSpace new [] n) (sym t) changes.stays)
      (λ (d : other ≢ space). changes.others.stay other is d)
      (cases_eq other space),
  λ is. (changes.roots other is).was,
)

pub remap_leaves : standing_law.RemapLeaves
remap_leaves old new space few map outside trees remaps =
    let changes = (remaps.changes outside trees).1 in
    record {
      spaces = spaces-same (forest_of old) (forest_of new) space map changes;
      roots = changes.roots;
      memories = λ other is d. ap₂ memory_by (ap memory_page remaps.rest) (changes.others.maps other is d);
      owned = λ other whose is d.
          pages-kept whose old new (map_of (forest_of old).keys other) (map_of (forest_of new).keys other) (changes.others.maps other is d) remaps.owners_now;
      trees = λ all good. (remaps.changes all good).0;
      inside = λ all good. remaps.inside all;
      filled = remaps.filled;
      rows_now = remaps.rows_now;
      apart_now = remaps.apart_now;
      rest = unreleased old new remaps.rest;
    }

-- a memory by the same map, of pages with the same bytes
pub memory-by-map : (old new : Kernel) (space : ℕ) → map_of (forest_of new).keys space ≡ map_of (forest_of old).keys space
    → ((number : ℕ) (mapping : Mapping) → map_of (forest_of old).keys space number ≡ Some mapping → memory_page new mapping.page ≡ memory_page old mapping.page)
    → space_memory new space ≡ space_memory old space
unfolding memory_by
memory-by-map old new space map bytes =
    ap (memory_by (memory_page new)) map
    ∙ fun_ext (λ number. made-same (page_of (memory_page new)) (page_of (memory_page old)) (map_of (forest_of old).keys space number)
    (λ mapping mapped. ap (λ content. let page : Page = record { writable = mapping.writable; bytes = content } in page) (bytes number mapping mapped)))

-- a call that may give pages back: what a space maps still isn't given back, so it has the bytes that it had
module _ (old new : Kernel) (rest : KeepsUnreleased old new) (good : BankGood new) (sound : Sound (forest_of new))
    (bytes : (number : ℕ) → IsBankPage old.size number → (IsSome ((forest_of old).owner (PageObject number)) → IsSome ((forest_of new).owner (PageObject number)))
    → bank_page new number ≡ bank_page old number) where
  bytes-kept : (space number : ℕ) (mapping : Mapping) → IsSpace (forest_of new) [] space → map_of (forest_of new).keys space number ≡ Some mapping
      → memory_page new mapping.page ≡ memory_page old mapping.page
  bytes-kept space number mapping is mapped = ⊎_elim
      (λ (t : mapping.page ≡ 0). rw t (ap (λ (k : Kernel). k.page_zero) rest))
      (λ (real : mapping.page ≢ 0).
      let some = found_owned (forest_of new) space number mapping sound is mapped real in
      let inside = subst (λ size. IsBankPage size mapping.page) (ap (λ (k : Kernel). k.size) rest) (its_page new mapping.page (page_inside new mapping.page good some)) in
      rw (ne_eqb mapping.page 0 real) (bytes mapping.page inside (λ was. some)))
      (cases_eq mapping.page 0)

  pub memory-kept : (space : ℕ) → IsSpace (forest_of new) [] space → map_of (forest_of new).keys space ≡ map_of (forest_of old).keys space → space_memory new space ≡ space_memory old space
  memory-kept space is map = memory-by-map old new space map (λ number mapping mapped. bytes-kept space number mapping is (ap (λ (table : ℕ → Option Mapping). table number) map ∙ mapped))

pub replace_leaves : standing_law.ReplaceLeaves
replace_leaves old new space few map outside trees good replaces =
    let after = replaces.changes outside trees in
    let changes = after.1 in
    record {
      spaces = spaces-same (forest_of old) (forest_of new) space map changes;
      roots = changes.roots;
      memories = λ other is d. memory-kept old new replaces.rest good after.0.held.sound replaces.bytes other (changes.others.stay other is d) (changes.others.maps other is d);
      owned = λ other whose is d.
          pages-in-use whose old new other (changes.others.maps other is d) replaces.owners_now after.0.held.sound (changes.others.stay other is d);
      trees = λ all held. (replaces.changes all held).0;
      inside = λ all held. replaces.inside all;
      filled = replaces.filled;
      rows_now = replaces.rows_now;
      apart_now = replaces.apart_now;
      rest = replaces.rest;
    }

pub piece_leaves : standing_law.PieceLeaves
piece_leaves old new space place bytes owner puts = record {
  spaces = puts.owns.spaces;
  roots = puts.owns.roots;
  memories = puts.others;
  owned = λ other whose is d.
      pages-taken whose owner old new (map_of (forest_of old).keys other) (map_of (forest_of new).keys other) (puts.owns.others other is d) puts.owners_now;
  trees = puts.trees;
  inside = puts.inside;
  filled = puts.filled;
  rows_now = puts.rows_now;
  apart_now = puts.apart_now;
  rest = puts.rest;
}

pub put_leaves : standing_law.PutLeaves
put_leaves old new space place bytes puts = record {
  spaces = puts.spaces;
  roots = puts.roots;
  memories = puts.others;
  owned = λ other whose is d.
      pages-taken whose (owner_for old space) old new (map_of (forest_of old).keys other) (map_of (forest_of new).keys other) (puts.maps other is d) puts.owners_now;
  trees = puts.trees;
  inside = puts.inside;
  filled = puts.filled;
  rows_now = puts.rows_now;
  apart_now = puts.apart_now;
  rest = puts.rest;
}

-- a tree that is another one than the space
tree-left : (old new : Kernel) (space : ℕ) → LeavesSpaces old new space → (inode : Inode) → IsSpace (forest_of old) [] inode.root → inode.root ≢ space
    → IsTreeOf old (pages_owner inode.kind) inode.root inode.length → IsTreeOf new (pages_owner inode.kind) inode.root inode.length
tree-left old new space leaves inode is apart tree = (
  tree-by-memory (forest_of old).keys (forest_of new).keys (memory_page old) (memory_page new) inode.root inode.length
      (leaves.memories inode.root is apart) tree.0,
  leaves.owned inode.root (pages_owner inode.kind) is apart tree.1,
)

-- the space of a process is another one, and trees of files are as they were
but-memory : (old new : Kernel) (space : ℕ) (loose : Loose) → LeavesSpaces old new space → (forest_of old).owner (NodeObject space) ≡ Some OfProcess → BankGood new → AllWhole new.bank
    → StandingBut old loose → StandingBut new loose
but-memory old new space loose leaves owner bank whole standing =
    stands-with old new space loose leaves bank whole standing (roots-with old new space loose leaves bank whole standing
    (λ number inode there tree some is owned file.
    tree-left old new space leaves inode is
    (λ same. let no : Some OfFile ≡ Some OfProcess = sym owned ∙ ap (λ n. (forest_of old).owner (NodeObject n)) same ∙ owner in cc) file))

-- a tree that no inode has is another one
but-tree : (old new : Kernel) (space : ℕ) → LeavesSpaces old new space → BankGood new → AllWhole new.bank → StandingBut old (Tree space) → StandingBut new (Tree space)
but-tree old new space leaves bank whole standing =
    stands-with old new space (Tree space) leaves bank whole standing (roots-with old new space (Tree space) leaves bank whole standing
    (λ number inode there tree some is owned file.
    tree-left old new space leaves inode is
    (not-loose OfFile space (domains old) (forest_of old) (page_owners old) (inodes_of old) standing.is_loose number inode there tree some owned) file))

pub standing_with_loose : law.StandingWithLoose
standing_with_loose old new space OfProcess leaves bank whole standing = but-memory old new space (Space space) leaves standing.is_loose.taken.1 bank whole standing
standing_with_loose old new space OfFile leaves bank whole standing = but-tree old new space leaves bank whole standing

pub standing_with_memory : standing_law.StandingWithMemory
standing_with_memory old new space leaves owner bank whole standing =
    (nothing_loose new).1 (but-memory old new space Nothing leaves owner bank whole ((nothing_loose old).0 standing))

pub standing_with_tree : standing_law.StandingWithTree
standing_with_tree old new space number inode leaves there tree root file pages bank whole standing =
    let but = (nothing_loose old).0 standing in
    (nothing_loose new).1
    (stands-with old new space Nothing leaves bank whole but (roots-with old new space Nothing leaves bank whole but
    (λ other row found has some is owned before. ⊎_elim
    (λ (t : other ≡ number).
    let both : Some inode ≡ Some row = sym there ∙ ap (at (inodes_of old)) (sym t) ∙ found in
    let same : inode ≡ row = cc in
    subst (λ (i : Inode). IsTreeOf new (pages_owner i.kind) i.root i.length) same
    (subst (λ n. IsTreeOf new (pages_owner inode.kind) n inode.length) (sym root) (file, pages)))
    (λ (d : other ≢ number).
    tree-left old new space leaves row is (λ same. d (standing.roots.trees_differ other number row inode found there has tree some (same ∙ sym root))) before)
    (cases_eq other number))))
