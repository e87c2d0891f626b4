-- What stands goes along with a space that is added: it is loose.
use Rattle.std.proofs.Common.{◌≡◌, ◌≢◌, ℕ, Option, Some, None, true, false, List, [], refl, sym, ap, subst, ◌∙◌, ⊎_elim}
use Rattle.std.specs.Option.{is_some}
use Rattle.std.proofs.lemmas.Bool.{cases_eq}
use Rattle.kn_base.specs.declared.key.Key.{Key}
use Rattle.kernel_tables.specs.declared.entry.PageOwner.{PageOwner}
use Rattle.kernel_tables.specs.declared.entry.PageOwner.TheVariants.{File as FilePage, Directory, Buffer, Pipe as PipePage}
use Rattle.kernel_tables.specs.declared.inode.Inode.{Inode}
use Rattle.kernel_tables.specs.declared.inode.InodeKind.{InodeKind}
use Rattle.kernel_tables.specs.declared.inode.InodeKind.TheVariants.{File, Dir, Pipe, Console}
use Rattle.kernel_tables.specs.declared.row.Row.{Row}
use Rattle.kernel_tables.specs.Kernel.{Kernel, memory_page}
use Rattle.kernel_tables.specs.Rows.{domain_rows, of_domain}
use Rattle.space_bank.specs.Bank.{BankGood}
use Rattle.space_bank.specs.Laws.{and_outside}
use Rattle.space_bank.specs.Shares.{Outside}
use Rattle.forest.specs.Calls.{AddsSpace}
use Rattle.forest.specs.Forest.{IsSpace, NoPageOutside}
use Rattle.forest.specs.Objects.{PageObject, NodeObject, Owner, OfProcess, OfFile}
use Rattle.forest.specs.Walks.{Mapping, map_of, place_of, space_key}
use Rattle.kernel_forest.specs.Owners.{page_owners, PagesAreOf}
use Rattle.kernel_forest.specs.Trees.{forest_of, outside_trees, page_tree, TreesGood}
use Rattle.kernel_forest.proofs.Owners.{pages-kept}
use Rattle.kernel_forest.proofs.RowLaws.{domains_apart}
use Rattle.file_tables.specs.Roots.{named_by}
use Rattle.unix_model.specs.Tables.{at}
use Rattle.user_copy.specs.SpaceMemory.{memory_by}
use Rattle.seg_tree.specs.Promises.{Adds}
use Rattle.domain.specs.Domains.{Domain, domains, domain_at}
use Rattle.domain.specs.Rules.{RowsGood}
use Rattle.kernel_machine.specs.Loose as law
use Rattle.kernel_machine.specs.Loose.{Loose, Nothing, Space, Tree, loose_key, word_of, owned_space, keeper_of, IsTaken, IsLoose, HeldBut, StandingBut, outside_with}
use Rattle.kernel_machine.specs.Machine.{inodes_of}
use Rattle.kernel_machine.specs.Processes.{HoldingsGood}
use Rattle.kernel_machine.specs.Standing.{Standing}
use Rattle.kernel_machine.specs.Trees.{IsFileTree, IsRootOf, RootsGood, KeepersGood}
use Rattle.kernel_machine.proofs.KeepLaws.{outside-more}
use Rattle.kernel_machine.proofs.LooseLaws.{word-no-space, word-tree}
use Rattle.kernel_machine.proofs.MemoryLaws.{tree-of}
use Rattle.kernel_machine.proofs.SpacesStand.{nodes-kept, owner-kept, tree-by-memory}

-- a space's key outside names no page
pub page-outside : (kernel : Kernel) (outside : Outside) (space page : ℕ) → outside_trees kernel (and_outside outside (space_key space)) (PageObject page) ≡ outside_trees kernel outside (PageObject page)
page-outside kernel outside space page = outside-more kernel outside (space_key space) (PageObject page) (λ counted. refl)

owned-key : (owner : Owner) (space : ℕ) → loose_key (owned_space owner space) ≡ space_key space
owned-key OfProcess space = refl
owned-key OfFile space = refl

pub outside-owned : (kernel : Kernel) (owner : Owner) (space : ℕ) → outside_with kernel (owned_space owner space) ≡ and_outside (named_by kernel.inodes) (space_key space)
outside-owned kernel owner space = ap (and_outside (named_by kernel.inodes)) (owned-key owner space)

module _ (old new : Kernel) (space : ℕ) (owner : Owner) (map : ℕ → Option Mapping) (adds : Adds old new space (Some owner) (keeper_of owner) map) (bank : BankGood new) (standing : Standing old) where
  added : TreesGood new (and_outside (named_by old.inodes) (space_key space)) [] × AddsSpace (forest_of old) (forest_of new) space map
  added = adds.adds (named_by old.inodes) standing.trees

  inodes-same : new.inodes ≡ old.inodes
  inodes-same = ap (λ (k : Kernel). k.inodes) adds.rest

  there-same : inodes_of new ≡ inodes_of old
  unfolding inodes_of
  there-same = ap inodes_of adds.rest

  bytes-same : memory_page new ≡ memory_page old
  bytes-same = ap memory_page adds.rest

  rows-same : domain_rows new ≡ domain_rows old
  rows-same = adds.rows_now of_domain domains_apart

  domains-same : domains new ≡ domains old
  domains-same = ap domain_at rows-same

  -- spaces, and who owns pages
  not-space : (other : ℕ) → IsSpace (forest_of old) [] other → other ≢ space
  not-space other is same =
      let no : true ≡ false = sym is.owned ∙ ap (λ n. is_some ((forest_of old).owner (NodeObject n))) same ∙ ap is_some added.1.fresh in cc

  space-now : (other : ℕ) (whose : Owner) → IsSpace (forest_of old) [] other × ((forest_of old).owner (NodeObject other) ≡ Some whose) → IsSpace (forest_of new) [] other × ((forest_of new).owner (NodeObject other) ≡ Some whose)
  space-now other whose was =
      let now = added.1.others.stay other was.0 (not-space other was.0) in (now, (added.1.roots other now (not-space other was.0)).owner ∙ was.1)

  size-same : new.size ≡ old.size
  size-same = ap (λ (k : Kernel). k.size) adds.rest

  owned-now : (page : ℕ) (whose : PageOwner) → page_tree whose ≡ None → at (page_owners old) page ≡ Some whose → at (page_owners new) page ≡ Some whose
  owned-now page whose none owned = owner-kept old new page whose size-same adds.apart_now none owned

  owned-before : (page : ℕ) (whose : PageOwner) → page_tree whose ≡ None → at (page_owners new) page ≡ Some whose → at (page_owners old) page ≡ Some whose
  owned-before page whose none owned = owner-kept new old page whose (sym size-same) (sym adds.apart_now) none owned

  -- the new one, by its owner
  other-space : (held : ℕ) → (forest_of new).owner (NodeObject held) ≡ Some OfProcess → owned_space owner space ≢ Space held → held ≢ space
  other-space held owned apart same = apart (by-owner owner (let both : Some owner ≡ Some OfProcess = sym adds.owned ∙ ap (λ n. (forest_of new).owner (NodeObject n)) (sym same) ∙ owned in let e : owner ≡ OfProcess = cc in e))
    where
      by-owner : (whose : Owner) → whose ≡ OfProcess → owned_space whose space ≡ Space held
      by-owner OfProcess e = ap Space (sym same)
      by-owner OfFile e = cc

  other-tree : (held : ℕ) → (forest_of new).owner (NodeObject held) ≡ Some OfFile → owned_space owner space ≢ Tree held → held ≢ space
  other-tree held owned apart same = apart (by-owner owner (let both : Some owner ≡ Some OfFile = sym adds.owned ∙ ap (λ n. (forest_of new).owner (NodeObject n)) (sym same) ∙ owned in let e : owner ≡ OfFile = cc in e))
    where
      by-owner : (whose : Owner) → whose ≡ OfFile → owned_space whose space ≡ Tree held
      by-owner OfProcess e = cc
      by-owner OfFile e = ap Tree (sym same)

  holdings-good : HoldingsGood (domains old) (forest_of new) (page_owners new)
  holdings-good =
      record {
        spaces = λ root held has. space-now held OfProcess (standing.holdings.spaces root held has);
        buffers = λ root page has. owned-now page Buffer refl (standing.holdings.buffers root page has);
        spaces_differ = standing.holdings.spaces_differ;
        buffers_differ = standing.holdings.buffers_differ;
      }

  held-good : HeldBut (owned_space owner space) (domains old) (forest_of new) (page_owners new) (inodes_of old)
  held-good =
      record {
        spaces = λ held is owned apart. let root_now = added.1.roots held is (other-space held owned apart) in standing.held.spaces held root_now.was (sym root_now.owner ∙ owned);
        trees = λ held is owned apart. let root_now = added.1.roots held is (other-tree held owned apart) in standing.held.trees held root_now.was (sym root_now.owner ∙ owned);
        buffers = λ page owned. standing.held.buffers page (owned-before page Buffer refl owned);
        pipes = λ page owned apart. standing.held.pipes page (owned-before page PipePage refl owned);
      }

  loose-good : IsLoose (owned_space owner space) (domains old) (forest_of new) (page_owners new) (inodes_of old)
  loose-good =
      record {
        taken = taken owner adds.owned;
        no_space = λ root held has same. not-space held (standing.holdings.spaces root held has).0 (named-space owner held same);
        no_root = λ number inode there same. no-root owner number inode there same;
      }
    where
      taken : (whose : Owner) → (forest_of new).owner (NodeObject space) ≡ Some whose → IsTaken (forest_of new) (page_owners new) (owned_space whose space)
      taken OfProcess owned = (added.1.is_space, owned)
      taken OfFile owned = (added.1.is_space, owned)

      named-space : (whose : Owner) (held : ℕ) → owned_space whose space ≡ Space held → held ≡ space
      named-space OfProcess held e = let same : space ≡ held = cc in sym same
      named-space OfFile held e = cc

      no-root : (whose : Owner) (number : ℕ) (inode : Inode) → at (inodes_of old) number ≡ Some inode → word_of inode.kind inode.root ≡ owned_space whose space → owned_space whose space ≡ Nothing
      no-root OfProcess number inode there e = absurd (word-no-space inode.kind inode.root space e)
      no-root OfFile number inode there e =
          let w = word-tree inode.kind inode.root space e in
          absurd (not-space inode.root (tree-of (forest_of old) (memory_page old) (page_owners old) inode inode.kind (standing.roots.each number inode there) w.0 w.1).0 w.2)

  keepers-good : KeepersGood (forest_of new)
  keepers-good =
      record {
        of_process = λ held is owned. ⊎_elim
            (λ (t : held ≡ space).
            let both : Some owner ≡ Some OfProcess = sym adds.owned ∙ ap (λ n. (forest_of new).owner (NodeObject n)) (sym t) ∙ owned in
            let e : owner ≡ OfProcess = cc in
            ap (λ n. at (forest_of new).keys (place_of n 15)) t ∙ adds.its_keeper ∙ ap keeper_of e)
            (λ (d : held ≢ space). let root_now = added.1.roots held is d in root_now.keeper ∙ standing.keepers.of_process held root_now.was (sym root_now.owner ∙ owned))
            (cases_eq held space);
        of_file = λ held is owned. ⊎_elim
            (λ (t : held ≡ space).
            let both : Some owner ≡ Some OfFile = sym adds.owned ∙ ap (λ n. (forest_of new).owner (NodeObject n)) (sym t) ∙ owned in
            let e : owner ≡ OfFile = cc in
            ap (λ n. at (forest_of new).keys (place_of n 15)) t ∙ adds.its_keeper ∙ ap keeper_of e)
            (λ (d : held ≢ space). let root_now = added.1.roots held is d in root_now.keeper ∙ standing.keepers.of_file held root_now.was (sym root_now.owner ∙ owned))
            (cases_eq held space);
      }

  roots-good : RootsGood (forest_of new) (memory_page old) (page_owners new) (inodes_of old)
  roots-good =
      record {
        each = λ number inode found. root-now inode inode.kind (standing.roots.each number inode found);
        trees_differ = standing.roots.trees_differ;
        pipes_differ = standing.roots.pipes_differ;
      }
    where
      tree-now : (inode : Inode) → IsSpace (forest_of old) [] inode.root → IsFileTree (forest_of old).keys (memory_page old) inode.root inode.length → IsFileTree (forest_of new).keys (memory_page old) inode.root inode.length
      tree-now inode is tree =
          tree-by-memory (forest_of old).keys (forest_of new).keys (memory_page old) (memory_page old) inode.root inode.length
          (ap (memory_by (memory_page old)) (added.1.others.maps inode.root is (not-space inode.root is))) tree

      pages-now : (whose : PageOwner) (inode : Inode) → IsSpace (forest_of old) [] inode.root
          → PagesAreOf whose (page_owners old) (map_of (forest_of old).keys inode.root)
          → PagesAreOf whose (page_owners new) (map_of (forest_of new).keys inode.root)
      pages-now whose inode is =
          pages-kept whose old new (map_of (forest_of old).keys inode.root) (map_of (forest_of new).keys inode.root)
          (added.1.others.maps inode.root is (not-space inode.root is)) adds.owners_now

      root-now : (inode : Inode) (kind : InodeKind) → IsRootOf (forest_of old) (memory_page old) (page_owners old) inode kind → IsRootOf (forest_of new) (memory_page old) (page_owners new) inode kind
      root-now inode File is = λ some.
          let h = is some in
          let now = space-now inode.root OfFile (h.0, h.1) in (now.0, now.1, tree-now inode h.0 h.2, pages-now FilePage inode h.0 h.3)
      root-now inode Dir is = λ some.
          let h = is some in
          let now = space-now inode.root OfFile (h.0, h.1) in (now.0, now.1, tree-now inode h.0 h.2, pages-now Directory inode h.0 h.3)
      root-now inode Pipe is = owned-now inode.root PipePage refl is
      root-now inode Console is = is

  outside-same : outside_with new (owned_space owner space) ≡ and_outside (named_by old.inodes) (space_key space)
  outside-same = outside-owned new owner space ∙ ap (λ (rows : List (Row Inode)). and_outside (named_by rows) (space_key space)) inodes-same

  space-stands : StandingBut new (owned_space owner space)
  space-stands =
      record {
        bank = bank;
        whole = rw (ap (λ (k : Kernel). k.bank) adds.rest) standing.whole;
        unused = rw (ap (λ (k : Kernel). k.page_zero) adds.rest, ap (λ (k : Kernel). k.other_words) adds.rest) standing.unused;
        trees = subst (λ (outside : Outside). TreesGood new outside []) (sym outside-same) added.0;
        pages_inside = subst (λ (outside : Outside). NoPageOutside (forest_of new) (outside_trees new outside)) (sym outside-same)
            (λ page some. page-outside new (named_by old.inodes) space page ∙ adds.inside (named_by old.inodes) standing.pages_inside page some);
        filled = adds.filled standing.filled;
        rows = subst RowsGood (sym rows-same) standing.rows;
        nodes_held = nodes-kept old new rows-same adds.apart_now standing.nodes_held;
        inodes = rw inodes-same standing.inodes;
        descriptions = rw (ap (λ (k : Kernel). k.descriptions) adds.rest) standing.descriptions;
        holdings = subst (λ (table : ℕ → Domain). HoldingsGood table (forest_of new) (page_owners new)) (sym domains-same) holdings-good;
        roots = subst (λ (table : ℕ → Option Inode). RootsGood (forest_of new) (memory_page new) (page_owners new) table) (sym there-same)
            (subst (λ (bytes : ℕ → List ℕ). RootsGood (forest_of new) bytes (page_owners new) (inodes_of old)) (sym bytes-same) roots-good);
        keepers = keepers-good;
        held = subst (λ (table : ℕ → Domain). HeldBut (owned_space owner space) table (forest_of new) (page_owners new) (inodes_of new)) (sym domains-same)
            (subst (λ (table : ℕ → Option Inode). HeldBut (owned_space owner space) (domains old) (forest_of new) (page_owners new) table) (sym there-same) held-good);
        is_loose = subst (λ (table : ℕ → Domain). IsLoose (owned_space owner space) table (forest_of new) (page_owners new) (inodes_of new)) (sym domains-same)
            (subst (λ (table : ℕ → Option Inode). IsLoose (owned_space owner space) (domains old) (forest_of new) (page_owners new) table) (sym there-same) loose-good);
      }

pub standing_with_space : law.StandingWithSpace
standing_with_space old new space owner whose key map adds is its bank standing =
    space-stands old new space owner map
    (subst (λ (k : Key). Adds old new space (Some owner) k map) its (subst (λ (o : Option Owner). Adds old new space o key map) is adds)) bank standing
