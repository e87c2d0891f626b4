-- The laws that tie the bank's counts to the forest's, each as one statement.
use Rattle.std.specs.Prelude.{slice_index_or, None, ◌↔◌, ◌≡◌, ◌≢◌, ℕ, ◌-◌, ◌<◌, ◌≤◌, Bool, Some, None, IsSome, List, [], ◌∷◌, ◌+◌, ◌*◌, true}
use Rattle.kn_base.specs.declared.key.Key.{Key}
use Rattle.kn_base.specs.declared.key.Key.TheVariants.{Null, Page, Segment}
use Rattle.kn_base.specs.declared.key.NodeId.{NodeId}
use Rattle.kn_base.specs.declared.key.PageId.{PageId}
use Rattle.kernel_tables.specs.declared.entry.NodeOwner.{NodeOwner}
use Rattle.kernel_tables.specs.declared.entry.NodeOwner.TheVariants.{Domain}
use Rattle.kernel_tables.specs.Kernel.{Kernel, first_page}
use Rattle.kernel_tables.specs.Rows.{entry_at, key_table, of_domain}
use Rattle.kernel_tables.specs.declared.entry.PageOwner.{PageOwner}
use Rattle.space_bank.specs.FreeList.{shares}
use Rattle.space_bank.specs.Bank.{BankGood, TakesPage, TakesNode, page_given, node_given}
use Rattle.space_bank.specs.Changes.{key_written, page_counted, node_counted, ExchangesKeys, PutsPageKeyInHand, PutsNodeKeyInHand, TakesPageKeyOutOfHand, TakesNodeKeyOutOfHand}
use Rattle.space_bank.specs.Laws.{and_outside}
use Rattle.space_bank.specs.Shares.{Outside, Shares, PutsPageInHand, PutsNodeInHand, TakesPageOutOfHand, TakesNodeOutOfHand}
use Rattle.unix_model.specs.Tables.{at}
use Rattle.forest.specs.Objects.{Object, PageObject, NodeObject, Owner}
use Rattle.forest.specs.Walks.{place_of, space_key}
use Rattle.forest.specs.Forest.{Exact, IsSpace}
use Rattle.forest.specs.Changes.{and_outside as and_outside_trees}
use Rattle.kernel_forest.specs.Trees.{forest_of, outside_trees, page_tree, node_tree, IsTreeKey, AreTreeKeys, TreesGood}
use Rattle.kernel_forest.specs.Apart.{KeepsApart}
use Rattle.kernel_tables.specs.declared.entry.Entry.TheVariants.{Taken}
use Rattle.kernel_forest.specs.Moves.{RaisesKey, PutsKey, TakesFresh, TakesFreshPage, LowersKey, TakesRow, PutsRow, GivesRow}
use Rattle.kernel_forest.specs.Releases.{InHand, Lets}

-- Where the bank's counts are exact, so are the forest's, with the same keys in hand.
abbrev pub BankIsExact : Type 0
BankIsExact =
    (kernel : Kernel) (outside : Outside) (hand : List Key)
    → BankGood kernel → AreTreeKeys hand → Shares kernel outside hand
    → Exact (forest_of kernel) (outside_trees kernel outside) hand

-- Where nothing belongs to a tree, as in an empty bank, all that holds of trees holds.
abbrev pub EmptyIsGood : Type 0
EmptyIsGood =
    (kernel : Kernel) (outside : Outside) → ((object : Object) → (forest_of kernel).owner object ≡ None)
    → Shares kernel outside [] → TreesGood kernel outside []

-- So all of it holds in a bank of which nothing is taken.
abbrev pub UntakenIsGood : Type 0
UntakenIsGood =
    (kernel : Kernel) (outside : Outside) → BankGood kernel → kernel.machine.pages_taken ≡ 0 → kernel.machine.nodes_taken ≡ 0
    → Shares kernel outside [] → TreesGood kernel outside []

-- A root, which no key of a tree names, is counted once.
abbrev pub RootIsSingle : Type 0
RootIsSingle =
    (kernel : Kernel) (outside : Outside) (hand : List Key) (space : ℕ)
    → TreesGood kernel outside hand → IsSpace (forest_of kernel) hand space → (forest_of kernel).count (NodeObject space) ≡ 1

-- The key of a space that is handed out is one key more outside for the bank, and for the forest.
abbrev pub SpaceHandedOut : Type 0
SpaceHandedOut =
    (kernel : Kernel) (outside : Outside) (space : ℕ) → 15 ≤ space
    → outside_trees kernel (and_outside outside (space_key space)) ≡ and_outside_trees (outside_trees kernel outside) (space_key space)

-- A node is taken for a tree, ..
abbrev pub TakesTreeNode : Type 0
TakesTreeNode =
    (old new : Kernel) (node : NodeId) (owner : NodeOwner) (to : Owner)
    → BankGood old → node_tree owner ≡ Some to → TakesNode old new node.0 owner → PutsNodeInHand old new node.0
    → TakesFresh old new node.0 to

-- .. or for a domain.
abbrev pub TakesDomainNode : Type 0
TakesDomainNode =
    (old new : Kernel) (node : ℕ)
    → BankGood old → TakesNode old new node Domain → PutsNodeInHand old new node → TakesRow old new node

-- A page is taken for a tree.
abbrev pub TakesTreePage : Type 0
TakesTreePage =
    (old new : Kernel) (page : ℕ) (owner : PageOwner) (to : Owner)
    → BankGood old → page_tree owner ≡ Some to → TakesPage old new page owner → PutsPageInHand old new page
    → TakesFreshPage old new page owner to

-- What a key of a tree names is counted once more: a page, or a node.
abbrev pub RaisesPage : Type 0
RaisesPage =
    (old new : Kernel) (page : PageId) (writable : Bool)
    → BankGood old → page.0 ≢ 0 → IsSome ((forest_of old).owner (PageObject page.0))
    → new ≡ page_counted old (page.0 - first_page old.size) (shares (entry_at old.page_entries (page.0 - first_page old.size)) + 1)
    → PutsPageKeyInHand old new page.0 → RaisesKey old new (Page page writable)

abbrev pub RaisesNode : Type 0
RaisesNode =
    (old new : Kernel) (node : NodeId) (height : ℕ)
    → IsSome ((forest_of old).owner (NodeObject node.0))
    → new ≡ node_counted old node.0 (shares (entry_at old.node_entries node.0) + 1)
    → PutsNodeKeyInHand old new node.0 → RaisesKey old new (Segment node height)

-- A node of a tree is counted once less, ..
abbrev pub CountsNodeLess : Type 0
CountsNodeLess =
    (old new : Kernel) (node : NodeId) (height : ℕ)
    → IsSome ((forest_of old).owner (NodeObject node.0))
    → new ≡ node_counted old node.0 (shares (entry_at old.node_entries node.0) - 1)
    → TakesNodeKeyOutOfHand old new node.0 → LowersKey old new (Segment node height)

-- .. and a page of a tree.
abbrev pub CountsPageLess : Type 0
CountsPageLess =
    (old new : Kernel) (page : PageId) (writable : Bool)
    → BankGood old → page.0 ≢ 0 → IsSome ((forest_of old).owner (PageObject page.0))
    → new ≡ page_counted old (page.0 - first_page old.size) (shares (entry_at old.page_entries (page.0 - first_page old.size)) - 1)
    → TakesPageKeyOutOfHand old new page.0 → LowersKey old new (Page page writable)

-- A node of a domain is given back, once its keys are Null.
abbrev pub GivesDomainNode : Type 0
GivesDomainNode =
    (old new : Kernel) (node : ℕ)
    → BankGood old → node < old.nodes → of_domain (entry_at old.node_entries node) ≡ true
    → ((place : ℕ) → place < 16 → key_table old.keys (16 * node + place) ≡ Null)
    → new ≡ node_given old node → GivesRow old new node

-- A key is written in a node of a tree, ..
abbrev pub WritesTreeKey : Type 0
WritesTreeKey =
    (old new : Kernel) (node digit : ℕ) (key : Key)
    → BankGood old → IsSome ((forest_of old).owner (NodeObject node)) → digit < 16
    → IsTreeKey key → IsTreeKey (at (forest_of old).keys (place_of node digit))
    → new ≡ key_written old node digit key → ExchangesKeys old new node digit key
    → PutsKey old new (place_of node digit) key

-- .. or in one of a domain, or a fixed one.
abbrev pub WritesRow : Type 0
WritesRow =
    (old new : Kernel) (node place : ℕ) (key : Key)
    → BankGood old → node < old.nodes → (forest_of old).owner (NodeObject node) ≡ None → place < 16
    → new ≡ key_written old node place key → ExchangesKeys old new node place key
    → PutsRow old new node place key

-- What a key in hand names is counted less often, or given back: a page, ..
abbrev pub LowersPage : Type 0
LowersPage =
    (old new : Kernel) (page : PageId) (writable : Bool)
    → BankGood old → page.0 ≢ 0 → InHand old (Page page writable ∷ [])
    → 2 ≤ shares (entry_at old.page_entries (page.0 - first_page old.size))
    → new ≡ page_counted old (page.0 - first_page old.size) (shares (entry_at old.page_entries (page.0 - first_page old.size)) - 1)
    → TakesPageKeyOutOfHand old new page.0 → Lets old new (Page page writable ∷ []) []

abbrev pub GivesPage : Type 0
GivesPage =
    (old new : Kernel) (page : PageId) (writable : Bool)
    → BankGood old → page.0 ≢ 0 → InHand old (Page page writable ∷ [])
    → shares (entry_at old.page_entries (page.0 - first_page old.size)) ≡ 1
    → new ≡ page_given old (page.0 - first_page old.size) → TakesPageOutOfHand old new page.0
    → Lets old new (Page page writable ∷ []) []

-- .. or a node, given back where it is empty.
abbrev pub LowersNode : Type 0
LowersNode =
    (old new : Kernel) (node : NodeId) (height : ℕ)
    → InHand old (Segment node height ∷ []) → (forest_of old).count (NodeObject node.0) ≢ 1
    → LowersKey old new (Segment node height) → Lets old new (Segment node height ∷ []) []

abbrev pub GivesNode : Type 0
GivesNode =
    (old new : Kernel) (node : NodeId) (height : ℕ)
    → BankGood old → InHand old (Segment node height ∷ [])
    → ((digit : ℕ) → digit < 16 → at (forest_of old).keys (place_of node.0 digit) ≡ Null)
    → (forest_of old).count (NodeObject node.0) ≡ 1
    → new ≡ node_given old node.0 → TakesNodeOutOfHand old new node.0
    → Lets old new (Segment node height ∷ []) []

-- What is taken for something else than a tree stays so, with its count, and nothing else comes to be: a page, which keeps its
-- bytes, ..
abbrev pub PageStaysApart : Type 0
PageStaysApart =
    (old new : Kernel) (n : ℕ) (owner : PageOwner) (count : ℕ) → KeepsApart old new → page_tree owner ≡ None
    → ((entry_at old.page_entries n ≡ Taken owner count) ↔ (entry_at new.page_entries n ≡ Taken owner count))
    × (entry_at old.page_entries n ≡ Taken owner count → slice_index_or new.bank n [] ≡ slice_index_or old.bank n [])

-- .. or a node.
abbrev pub NodeStaysApart : Type 0
NodeStaysApart =
    (old new : Kernel) (n : ℕ) (owner : NodeOwner) (count : ℕ) → KeepsApart old new → node_tree owner ≡ None
    → (entry_at old.node_entries n ≡ Taken owner count) ↔ (entry_at new.node_entries n ≡ Taken owner count)
