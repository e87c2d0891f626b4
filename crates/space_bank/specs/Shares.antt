-- Share counts: how often each taken object is named.
use Rattle.std.specs.Prelude.{◌≡◌, ℕ, ◌+◌, ◌*◌, ◌<◌, ◌≤◌, ◌==◌, Bool, true, false, Option, Some, None, List, [], ◌∷◌, ◌++◌, ⊤}
use Rattle.std.specs.List.{count_by}
use Rattle.kn_base.specs.declared.key.Key.{Key}
use Rattle.kn_base.specs.declared.key.Key.TheVariants.{Null, Number, Page, Node, Segment, Start, Resume, Domain, Meter, Service}
use Rattle.kn_base.specs.Rows.{part_at}
use Rattle.kernel_tables.specs.declared.entry.PageOwner.{PageOwner}
use Rattle.kernel_tables.specs.declared.entry.NodeOwner.{NodeOwner}
use Rattle.kernel_tables.specs.declared.entry.Entry.{Entry}
use Rattle.kernel_tables.specs.Kernel.{Kernel, first_page}
use Rattle.kernel_tables.specs.Rows.{entry_at}
use Rattle.space_bank.specs.FreeList.{shares}
use Rattle.space_bank.specs.Fixed.{key_in}

-- whether a key names this page
abbrev pub key_names_page : ℕ → Key → Bool
key_names_page id Null = false
key_names_page id (Number body) = false
key_names_page id (Page page writable) = page.0 == id
key_names_page id (Node node) = false
key_names_page id (Segment node height) = false
key_names_page id (Start root byte) = false
key_names_page id (Resume root count) = false
key_names_page id (Domain root) = false
key_names_page id (Meter slot) = false
key_names_page id (Service code) = false

-- whether a key names this node
abbrev pub key_names_node : ℕ → Key → Bool
key_names_node id Null = false
key_names_node id (Number body) = false
key_names_node id (Page page writable) = false
key_names_node id (Node node) = node.0 == id
key_names_node id (Segment node height) = node.0 == id
key_names_node id (Start root byte) = root.0 == id
key_names_node id (Resume root count) = root.0 == id
key_names_node id (Domain root) = root.0 == id
key_names_node id (Meter slot) = false
key_names_node id (Service code) = false

-- what stands at a place names no page and no node that is counted: page 0 and the fixed nodes are not
abbrev pub NamesNothing : Option Key → Type 0
NamesNothing None = ⊤
NamesNothing (Some Null) = ⊤
NamesNothing (Some (Number body)) = ⊤
NamesNothing (Some (Page page writable)) = page.0 ≡ 0
NamesNothing (Some (Node node)) = node.0 < 15
NamesNothing (Some (Segment node height)) = node.0 < 15
NamesNothing (Some (Start root byte)) = root.0 < 15
NamesNothing (Some (Resume root count)) = root.0 < 15
NamesNothing (Some (Domain root)) = root.0 < 15
NamesNothing (Some (Meter slot)) = ⊤
NamesNothing (Some (Service code)) = ⊤

abbrev pub spelled_and : (Key → Bool) → Option Key → Bool
spelled_and test None = false
spelled_and test (Some key) = test key

-- the keys that are spelled at some places
unfoldable pub spelled_keys : List (Option Key) → List Key
spelled_keys [] = []
spelled_keys (None ∷ keys) = spelled_keys keys
spelled_keys (Some key ∷ keys) = key ∷ spelled_keys keys

-- the keys of a node
unfoldable pub node_keys : List (Option Key) → ℕ → List Key
node_keys keys node = spelled_keys (part_at keys (16 * node) 16)

-- how many places of nodes name this page, and this node
unfoldable pub page_places : List (Option Key) → ℕ → ℕ
page_places keys id = count_by (spelled_and (key_names_page id)) keys

unfoldable pub node_places : List (Option Key) → ℕ → ℕ
node_places keys id = count_by (spelled_and (key_names_node id)) keys

-- no key of a node names a page or a node
pub record NoneNamed (keys : List (Option Key)) : Type 0 where
  pub no_page : (id : ℕ) → page_places keys id ≡ 0
  pub no_node : (id : ℕ) → node_places keys id ≡ 0

-- how many keys in hand name them. In hand are the keys that a call holds between places.
unfoldable pub page_in_hand : List Key → ℕ → ℕ
page_in_hand hand id = count_by (key_names_page id) hand

unfoldable pub node_in_hand : List Key → ℕ → ℕ
node_in_hand hand id = count_by (key_names_node id) hand

-- how often something beside the keys of nodes names each page and each node: a word of a table, or a caller
pub record Outside : Type 0 where
  pub pages : ℕ → ℕ
  pub nodes : ℕ → ℕ

-- nothing else names a page or a node
abbrev pub nothing_outside : Outside
nothing_outside = record { pages = λ id. 0; nodes = λ id. 0 }

-- how often a page and a node are named in all
abbrev pub page_names : List (Option Key) → Outside → List Key → ℕ → ℕ
page_names keys outside hand id = page_places keys id + outside.pages id + page_in_hand hand id

abbrev pub node_names : List (Option Key) → Outside → List Key → ℕ → ℕ
node_names keys outside hand id = node_places keys id + outside.nodes id + node_in_hand hand id

-- The stored share count of each object from entry `start` on, below `count`, is the number of times that it is named.
pub record SharesAgree {O : Type 0} (entries : List (Entry O)) (base start count : ℕ) (names : ℕ → ℕ) : Type 0 where
  pub agree : (n : ℕ) → start ≤ n → n < count → shares (entry_at entries n) ≡ names (base + n)

-- Share counts are exact: of each page of the bank, and of each node but the fixed ones, which are not counted.
pub record SharesGood (size nodes : ℕ) (page_entries : List (Entry PageOwner)) (node_entries : List (Entry NodeOwner)) (keys : List (Option Key)) (outside : Outside) (hand : List Key) : Type 0 where
  pub of_pages : SharesAgree page_entries (first_page size) 0 size (page_names keys outside hand)
  pub of_nodes : SharesAgree node_entries 0 15 nodes (node_names keys outside hand)

abbrev pub Shares : Kernel → Outside → List Key → Type 0
Shares kernel outside hand = SharesGood kernel.size kernel.nodes kernel.page_entries kernel.node_entries kernel.keys outside hand

-- Nothing names an object: no place, nothing outside and no key in hand.
pub record Unnamed (places outside in_hand : ℕ) : Type 0 where
  pub no_place : places ≡ 0
  pub none_outside : outside ≡ 0
  pub none_in_hand : in_hand ≡ 0

-- A page was taken: nothing named it, and a key that names it is in hand now.
pub record PutsPageInHand (old new : Kernel) (page : ℕ) : Type 0 where
  pub unnamed : (outside : Outside) (hand : List Key) → Shares old outside hand
      → Unnamed (page_places old.keys page) (outside.pages page) (page_in_hand hand page)
  pub counted : (outside : Outside) (hand : List Key) (key : Key) → key_names_page page key ≡ true
      → Shares old outside hand → Shares new outside (key ∷ hand)

-- likewise a node
pub record PutsNodeInHand (old new : Kernel) (node : ℕ) : Type 0 where
  pub unnamed : (outside : Outside) (hand : List Key) → Shares old outside hand
      → Unnamed (node_places old.keys node) (outside.nodes node) (node_in_hand hand node)
  pub counted : (outside : Outside) (hand : List Key) (key : Key) → key_names_node node key ≡ true
      → Shares old outside hand → Shares new outside (key ∷ hand)

-- A page was given back: the key in hand that named it is gone.
abbrev pub TakesPageOutOfHand : Kernel → Kernel → ℕ → Type 0
TakesPageOutOfHand old new page =
    (outside : Outside) (hand : List Key) (key : Key) → key_names_page page key ≡ true
    → Shares old outside (key ∷ hand) → Shares new outside hand

-- A node was given back: the key in hand that named it is gone, and its own keys are in hand in its place, which is the
-- same as nothing where they name nothing.
pub record TakesNodeOutOfHand (old new : Kernel) (node : ℕ) : Type 0 where
  pub counted : (outside : Outside) (hand : List Key) (key : Key) → key_names_node node key ≡ true
      → Shares old outside (key ∷ hand) → Shares new outside (node_keys old.keys node ++ hand)
  pub nothing : (outside : Outside) (hand : List Key) (key : Key) → key_names_node node key ≡ true
      → ((place : ℕ) → place < 16 → NamesNothing (key_in old.keys node place))
      → Shares old outside (key ∷ hand) → Shares new outside hand
