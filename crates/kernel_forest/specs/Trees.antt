-- The forest that the tables of the kernel hold: which objects belong to trees, what stands in the nodes that do, how often
-- each is counted, and what names an object beside these nodes.
use Rattle.std.specs.Prelude.{ℕ, ◌+◌, ◌-◌, ◌*◌, ◌<◌, ◌&&◌, ◌==◌, Bool, nat_lt, not, if◌then◌else◌, Option, Some, None, IsSome, is_some, List, [], ◌∷◌, length, ◌≤◌, ⊤}
use Rattle.kn_base.specs.declared.key.Key.{Key}
use Rattle.kn_base.specs.declared.key.Key.TheVariants.{Null, Number, Page, Node, Segment, Start, Resume, Domain, Meter, Service}
use Rattle.kernel_tables.specs.declared.entry.PageOwner.{PageOwner}
use Rattle.kernel_tables.specs.declared.entry.PageOwner.TheVariants.{Memory, File, Directory, Pipe, Buffer}
use Rattle.kernel_tables.specs.declared.entry.NodeOwner.{NodeOwner}
use Rattle.kernel_tables.specs.declared.entry.NodeOwner.TheVariants.{Domain as DomainNode, Tree, FileTree}
use Rattle.kernel_tables.specs.declared.entry.Entry.{Entry}
use Rattle.kernel_tables.specs.declared.entry.Entry.TheVariants.{Free, Taken, Fixed, Unspelled}
use Rattle.kernel_tables.specs.Kernel.{Kernel, first_page}
use Rattle.kernel_tables.specs.Rows.{entry_at, key_table}
use Rattle.space_bank.specs.Shares.{Outside, Shares, key_names_page, key_names_node}
use Rattle.unix_model.specs.Tables.{at, count_below}
use Rattle.forest.specs.Objects.{Object, PageObject, NodeObject, Owner, OfProcess, OfFile, names}
use Rattle.forest.specs.Forest.{Forest, masked, Held}

-- whose tree a page or node of an owner belongs to
abbrev pub page_tree : PageOwner → Option Owner
page_tree Memory = Some OfProcess
page_tree File = Some OfFile
page_tree Directory = Some OfFile
page_tree Pipe = None
page_tree Buffer = None

abbrev pub node_tree : NodeOwner → Option Owner
node_tree DomainNode = None
node_tree Tree = Some OfProcess
node_tree FileTree = Some OfFile

abbrev pub tree_in : {O : Type 0} → (O → Option Owner) → Entry O → Option Owner
tree_in tree (Free next) = None
tree_in tree (Taken owner count) = tree owner
tree_in tree Fixed = None
tree_in tree Unspelled = None

-- whose tree an object belongs to, and how often it is counted
unfoldable pub owner_of : ℕ → List (Entry PageOwner) → List (Entry NodeOwner) → Object → Option Owner
owner_of first pages nodes (PageObject page) = if nat_lt page first then None else tree_in page_tree (entry_at pages (page - first))
owner_of first pages nodes (NodeObject node) = tree_in node_tree (entry_at nodes node)

-- how often an object that belongs to a tree is counted; 0 for all others, so that they make no difference
abbrev pub tree_shares : {O : Type 0} → (O → Option Owner) → Entry O → ℕ
tree_shares tree (Free next) = 0
tree_shares tree (Taken owner count) = if is_some (tree owner) then count else 0
tree_shares tree Fixed = 0
tree_shares tree Unspelled = 0

unfoldable pub count_of : ℕ → List (Entry PageOwner) → List (Entry NodeOwner) → Object → ℕ
count_of first pages nodes (PageObject page) = if nat_lt page first then 0 else tree_shares page_tree (entry_at pages (page - first))
count_of first pages nodes (NodeObject node) = tree_shares node_tree (entry_at nodes node)

-- the forest in the tables
abbrev pub forest_by : ℕ → ℕ → List (Entry PageOwner) → List (Entry NodeOwner) → List (Option Key) → Forest
forest_by first nodes page_entries node_entries keys = record {
  nodes = nodes;
  keys = masked (owner_of first page_entries node_entries) (key_table keys);
  owner = owner_of first page_entries node_entries;
  count = count_of first page_entries node_entries;
}

abbrev pub forest_of : Kernel → Forest
forest_of kernel = forest_by (first_page kernel.size) kernel.nodes kernel.page_entries kernel.node_entries kernel.keys

-- whether a key names an object for the bank, whatever the key is for
abbrev pub raw_names : Object → Key → Bool
raw_names (PageObject page) key = key_names_page page key
raw_names (NodeObject node) key = key_names_node node key

-- the page of zeros and the fixed nodes are not counted
abbrev pub is_counted : Object → Bool
is_counted (PageObject page) = not (page == 0)
is_counted (NodeObject node) = not (nat_lt node 15)

abbrev pub bank_outside : Outside → Object → ℕ
bank_outside outside (PageObject page) = outside.pages page
bank_outside outside (NodeObject node) = outside.nodes node

-- the bank counts the place, and the forest doesn't
abbrev pub is_elsewhere : Object → Key → Key → Bool
is_elsewhere object key in_tree = raw_names object key && not (names object in_tree)

-- how often the keys of nodes name an object beside the parts of trees
unfoldable pub elsewhere : ℕ → (ℕ → Key) → (ℕ → Key) → Object → ℕ
elsewhere nodes keys trees object = count_below (λ place. is_elsewhere object (at keys place) (at trees place)) (16 * nodes)

-- what names an object beside the parts of trees: what is outside for the bank, and the other keys of nodes
unfoldable pub outside_by : ℕ → (ℕ → Key) → (ℕ → Key) → Outside → Object → ℕ
outside_by nodes keys trees outside object = if is_counted object then bank_outside outside object + elsewhere nodes keys trees object else 0

abbrev pub outside_trees : Kernel → Outside → Object → ℕ
outside_trees kernel outside = outside_by kernel.nodes (key_table kernel.keys) (forest_of kernel).keys outside

-- A key by which bank and forest count alike: a part of a tree, or a key that names nothing that is counted.
abbrev pub IsTreeKey : Key → Type 0
IsTreeKey Null = ⊤
IsTreeKey (Number body) = ⊤
IsTreeKey (Page page writable) = ⊤
IsTreeKey (Node node) = node.0 < 15
IsTreeKey (Segment node height) = ⊤
IsTreeKey (Start root byte) = root.0 < 15
IsTreeKey (Resume root count) = root.0 < 15
IsTreeKey (Domain root) = root.0 < 15
IsTreeKey (Meter slot) = ⊤
IsTreeKey (Service code) = ⊤

abbrev pub AreTreeKeys : List Key → Type 0
AreTreeKeys [] = ⊤
AreTreeKeys (key ∷ hand) = IsTreeKey key × AreTreeKeys hand

-- What holds of the trees between steps: the bank's counts are exact, and the forest is held. In hand are keys of trees, and
-- so is each key that stands in a node of a tree. What belongs to a tree is named from outside at most once: so a root, which
-- nothing else names, is counted once.
pub record TreesGood (kernel : Kernel) (outside : Outside) (hand : List Key) : Type 0 where
  pub shares : Shares kernel outside hand
  pub held : Held (forest_of kernel) (outside_trees kernel outside) hand
  pub in_hand : AreTreeKeys hand
  pub short : length hand ≤ 1000
  pub in_trees : (place : ℕ) → IsTreeKey (at (forest_of kernel).keys place)
  pub single : (object : Object) → IsSome ((forest_of kernel).owner object) → outside_trees kernel outside object ≤ 1
