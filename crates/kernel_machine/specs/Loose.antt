-- What stands while one thing is loose: a space, the tree of a file or the page of a pipe is taken, and no domain and no inode has it
-- yet, or has it any more. So they come and go, each law as one statement.
use Rattle.std.specs.Prelude.{◌≡◌, ◌≢◌, ◌↔◌, ◌<◌, ◌-◌, ◌==◌, if◌then◌else◌, ℕ, true, Option, Some, None, [], length, slice_set, ⊤}
use Rattle.kn_base.specs.declared.key.Key.{Key}
use Rattle.kn_base.specs.declared.key.Key.TheVariants.{Null}
use Rattle.kernel_tables.specs.declared.entry.PageOwner.{PageOwner}
use Rattle.kernel_tables.specs.declared.entry.PageOwner.TheVariants.{Buffer, Pipe as PipePage}
use Rattle.kernel_tables.specs.declared.inode.Inode.{Inode}
use Rattle.kernel_tables.specs.declared.inode.InodeKind.{InodeKind}
use Rattle.kernel_tables.specs.declared.inode.InodeKind.TheVariants.{File, Dir, Pipe, Console}
use Rattle.kernel_tables.specs.declared.row.Row.{Row}
use Rattle.kernel_tables.specs.declared.row.Row.TheVariants.{Free, Used, Unspelled}
use Rattle.kernel_tables.specs.Kernel.{Kernel, inode_at, first_page, memory_page}
use Rattle.kernel_tables.specs.Rows.{domain_rows}
use Rattle.space_bank.specs.Bank.{BankGood, TakesPage, page_given}
use Rattle.space_bank.specs.Fixed.{UnusedGood}
use Rattle.space_bank.specs.Laws.{and_outside}
use Rattle.space_bank.specs.Shares.{Outside, PutsPageInHand, TakesPageOutOfHand}
use Rattle.forest.specs.Forest.{Forest, IsSpace, NoneEmpty, NoPageOutside}
use Rattle.forest.specs.Objects.{NodeObject, Owner, OfFile, OfProcess}
use Rattle.forest.specs.Walks.{Mapping, space_key}
use Rattle.kernel_forest.specs.Owners.{page_owners}
use Rattle.kernel_forest.specs.Trees.{forest_of, outside_trees, TreesGood}
use Rattle.file_tables.specs.Numbers.{TakesInode}
use Rattle.file_tables.specs.Roots.{named_by, pipe_key, ExchangesRoots}
use Rattle.file_tables.specs.Rows.{InodesGood, DescriptionsGood}
use Rattle.seg_tree.specs.Promises.{Adds, Drops}
use Rattle.domain.specs.Domains.{Domain, domains}
use Rattle.domain.specs.Keys.{key_of_space}
use Rattle.domain.specs.Life.{MakesDomain}
use Rattle.domain.specs.Rules.{RowsGood}
use Rattle.domain.specs.Sets.{HandsOver}
use Rattle.unix_model.specs.Tables.{at, with_at}
use Rattle.kernel_machine.specs.Held.{AllWhole, NodesHeld}
use Rattle.kernel_machine.specs.Machine.{inodes_of}
use Rattle.kernel_machine.specs.Processes.{HoldingsGood}
use Rattle.kernel_machine.specs.Standing.{Standing, LeavesSpaces}
use Rattle.kernel_machine.specs.Trees.{HasTree, IsRootOf, RootsGood, KeepersGood, keeper}

-- what is loose: nothing, the space of a process, the tree of a file or directory, or the page of a pipe
pub data Loose : Type 0 where
  Nothing : Loose
  Space : (space : ℕ) → Loose
  Tree : (root : ℕ) → Loose
  Ring : (page : ℕ) → Loose

-- its one key, which is outside of trees
abbrev pub loose_key : Loose → Key
loose_key Nothing = Null
loose_key (Space space) = space_key space
loose_key (Tree root) = space_key root
loose_key (Ring page) = pipe_key page

-- it is taken
abbrev pub IsTaken : Forest → (ℕ → Option PageOwner) → Loose → Type 0
IsTaken forest page_owner Nothing = ⊤
IsTaken forest page_owner (Space space) = IsSpace forest [] space × (forest.owner (NodeObject space) ≡ Some OfProcess)
IsTaken forest page_owner (Tree root) = IsSpace forest [] root × (forest.owner (NodeObject root) ≡ Some OfFile)
IsTaken forest page_owner (Ring page) = at page_owner page ≡ Some PipePage

-- what a domain and the row of an inode have, as something that they may give up
abbrev pub space_of : Option ℕ → Loose
space_of None = Nothing
space_of (Some space) = Space space

abbrev pub word_of : InodeKind → ℕ → Loose
word_of File root = if root == 0 then Nothing else Tree root
word_of Dir root = if root == 0 then Nothing else Tree root
word_of Pipe root = if root == 0 then Nothing else Ring root
word_of Console root = Nothing

abbrev pub root_of : Row Inode → Loose
root_of Free = Nothing
root_of (Used inode) = word_of inode.kind inode.root
root_of Unspelled = Nothing

-- it is taken, and no domain and no inode has it
pub record IsLoose (loose : Loose) (domains : ℕ → Domain) (forest : Forest) (page_owner : ℕ → Option PageOwner) (inodes : ℕ → Option Inode) : Type 0 where
  pub taken : IsTaken forest page_owner loose
  pub no_space : (root space : ℕ) → (at domains root).space ≡ Some space → loose ≢ Space space
  pub no_root : (number : ℕ) (inode : Inode) → at inodes number ≡ Some inode → word_of inode.kind inode.root ≡ loose → loose ≡ Nothing

-- all else is held
pub record HeldBut (loose : Loose) (domains : ℕ → Domain) (forest : Forest) (page_owner : ℕ → Option PageOwner) (inodes : ℕ → Option Inode) : Type 0 where
  pub spaces : (space : ℕ) → IsSpace forest [] space → forest.owner (NodeObject space) ≡ Some OfProcess → loose ≢ Space space
      → (root : ℕ) × ((at domains root).live ≡ true) × ((at domains root).space ≡ Some space)
  pub trees : (space : ℕ) → IsSpace forest [] space → forest.owner (NodeObject space) ≡ Some OfFile → loose ≢ Tree space
      → (number : ℕ) × (inode : Inode) × (at inodes number ≡ Some inode) × HasTree inode.kind × (inode.root ≡ space)
  pub buffers : (page : ℕ) → at page_owner page ≡ Some Buffer → (root : ℕ) × ((at domains root).live ≡ true) × ((at domains root).buffer ≡ Some page)
  pub pipes : (page : ℕ) → at page_owner page ≡ Some PipePage → loose ≢ Ring page
      → (number : ℕ) × (inode : Inode) × (at inodes number ≡ Some inode) × (inode.kind ≡ Pipe) × (inode.root ≡ page)

-- what names trees from outside, beside the nodes of domains: the table of inodes, and what is loose
abbrev pub outside_with : Kernel → Loose → Outside
outside_with kernel loose = and_outside (named_by kernel.inodes) (loose_key loose)

-- All stands, but that one thing is loose.
pub record StandingBut (kernel : Kernel) (loose : Loose) : Type 0 where
  pub bank : BankGood kernel
  pub whole : AllWhole kernel.bank
  pub unused : UnusedGood kernel.page_zero kernel.other_words
  pub trees : TreesGood kernel (outside_with kernel loose) []
  pub pages_inside : NoPageOutside (forest_of kernel) (outside_trees kernel (outside_with kernel loose))
  pub filled : NoneEmpty (forest_of kernel).keys
  pub rows : RowsGood (domain_rows kernel)
  pub nodes_held : NodesHeld (domain_rows kernel) kernel.node_entries
  pub inodes : InodesGood kernel.inodes
  pub descriptions : DescriptionsGood kernel.descriptions
  pub holdings : HoldingsGood (domains kernel) (forest_of kernel) (page_owners kernel)
  pub roots : RootsGood (forest_of kernel) (memory_page kernel) (page_owners kernel) (inodes_of kernel)
  pub keepers : KeepersGood (forest_of kernel)
  pub held : HeldBut loose (domains kernel) (forest_of kernel) (page_owners kernel) (inodes_of kernel)
  pub is_loose : IsLoose loose (domains kernel) (forest_of kernel) (page_owners kernel) (inodes_of kernel)

-- Where nothing is loose, all stands.
abbrev pub NothingLoose : Type 0
NothingLoose = (kernel : Kernel) → Standing kernel ↔ StandingBut kernel Nothing

-- ---- spaces

-- a space of an owner as something loose, and the key that it has for its keeper
abbrev pub owned_space : Owner → ℕ → Loose
owned_space OfProcess space = Space space
owned_space OfFile space = Tree space

abbrev pub keeper_of : Owner → Key
keeper_of OfProcess = keeper
keeper_of OfFile = Null

-- A space was added: an empty one, or one with the map of another one.
abbrev pub StandingWithSpace : Type 0
StandingWithSpace =
    (old new : Kernel) (space : ℕ) (owner : Owner) (whose : Option Owner) (key : Key) (map : ℕ → Option Mapping)
    → Adds old new space whose key map → whose ≡ Some owner → key ≡ keeper_of owner → BankGood new → Standing old
    → StandingBut new (owned_space owner space)

-- The loose space or tree is another one now, and all others are left.
abbrev pub StandingWithLoose : Type 0
StandingWithLoose =
    (old new : Kernel) (space : ℕ) (owner : Owner)
    → LeavesSpaces old new space → BankGood new → AllWhole new.bank
    → StandingBut old (owned_space owner space) → StandingBut new (owned_space owner space)

-- The space of a domain was set, or taken away: the one that was loose is the domain's, and the one that it had is loose.
abbrev pub StandingWithSpaceSet : Type 0
StandingWithSpaceSet =
    (old new : Kernel) (root : ℕ) (space : Option ℕ)
    → HandsOver old new (key_of_space space) (key_of_space (at (domains old) root).space)
    → domains new ≡ with_at (domains old) root (record (at (domains old) root) { space = space })
    → (at (domains old) root).live ≡ true → BankGood new → RowsGood (domain_rows new)
    → StandingBut old (space_of space) → StandingBut new (space_of (at (domains old) root).space)

-- A domain was made whose space was loose.
abbrev pub StandingWithDomain : Type 0
StandingWithDomain =
    (old new : Kernel) (slot space root : ℕ)
    → MakesDomain old new slot space root → BankGood new → RowsGood (domain_rows new) → StandingBut old (Space space) → Standing new

-- The loose space or tree was released.
abbrev pub StandingWithSpaceDropped : Type 0
StandingWithSpaceDropped =
    (old new : Kernel) (space : ℕ) (owner : Owner)
    → Drops old new space → BankGood new → AllWhole new.bank → StandingBut old (owned_space owner space) → Standing new

-- ---- inodes

-- A file or directory was made, which has no root yet. What is loose is so still.
abbrev pub StandingWithNewInode : Type 0
StandingWithNewInode =
    (old new : Kernel) (kind : InodeKind) (number : ℕ) (loose : Loose)
    → TakesInode old new kind number → kind ≢ Pipe → named_by new.inodes ≡ named_by old.inodes → InodesGood new.inodes
    → StandingBut old loose → StandingBut new loose

-- what stands in a row is a right root
abbrev pub IsRowRoot : Kernel → Row Inode → Type 0
IsRowRoot kernel Free = ⊤
IsRowRoot kernel (Used inode) = IsRootOf (forest_of kernel) (memory_page kernel) (page_owners kernel) inode inode.kind
IsRowRoot kernel Unspelled = ⊤

-- The row of an inode was written, or freed: the root that was loose is the row's, and the one that it had is loose.
abbrev pub StandingWithRoot : Type 0
StandingWithRoot =
    (old new : Kernel) (number : ℕ) (row : Row Inode)
    → number < length old.inodes → new ≡ record old { inodes = slice_set old.inodes number row }
    → ExchangesRoots old new number row → InodesGood new.inodes → IsRowRoot old row
    → StandingBut old (root_of row) → StandingBut new (root_of (inode_at old number))

-- A pipe was made, and its row written, with the page that was loose.
abbrev pub StandingWithPipe : Type 0
StandingWithPipe =
    (old mid new : Kernel) (number page : ℕ) (row : Inode)
    → TakesInode old mid Pipe number → new ≡ record mid { inodes = slice_set mid.inodes number (Used row) }
    → named_by mid.inodes ≡ named_by old.inodes → ExchangesRoots mid new number (Used row) → InodesGood new.inodes
    → row.kind ≡ Pipe → row.root ≡ page → StandingBut old (Ring page) → Standing new

-- ---- pages of pipes

-- A page was taken for a pipe, ..
abbrev pub StandingWithPage : Type 0
StandingWithPage =
    (old new : Kernel) (page : ℕ)
    → TakesPage old new page PipePage → PutsPageInHand old new page → BankGood new → Standing old → StandingBut new (Ring page)

-- .. and the loose one was given back.
abbrev pub StandingWithoutPage : Type 0
StandingWithoutPage =
    (old new : Kernel) (page : ℕ)
    → new ≡ page_given old (page - first_page old.size) → TakesPageOutOfHand old new page → BankGood new
    → StandingBut old (Ring page) → Standing new
