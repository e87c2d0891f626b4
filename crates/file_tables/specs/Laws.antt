-- How the roots of files are handed over to the table of inodes and back, each law as one statement.
use Rattle.std.specs.Prelude.{◌≡◌, ◌↔◌, ℕ, ◌-◌, ◌<◌, ◌≤◌, None, IsSome, List, ◌∷◌, length}
use Rattle.kn_base.specs.declared.key.Key.{Key}
use Rattle.kn_base.specs.declared.key.Key.TheVariants.{Null}
use Rattle.kernel_tables.specs.declared.row.Row.{Row}
use Rattle.kernel_tables.specs.declared.inode.Inode.{Inode}
use Rattle.kernel_tables.specs.declared.description.Description.{Description}
use Rattle.kernel_tables.specs.declared.entry.PageOwner.{PageOwner}
use Rattle.kernel_tables.specs.Kernel.{Kernel, inode_at, inode_count, first_page, IsBankPage}
use Rattle.space_bank.specs.Shares.{Outside, nothing_outside, PutsPageInHand, TakesPageOutOfHand}
use Rattle.space_bank.specs.Bank.{BankGood, TakesPage, page_given}
use Rattle.space_bank.specs.Fixed.{FreshFiles}
use Rattle.space_bank.specs.Laws.{and_outside}
use Rattle.forest.specs.Objects.{PageObject, NodeObject}
use Rattle.forest.specs.Walks.{space_key}
use Rattle.forest.specs.Forest.{IsRoot}
use Rattle.kernel_forest.specs.Trees.{forest_of, page_tree, TreesGood}
use Rattle.file_tables.specs.Rows.{InodesGood, DescriptionsGood}
use Rattle.file_tables.specs.Roots.{named_by, root_key, pipe_key, ExchangesRoots}

-- The tables of files of a new machine are good, ..
abbrev pub FreshFilesAreGood : Type 0
FreshFilesAreGood =
    (inodes : List (Row Inode)) (descriptions : List (Row Description))
    → FreshFiles inodes descriptions → InodesGood inodes × DescriptionsGood descriptions

-- .. and they name nothing.
abbrev pub FreshFilesNameNothing : Type 0
FreshFilesNameNothing =
    (inodes : List (Row Inode)) (descriptions : List (Row Description))
    → length inodes ≡ inode_count → FreshFiles inodes descriptions → named_by inodes ≡ nothing_outside

-- nothing but the tables of files has changed
abbrev pub WritesFiles : Kernel → Kernel → Type 0
WritesFiles old new = new ≡ record old { inodes = new.inodes; descriptions = new.descriptions }

-- The bank and the trees don't look at the tables of files.
abbrev pub TreesBesideFiles : Type 0
TreesBesideFiles =
    (old new : Kernel) (outside : Outside) (hand : List Key)
    → WritesFiles old new → TreesGood old outside hand ↔ TreesGood new outside hand

-- A row is written: the key of its root is handed over to the table, and that of the row which was there is handed back.
abbrev pub RootExchanged : Type 0
RootExchanged =
    (old new : Kernel) (number : ℕ) (row : Row Inode) (hand : List Key)
    → WritesFiles old new → ExchangesRoots old new number row
    → TreesGood old (and_outside (named_by old.inodes) (root_key row)) hand
    → TreesGood new (and_outside (named_by new.inodes) (root_key (inode_at old number))) hand

-- A key is handed over to a row that had no root, ..
abbrev pub RootHandedOver : Type 0
RootHandedOver =
    (old new : Kernel) (number : ℕ) (row : Row Inode) (hand : List Key)
    → WritesFiles old new → ExchangesRoots old new number row → root_key (inode_at old number) ≡ Null
    → TreesGood old (and_outside (named_by old.inodes) (root_key row)) hand → TreesGood new (named_by new.inodes) hand

-- .. it is handed back by a row that has none now, ..
abbrev pub RootHandedBack : Type 0
RootHandedBack =
    (old new : Kernel) (number : ℕ) (row : Row Inode) (hand : List Key)
    → WritesFiles old new → ExchangesRoots old new number row → root_key row ≡ Null
    → TreesGood old (named_by old.inodes) hand → TreesGood new (and_outside (named_by new.inodes) (root_key (inode_at old number))) hand

-- .. and a row that keeps its root leaves what the table names.
abbrev pub RootKept : Type 0
RootKept =
    (old new : Kernel) (number : ℕ) (row : Row Inode)
    → ExchangesRoots old new number row → root_key row ≡ root_key (inode_at old number)
    → named_by new.inodes ≡ named_by old.inodes

-- A space's key that is in hand is handed out, if the space is counted once, ..
abbrev pub SpaceOutOfHand : Type 0
SpaceOutOfHand =
    (kernel : Kernel) (outside : Outside) (hand : List Key) (space : ℕ)
    → 15 ≤ space → (forest_of kernel).count (NodeObject space) ≡ 1 → IsRoot (forest_of kernel).keys space
    → TreesGood kernel outside (space_key space ∷ hand) → TreesGood kernel (and_outside outside (space_key space)) hand

-- .. and back in hand.
abbrev pub SpaceInHand : Type 0
SpaceInHand =
    (kernel : Kernel) (outside : Outside) (hand : List Key) (space : ℕ)
    → 15 ≤ space → IsSome ((forest_of kernel).owner (NodeObject space)) → length hand < 1000
    → TreesGood kernel (and_outside outside (space_key space)) hand → TreesGood kernel outside (space_key space ∷ hand)

-- So a space's key goes from hand to a row that had no root, ..
abbrev pub RootOutOfHand : Type 0
RootOutOfHand =
    (old new : Kernel) (number : ℕ) (row : Row Inode) (hand : List Key) (space : ℕ)
    → WritesFiles old new → ExchangesRoots old new number row
    → root_key (inode_at old number) ≡ Null → root_key row ≡ space_key space
    → 15 ≤ space → (forest_of old).count (NodeObject space) ≡ 1 → IsRoot (forest_of old).keys space
    → TreesGood old (named_by old.inodes) (space_key space ∷ hand) → TreesGood new (named_by new.inodes) hand

-- .. and from a row that has none now into hand.
abbrev pub RootInHand : Type 0
RootInHand =
    (old new : Kernel) (number : ℕ) (row : Row Inode) (hand : List Key) (space : ℕ)
    → WritesFiles old new → ExchangesRoots old new number row
    → root_key (inode_at old number) ≡ space_key space → root_key row ≡ Null
    → 15 ≤ space → IsSome ((forest_of old).owner (NodeObject space)) → length hand < 1000
    → TreesGood old (named_by old.inodes) hand → TreesGood new (named_by new.inodes) (space_key space ∷ hand)

-- A page that was taken for no tree, as a pipe's, is handed over at once: its key is outside, and no tree has changed.
abbrev pub OtherPageTaken : Type 0
OtherPageTaken =
    (old new : Kernel) (page : ℕ) (owner : PageOwner) (outside : Outside) (hand : List Key)
    → BankGood old → page_tree owner ≡ None → TakesPage old new page owner → PutsPageInHand old new page
    → TreesGood old outside hand → TreesGood new (and_outside outside (pipe_key page)) hand

-- Such a page is given back, whose key was outside.
abbrev pub OtherPageGiven : Type 0
OtherPageGiven =
    (old new : Kernel) (page : ℕ) (outside : Outside) (hand : List Key)
    → BankGood old → IsBankPage old.size page → (forest_of old).owner (PageObject page) ≡ None
    → new ≡ page_given old (page - first_page old.size) → TakesPageOutOfHand old new page
    → TreesGood old (and_outside outside (pipe_key page)) hand → TreesGood new outside hand
