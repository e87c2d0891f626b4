-- What the root words of inodes name: the trees of files and directories, and the pages of pipes. For the bank they are
-- outside: each names its space or page once.
use Rattle.std.specs.Prelude.{◌≡◌, ℕ, ◌==◌, true, if◌then◌else◌, List}
use Rattle.std.specs.List.{count_by}
use Rattle.kn_base.specs.declared.key.Key.{Key}
use Rattle.kn_base.specs.declared.key.Key.TheVariants.{Null, Page}
use Rattle.kernel_tables.specs.declared.row.Row.{Row}
use Rattle.kernel_tables.specs.declared.row.Row.TheVariants.{Free, Used, Unspelled}
use Rattle.kernel_tables.specs.declared.inode.InodeKind.{InodeKind}
use Rattle.kernel_tables.specs.declared.inode.InodeKind.TheVariants.{File, Dir, Pipe, Console}
use Rattle.kernel_tables.specs.declared.inode.Inode.{Inode}
use Rattle.kernel_tables.specs.Kernel.{Kernel, inode_at}
use Rattle.space_bank.specs.Shares.{Outside, key_names_page, key_names_node}
use Rattle.space_bank.specs.Laws.{and_outside}
use Rattle.forest.specs.Walks.{space_key}

-- the key of a page that a pipe has
abbrev pub pipe_key : ℕ → Key
pipe_key page = Page (record { 0 = page }) true

-- the key for which the root word of an inode of a kind stands; the word 0 stands for none
abbrev pub word_key : InodeKind → ℕ → Key
word_key File root = if root == 0 then Null else space_key root
word_key Dir root = if root == 0 then Null else space_key root
word_key Pipe root = if root == 0 then Null else pipe_key root
word_key Console root = Null

-- the key for which a row's root word stands
abbrev pub root_key : Row Inode → Key
root_key Free = Null
root_key (Used inode) = word_key inode.kind inode.root
root_key Unspelled = Null

-- how many rows name a page, and a node
unfoldable pub page_roots : List (Row Inode) → ℕ → ℕ
page_roots inodes page = count_by (λ row. key_names_page page (root_key row)) inodes

unfoldable pub node_roots : List (Row Inode) → ℕ → ℕ
node_roots inodes node = count_by (λ row. key_names_node node (root_key row)) inodes

-- how often the table of inodes names each page and each node
abbrev pub named_by : List (Row Inode) → Outside
named_by inodes = record { pages = page_roots inodes; nodes = node_roots inodes }

-- The row of an inode is another one now. The table names what it did, without the key of the row that was there, and with
-- that of the row that is.
abbrev pub ExchangesRoots : Kernel → Kernel → ℕ → Row Inode → Type 0
ExchangesRoots old new number row =
    and_outside (named_by new.inodes) (root_key (inode_at old number)) ≡ and_outside (named_by old.inodes) (root_key row)
