-- What holds of the trees of files and of the pages of pipes between turns.
use Rattle.std.specs.Prelude.{◌≡◌, ◌≢◌, ℕ, ◌<◌, ◌==◌, true, Bool, Option, Some, List, [], drop}
use Rattle.std.specs.List.{list_all}
use Rattle.kn_base.specs.declared.key.Key.{Key}
use Rattle.kn_base.specs.declared.key.Key.TheVariants.{Null, Start}
use Rattle.kernel_tables.specs.declared.entry.PageOwner.{PageOwner}
use Rattle.kernel_tables.specs.declared.entry.PageOwner.TheVariants.{Memory, File as FilePage, Directory, Pipe as PipePage}
use Rattle.kernel_tables.specs.declared.inode.Inode.{Inode}
use Rattle.kernel_tables.specs.declared.inode.InodeKind.{InodeKind}
use Rattle.kernel_tables.specs.declared.inode.InodeKind.TheVariants.{File, Dir, Pipe, Console}
use Rattle.unix_model.specs.Numbers.{pages_of}
use Rattle.unix_model.specs.Tables.{at}
use Rattle.forest.specs.Forest.{Forest, IsSpace}
use Rattle.forest.specs.Objects.{NodeObject, OfFile, OfProcess}
use Rattle.forest.specs.Walks.{Mapping, map_of, place_of}
use Rattle.user_copy.specs.SpaceMemory.{memory_by}
use Rattle.kernel_forest.specs.Owners.{PagesAreOf}
use Rattle.kernel_machine.specs.Contents.{pages_in}

-- behind so many bytes all are zero
unfoldable pub ends_in_zeros : ℕ → List ℕ → Bool
ends_in_zeros size bytes = list_all (λ byte. byte == 0) (drop size bytes)

-- The tree of a file or directory of a length: it maps a page, none that lies past the length, each to be written; and behind
-- the length its last page is zero.
pub record IsFileTree (keys : ℕ → Key) (bytes : ℕ → List ℕ) (root size : ℕ) : Type 0 where
  pub some_page : (page : ℕ) × (mapping : Mapping) × (map_of keys root page ≡ Some mapping)
  pub within : (page : ℕ) (mapping : Mapping) → map_of keys root page ≡ Some mapping → page < pages_of size
  pub writable : (page : ℕ) (mapping : Mapping) → map_of keys root page ≡ Some mapping → mapping.writable ≡ true
  pub zeros : ends_in_zeros size (pages_in (memory_by bytes (map_of keys root)) (pages_of size)) ≡ true

-- inodes of this kind have trees
abbrev pub HasTree : InodeKind → Type 0
HasTree File = Unit {0}
HasTree Dir = Unit {0}
HasTree Pipe = ⊥
HasTree Console = ⊥

-- whose the pages of an inode are; the console has none
abbrev pub pages_owner : InodeKind → PageOwner
pages_owner File = FilePage
pages_owner Dir = Directory
pages_owner Pipe = PipePage
pages_owner Console = Memory

-- what an inode's root is
abbrev pub IsRootOf : Forest → (ℕ → List ℕ) → (ℕ → Option PageOwner) → Inode → InodeKind → Type 0
IsRootOf forest bytes owner inode File =
    inode.root ≢ 0 → IsSpace forest [] inode.root × (forest.owner (NodeObject inode.root) ≡ Some OfFile) × IsFileTree forest.keys bytes inode.root inode.length
    × PagesAreOf FilePage owner (map_of forest.keys inode.root)
IsRootOf forest bytes owner inode Dir =
    inode.root ≢ 0 → IsSpace forest [] inode.root × (forest.owner (NodeObject inode.root) ≡ Some OfFile) × IsFileTree forest.keys bytes inode.root inode.length
    × PagesAreOf Directory owner (map_of forest.keys inode.root)
IsRootOf forest bytes owner inode Pipe = at owner inode.root ≡ Some PipePage
IsRootOf forest bytes owner inode Console = Unit {0}

-- no two inodes have one tree, or one page of a pipe
pub record RootsGood (forest : Forest) (bytes : ℕ → List ℕ) (owner : ℕ → Option PageOwner) (inodes : ℕ → Option Inode) : Type 0 where
  pub each : (number : ℕ) (inode : Inode) → at inodes number ≡ Some inode → IsRootOf forest bytes owner inode inode.kind
  pub trees_differ : (number other : ℕ) (inode second : Inode) → at inodes number ≡ Some inode → at inodes other ≡ Some second → HasTree inode.kind → HasTree second.kind
      → inode.root ≢ 0 → inode.root ≡ second.root → number ≡ other
  pub pipes_differ : (number other : ℕ) (inode second : Inode) → at inodes number ≡ Some inode → at inodes other ≡ Some second → inode.kind ≡ Pipe → second.kind ≡ Pipe
      → inode.root ≡ second.root → number ≡ other

-- a fault in the memory of a process goes to the keeper, whose domain is node 1; nobody keeps a file's
abbrev pub keeper : Key
keeper = Start (record { 0 = 1 }) 0

pub record KeepersGood (forest : Forest) : Type 0 where
  pub of_process : (space : ℕ) → IsSpace forest [] space → forest.owner (NodeObject space) ≡ Some OfProcess → at forest.keys (place_of space 15) ≡ keeper
  pub of_file : (space : ℕ) → IsSpace forest [] space → forest.owner (NodeObject space) ≡ Some OfFile → at forest.keys (place_of space 15) ≡ Null
