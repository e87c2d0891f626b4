-- Entries of pages and nodes. An entry has eight bytes: the number of the owner, three zeros, and a word. Owner 0 is a
-- free object, and the word is the next free one, or 0. For an object in use the word is its share count.
use Rattle.std.specs.Prelude.{ℕ, ◌==◌, ◌&&◌, List, drop, if◌then◌else◌, slice_index}
use Rattle.std.specs.Int.{from_le_bytes, w32}
use Rattle.kernel_tables.specs.declared.entry.PageOwner.{PageOwner}
use Rattle.kernel_tables.specs.declared.entry.PageOwner.TheVariants.{Memory, File, Directory, Pipe, Buffer}
use Rattle.kernel_tables.specs.declared.entry.NodeOwner.{NodeOwner}
use Rattle.kernel_tables.specs.declared.entry.NodeOwner.TheVariants.{Domain, Tree, FileTree}
use Rattle.kernel_tables.specs.declared.entry.Entry.{Entry}
use Rattle.kernel_tables.specs.declared.entry.Entry.TheVariants.{Free, Taken, Fixed, Unspelled}

-- the entry of a page with this owner byte and this word
abbrev pub page_entry_by_owner : ℕ → ℕ → Entry PageOwner
page_entry_by_owner owner word =
    if owner == 0 then Free word
    else if owner == 1 then Taken Memory word
    else if owner == 2 then Taken File word
    else if owner == 3 then Taken Directory word
    else if owner == 4 then Taken Pipe word
    else if owner == 5 then Taken Buffer word
    else Unspelled

-- the entry of a node with this owner byte and this word; a fixed node has the word 0
abbrev pub node_entry_by_owner : ℕ → ℕ → Entry NodeOwner
node_entry_by_owner owner word =
    if owner == 0 then Free word
    else if owner == 1 then Taken Domain word
    else if owner == 2 then Taken Tree word
    else if owner == 3 then Taken FileTree word
    else if owner == 4 && word == 0 then Fixed
    else Unspelled

-- the entry that eight bytes spell
unfoldable pub page_entry_of : List ℕ → Entry PageOwner
page_entry_of bytes =
    if slice_index bytes 1 == 0 && slice_index bytes 2 == 0 && slice_index bytes 3 == 0
    then page_entry_by_owner (slice_index bytes 0) (from_le_bytes w32 (drop 4 bytes))
    else Unspelled

unfoldable pub node_entry_of : List ℕ → Entry NodeOwner
node_entry_of bytes =
    if slice_index bytes 1 == 0 && slice_index bytes 2 == 0 && slice_index bytes 3 == 0
    then node_entry_by_owner (slice_index bytes 0) (from_le_bytes w32 (drop 4 bytes))
    else Unspelled
