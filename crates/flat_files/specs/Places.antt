-- What is found in the places of a directory.
use Rattle.std.specs.Prelude.{◌≡◌, ℕ, ◌<◌, ◌++◌, ◌∷◌, [], Bool, true, false, ◌&&◌, List, Option, Some, None, is_some, length, map, nat_le, slice_set, slice_index_or}
use Rattle.std.specs.List.{list_all}
use Rattle.unix_model.specs.Files as model
use Rattle.unix_model.specs.Files.{inode_named, with_entry, with_place}
use Rattle.unix_model.specs.Limits.{most_places}
use Rattle.flat_files.specs.EntryView.{entry_of, place_of}
use Rattle.flat_files.specs.declared.entry.Entry.{Entry}

-- a directory with these places has none for an entry more
abbrev pub is_full_with : List (Option model.Entry) → Bool
is_full_with places = nat_le most_places (length places) && list_all is_some places

-- no place is a hole, and an entry more stands in a new place
pub record HasNoHole (places : List (Option Entry)) : Type 0 where
  pub all : list_all is_some (map place_of places) ≡ true
  pub ends : (entry : model.Entry) → with_entry (map place_of places) entry ≡ map place_of places ++ Some entry ∷ []

-- the first hole, in which an entry more stands
pub record IsFirstHole (places : List (Option Entry)) (hole : ℕ) : Type 0 where
  pub inside : hole < length places
  pub some : list_all is_some (map place_of places) ≡ false
  pub filled : (entry : Entry) → with_entry (map place_of places) (entry_of entry) ≡ map place_of (slice_set places hole (Some entry))
  pub same : (entry : model.Entry) → length (with_entry (map place_of places) entry) ≡ length places

-- no place has this name, and nothing is changed there
pub record HasNoPlace (places : List (Option Entry)) (name : List ℕ) : Type 0 where
  pub absent : inode_named (map place_of places) name ≡ None
  pub stays : (changed : Option model.Entry) → with_place (map place_of places) name changed ≡ map place_of places

-- the first place with this name, which is the one that is found and changed
pub record IsFirstPlace (places : List (Option Entry)) (name : List ℕ) (place : ℕ) : Type 0 where
  pub inside : place < length places
  pub found : inode_named (map place_of places) name ≡ model.place_inode name (place_of (slice_index_or places place None))
  pub named : is_some (model.place_inode name (place_of (slice_index_or places place None))) ≡ true
  pub set : (changed : Option Entry) → with_place (map place_of places) name (place_of changed) ≡ map place_of (slice_set places place changed)
