-- Places of a directory by number, in its bytes.
use Rattle.std.specs.Prelude.{◌≡◌, ◌<◌, ℕ, ◌*◌, Bool, true, List, Option, None, is_some, is_none, slice_set}
use Rattle.kn_base.specs.Rows.{part_at}
use Rattle.unix_model.specs.Files.{Entry, inode_named, place_inode, with_place}
use Rattle.unix_model.specs.Limits.{place_bytes}
use Rattle.kernel_machine.specs.Contents.{place_in, places_in}

-- the place of this number in these bytes
abbrev pub numbered_place : List ℕ → ℕ → Option Entry
numbered_place bytes number = place_in (part_at bytes (place_bytes * number) place_bytes)

-- whether the place of this number has a name, or is a hole
unfoldable pub has_name : List ℕ → List ℕ → ℕ → Bool
has_name name bytes number = is_some (place_inode name (numbered_place bytes number))

unfoldable pub is_hole : List ℕ → ℕ → Bool
is_hole bytes number = is_none (numbered_place bytes number)

-- None of so many places has this name: nothing is found by it, or changed.
pub record HasNoName (bytes : List ℕ) (count : ℕ) (name : List ℕ) : Type 0 where
  pub absent : inode_named (places_in bytes count) name ≡ None
  pub stays : (changed : Option Entry) → with_place (places_in bytes count) name changed ≡ places_in bytes count

-- The place of this number is the first of so many that has this name: it is the one that is found and changed.
pub record IsFirstNamed (bytes : List ℕ) (count : ℕ) (name : List ℕ) (number : ℕ) : Type 0 where
  pub inside : number < count
  pub found : inode_named (places_in bytes count) name ≡ place_inode name (numbered_place bytes number)
  pub named : is_some (place_inode name (numbered_place bytes number)) ≡ true
  pub set : (changed : Option Entry) → with_place (places_in bytes count) name changed ≡ slice_set (places_in bytes count) number changed
