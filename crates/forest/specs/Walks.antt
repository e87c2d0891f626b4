-- Walks in trees. Keys are a table: key k of node n stands at place 16 * n + k. A way is the list of the digits that a
-- walk takes, the LOWEST digit first, so the head of the list is the last step.
use Rattle.std.specs.Prelude.{◌<◌, ◌+◌, ◌*◌, ◌/◌, ◌%◌, ◌^◌, ℕ, zero, suc, Bool, if◌then◌else◌, Option, Some, None, List, [], ◌∷◌, ⊤, nat_lt}
use Rattle.kn_base.specs.declared.key.Key.{Key}
use Rattle.kn_base.specs.declared.key.Key.TheVariants.{Null, Page, Segment}
use Rattle.unix_model.specs.Tables.{at}

-- the place of a key of a node
abbrev pub place_of : ℕ → ℕ → ℕ
place_of node digit = 16 * node + digit

-- the key at a digit of the node that a key stands for, and Null where it stands for none
abbrev pub key_below : (ℕ → Key) → Key → ℕ → Key
key_below keys (Segment node height) digit = at keys (place_of node.0 digit)
key_below keys _ digit = Null

-- the key at the end of a way that begins at a key
abbrev pub key_along : (ℕ → Key) → Key → List ℕ → Key
key_along keys top [] = top
key_along keys top (digit ∷ way) = key_below keys (key_along keys top way) digit

-- the key of a space's root: five levels stand above its pages
abbrev pub space_key : ℕ → Key
space_key space = Segment (record { 0 = space }) 5

-- digits are below 16
abbrev pub IsWay : List ℕ → Type 0
IsWay [] = ⊤
IsWay (digit ∷ way) = (digit < 16) × IsWay way

-- the lowest digits of a number, so many of them
unfoldable pub digits : ℕ → ℕ → List ℕ
digits zero number = []
digits (suc count) number = number % 16 ∷ digits count (number / 16)

-- the way from a space's root to one of its pages
unfoldable pub page_way : ℕ → List ℕ
page_way page = digits 5 page

-- what is mapped at a page number: the number of a page of the store, and whether it may be written
pub record Mapping : Type 0 where
  pub writable : Bool
  pub page : ℕ

-- the mapping that a key is
abbrev pub mapping_of : Key → Option Mapping
mapping_of (Page page writable) = Some (record { writable = writable; page = page.0 })
mapping_of _ = None

-- the key at the end of the way to a page of a space
abbrev pub key_at_page : (ℕ → Key) → ℕ → ℕ → Key
key_at_page keys space page = key_along keys (space_key space) (page_way page)

-- the flat map of a space: what is found at each page number below 2^19
unfoldable pub map_of : (ℕ → Key) → ℕ → ℕ → Option Mapping
map_of keys space page = if nat_lt page (2 ^ 19) then mapping_of (key_at_page keys space page) else None
