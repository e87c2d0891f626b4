-- How many different things are found at places.
use Rattle.std.specs.Prelude.{◌≡◌, ◌^◌, ◌+◌, ◌↔◌, ℕ, zero, suc, ◌++◌, Bool, true, false, ◌||◌, ◌==◌, if◌then◌else◌, Option, Some, None, List, [], ◌∷◌, ◌⊎◌}
use Rattle.kn_base.specs.declared.key.Key.{Key}
use Rattle.forest.specs.Objects.{NodeObject, Owner, OfProcess}
use Rattle.forest.specs.Walks.{Mapping, map_of}
use Rattle.forest.specs.Forest.{Forest, IsSpace}

-- x is in the list
abbrev pub IsIn : {X : Type 0} → X → List X → Type 0
IsIn {X} x [] = ⊥
IsIn {X} x (y ∷ ys) = (x ≡ y) ⊎ IsIn x ys

-- whether a number is in the list
abbrev pub is_in : ℕ → List ℕ → Bool
is_in n [] = false
is_in n (m ∷ ms) = n == m || is_in n ms

-- how many different numbers are in the list
abbrev pub different : List ℕ → ℕ
different [] = 0
different (n ∷ ns) = if is_in n ns then different ns else different ns + 1

-- a label in front of labels, if there is one
abbrev pub and_label : Option ℕ → List ℕ → List ℕ
and_label None labels = labels
and_label (Some label) labels = label ∷ labels

-- the labels of places, of those that have one
abbrev pub labels : {X : Type 0} → (X → Option ℕ) → List X → List ℕ
labels {X} label [] = []
labels {X} label (place ∷ places) = and_label (label place) (labels label places)

-- two ways of labelling tell the same places apart
pub record TellsAlike {X : Type 0} (one two : X → Option ℕ) (places : List X) : Type 0 where
  pub labelled : (x : X) → IsIn x places → (one x ≡ None) ↔ (two x ≡ None)
  pub alike : (x y : X) → IsIn x places → IsIn y places → (one x ≡ one y) ↔ (two x ≡ two y)

-- the number of the page of the store that a mapping names, where that isn't the page of zeros
abbrev pub page_number : Option Mapping → Option ℕ
page_number None = None
page_number (Some found) = if found.page == 0 then None else Some found.page

-- the page that is found at a page number of a space
abbrev pub shared_page : (ℕ → Key) → ℕ × ℕ → Option ℕ
shared_page keys place = page_number (map_of keys place.0 place.1)

-- a node is the root of a process's space
abbrev pub IsProcessSpace : Forest → ℕ → Type 0
IsProcessSpace forest space = IsSpace forest [] space × (forest.owner (NodeObject space) ≡ Some OfProcess)

-- a space with each of its page numbers below a limit
unfoldable pub places_below : ℕ → ℕ → List (ℕ × ℕ)
places_below space zero = []
places_below space (suc page) = (space, page) ∷ places_below space page

-- all page numbers of several spaces
unfoldable pub places_of : List ℕ → List (ℕ × ℕ)
places_of [] = []
places_of (space ∷ spaces) = places_below space (2 ^ 19) ++ places_of spaces

-- whether a page is taken as memory of a process
abbrev pub is_process : Option Owner → Bool
is_process (Some OfProcess) = true
is_process _ = false
