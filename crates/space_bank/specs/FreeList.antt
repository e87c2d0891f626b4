-- Free lists: the free objects among so many entries, each once, each naming the next one.
use Rattle.std.specs.Prelude.{◌≡◌, ℕ, ◌+◌, ◌<◌, ◌≤◌, if◌then◌else◌, ◌==◌, ◌&&◌, ◌||◌, Bool, true, false, nat_lt, List, [], ◌∷◌}
use Rattle.std.specs.List.{sum_by}
use Rattle.kernel_tables.specs.declared.entry.Entry.{Entry}
use Rattle.kernel_tables.specs.declared.entry.Entry.TheVariants.{Free, Taken, Fixed, Unspelled}
use Rattle.kernel_tables.specs.Rows.{entry_at}

abbrev pub is_free : {O : Type 0} → Entry O → Bool
is_free (Free next) = true
is_free (Taken owner count) = false
is_free Fixed = false
is_free Unspelled = false

-- the next free object that an entry names
abbrev pub next_of : {O : Type 0} → Entry O → ℕ
next_of (Free next) = next
next_of (Taken owner count) = 0
next_of Fixed = 0
next_of Unspelled = 0

-- how often a taken object is named; a free one is named by nobody
abbrev pub shares : {O : Type 0} → Entry O → ℕ
shares (Free next) = 0
shares (Taken owner count) = count
shares Fixed = 0
shares Unspelled = 0

-- 1 for a taken object
abbrev pub taken_one : {O : Type 0} → Entry O → ℕ
taken_one (Free next) = 0
taken_one (Taken owner count) = 1
taken_one Fixed = 0
taken_one Unspelled = 0

-- whether an entry is the entry of a free object, among so many
abbrev pub is_free_at : {O : Type 0} → ℕ → List (Entry O) → ℕ → Bool
is_free_at count entries n = nat_lt n count && is_free (entry_at entries n)

-- whether a place is in a list
unfoldable pub elem : ℕ → List ℕ → Bool
elem n [] = false
elem n (place ∷ places) = place == n || elem n places

-- the number of the first object of a list of places, or 0; the object of entry n has the number base + n
unfoldable pub first_of : ℕ → List ℕ → ℕ
first_of base [] = 0
first_of base (place ∷ places) = base + place

-- each object of the list is free and names the next one, none has the number 0, and none comes twice
unfoldable pub Threads : {O : Type 0} → List (Entry O) → ℕ → List ℕ → Type 0
Threads entries base [] = Unit {0}
Threads entries base (place ∷ places) =
    (entry_at entries place ≡ Free (first_of base places))
    × (0 < base + place)
    × (elem place places ≡ false)
    × Threads entries base places

-- The free objects among the first `count` entries form a list that begins with the object of number `first`.
pub record IsFreeList {O : Type 0} (entries : List (Entry O)) (base count first : ℕ) : Type 0 where
  pub places : List ℕ
  pub begins : first_of base places ≡ first
  pub threads : Threads entries base places
  pub exact : (n : ℕ) → elem n places ≡ is_free_at count entries n

-- how many objects are taken
unfoldable pub taken_count : {O : Type 0} → List (Entry O) → ℕ
taken_count entries = sum_by taken_one entries

-- what entry n names where the objects from some entry on are free in their order
abbrev pub following : ℕ → ℕ → ℕ → ℕ
following base count n = if n + 1 == count then 0 else base + (n + 1)

-- the objects from entry `start` on, below `end`, are free and name each other in their order
abbrev pub Linked : {O : Type 0} → List (Entry O) → ℕ → ℕ → ℕ → ℕ → Type 0
Linked entries base count start end = (n : ℕ) → start ≤ n → n < end → entry_at entries n ≡ Free (following base count n)
