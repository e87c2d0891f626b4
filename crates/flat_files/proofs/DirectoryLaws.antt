-- The places of a directory: the first hole, and the first place with a name.
use Rattle.std.proofs.Common.{◌≡◌, ℕ, zero, suc, ◌+◌, ◌<◌, Option, Some, None, true, false, List, [], ◌∷◌, length, length-append, get_or, refl, ap, arith}
use Rattle.std.specs.Prelude.{Bool, ◌&&◌, is_some, map, nat_le}
use Rattle.unix_model.specs.Files as model
use Rattle.unix_model.specs.Files.{inode_named, place_inode, with_entry, with_place}
use Rattle.unix_model.specs.Limits.{most_places}
use Rattle.unix_model.specs.Tables.{option_or}
use Rattle.flat_files.specs.declared.entry.Entry.{Entry}
use Rattle.flat_files.specs.EntryView.{entry_of, place_of}
use Rattle.flat_files.specs.Places.{HasNoHole, IsFirstHole, HasNoPlace, IsFirstPlace, is_full_with}
use Rattle.flat_files.proofs.SlotLaws.{length-mapped}

-- ---- holes

and-true : (test : Bool) → (test && true) ≡ test
and-true true = refl
and-true false = refl

and-false : (test : Bool) → (test && false) ≡ false
and-false true = refl
and-false false = refl

pub hole-free : (places : List (Option Entry)) → ((k : ℕ) → k < length places → is_some (get_or places k None) ≡ true) → HasNoHole places
hole-free [] each = record { all = refl; ends = λ entry. refl }
hole-free (None ∷ places) each = absurd (let h : false ≡ true = each 0 (omega arith) in cc)
hole-free (Some first ∷ places) each =
    let rest : HasNoHole places = hole-free places (λ k below. each (suc k) (omega arith)) in
    record { all = rest.all; ends = λ entry. ap (λ (more : List (Option model.Entry)). Some (entry_of first) ∷ more) (rest.ends entry) }

pub hole-first : (places : List (Option Entry)) (hole : ℕ) → hole < length places → ((k : ℕ) → k < hole → is_some (get_or places k None) ≡ true)
    → is_some (get_or places hole None) ≡ false → IsFirstHole places hole
hole-first [] hole inside each here = absurd (omega arith)
hole-first (None ∷ places) zero inside each here = record { inside = inside; some = refl; filled = λ entry. refl; same = λ entry. ap suc (length-mapped place_of places) }
hole-first (Some first ∷ places) zero inside each here = absurd (let h : true ≡ false = here in cc)
hole-first (None ∷ places) (suc hole) inside each here = absurd (let h : false ≡ true = each 0 (omega arith) in cc)
hole-first (Some first ∷ places) (suc hole) inside each here =
    let rest : IsFirstHole places hole = hole-first places hole (omega arith) (λ k below. each (suc k) (omega arith)) here in
    record {
      inside = inside;
      some = rest.some;
      filled = λ entry. ap (λ (more : List (Option model.Entry)). Some (entry_of first) ∷ more) (rest.filled entry);
      same = λ entry. ap suc (rest.same entry);
    }

pub ruleset holes = (hole-free, hole-first)

-- ---- a full directory

pub full-without : (places : List (Option Entry)) → HasNoHole places → is_full_with (map place_of places) ≡ nat_le 1024 (length places)
unfolding most_places
full-without places none = rw (none.all, length-mapped place_of places) (and-true (nat_le 1024 (length places)))

pub full-never : (places : List (Option Entry)) (hole : ℕ) → IsFirstHole places hole → is_full_with (map place_of places) ≡ false
full-never places hole first = rw first.some (and-false (nat_le most_places (length (map place_of places))))

-- how many places there are with an entry more
pub places-more : (places : List (Option Entry)) (entry : model.Entry) → HasNoHole places → length (with_entry (map place_of places) entry) ≡ length places + 1
places-more places entry none = rw (none.ends entry) (simp (length-append, length-mapped) refl)

-- ---- names

none-of : (x : Option ℕ) → is_some x ≡ false → x ≡ None
none-of None e = refl
none-of (Some x) e = absurd (cc)

some-of : (x y : Option ℕ) → is_some x ≡ true → option_or x y ≡ x
some-of None y e = absurd (cc)
some-of (Some x) y e = refl

pub name-absent : (places : List (Option Entry)) (name : List ℕ) → ((k : ℕ) → k < length places → is_some (place_inode name (place_of (get_or places k None))) ≡ false) → HasNoPlace places name
name-absent [] name each = record { absent = refl; stays = λ changed. refl }
name-absent (first ∷ places) name each =
    let here : is_some (place_inode name (place_of first)) ≡ false = each 0 (omega arith) in
    let rest : HasNoPlace places name = name-absent places name (λ k below. each (suc k) (omega arith)) in
    record {
      absent = rw (none-of (place_inode name (place_of first)) here) rest.absent;
      stays = λ changed. rw here (ap (λ (more : List (Option model.Entry)). place_of first ∷ more) (rest.stays changed));
    }

pub name-first : (places : List (Option Entry)) (name : List ℕ) (place : ℕ) → place < length places
    → ((k : ℕ) → k < place → is_some (place_inode name (place_of (get_or places k None))) ≡ false)
    → is_some (place_inode name (place_of (get_or places place None))) ≡ true → IsFirstPlace places name place
name-first [] name place inside each here = absurd (omega arith)
name-first (first ∷ places) name zero inside each here =
    record { inside = inside; found = some-of (place_inode name (place_of first)) _ here; named = here; set = λ changed. rw here refl }
name-first (first ∷ places) name (suc place) inside each here =
    let other : is_some (place_inode name (place_of first)) ≡ false = each 0 (omega arith) in
    let rest : IsFirstPlace places name place = name-first places name place (omega arith) (λ k below. each (suc k) (omega arith)) here in
    record {
      inside = inside;
      found = rw (none-of (place_inode name (place_of first)) other) rest.found;
      named = rest.named;
      set = λ changed. rw other (ap (λ (more : List (Option model.Entry)). place_of first ∷ more) (rest.set changed));
    }

pub ruleset names = (name-absent, name-first)
