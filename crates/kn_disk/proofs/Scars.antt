-- What a scar leaves.
use Rattle.std.proofs.Common.{◌≡◌, ⊎_elim, ℕ, ◌+◌, ◌<◌, ◌≤◌, List, length, drop, get_or, refl, sym, ◌∙◌, arith, rules}
use Rattle.std.proofs.lemmas.List.{places, same_lists, get_or_default, get_or_past, length-take, get_or-take, get_or-drop}
use Rattle.std.proofs.lemmas.Bool.{cases_lt}
use Rattle.kn_base.specs.Rows.{part_at, overwritten}
use Rattle.kn_base.proofs.RowLaws.{length-overwritten, get_or-overwritten_below, get_or-overwritten_above}
use Rattle.kn_disk.specs.Images.{Scarred}

pub scar-none : (at n : ℕ) (a : List ℕ) → Scarred at n a a
scar-none at n a = record { size = refl; below = λ k h. refl; above = λ k h. refl }

pub scar-joined : (at n : ℕ) (a b c : List ℕ) → Scarred at n a b → Scarred at n b c → Scarred at n a c
scar-joined at n a b c s t = record {
  size = t.size ∙ s.size;
  below = λ k h. t.below k h ∙ s.below k h;
  above = λ k h. t.above k h ∙ s.above k h;
}

pub scar-wider : (at n from m : ℕ) (a b : List ℕ) → from ≤ at → at + n ≤ from + m → Scarred at n a b → Scarred from m a b
scar-wider at n from m a b low high s = record {
  size = s.size;
  below = λ k h. s.below k (omega arith);
  above = λ k h. s.above k (omega arith);
}

-- what was written
pub scar-written : (a : List ℕ) (at : ℕ) (part : List ℕ) → at + length part ≤ length a → Scarred at (length part) a (overwritten a at part)
scar-written a at part h = record {
  size = length-overwritten a at part h;
  below = λ k l. get_or-overwritten_below a at part k 0 h l;
  above = λ k l. get_or-overwritten_above a at part k 0 h l;
}

same_at : (a b : List ℕ) (k d : ℕ) → length b ≡ length a → get_or b k 0 ≡ get_or a k 0 → get_or b k d ≡ get_or a k d
same_at a b k d size e =
    ⊎_elim
    (λ (l : k < length a).
    let m : k < length b = omega arith in
    get_or_default b k d 0 m ∙ e ∙ get_or_default a k 0 d l)
    (λ (l : length a ≤ k).
    let m : length b ≤ k = omega arith in
    get_or_past b k d m ∙ sym (get_or_past a k d l))
    (cases_lt k (length a))

-- parts beside a scar
pub scar-part_below : (at n : ℕ) (a b : List ℕ) (from m : ℕ) → Scarred at n a b → from + m ≤ at → part_at b from m ≡ part_at a from m
scar-part_below at n a b from m s h =
    same_lists _ _
    (let size = s.size in search (rules, places))
    (λ k d l.
    let inside : k < m = omega (arith, length-take m (drop from b)) in
    get_or-take m (drop from b) k d inside ∙ get_or-drop from b k d
    ∙ same_at a b (from + k) d s.size (s.below (from + k) (omega arith))
    ∙ sym (get_or-take m (drop from a) k d inside ∙ get_or-drop from a k d))

pub scar-part_above : (at n : ℕ) (a b : List ℕ) (from m : ℕ) → Scarred at n a b → at + n ≤ from → part_at b from m ≡ part_at a from m
scar-part_above at n a b from m s h =
    same_lists _ _
    (let size = s.size in search (rules, places))
    (λ k d l.
    let inside : k < m = omega (arith, length-take m (drop from b)) in
    get_or-take m (drop from b) k d inside ∙ get_or-drop from b k d
    ∙ same_at a b (from + k) d s.size (s.above (from + k) (omega arith))
    ∙ sym (get_or-take m (drop from a) k d inside ∙ get_or-drop from a k d))

-- a scar of one byte that has the byte of another list
pub scar-one : (at : ℕ) (a b c : List ℕ) → Scarred at 1 a b → Scarred at 1 a c → get_or b at 0 ≡ get_or c at 0 → b ≡ c
scar-one at a b c s t e =
    same_lists b c (s.size ∙ sym t.size)
    (λ k d l.
    same_at c b k d (s.size ∙ sym t.size)
    (⊎_elim
    (λ (low : k < at). s.below k low ∙ sym (t.below k low))
    (λ (not_low : at ≤ k).
    ⊎_elim
    (λ (here : k < at + 1). let same : k ≡ at = omega arith in rw same e)
    (λ (high : at + 1 ≤ k). s.above k high ∙ sym (t.above k high))
    (cases_lt k (at + 1)))
    (cases_lt k at)))
