-- Writing up to the end of the bytes.
use Rattle.std.proofs.Common.{◌≡◌, ◌≤◌, ◌<◌, ◌-◌, ℕ, List, min, length, take, replicate, sym, ◌∙◌, ap, arith, rules}
use Rattle.std.proofs.lemmas.List.{places, same_lists, length-replicate}
use Rattle.kn_base.specs.Rows.{overwritten}
use Rattle.kn_disk.specs.Steps.{clipped}

-- no room
pub clipped-behind : (bytes : List ℕ) (at : ℕ) (part : List ℕ) (count : ℕ) → count ≡ min (length part) (length bytes - at) → count ≤ 0 → bytes ≡ clipped bytes at part
unfolding clipped overwritten
clipped-behind bytes at part count e h = same_lists _ _ (search (rules, places)) (λ k d l. grind (arith, places))

-- room for some
pub clipped-part : (bytes : List ℕ) (at : ℕ) (part : List ℕ) (count : ℕ) → count ≡ min (length part) (length bytes - at) → 0 < count → overwritten bytes at (take count part) ≡ clipped bytes at part
unfolding clipped overwritten
clipped-part bytes at part count e h = same_lists _ _ (search (rules, places)) (λ k d l. grind (arith, places))

-- a byte so many times
pub filled-behind : (bytes : List ℕ) (at room byte count : ℕ) → count ≡ min room (length bytes - at) → count ≤ 0 → bytes ≡ clipped bytes at (replicate room byte)
filled-behind bytes at room byte count e h = clipped-behind bytes at (replicate room byte) count (e ∙ ap (λ n. min n (length bytes - at)) (sym (length-replicate room byte))) h

pub filled-part : (bytes : List ℕ) (at room byte count : ℕ) → count ≡ min room (length bytes - at) → 0 < count → overwritten bytes at (replicate count byte) ≡ clipped bytes at (replicate room byte)
unfolding clipped overwritten
filled-part bytes at room byte count e h = same_lists _ _ (search (rules, places)) (λ k d l. grind (arith, places))

pub ruleset clips = (clipped-behind, clipped-part, filled-behind, filled-part)
