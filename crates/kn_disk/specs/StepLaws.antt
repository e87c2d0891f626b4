-- What a read gives is an image, this moment is one of those since an earlier one, and since it there is no other.
use Rattle.std.specs.Prelude.{ℕ, List, [], ◌∷◌, length}
use Rattle.std.proofs.Common.{inl, inr, refl, arith, rules}
use Rattle.std.proofs.lemmas.List.{places}
use Rattle.kn_base.specs.Rows.{overwritten}
use Rattle.kn_disk.specs.Images.{Scarred, Recut, resized}
use Rattle.kn_disk.specs.Steps.{Step, Written, Cut, Synced, clipped, stepped, contents_after, IsImage, Since}

pub counts_now : (first : List ℕ) (steps : List Step) (t : ℕ) (c : List ℕ) → IsImage first steps c → Since first steps t c
unfolding Since IsImage
counts_now first [] t c now = now
counts_now first (step ∷ earlier) t c now = inl now

pub only_now : (first : List ℕ) (steps : List Step) (c : List ℕ) → Since first steps (length steps) c → IsImage first steps c
unfolding Since IsImage
only_now first [] c left = left
only_now first (step ∷ earlier) c (inl now) = now
only_now first (step ∷ earlier) c (inr past) = absurd (omega (arith, past.0))

pub scarred-clipped : (bytes : List ℕ) (at : ℕ) (part : List ℕ) → Scarred at (length part) bytes (clipped bytes at part)
unfolding overwritten clipped
scarred-clipped bytes at part = record {
  size = search (rules, places);
  below = λ k h. grind (arith, places);
  above = λ k h. grind (arith, places);
}

pub recut : (n : ℕ) (bytes : List ℕ) → Recut n bytes (resized n bytes)
unfolding resized
recut n bytes = record {
  size = search (rules, places);
  front = λ k h l. grind (arith, places);
}

pub contents_are_image : (first : List ℕ) (steps : List Step) → IsImage first steps (contents_after first steps)
unfolding IsImage contents_after stepped
contents_are_image first [] = refl
contents_are_image first (Written at part ∷ earlier) = (contents_after first earlier, contents_are_image first earlier, scarred-clipped (contents_after first earlier) at part)
contents_are_image first (Cut n ∷ earlier) = (contents_after first earlier, contents_are_image first earlier, inr (recut n (contents_after first earlier)))
contents_are_image first (Synced ∷ earlier) = refl
