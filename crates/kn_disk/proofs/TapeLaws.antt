-- A disk in memory: its bytes, and what a crash leaves of it.
use Rattle.std.proofs.Common.{◌≡◌, inl, ℕ, List, [], ◌∷◌, length, replicate, refl, sym, ◌∙◌, ap, subst}
use Rattle.std.proofs.lemmas.List.{length-replicate}
use Rattle.kn_disk.specs.Images.{Scarred}
use Rattle.kn_disk.specs.Steps.{Step, Written, Cut, Synced, clipped, stepped, contents_after, IsImage, settled, pending, spoiled, crash_image}
use Rattle.kn_disk.specs.StepLaws.{scarred-clipped, contents_are_image}
use Rattle.kn_disk.specs.declared.fill.Fill.TheVariants as fill
use Rattle.kn_disk.proofs.Scars.{scar-none}

pub held-none : (first : List ℕ) (steps : List Step) → steps ≡ [] → first ≡ contents_after first steps
unfolding contents_after
held-none first steps e = rw e refl

pub ruleset fresh = (held-none)

-- each image is the one that is meant
pub image-old : (first : List ℕ) (steps : List Step) (bytes : List ℕ) → bytes ≡ contents_after first (settled steps) → bytes ≡ crash_image fill.Old first steps
unfolding crash_image
image-old first steps bytes e = e

pub image-new : (first : List ℕ) (steps : List Step) (bytes : List ℕ) → bytes ≡ contents_after first steps → bytes ≡ crash_image fill.New first steps
unfolding crash_image
image-new first steps bytes e = e

pub image-byte : (byte : ℕ) (first : List ℕ) (steps : List Step) (bytes new : List ℕ) → bytes ≡ contents_after first (settled steps) → new ≡ spoiled byte bytes (pending steps) → new ≡ crash_image (fill.Byte byte) first steps
unfolding crash_image
image-byte byte first steps bytes new e s = s ∙ ap (λ b. spoiled byte b (pending steps)) e

-- and an image
settled_is_image : (first : List ℕ) (steps : List Step) → IsImage first steps (contents_after first (settled steps))
unfolding IsImage contents_after settled stepped
settled_is_image first [] = refl
settled_is_image first (Written at part ∷ earlier) = (contents_after first (settled earlier), settled_is_image first earlier, scar-none at (length part) (contents_after first (settled earlier)))
settled_is_image first (Cut n ∷ earlier) = (contents_after first (settled earlier), settled_is_image first earlier, inl refl)
settled_is_image first (Synced ∷ earlier) = refl

scar-byte : (bytes : List ℕ) (at count byte : ℕ) → Scarred at count bytes (clipped bytes at (replicate count byte))
scar-byte bytes at count byte = subst (λ n. Scarred at n bytes (clipped bytes at (replicate count byte))) (length-replicate count byte) (scarred-clipped bytes at (replicate count byte))

spoiled_is_image : (byte : ℕ) (first : List ℕ) (steps : List Step) → IsImage first steps (spoiled byte (contents_after first (settled steps)) (pending steps))
unfolding IsImage contents_after settled pending spoiled stepped
spoiled_is_image byte first [] = refl
spoiled_is_image byte first (Written at part ∷ earlier) =
    (spoiled byte (contents_after first (settled earlier)) (pending earlier), spoiled_is_image byte first earlier, scar-byte (spoiled byte (contents_after first (settled earlier)) (pending earlier)) at (length part) byte)
spoiled_is_image byte first (Cut n ∷ earlier) = (spoiled byte (contents_after first (settled earlier)) (pending earlier), spoiled_is_image byte first earlier, inl refl)
spoiled_is_image byte first (Synced ∷ earlier) = refl

pub is_image-old : (first : List ℕ) (steps : List Step) (bytes : List ℕ) → bytes ≡ contents_after first (settled steps) → IsImage first steps bytes
is_image-old first steps bytes e = subst (IsImage first steps) (sym e) (settled_is_image first steps)

pub is_image-new : (first : List ℕ) (steps : List Step) (bytes : List ℕ) → bytes ≡ contents_after first steps → IsImage first steps bytes
is_image-new first steps bytes e = subst (IsImage first steps) (sym e) (contents_are_image first steps)

pub is_image-byte : (byte : ℕ) (first : List ℕ) (steps : List Step) (bytes new : List ℕ) → bytes ≡ contents_after first (settled steps) → new ≡ spoiled byte bytes (pending steps) → IsImage first steps new
is_image-byte byte first steps bytes new e s = subst (IsImage first steps) (sym (s ∙ ap (λ b. spoiled byte b (pending steps)) e)) (spoiled_is_image byte first steps)

pub ruleset crashes = (image-old, image-new, image-byte, is_image-old, is_image-new, is_image-byte)
