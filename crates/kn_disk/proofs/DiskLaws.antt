-- What each call of a disk in memory does to its bytes, images and time.
use Rattle.std.proofs.Common.{◌≡◌, ◌⊎◌, inl, inr, ◌≤◌, ◌+◌, ℕ, List, ◌∷◌, length, refl, sym, ◌∙◌, ap, subst, arith}
use Rattle.std.proofs.lemmas.List.{take_all}
use Rattle.kn_base.specs.Rows.{overwritten}
use Rattle.kn_base.proofs.RowLaws.{length-overwritten}
use Rattle.kn_disk.specs.Images.{Scarred, Resized, After, resized, Elapses}
use Rattle.kn_disk.specs.Steps.{Step, Written, Cut, Synced, clipped, stepped, contents_after, IsImage, Since}
use Rattle.kn_disk.specs.StepLaws.{contents_are_image}
use Rattle.kn_disk.specs.History.{kept_steps}
use Rattle.kn_disk.specs.MemoryDisk.{disk_moment, disk_image, disk_since}
use Rattle.kn_disk.specs.declared.memory_disk.MemoryDisk.{MemoryDisk}
use Rattle.kn_disk.proofs.Scars.{scar-none}

-- what a read gives after one more step
within : (bytes : List ℕ) (at : ℕ) (part : List ℕ) → at + length part ≤ length bytes → overwritten bytes at part ≡ clipped bytes at part
unfolding clipped
within bytes at part h = sym (take_all (length bytes) (overwritten bytes at part) (omega (arith, length-overwritten bytes at part h)))

pub held-written : (first : List ℕ) (old new : List Step) (bytes after : List ℕ) (at : ℕ) (part : List ℕ) → bytes ≡ contents_after first old → at + length part ≤ length bytes → after ≡ overwritten bytes at part → new ≡ Written at part ∷ old → after ≡ contents_after first new
unfolding contents_after stepped
held-written first old new bytes after at part held h e s = e ∙ within bytes at part h ∙ ap (λ b. clipped b at part) held ∙ ap (contents_after first) (sym s)

pub held-cut : (first : List ℕ) (old new : List Step) (bytes after : List ℕ) (n : ℕ) → bytes ≡ contents_after first old → after ≡ resized n bytes → new ≡ Cut n ∷ old → after ≡ contents_after first new
unfolding contents_after stepped
held-cut first old new bytes after n held e s = e ∙ ap (resized n) held ∙ ap (contents_after first) (sym s)

pub held-synced : (first : List ℕ) (old new : List Step) (bytes : List ℕ) → bytes ≡ contents_after first old → new ≡ Synced ∷ old → bytes ≡ contents_after first new
unfolding contents_after stepped
held-synced first old new bytes held s = held ∙ ap (contents_after first) (sym s)

-- time, where nothing was done
pub time-still : (old new : MemoryDisk) → new.first ≡ old.first → kept_steps new.history ≡ kept_steps old.history → Elapses disk_moment disk_image disk_since old new
time-still old new f s = record {
  later = omega (arith, ap length s);
  adds = λ t c le left. inl (rw (f, s) at left);
  keeps = λ t c le left. rw (f, s) left;
}

-- and where one more step was made
since-adds : (first : List ℕ) (steps : List Step) (step : Step) (t : ℕ) (c : List ℕ) → Since first (step ∷ steps) t c → Since first steps t c ⊎ IsImage first (step ∷ steps) c
unfolding Since
since-adds first steps step t c (inl now) = inr now
since-adds first steps step t c (inr past) = inl past.1

since-keeps : (first : List ℕ) (steps : List Step) (step : Step) (t : ℕ) (c : List ℕ) → t ≤ length steps → Since first steps t c → Since first (step ∷ steps) t c
unfolding Since
since-keeps first steps step t c le left = inr (le, left)

pub time-step : (old new : MemoryDisk) (step : Step) → new.first ≡ old.first → kept_steps new.history ≡ step ∷ kept_steps old.history → Elapses disk_moment disk_image disk_since old new
time-step old new step f s = record {
  later = omega (arith, ap length s);
  adds = λ t c le left. rw (f, s) (since-adds old.first.items (kept_steps old.history) step t c (rw (f, s) at left));
  keeps = λ t c le left. rw (f, s) (since-keeps old.first.items (kept_steps old.history) step t c le left);
}

-- images
pub image-still : (first : List ℕ) (old new : List Step) → new ≡ old → (c : List ℕ) → IsImage first new c → IsImage first old c
image-still first old new s c now = rw s at now

pub image-kept : (first : List ℕ) (old new : List Step) → new ≡ old → (c : List ℕ) → IsImage first old c → IsImage first new c
image-kept first old new s c now = rw s now

pub image-written : (first : List ℕ) (old new : List Step) (at : ℕ) (part : List ℕ) → new ≡ Written at part ∷ old → (c : List ℕ) → IsImage first new c → After (Scarred at (length part)) (IsImage first old) c
unfolding IsImage
image-written first old new at part s c now = let now' : IsImage first (Written at part ∷ old) c = rw s at now in now'

pub image-unwritten : (first : List ℕ) (old new : List Step) (at n : ℕ) → new ≡ old → (c : List ℕ) → IsImage first new c → After (Scarred at n) (IsImage first old) c
image-unwritten first old new at n s c now = (c, image-still first old new s c now, scar-none at n c)

pub image-cut : (first : List ℕ) (old new : List Step) (n : ℕ) → new ≡ Cut n ∷ old → (c : List ℕ) → IsImage first new c → After (Resized n) (IsImage first old) c
unfolding IsImage
image-cut first old new n s c now = let now' : IsImage first (Cut n ∷ old) c = rw s at now in now'

pub image-uncut : (first : List ℕ) (old new : List Step) (n : ℕ) → new ≡ old → (c : List ℕ) → IsImage first new c → After (Resized n) (IsImage first old) c
image-uncut first old new n s c now = (c, image-still first old new s c now, inl refl)

pub only-synced : (first : List ℕ) (old new : List Step) (bytes : List ℕ) → bytes ≡ contents_after first old → new ≡ Synced ∷ old → (c : List ℕ) → IsImage first new c → c ≡ bytes
unfolding IsImage
only-synced first old new bytes held s c now = let now' : IsImage first (Synced ∷ old) c = rw s at now in now' ∙ sym held

pub image-synced : (first : List ℕ) (old new : List Step) (bytes : List ℕ) → bytes ≡ contents_after first old → new ≡ Synced ∷ old → (c : List ℕ) → IsImage first new c → IsImage first old c
image-synced first old new bytes held s c now =
    subst (IsImage first old) (sym (only-synced first old new bytes held s c now)) (subst (IsImage first old) (sym held) (contents_are_image first old))

pub ruleset still = (time-still, image-still, image-kept)

pub ruleset cut = (held-cut, time-still, time-step, image-cut, image-uncut)

pub ruleset written = (held-written, time-still, time-step, image-written, image-unwritten)

pub ruleset synced = (held-synced, time-still, time-step, image-still, image-kept, image-synced, only-synced)
