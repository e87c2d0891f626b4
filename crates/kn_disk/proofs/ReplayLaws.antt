-- What changes make of bytes.
use Rattle.std.proofs.Common.{◌≡◌, ◌≤◌, ◌<◌, ◌+◌, ℕ, true, false, List, [], ◌∷◌, ◌++◌, length, take, drop, replicate, get_or, refl, sym, ◌∙◌, ap, arith, rules}
use Rattle.std.proofs.lemmas.List.{places, same_lists, take_more, take_all, drop_all, drop-append-le, length-take}
use Rattle.kn_base.specs.Rows.{part_at}
use Rattle.kn_disk.specs.Images.{resized}
use Rattle.kn_disk.specs.Steps.{Step, Written, Cut, Synced, clipped, stepped, contents_after, spoiled, settled, pending}
use Rattle.kn_disk.specs.Changes.{step_of, steps_of, is_sync, Settles}
use Rattle.kn_disk.specs.declared.change.Change.{Change}
use Rattle.kn_disk.specs.declared.change.Change.TheVariants as change
use Rattle.kn_disk.proofs.HistoryLaws.{steps-push, steps-none}

-- one step
pub stepped-written : (bytes : List ℕ) (at : ℕ) (part : List ℕ) → clipped bytes at part ≡ stepped (Written at part) bytes
unfolding stepped
stepped-written bytes at part = refl

pub stepped-cut : (n : ℕ) (bytes : List ℕ) → resized n bytes ≡ stepped (Cut n) bytes
unfolding stepped
stepped-cut n bytes = refl

pub stepped-synced : (bytes : List ℕ) → bytes ≡ stepped Synced bytes
unfolding stepped
stepped-synced bytes = refl

pub ruleset one_step = (stepped-written, stepped-cut, stepped-synced)

pub contents-none : (first : List ℕ) (log : List ℕ) → first ≡ contents_after first (steps_of log [])
unfolding contents_after steps_of
contents-none first log = refl

pub contents-more : (first : List ℕ) (steps : List Step) (step : Step) (bytes : List ℕ) → bytes ≡ contents_after first steps → stepped step bytes ≡ contents_after first (step ∷ steps)
unfolding contents_after
contents-more first steps step bytes e = ap (stepped step) e

pub steps-more : (log : List ℕ) (changes : List Change) (i : ℕ) (d : Change) → i < length changes → steps_of log (take (i + 1) changes) ≡ step_of log (get_or changes i d) ∷ steps_of log (take i changes)
steps-more log changes i d h = ap (steps_of log) (take_more changes i d h) ∙ steps-push log (take i changes) (get_or changes i d)

pub contents-step : (first log : List ℕ) (changes : List Change) (i : ℕ) (d : Change) (bytes new : List ℕ) → i < length changes → bytes ≡ contents_after first (steps_of log (take i changes)) → new ≡ stepped (step_of log (get_or changes i d)) bytes → new ≡ contents_after first (steps_of log (take (i + 1) changes))
contents-step first log changes i d bytes new h e s =
    s ∙ contents-more first (steps_of log (take i changes)) (step_of log (get_or changes i d)) bytes e ∙ ap (contents_after first) (sym (steps-more log changes i d h))

pub ruleset replays = (contents-none, contents-step)

-- one spoil
pub spoil-written : (byte : ℕ) (bytes : List ℕ) (at : ℕ) (part : List ℕ) (count : ℕ) → count ≡ length part → clipped bytes at (replicate count byte) ≡ spoiled byte bytes (Written at part ∷ [])
unfolding spoiled
spoil-written byte bytes at part count s = ap (λ n. clipped bytes at (replicate n byte)) s

pub spoil-cut : (byte : ℕ) (bytes : List ℕ) (n : ℕ) → bytes ≡ spoiled byte bytes (Cut n ∷ [])
unfolding spoiled
spoil-cut byte bytes n = refl

pub spoil-synced : (byte : ℕ) (bytes : List ℕ) → bytes ≡ spoiled byte bytes (Synced ∷ [])
unfolding spoiled
spoil-synced byte bytes = refl

pub part-length : (log : List ℕ) (from count : ℕ) → from + count ≤ length log → count ≡ length (part_at log from count)
part-length log from count h = search (rules, places)

pub ruleset one_spoil = (spoil-written, spoil-cut, spoil-synced, part-length)

pub spoil-none : (byte : ℕ) (bytes log : List ℕ) → bytes ≡ spoiled byte bytes (steps_of log [])
unfolding spoiled steps_of
spoil-none byte bytes log = refl

spoil-more : (byte : ℕ) (before : List ℕ) (steps : List Step) (step : Step) → spoiled byte (spoiled byte before steps) (step ∷ []) ≡ spoiled byte before (step ∷ steps)
unfolding spoiled
spoil-more byte before steps (Written at part) = refl
spoil-more byte before steps (Cut n) = refl
spoil-more byte before steps Synced = refl

pub spoil-step : (byte : ℕ) (before log : List ℕ) (changes : List Change) (i : ℕ) (d : Change) (bytes new : List ℕ) → i < length changes → bytes ≡ spoiled byte before (steps_of log (take i changes)) → new ≡ spoiled byte bytes (step_of log (get_or changes i d) ∷ []) → new ≡ spoiled byte before (steps_of log (take (i + 1) changes))
spoil-step byte before log changes i d bytes new h e s =
    s ∙ ap (λ b. spoiled byte b (step_of log (get_or changes i d) ∷ [])) e
    ∙ spoil-more byte before (steps_of log (take i changes)) (step_of log (get_or changes i d))
    ∙ ap (spoiled byte before) (sym (steps-more log changes i d h))

-- the last sync
pub settles-none : Settles [] 0
unfolding settled pending steps_of
settles-none = record { within = omega arith; before = λ log. refl; since = λ log. refl }

settled-sync : (steps : List Step) (step : Step) → step ≡ Synced → settled (step ∷ steps) ≡ step ∷ steps
unfolding settled
settled-sync steps step e = rw e refl

pending-sync : (steps : List Step) (step : Step) → step ≡ Synced → pending (step ∷ steps) ≡ []
unfolding pending
pending-sync steps step e = rw e refl

sync_step : (log : List ℕ) (c : Change) → is_sync c ≡ true → step_of log c ≡ Synced
sync_step log (change.Written at from count) h = cc
sync_step log (change.Cut n) h = cc
sync_step log change.Synced h = refl

settled-other : (log : List ℕ) (steps : List Step) (c : Change) → is_sync c ≡ false → settled (step_of log c ∷ steps) ≡ settled steps
unfolding settled
settled-other log steps (change.Written at from count) h = refl
settled-other log steps (change.Cut n) h = refl
settled-other log steps change.Synced h = cc

pending-other : (log : List ℕ) (steps : List Step) (c : Change) → is_sync c ≡ false → pending (step_of log c ∷ steps) ≡ step_of log c ∷ pending steps
unfolding pending
pending-other log steps (change.Written at from count) h = refl
pending-other log steps (change.Cut n) h = refl
pending-other log steps change.Synced h = cc

pub settles-synced : (changes : List Change) (i : ℕ) (d : Change) → i < length changes → is_sync (get_or changes i d) ≡ true → Settles (take (i + 1) changes) (i + 1)
settles-synced changes i d h s = record {
  within = omega (arith, length-take (i + 1) changes);
  before = λ log.
      ap settled (steps-more log changes i d h)
      ∙ settled-sync (steps_of log (take i changes)) (step_of log (get_or changes i d)) (sync_step log (get_or changes i d) s)
      ∙ sym (steps-more log changes i d h) ∙ ap (steps_of log) (sym (take_all (i + 1) (take (i + 1) changes) (omega (arith, length-take (i + 1) changes))));
  since = λ log.
      ap pending (steps-more log changes i d h)
      ∙ pending-sync (steps_of log (take i changes)) (step_of log (get_or changes i d)) (sync_step log (get_or changes i d) s)
      ∙ sym (steps-none log) ∙ ap (steps_of log) (sym (drop_all (i + 1) (take (i + 1) changes) (omega (arith, length-take (i + 1) changes))));
}

shorter : (changes : List Change) (i count : ℕ) → count ≤ length (take i changes) → take count (take i changes) ≡ take count (take (i + 1) changes)
shorter changes i count h = same_lists _ _ (search (rules, places)) (λ k d l. grind (arith, places))

longer : (changes : List Change) (i count : ℕ) (d : Change) → i < length changes → count ≤ length (take i changes) → drop count (take (i + 1) changes) ≡ drop count (take i changes) ++ get_or changes i d ∷ []
longer changes i count d l h = ap (drop count) (take_more changes i d l) ∙ drop-append-le count (take i changes) (get_or changes i d ∷ []) h

pub settles-other : (changes : List Change) (i : ℕ) (d : Change) (count : ℕ) → i < length changes → is_sync (get_or changes i d) ≡ false → Settles (take i changes) count → Settles (take (i + 1) changes) count
settles-other changes i d count h s t = record {
  within = let inside = t.within in omega (arith, length-take (i + 1) changes, length-take i changes);
  before = λ log.
      ap settled (steps-more log changes i d h)
      ∙ settled-other log (steps_of log (take i changes)) (get_or changes i d) s
      ∙ t.before log ∙ ap (steps_of log) (shorter changes i count t.within);
  since = λ log.
      ap pending (steps-more log changes i d h)
      ∙ pending-other log (steps_of log (take i changes)) (get_or changes i d) s
      ∙ ap (λ ss. step_of log (get_or changes i d) ∷ ss) (t.since log)
      ∙ sym (steps-push log (drop count (take i changes)) (get_or changes i d))
      ∙ ap (steps_of log) (sym (longer changes i count d h t.within));
}

-- the same of the changes up to a sync, and of those since
pub replay-settled : (log : List ℕ) (changes : List Change) (count : ℕ) (bytes new : List ℕ) → Settles changes count → new ≡ contents_after bytes (steps_of log (take count changes)) → new ≡ contents_after bytes (settled (steps_of log changes))
replay-settled log changes count bytes new s e = e ∙ ap (contents_after bytes) (sym (s.before log))

pub spoil-pending : (log : List ℕ) (changes : List Change) (count byte : ℕ) (bytes new : List ℕ) → Settles changes count → new ≡ spoiled byte bytes (steps_of log (drop count changes)) → new ≡ spoiled byte bytes (pending (steps_of log changes))
spoil-pending log changes count byte bytes new s e = e ∙ ap (spoiled byte bytes) (sym (s.since log))

pub ruleset settling = (replay-settled, spoil-pending)
