-- A disk that is a store's, from one commit to the next.
use Rattle.std.proofs.Common.{◌≡◌, inl, inr, ⊎_elim, ℕ, Bool, false, List, length, refl, sym, ◌∙◌, ap, subst, arith}
use Rattle.std.specs.Prelude.{replicate}
use Rattle.kn_disk.specs.Images.{LeavesOnly, Only}
use Rattle.kn_disk.proofs.RunLaws.{leaves-joined, leaves-wider}
use Rattle.obj_store.specs.Ram.{Ram, KeepsMarks}
use Rattle.disk_layout.specs.Saved.{Machine, raw, blocks_of, SameMachine}
use Rattle.disk_layout.specs.Position.{Stands}
use Rattle.checkpoint.specs.Sizes.{pages_in}
use Rattle.checkpoint.specs.Commit.{MarkedSince, CanCommit, SavedOr}
use Rattle.migrate.specs.Rounds.{IsStores}
use Rattle.migrate.proofs.SomeLaws.{stands-same}

pub saved-first : (first : List ℕ) (g : ℕ) (bl : List (List ℕ)) (c : List ℕ) → SameMachine first c → SavedOr first g bl c
saved-first first g bl c s = record { label = s.label; machine = inl s.machine }

saved-then : (first mid : List ℕ) (g : ℕ) (bl : List (List ℕ)) (c : List ℕ) → SameMachine first mid → SavedOr mid g bl c → SavedOr first g bl c
saved-then first mid g bl c same s = record {
  label = s.label ∙ same.label;
  machine = ⊎_elim (λ e. inl (e ∙ same.machine)) (λ e. inr e) s.machine;
}

-- once all is moved, the store can be committed
pub can_commit : (ram : Ram) (pages g entries moved : ℕ) (synced : Bool) (contents now : List ℕ) (image later : List ℕ → Type 0) → pages ≡ pages_in ram → MarkedSince (blocks_of (raw contents)) ram → SameMachine contents now → Stands pages g entries moved synced now later → moved ≡ entries → Only now later → CanCommit ram g entries moved synced now later
can_commit ram pages g entries moved synced contents now image later p marked same stands ended only = record {
  stands = subst (λ n. Stands n g entries moved synced now later) p stands;
  ended = ended;
  only = only;
  marked = subst (λ bl. MarkedSince bl ram) (sym (ap blocks_of same.machine)) marked;
}

-- a store that was cleaned is the machine that was saved
pub cleaned-is : (ram new : Ram) (g entries moved : ℕ) (synced : Bool) (contents : List ℕ) (image : List ℕ → Type 0) → new ≡ record ram { dirty = replicate (length ram.blocks) false } → raw contents ≡ Machine g ram.blocks → Stands (pages_in ram) g entries moved synced contents image → IsStores new g entries moved synced contents image
cleaned-is ram new g entries moved synced contents image clean saved stands =
    subst (λ (r : Ram). IsStores r g entries moved synced contents image) (sym clean)
    (record {
      stands = stands;
      marked =
          subst (λ bl. MarkedSince bl (record ram { dirty = replicate (length ram.blocks) false })) (sym (ap blocks_of saved))
          (record { size = refl; same = λ b h m. refl });
    })

-- turns of a machine that mark what they change
pub turns-keep : (ram new : Ram) (g entries moved : ℕ) (synced : Bool) (contents : List ℕ) (image : List ℕ → Type 0) → pages_in new ≡ pages_in ram → length new.blocks ≡ length ram.blocks → KeepsMarks ram new → IsStores ram g entries moved synced contents image → IsStores new g entries moved synced contents image
turns-keep ram new g entries moved synced contents image pages size keeps is = record {
  stands = subst (λ n. Stands n g entries moved synced contents image) (sym pages) is.stands;
  marked = record {
    size = is.marked.size ∙ sym size;
    same = λ b h m. is.marked.same b (omega (arith, size)) (keeps.unmarked b m) ∙ sym (keeps.same b m);
  };
}

-- each image of a disk that is a store's is its machine
pub stores-image : (ram : Ram) (g entries moved : ℕ) (synced : Bool) (contents : List ℕ) (image : List ℕ → Type 0) → IsStores ram g entries moved synced contents image → (c : List ℕ) → image c → SameMachine contents c
stores-image ram g entries moved synced contents image is c now = stands-same (pages_in ram) g entries moved synced contents image is.stands c now

-- a migration, and then a commit
module _ {D : Type 0} (moment : D → ℕ) (image : D → List ℕ → Type 0) (since : D → ℕ → List ℕ → Type 0) where
  pub saved-migrated : (first : List ℕ) (g : ℕ) (bl : List (List ℕ)) (d0 d1 : D) → LeavesOnly moment since (SameMachine first) d0 d1 → LeavesOnly moment since (SavedOr first g bl) d0 d1
  saved-migrated first g bl d0 d1 run = leaves-wider moment image since (SameMachine first) (SavedOr first g bl) d0 d1 (saved-first first g bl) run

  pub saved-after : (first mid : List ℕ) (g : ℕ) (bl : List (List ℕ)) (d0 d1 d2 : D) → SameMachine first mid → LeavesOnly moment since (SameMachine first) d0 d1 → LeavesOnly moment since (SavedOr mid g bl) d1 d2 → LeavesOnly moment since (SavedOr first g bl) d0 d2
  saved-after first mid g bl d0 d1 d2 same run after =
      leaves-joined moment image since (SavedOr first g bl) d0 d1 d2 (saved-migrated first g bl d0 d1 run)
      (leaves-wider moment image since (SavedOr mid g bl) (SavedOr first g bl) d1 d2 (λ c s. saved-then first mid g bl c same s) after)

-- a machine that changes nothing
pub keeps_none : (ram : Ram) → KeepsMarks ram ram
keeps_none ram = record { unmarked = λ block h. h; same = λ block h. refl }
