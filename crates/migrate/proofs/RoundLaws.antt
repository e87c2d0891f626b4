-- One interval more.
use Rattle.std.proofs.Common.{◌≡◌, ⊎_elim, ℕ, ◌+◌, ◌≤◌, ◌<◌, Bool, List, length, sym, ◌∙◌, ap, subst, add-zero, arith}
use Rattle.kn_disk.specs.Images.{LeavesOnly}
use Rattle.kn_disk.proofs.RunLaws.{leaves-joined, leaves-wider}
use Rattle.obj_store.specs.Ram.{Ram}
use Rattle.disk_layout.specs.Saved.{raw, label_in, Machine, SameMachine}
use Rattle.checkpoint.specs.Sizes.{HasSizes, pages_in}
use Rattle.checkpoint.specs.Commit.{SavedOr}
use Rattle.migrate.specs.Rounds.{HoldsOne}

-- the same size, where the numbers of bank pages are
pub sizes-same : (old new : Ram) → HasSizes old → HasSizes new → pages_in new ≡ pages_in old → length new.blocks ≡ length old.blocks
sizes-same old new s t p = let e : length new.blocks ≡ length old.blocks = rw p at t.all_blocks ∙ sym s.all_blocks in e

-- marks are no part of the sizes
pub sizes-cleaned : (ram new : Ram) (marks : List Bool) → new ≡ record ram { dirty = marks } → HasSizes ram → HasSizes new
sizes-cleaned ram new marks e s =
    subst HasSizes (sym e)
    (record {
      least_pages = s.least_pages;
      most_pages = s.most_pages;
      multiple = s.multiple;
      least_quantum = s.least_quantum;
      most_quantum = s.most_quantum;
      all_pages = s.all_pages;
      all_blocks = s.all_blocks;
    })

pub pages-cleaned : (ram new : Ram) (marks : List Bool) → new ≡ record ram { dirty = marks } → pages_in new ≡ pages_in ram
pages-cleaned ram new marks e = ap pages_in e

pub blocks-cleaned : (ram new : Ram) (marks : List Bool) → new ≡ record ram { dirty = marks } → new.blocks ≡ ram.blocks
blocks-cleaned ram new marks e = ap (λ (r : Ram). r.blocks) e

-- one of these intervals is one of more
pub one-wider : (plan : ℕ → List (List ℕ)) (first : List ℕ) (g from most low high : ℕ) (c : List ℕ) → low ≤ from → most ≤ high → HoldsOne plan first g from most c → HoldsOne plan first g low high c
one-wider plan first g from most low high c l h s = record { j = s.j; least = omega (arith, l, s.least); few = omega (arith, h, s.few); label = s.label; holds = s.holds }

-- what the disk holds before the first interval
pub held-first : (plan : ℕ → List (List ℕ)) (g : ℕ) (contents : List ℕ) (blocks : List (List ℕ)) → plan 0 ≡ blocks → raw contents ≡ Machine g blocks → raw contents ≡ Machine (g + 0) (plan 0)
held-first plan g contents blocks none held = held ∙ ap (Machine g) (sym none) ∙ ap (λ n. Machine n (plan 0)) (sym (add-zero g))

-- .. and once the interval after i was saved
pub held-next : (plan : ℕ → List (List ℕ)) (g i generation : ℕ) (contents : List ℕ) (now : List (List ℕ)) → generation ≡ g + i → now ≡ plan (i + 1) → raw contents ≡ Machine (generation + 1) now → raw contents ≡ Machine (g + (i + 1)) (plan (i + 1))
held-next plan g i generation contents now is e held = held ∙ ap (Machine (generation + 1)) e ∙ ap (λ n. Machine n (plan (i + 1))) (omega (arith, is))

-- The blocks that an interval leaves are the next of the plan, and what is planned behind them follows it.
module _ (plan before : ℕ → List (List ℕ)) (after : List (List ℕ) → ℕ → List (List ℕ)) (now : List (List ℕ)) (i : ℕ) (goes : (n : ℕ) → before n ≡ plan (i + n)) (steps : (n : ℕ) → after now n ≡ before (n + 1)) where
  pub next-planned : after now 0 ≡ now → now ≡ plan (i + 1)
  next-planned none = sym none ∙ steps 0 ∙ goes (0 + 1)

  pub plan-goes-on : (kept : List (List ℕ)) → kept ≡ now → (n : ℕ) → after kept n ≡ plan (i + 1 + n)
  plan-goes-on kept same n = ap (λ (blocks : List (List ℕ)). after blocks n) same ∙ steps n ∙ goes (n + 1) ∙ ap plan (omega arith)

-- The disk holds interval i, and the store the one after it.
module _ (plan : ℕ → List (List ℕ)) (first : List ℕ) (g i : ℕ) (contents : List ℕ) (label : label_in contents ≡ label_in first) (held : raw contents ≡ Machine (g + i) (plan i)) where
  -- where nothing is saved
  pub one_same : (c : List ℕ) → SameMachine contents c → HoldsOne plan first g i i c
  one_same c s = record { j = i; least = omega arith; few = omega arith; label = s.label ∙ label; holds = s.machine ∙ held }

  module _ (now : List (List ℕ)) (e : now ≡ plan (i + 1)) where
    pub one_more : (c : List ℕ) → SavedOr contents (g + i + 1) now c → HoldsOne plan first g i (i + 1) c
    one_more c s =
        ⊎_elim
        (λ (same : raw c ≡ raw contents). record { j = i; least = omega arith; few = omega arith; label = s.label ∙ label; holds = same ∙ held })
        (λ (new : raw c ≡ Machine (g + i + 1) now).
        record {
          j = i + 1;
          least = omega arith;
          few = omega arith;
          label = s.label ∙ label;
          holds = new ∙ ap (Machine (g + i + 1)) e ∙ ap (λ n. Machine n (plan (i + 1))) (omega arith);
        })
        s.machine

    pub round-leaves : {D : Type 0} (moment : D → ℕ) (image : D → List ℕ → Type 0) (since : D → ℕ → List ℕ → Type 0) (most : ℕ) → i < most → (d0 d1 d2 : D) → LeavesOnly moment since (HoldsOne plan first g 0 most) d0 d1 → LeavesOnly moment since (SavedOr contents (g + i + 1) now) d1 d2 → LeavesOnly moment since (HoldsOne plan first g 0 most) d0 d2
    round-leaves moment image since most h d0 d1 d2 run after =
        leaves-joined moment image since (HoldsOne plan first g 0 most) d0 d1 d2 run
        (leaves-wider moment image since (SavedOr contents (g + i + 1) now) (HoldsOne plan first g 0 most) d1 d2 (λ c s. one-wider plan first g i (i + 1) 0 most c (omega arith) (omega arith) (one_more c s)) after)
