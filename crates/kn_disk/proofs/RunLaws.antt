-- How a run of calls of a disk goes on.
use Rattle.std.proofs.Common.{inl, inr, ⊎_elim, ℕ, ◌+◌, ◌≤◌, List, subst, arith}
use Rattle.kn_disk.specs.Images.{Scarred, After, Only, Elapses, LeavesOnly, Inside}
use Rattle.kn_disk.proofs.Scars.{scar-none, scar-joined, scar-wider}

module _ {D : Type 0} (moment : D → ℕ) (image : D → List ℕ → Type 0) (since : D → ℕ → List ℕ → Type 0) where
  pub inside-none : (at n : ℕ) (d : D) → Inside moment image since at n d d
  inside-none at n d = record {
    later = omega arith;
    images = λ c now. (c, now, scar-none at n c);
    adds = λ t c le left. inl left;
  }

  joined : (at n : ℕ) (old mid : D) → Inside moment image since at n old mid → (c : List ℕ) → After (Scarred at n) (image mid) c → After (Scarred at n) (image old) c
  joined at n old mid first c second =
      let before = first.images second.0 second.1 in
      (before.0, before.1, scar-joined at n before.0 second.0 c before.2 second.2)

  pub inside-joined : (at n : ℕ) (old mid new : D) → Inside moment image since at n old mid → Inside moment image since at n mid new → Inside moment image since at n old new
  inside-joined at n old mid new first second = record {
    later = omega (arith, first.later, second.later);
    images = λ c now. joined at n old mid first c (second.images c now);
    adds = λ t c le left.
        ⊎_elim (first.adds t c le) (λ now. inr (joined at n old mid first c now))
        (second.adds t c (omega (arith, le, first.later)) left);
  }

  -- one write
  pub inside-write : (from m at n : ℕ) (old new : D) → from ≤ at → at + n ≤ from + m → Elapses moment image since old new → ((c : List ℕ) → image new c → After (Scarred at n) (image old) c) → Inside moment image since from m old new
  inside-write from m at n old new low high time images =
      let wide : (c : List ℕ) → image new c → After (Scarred from m) (image old) c =
      λ c now. let before = images c now in (before.0, before.1, scar-wider at n from m before.0 c low high before.2) in
      record {
        later = time.later;
        images = wide;
        adds = λ t c le left. ⊎_elim (λ past. inl past) (λ now. inr (wide c now)) (time.adds t c le left);
      }

  -- one call that changes nothing
  pub inside-still : (at n : ℕ) (old new : D) → Elapses moment image since old new → ((c : List ℕ) → image new c → image old c) → Inside moment image since at n old new
  inside-still at n old new time images = record {
    later = time.later;
    images = λ c now. (c, images c now, scar-none at n c);
    adds = λ t c le left. ⊎_elim (λ past. inl past) (λ now. inr (c, images c now, scar-none at n c)) (time.adds t c le left);
  }

  pub leaves-none : (P : List ℕ → Type 0) (d : D) → LeavesOnly moment since P d d
  leaves-none P d = record { later = omega arith; adds = λ t c le left. inl left }

  pub leaves-joined : (P : List ℕ → Type 0) (old mid new : D) → LeavesOnly moment since P old mid → LeavesOnly moment since P mid new → LeavesOnly moment since P old new
  leaves-joined P old mid new first second = record {
    later = omega (arith, first.later, second.later);
    adds = λ t c le left. ⊎_elim (first.adds t c le) (λ now. inr now) (second.adds t c (omega (arith, le, first.later)) left);
  }

  pub leaves-wider : (P Q : List ℕ → Type 0) (old new : D) → ((c : List ℕ) → P c → Q c) → LeavesOnly moment since P old new → LeavesOnly moment since Q old new
  leaves-wider P Q old new wide run = record {
    later = run.later;
    adds = λ t c le left. ⊎_elim (λ past. inl past) (λ now. inr (wide c now)) (run.adds t c le left);
  }

  -- one call
  pub leaves-call : (P : List ℕ → Type 0) (old new : D) → Elapses moment image since old new → ((c : List ℕ) → image new c → P c) → LeavesOnly moment since P old new
  leaves-call P old new time here = record {
    later = time.later;
    adds = λ t c le left. ⊎_elim (λ past. inl past) (λ now. inr (here c now)) (time.adds t c le left);
  }

  -- writes in a range of a disk whose contents alone a crash leaves
  pub leaves-inside : (P : List ℕ → Type 0) (at n : ℕ) (contents : List ℕ) (old new : D) → Only contents (image old) → Inside moment image since at n old new → ((c : List ℕ) → Scarred at n contents c → P c) → LeavesOnly moment since P old new
  leaves-inside P at n contents old new only run here = record {
    later = run.later;
    adds = λ t c le left.
        ⊎_elim (λ past. inl past)
        (λ now. inr (here c (subst (λ d. Scarred at n d c) (only now.0 now.1) now.2)))
        (run.adds t c le left);
  }

  -- a write in a disk whose contents alone a crash leaves
  pub after-only : (at n : ℕ) (contents : List ℕ) (old : D) (c : List ℕ) → Only contents (image old) → After (Scarred at n) (image old) c → Scarred at n contents c
  after-only at n contents old c only now = subst (λ d. Scarred at n d c) (only now.0 now.1) now.2

  -- each image since a moment: those that there were, and those of the run
  pub each-since : ((d : D) (c : List ℕ) → since d (moment d) c → image d c) → (P : List ℕ → Type 0) (old new : D) → ((c : List ℕ) → image old c → P c) → LeavesOnly moment since P old new → (c : List ℕ) → since new (moment old) c → P c
  each-since only_now P old new here run c left =
      ⊎_elim (λ past. here c (only_now old c past)) (λ now. now) (run.adds (moment old) c (omega arith) left)
