-- Runs of calls that write nothing.
use Rattle.std.proofs.Common.{◌≡◌, ℕ, List, refl, ◌∙◌}
use Rattle.kn_disk.specs.Images.{Elapses}
use Rattle.kn_disk.proofs.RunLaws.{leaves-none, leaves-joined, leaves-wider, leaves-call}
use Rattle.disk_layout.specs.Runs.{Still}

module _ {D : Type 0} (tells : Type 0) (contents : D → List ℕ) (moment : D → ℕ) (image : D → List ℕ → Type 0) (since : D → ℕ → List ℕ → Type 0) where
  pub still-call : (old new : D) → (tells → contents new ≡ contents old) → ((c : List ℕ) → image new c → image old c) → Elapses moment image since old new → Still tells contents moment image since old new
  still-call old new same fewer time = record {
    contents_same = same;
    images = fewer;
    leaves = leaves-call moment image since (image old) old new time fewer;
  }

  pub still-none : (d : D) → Still tells contents moment image since d d
  still-none d = record { contents_same = λ told. refl; images = λ c now. now; leaves = leaves-none moment image since (image d) d }

  pub still-joined : (old mid new : D) → Still tells contents moment image since old mid → Still tells contents moment image since mid new → Still tells contents moment image since old new
  still-joined old mid new first second = record {
    contents_same = λ told. second.contents_same told ∙ first.contents_same told;
    images = λ c now. first.images c (second.images c now);
    leaves =
        leaves-joined moment image since (image old) old mid new first.leaves
        (leaves-wider moment image since (image mid) (image old) mid new first.images second.leaves);
  }
