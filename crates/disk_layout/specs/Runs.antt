-- What a run of calls that write nothing did to a disk.
use Rattle.std.specs.Prelude.{◌≡◌, ℕ, List}
use Rattle.kn_disk.specs.Images.{LeavesOnly}

-- It changed nothing: a read gives what it gave, and what a crash leaves at any moment of it a crash might have left before.
pub record Still {D : Type 0} (tells : Type 0) (contents : D → List ℕ) (moment : D → ℕ) (image : D → List ℕ → Type 0) (since : D → ℕ → List ℕ → Type 0) (old new : D) : Type 0 where
  pub contents_same : tells → contents new ≡ contents old
  pub images : (c : List ℕ) → image new c → image old c
  pub leaves : LeavesOnly moment since (image old) old new
