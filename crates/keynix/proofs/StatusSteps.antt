-- What a status tells of the ending behind it.
use Rattle.std.proofs.Common.{◌≡◌, ◌≢◌, ℕ, List, refl, sym, ◌∙◌, inl, inr}
use Rattle.unix_model.specs.Machine as machine
use Rattle.keynix.specs.declared.ending.Ending.{Ending}
use Rattle.keynix.specs.Endings.{IsSpent}
use Rattle.keynix.specs.Promises.{stop_status}
use Rattle.keynix.specs.Telling.{Tells, PutsNote, ending_note, ending_status}

module _ {E : Type 0} (noted : E → List ℕ → E → Type 0) (rose : Type 0) (ending : Ending) (old new : E) (status : ℕ) where
  -- a status that no failed note gives is the ending's, and its note was put
  pub status-is : (n : ℕ) → Tells noted rose ending old new status → status ≡ n → n ≢ 4 → n ≢ 6 → (ending_status ending ≡ n) × PutsNote noted (ending_note ending) old new
  status-is n (inl told) e other six = (sym told.0 ∙ e, told.1)
  status-is n (inr (inl told)) e other six = absurd (other (sym e ∙ told.0))
  status-is n (inr (inr told)) e other six = absurd (six (sym e ∙ told.0))

  -- likewise where no note failed and there was memory
  pub status-by : Tells noted rose ending old new status → ¬ rose → status ≢ 6 → status ≡ ending_status ending
  status-by (inl told) quiet enough = told.0
  status-by (inr (inl told)) quiet enough = absurd (quiet told.1)
  status-by (inr (inr told)) quiet enough = absurd (enough told.0)

-- a run that was spent
pub spent-status : (stop : machine.Stop) → IsSpent stop → 9 ≡ stop_status stop
spent-status machine.PlanDone spent = refl
spent-status machine.Going spent = refl
spent-status machine.Idle spent = absurd spent
spent-status (machine.Halted word) spent = absurd spent
