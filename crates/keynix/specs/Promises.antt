-- What each status of the program promises.
use Rattle.std.specs.Prelude.{◌≡◌, ◌≢◌, ◌⊎◌, ℕ, ◌∷◌, Bool, List, [], Option, Some, None, Ok, Err, ◌==◌}
use Rattle.std.specs.List.{list_any}
use Rattle.rv_asm.specs.Programs as asm
use Rattle.unix_model.specs.Machine.{Stop, Halted, Idle, PlanDone, Going}
use Rattle.unix_model.specs.Notes.{halted_note, spent_note}
use Rattle.unix_model.specs.Schedule.{Schedule}
use Rattle.command_line.specs.Words.{Command, Load, Once, Work, Asm, Setup}
use Rattle.keynix.specs.declared.ending.Ending.{Ending}
use Rattle.keynix.specs.declared.ending.Ending.TheVariants.{Usage}
use Rattle.flat_bundle.specs.Booting.{Booted, Refusal}
use Rattle.keynix.specs.Inputs.{IsBoot}
use Rattle.keynix.specs.Endings.{EndsAssembly, EndsOnce, FromPlan, IsCaused, IsPlan, IsSpent, KeepsOutput, KeepsPlan, PlanEnds, RunsWhole, run_of, schedule_told}
use Rattle.keynix.specs.Loads.{BootsLoad, EndsWork, RefusesLoad, StopsLoad, SumsUp, SumsUpPart, load_run}
use Rattle.keynix.specs.Telling.{Tells, idle_note, plan_note, refusal_note, source_note}

-- What `once` runs: the plan gives a schedule, and was read to its end where it was asked for; and the input boots.
pub record Runs (setup : Setup) (text bytes : List ℕ) (plan_left : Option (List ℕ)) (schedule : Schedule) (booted : Booted) : Type 0 where
  pub plan_is : schedule_told setup.plan text ≡ Ok schedule
  pub plan_ended : PlanEnds setup.plan plan_left
  pub boots : IsBoot setup bytes (Ok booted)

-- The machine of the input halted: the output got the bytes that the run puts, the notes the note of its wait word, and
-- the input has left what the run leaves.
pub record HaltsOn {S K E : Type 0} (setup : Setup) (text bytes : List ℕ) (left : S → Option (List ℕ)) (grew : K → List ℕ → K → Type 0) (noted : E → List ℕ → E → Type 0) (plan_left : Option (List ℕ)) (source : S) (output_old output_new : K) (notes_old notes_new : E) : Type 0 where
  pub schedule : Schedule
  pub booted : Booted
  pub word : ℕ
  pub begins : Runs setup text bytes plan_left schedule booted
  pub runs : RunsWhole (run_of setup.turns schedule booted) booted.input left grew source output_old output_new
  pub stop_is : (run_of setup.turns schedule booted).stop ≡ Halted word
  pub notes_grew : noted notes_old (halted_note word) notes_new

-- The machine of the input stopped so, without halting: likewise, with the note of the number of its turns.
pub record StopsOn {S K E : Type 0} (setup : Setup) (why : Stop → Type 0) (note : ℕ → List ℕ) (text bytes : List ℕ) (left : S → Option (List ℕ)) (grew : K → List ℕ → K → Type 0) (noted : E → List ℕ → E → Type 0) (plan_left : Option (List ℕ)) (source : S) (output_old output_new : K) (notes_old notes_new : E) : Type 0 where
  pub schedule : Schedule
  pub booted : Booted
  pub begins : Runs setup text bytes plan_left schedule booted
  pub runs : RunsWhole (run_of setup.turns schedule booted) booted.input left grew source output_old output_new
  pub stop_is : why (run_of setup.turns schedule booted).stop
  pub notes_grew : noted notes_old (note (run_of setup.turns schedule booted).turns) notes_new

-- The plan is refused: the notes got the note of its line.
pub record RefusesPlan {E : Type 0} (setup : Setup) (text : List ℕ) (noted : E → List ℕ → E → Type 0) (notes_old notes_new : E) : Type 0 where
  pub line : ℕ
  pub plan_is : schedule_told setup.plan text ≡ Err line
  pub notes_grew : noted notes_old (plan_note line) notes_new

-- The plan gives a schedule, and the input isn't booted: the notes got the note of why.
pub record RefusesInput {E : Type 0} (setup : Setup) (text bytes : List ℕ) (noted : E → List ℕ → E → Type 0) (plan_left : Option (List ℕ)) (notes_old notes_new : E) : Type 0 where
  pub schedule : Schedule
  pub refusal : Refusal
  pub plan_is : schedule_told setup.plan text ≡ Ok schedule
  pub plan_ended : PlanEnds setup.plan plan_left
  pub boots : IsBoot setup bytes (Err refusal)
  pub notes_grew : noted notes_old (refusal_note refusal) notes_new

-- The source is refused: the notes got the note of why and of the line.
pub record RefusesSource {E : Type 0} (bytes : List ℕ) (noted : E → List ℕ → E → Type 0) (notes_old notes_new : E) : Type 0 where
  pub refusal : asm.Refusal
  pub means : asm.assembled bytes ≡ Err refusal
  pub notes_grew : noted notes_old (source_note refusal) notes_new

-- the plan is as before, where the command doesn't ask for it
abbrev pub KeepsPlanOf : {P : Type 0} → Option Command → P → P → Type 0
KeepsPlanOf None old new = new ≡ old
KeepsPlanOf (Some (Once setup)) old new = KeepsPlan setup.plan old new
KeepsPlanOf (Some (Work load)) old new = new ≡ old
KeepsPlanOf (Some Asm) old new = new ≡ old

-- the input is as before, where the command doesn't ask for it
abbrev pub KeepsInputOf : {S : Type 0} → Option Command → S → S → Type 0
KeepsInputOf None old new = new ≡ old
KeepsInputOf (Some (Once setup)) old new = Unit {0}
KeepsInputOf (Some (Work load)) old new = new ≡ old
KeepsInputOf (Some Asm) old new = Unit {0}

-- a read fault comes from the input, or from the plan where the command asks for it
abbrev pub ReadCause : Option Command → (input plan : Type 0) → Type 0
ReadCause None input plan = ⊥
ReadCause (Some (Once setup)) input plan = input ⊎ FromPlan setup.plan plan
ReadCause (Some (Work load)) input plan = ⊥
ReadCause (Some Asm) input plan = input

-- the status of a run that ended so
abbrev pub stop_status : Stop → ℕ
stop_status (Halted word) = 0
stop_status Idle = 10
stop_status PlanDone = 9
stop_status Going = 9

-- the statuses with which a command may end; words that are no command end with 1, or with 4 where the note fails
abbrev pub statuses : Option Command → List ℕ
statuses None = 1 ∷ 4 ∷ []
statuses (Some (Once setup)) = 0 ∷ 2 ∷ 3 ∷ 4 ∷ 6 ∷ 9 ∷ 10 ∷ []
statuses (Some (Work load)) = 0 ∷ 2 ∷ 4 ∷ 6 ∷ 9 ∷ 10 ∷ []
statuses (Some Asm) = 0 ∷ 2 ∷ 3 ∷ 4 ∷ 6 ∷ []

abbrev pub is_status : Option Command → ℕ → Bool
is_status command status = list_any (λ number. number == status) (statuses command)

-- What `work` promises by its status: at 0 the output got the summary of the load's run, and the notes nothing; at 9 and 10 the
-- notes got the note of how it stopped, at 2 of why it isn't booted; but at 0 and 4 the output is as before, and at 4 it got a
-- front of the summary at most. Without a fault, and with memory, the status is what the run says.
pub record LoadTold {K E : Type 0} (load : Load) (grew : K → List ℕ → K → Type 0) (noted : E → List ℕ → E → Type 0) (write note : Type 0) (output_old output_new : K) (notes_old notes_new : E) (status : ℕ) : Type 0 where
  pub halted : status ≡ 0 → SumsUp load grew output_old output_new × (notes_new ≡ notes_old)
  pub spent : status ≡ 9 → StopsLoad load IsSpent spent_note noted notes_old notes_new
  pub idled : status ≡ 10 → StopsLoad load (λ stop. stop ≡ Idle) idle_note noted notes_old notes_new
  pub refused : status ≡ 2 → RefusesLoad load noted notes_old notes_new
  pub part : (output_new ≡ output_old) ⊎ SumsUpPart load grew output_old output_new
  pub stays : status ≢ 0 → status ≢ 4 → output_new ≡ output_old
  pub complete : (booted : Booted) → BootsLoad load (Ok booted) → ¬ write → ¬ note → status ≢ 6 → status ≡ stop_status (load_run booted).stop
  pub refuses : (refusal : Refusal) → BootsLoad load (Err refusal) → ¬ note → status ≢ 6 → status ≡ 2

-- the ending that the words, the plan and the input give, whatever is told of these
abbrev pub ByCommand : {S P K : Type 0} → Option Command → (S → Option (List ℕ)) → (P → Option (List ℕ)) → (K → List ℕ → K → Type 0) → (read plan_read write : Type 0) → S → S → P → P → K → K → Ending → Type 0
ByCommand None left plan_left grew read plan_read write source_old source_new plan_old plan_new old new ending = (ending ≡ Usage) × (source_new ≡ source_old) × (new ≡ old)
ByCommand (Some (Once setup)) left plan_left grew read plan_read write source_old source_new plan_old plan_new old new ending =
    IsCaused (read ⊎ FromPlan setup.plan plan_read) write ending
    × ((text : List ℕ) → IsPlan setup.plan (plan_left plan_old) text → EndsOnce setup (schedule_told setup.plan text) left grew (plan_left plan_new) source_old source_new old new ending)
ByCommand (Some (Work load)) left plan_left grew read plan_read write source_old source_new plan_old plan_new old new ending =
    IsCaused ⊥ write ending × (source_new ≡ source_old) × EndsWork load grew old new ending
ByCommand (Some Asm) left plan_left grew read plan_read write source_old source_new plan_old plan_new old new ending =
    IsCaused read write ending × KeepsOutput old new ending
    × ((bytes : List ℕ) → left source_old ≡ Some bytes → EndsAssembly (asm.assembled bytes) left grew source_new old new ending)

-- some ending follows from the words, the plan and the input, and it was told
pub record Answers {S P K E : Type 0} (command : Option Command) (left : S → Option (List ℕ)) (plan_left : P → Option (List ℕ)) (grew : K → List ℕ → K → Type 0) (noted : E → List ℕ → E → Type 0) (read plan_read write note : Type 0) (source_old source_new : S) (plan_old plan_new : P) (output_old output_new : K) (notes_old notes_new : E) (status : ℕ) : Type 0 where
  pub ending : Ending
  pub follows : ByCommand command left plan_left grew read plan_read write source_old source_new plan_old plan_new output_old output_new ending
  pub plan_kept : KeepsPlanOf command plan_old plan_new
  pub told : Tells noted note ending notes_old notes_new status
