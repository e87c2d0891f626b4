-- The command `work`: its own bundle is booted on a machine of the default sizes, and runs round for at most the default turns.
-- What it puts is counted and summed up, and the summary is what the output gets.
use Rattle.std.specs.Prelude.{◌≡◌, ◌⊎◌, ℕ, ◌%◌, ◌^◌, List, length, Result, Ok, Err, None}
use Rattle.std.specs.List.{sum}
use Rattle.kn_io.specs.Sink.{GrewByPrefix}
use Rattle.unix_model.specs.Machine as machine
use Rattle.unix_model.specs.Schedule as schedules
use Rattle.unix_model.specs.State.{Unix}
use Rattle.workload.specs.Workload.{summary, work_bundle}
use Rattle.flat_bundle.specs.Booting.{Booted, Refusal}
use Rattle.keynix.specs.declared.ending.Ending.{Ending}
use Rattle.keynix.specs.declared.ending.Ending.TheVariants.{Halted, TurnsSpent, Idle, Done, Usage, Refused, NotAssembled, BadPlan, ReadFault, WriteFault, NoMemory}
use Rattle.keynix.specs.Endings.{IsSpent, run_of}
use Rattle.keynix.specs.Inputs.{IsBoot, refusal_of}
use Rattle.keynix.specs.Telling.{refusal_note}
use Rattle.command_line.specs.Words.{Load, default_setup}

-- what the bundle of a load boots
abbrev pub BootsLoad : Load → Result Booted Refusal → Type 0
BootsLoad load found = IsBoot default_setup (work_bundle load.seed load.lines) found

-- its run
abbrev pub load_run : Booted → machine.RunResult Unix schedules.Schedule
load_run booted = run_of default_setup.turns (schedules.Round None) booted

-- what is told of the run: how many bytes it put, and their sum modulo 2^32
abbrev pub load_summary : Load → Booted → List ℕ
load_summary load booted = summary load.seed load.lines (length (load_run booted).put) (sum (load_run booted).put % 2 ^ 32)

-- the run halted
abbrev pub LoadHalts : Booted → Type 0
LoadHalts booted = (word : ℕ) × ((load_run booted).stop ≡ machine.Halted word)

-- the ending of `work` by what its bundle boots; where memory ran out, that tells nothing
abbrev pub EndsLoad : {K : Type 0} → Load → Result Booted Refusal → (K → List ℕ → K → Type 0) → K → K → Ending → Type 0
EndsLoad load (Ok booted) grew old new Done = LoadHalts booted × grew old (load_summary load booted) new
EndsLoad load (Ok booted) grew old new WriteFault = LoadHalts booted × GrewByPrefix grew old (load_summary load booted) new
EndsLoad load (Ok booted) grew old new (TurnsSpent made) = IsSpent (load_run booted).stop × ((load_run booted).turns ≡ made) × (new ≡ old)
EndsLoad load (Ok booted) grew old new (Idle made) = ((load_run booted).stop ≡ machine.Idle) × ((load_run booted).turns ≡ made) × (new ≡ old)
EndsLoad load (Err refusal) grew old new (Refused told) = (refusal ≡ refusal_of told) × (new ≡ old)
EndsLoad load (Ok booted) grew old new (Refused told) = ⊥
EndsLoad load (Err refusal) grew old new Done = ⊥
EndsLoad load (Err refusal) grew old new WriteFault = ⊥
EndsLoad load (Err refusal) grew old new (TurnsSpent made) = ⊥
EndsLoad load (Err refusal) grew old new (Idle made) = ⊥
EndsLoad load found grew old new (Halted word) = ⊥
EndsLoad load found grew old new Usage = ⊥
EndsLoad load found grew old new (NotAssembled kind line) = ⊥
EndsLoad load found grew old new (BadPlan line) = ⊥
EndsLoad load found grew old new ReadFault = ⊥
EndsLoad load found grew old new NoMemory = ⊥

-- the ending of `work`
abbrev pub EndsWork : {K : Type 0} → Load → (K → List ℕ → K → Type 0) → K → K → Ending → Type 0
EndsWork load grew old new ending =
    ((found : Result Booted Refusal) × BootsLoad load found × EndsLoad load found grew old new ending)
    ⊎ ((ending ≡ NoMemory) × (new ≡ old))

-- the ending of a put of a summary
abbrev pub PutsSummary : {K : Type 0} → List ℕ → (K → List ℕ → K → Type 0) → K → K → Ending → Type 0
PutsSummary text grew old new Done = grew old text new
PutsSummary text grew old new WriteFault = GrewByPrefix grew old text new
PutsSummary text grew old new NoMemory = new ≡ old
PutsSummary text grew old new ReadFault = ⊥
PutsSummary text grew old new (Halted word) = ⊥
PutsSummary text grew old new (TurnsSpent turns) = ⊥
PutsSummary text grew old new (Idle turns) = ⊥
PutsSummary text grew old new Usage = ⊥
PutsSummary text grew old new (Refused refusal) = ⊥
PutsSummary text grew old new (NotAssembled kind line) = ⊥
PutsSummary text grew old new (BadPlan line) = ⊥

-- The load booted and halted: the output got the summary of its run.
pub record SumsUp {K : Type 0} (load : Load) (grew : K → List ℕ → K → Type 0) (output_old output_new : K) : Type 0 where
  pub booted : Booted
  pub boots : BootsLoad load (Ok booted)
  pub halts : LoadHalts booted
  pub output_grew : grew output_old (load_summary load booted) output_new

-- likewise a front of the summary
pub record SumsUpPart {K : Type 0} (load : Load) (grew : K → List ℕ → K → Type 0) (output_old output_new : K) : Type 0 where
  pub booted : Booted
  pub boots : BootsLoad load (Ok booted)
  pub halts : LoadHalts booted
  pub output_grew : GrewByPrefix grew output_old (load_summary load booted) output_new

-- The load booted and stopped so, without halting: the notes got the note of the number of its turns.
pub record StopsLoad {E : Type 0} (load : Load) (why : machine.Stop → Type 0) (note : ℕ → List ℕ) (noted : E → List ℕ → E → Type 0) (notes_old notes_new : E) : Type 0 where
  pub booted : Booted
  pub boots : BootsLoad load (Ok booted)
  pub stop_is : why (load_run booted).stop
  pub notes_grew : noted notes_old (note (load_run booted).turns) notes_new

-- The load isn't booted: the notes got the note of why.
pub record RefusesLoad {E : Type 0} (load : Load) (noted : E → List ℕ → E → Type 0) (notes_old notes_new : E) : Type 0 where
  pub refusal : Refusal
  pub boots : BootsLoad load (Err refusal)
  pub notes_grew : noted notes_old (refusal_note refusal) notes_new
