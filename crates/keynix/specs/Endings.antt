-- Endings in the words of the definitions.
use Rattle.std.specs.Prelude.{◌≡◌, ◌⊎◌, ℕ, ◌++◌, List, [], Option, Some, None, Result, Ok, Err}
use Rattle.flat_unix.specs.declared.flat.FlatFault.{FlatFault}
use Rattle.flat_unix.specs.declared.flat.FlatFault.TheVariants as flat
use Rattle.kn_io.specs.Sink.{GrewByPrefix}
use Rattle.plan.specs.Plans.{slots_of, spans_of}
use Rattle.plan.specs.declared.span.Span.{Span}
use Rattle.unix_model.specs.Machine as machine
use Rattle.unix_model.specs.Schedule as schedules
use Rattle.unix_model.specs.State.{Unix}
use Rattle.unix_model.specs.Calls.{call_of}
use Rattle.rv_asm.specs.Files.{IsFile}
use Rattle.rv_asm.specs.Programs as asm
use Rattle.keynix.specs.declared.ending.Ending.{Ending}
use Rattle.keynix.specs.declared.ending.Ending.TheVariants.{Halted, TurnsSpent, Idle, Done, Usage, Refused, NotAssembled, BadPlan, ReadFault, WriteFault, NoMemory}
use Rattle.keynix.specs.declared.ending.Refusal.TheVariants.{NoRoom, Elf}
use Rattle.keynix.specs.declared.schedule.Schedule as own
use Rattle.keynix.specs.Schedules.{schedule_of}
use Rattle.flat_bundle.specs.Booting.{Booted, Refusal}
use Rattle.keynix.specs.Inputs.{IsBoot, refusal_of}
use Rattle.command_line.specs.Words.{Plan, Round, Given, Setup}

-- the schedule that a plan's spans give
abbrev pub given_by : Result (List Span) ℕ → Result schedules.Schedule ℕ
given_by (Ok spans) = Ok (schedules.Given (slots_of spans))
given_by (Err line) = Err line

-- the schedule of a run, or the line of the plan's text that is refused: where nobody says whose turns they are, the text is
-- nothing to it
abbrev pub schedule_told : Plan → (text : List ℕ) → Result schedules.Schedule ℕ
schedule_told Round text = Ok (schedules.Round None)
schedule_told Given text = given_by (spans_of text)

-- the plan's text is told, where it is asked for
abbrev pub IsPlan : Plan → Option (List ℕ) → (text : List ℕ) → Type 0
IsPlan Round left text = Unit {0}
IsPlan Given left text = left ≡ Some text

-- the plan was read to its end, where it was asked for
abbrev pub PlanEnds : Plan → Option (List ℕ) → Type 0
PlanEnds Round left = Unit {0}
PlanEnds Given left = left ≡ Some []

-- the plan is as before, where it wasn't asked for
abbrev pub KeepsPlan : {P : Type 0} → Plan → P → P → Type 0
KeepsPlan Round old new = new ≡ old
KeepsPlan Given old new = Unit {0}

-- a fault of the plan, where it was asked for
abbrev pub FromPlan : Plan → Type 0 → Type 0
FromPlan Round fault = ⊥
FromPlan Given fault = fault

-- the run of what was booted
abbrev pub run_of : (turns : ℕ) → schedules.Schedule → Booted → machine.RunResult Unix schedules.Schedule
run_of turns schedule booted = schedules.unix_run call_of turns booted.unix schedule booted.input

-- the ending of a turn that failed
abbrev pub fault_ending : FlatFault → Ending
fault_ending flat.ReadFault = ReadFault
fault_ending flat.WriteFault = WriteFault
fault_ending flat.NoMemory = NoMemory
fault_ending flat.NoRoom = Refused (NoRoom 0)
fault_ending (flat.Elf fault) = Refused (Elf fault)

-- the ending of a run that ended so, after so many turns
abbrev pub run_ending : machine.Stop → ℕ → Ending
run_ending (machine.Halted word) turns = Halted word
run_ending machine.Idle turns = Idle turns
run_ending machine.PlanDone turns = TurnsSpent turns
run_ending machine.Going turns = TurnsSpent turns

-- an ending by a fault comes only with its cause
abbrev pub IsCaused : Type 0 → Type 0 → Ending → Type 0
IsCaused read write ReadFault = read
IsCaused read write WriteFault = write
IsCaused read write (Halted word) = Unit {0}
IsCaused read write (TurnsSpent turns) = Unit {0}
IsCaused read write (Idle turns) = Unit {0}
IsCaused read write Done = Unit {0}
IsCaused read write Usage = ⊥
IsCaused read write (Refused refusal) = Unit {0}
IsCaused read write (NotAssembled kind line) = Unit {0}
IsCaused read write (BadPlan line) = Unit {0}
IsCaused read write NoMemory = Unit {0}

-- A run was made whole: the output got the bytes that it puts, the input has left what it leaves, and the console input is
-- what it takes and that.
pub record RunsWhole {S K : Type 0} (whole : machine.RunResult Unix schedules.Schedule) (input : List ℕ) (left : S → Option (List ℕ)) (grew : K → List ℕ → K → Type 0) (source : S) (old new : K) : Type 0 where
  pub output_grew : grew old whole.put new
  pub input_left : left source ≡ Some whole.left
  pub input_split : input ≡ whole.taken ++ whole.left

-- a run ended since it had made all turns that it may make, or all that the plan gives
abbrev pub IsSpent : machine.Stop → Type 0
IsSpent (machine.Halted word) = ⊥
IsSpent machine.Idle = ⊥
IsSpent machine.PlanDone = Unit {0}
IsSpent machine.Going = Unit {0}

-- a run that was cut short: the output got a front of the bytes that it puts
abbrev pub PutsPart : {K : Type 0} → machine.RunResult Unix schedules.Schedule → (K → List ℕ → K → Type 0) → K → K → Type 0
PutsPart whole grew old new = GrewByPrefix grew old whole.put new

-- the ending of a run
abbrev pub RunsOn : {S K : Type 0} → machine.RunResult Unix schedules.Schedule → (input : List ℕ) → (S → Option (List ℕ)) → (K → List ℕ → K → Type 0) → S → K → K → Ending → Type 0
RunsOn whole input left grew source old new (Halted word) = RunsWhole whole input left grew source old new × (whole.stop ≡ machine.Halted word)
RunsOn whole input left grew source old new (TurnsSpent made) = RunsWhole whole input left grew source old new × IsSpent whole.stop × (whole.turns ≡ made)
RunsOn whole input left grew source old new (Idle made) = RunsWhole whole input left grew source old new × (whole.stop ≡ machine.Idle) × (whole.turns ≡ made)
RunsOn whole input left grew source old new ReadFault = PutsPart whole grew old new
RunsOn whole input left grew source old new WriteFault = PutsPart whole grew old new
RunsOn whole input left grew source old new NoMemory = PutsPart whole grew old new
RunsOn whole input left grew source old new Done = ⊥
RunsOn whole input left grew source old new Usage = ⊥
RunsOn whole input left grew source old new (Refused refusal) = ⊥
RunsOn whole input left grew source old new (NotAssembled kind line) = ⊥
RunsOn whole input left grew source old new (BadPlan line) = ⊥

-- the input is refused so, and nothing was put
abbrev pub RefusesAs : {K : Type 0} → Refusal → K → K → Ending → Type 0
RefusesAs refusal old new (Refused told) = (refusal ≡ refusal_of told) × (new ≡ old)
RefusesAs refusal old new ReadFault = new ≡ old
RefusesAs refusal old new NoMemory = new ≡ old
RefusesAs refusal old new WriteFault = ⊥
RefusesAs refusal old new (Halted word) = ⊥
RefusesAs refusal old new (TurnsSpent turns) = ⊥
RefusesAs refusal old new (Idle turns) = ⊥
RefusesAs refusal old new Done = ⊥
RefusesAs refusal old new Usage = ⊥
RefusesAs refusal old new (NotAssembled kind line) = ⊥
RefusesAs refusal old new (BadPlan line) = ⊥

-- the ending of `once` under a schedule by the boot of its input
abbrev pub Ends : {S K : Type 0} → ℕ → schedules.Schedule → Result Booted Refusal → (S → Option (List ℕ)) → (K → List ℕ → K → Type 0) → S → K → K → Ending → Type 0
Ends turns schedule (Ok booted) left grew source old new ending = RunsOn (run_of turns schedule booted) booted.input left grew source old new ending
Ends turns schedule (Err refusal) left grew source old new ending = RefusesAs refusal old new ending

-- why a source, or what it holds, wasn't read to its end
abbrev pub IsUnread : Type 0 → Ending → Type 0
IsUnread read ReadFault = read
IsUnread read NoMemory = Unit {0}
IsUnread read WriteFault = ⊥
IsUnread read (Halted word) = ⊥
IsUnread read (TurnsSpent turns) = ⊥
IsUnread read (Idle turns) = ⊥
IsUnread read Done = ⊥
IsUnread read Usage = ⊥
IsUnread read (Refused refusal) = ⊥
IsUnread read (NotAssembled kind line) = ⊥
IsUnread read (BadPlan line) = ⊥

-- The ending of `once` under a schedule by the input: it boots, or is refused, and the ending follows from that; or it
-- wasn't read, and nothing was put.
abbrev pub EndsOn : {S K : Type 0} → Setup → schedules.Schedule → List ℕ → (S → Option (List ℕ)) → (K → List ℕ → K → Type 0) → S → K → K → Ending → Type 0
EndsOn setup schedule bytes left grew source old new ending =
    ((found : Result Booted Refusal) × IsBoot setup bytes found × Ends setup.turns schedule found left grew source old new ending)
    ⊎ (IsUnread (Unit {0}) ending × (new ≡ old))

-- the plan is refused at a line: the input is as before, and nothing was put
abbrev pub RefusesPlanAs : {S K : Type 0} → ℕ → (source_old source_new : S) (old new : K) → Ending → Type 0
RefusesPlanAs line source_old source_new old new (BadPlan told) = (line ≡ told) × (source_new ≡ source_old) × (new ≡ old)
RefusesPlanAs line source_old source_new old new ReadFault = (source_new ≡ source_old) × (new ≡ old)
RefusesPlanAs line source_old source_new old new NoMemory = (source_new ≡ source_old) × (new ≡ old)
RefusesPlanAs line source_old source_new old new WriteFault = ⊥
RefusesPlanAs line source_old source_new old new (Halted word) = ⊥
RefusesPlanAs line source_old source_new old new (TurnsSpent turns) = ⊥
RefusesPlanAs line source_old source_new old new (Idle turns) = ⊥
RefusesPlanAs line source_old source_new old new Done = ⊥
RefusesPlanAs line source_old source_new old new Usage = ⊥
RefusesPlanAs line source_old source_new old new (Refused refusal) = ⊥
RefusesPlanAs line source_old source_new old new (NotAssembled kind line_told) = ⊥

-- an ending that says that the plan was read to its end, where it was asked for
abbrev pub EndsPlan : Plan → Option (List ℕ) → Ending → Type 0
EndsPlan plan left (Halted word) = PlanEnds plan left
EndsPlan plan left (TurnsSpent turns) = PlanEnds plan left
EndsPlan plan left (Idle turns) = PlanEnds plan left
EndsPlan plan left (Refused refusal) = PlanEnds plan left
EndsPlan plan left (BadPlan line) = Unit {0}
EndsPlan plan left ReadFault = Unit {0}
EndsPlan plan left WriteFault = Unit {0}
EndsPlan plan left NoMemory = Unit {0}
EndsPlan plan left Done = Unit {0}
EndsPlan plan left Usage = Unit {0}
EndsPlan plan left (NotAssembled kind line) = Unit {0}

-- the ending of `once` by the schedule that is told
abbrev pub EndsOnce : {S K : Type 0} → Setup → Result schedules.Schedule ℕ → (S → Option (List ℕ)) → (K → List ℕ → K → Type 0) → Option (List ℕ) → (source_old source_new : S) (old new : K) → Ending → Type 0
EndsOnce setup (Err line) left grew plan_left source_old source_new old new ending = RefusesPlanAs line source_old source_new old new ending
EndsOnce setup (Ok schedule) left grew plan_left source_old source_new old new ending =
    EndsPlan setup.plan plan_left ending × ((bytes : List ℕ) → left source_old ≡ Some bytes → EndsOn setup schedule bytes left grew source_new old new ending)

-- the schedule that was read, or why none was
abbrev pub ReadsPlan : Plan → Result schedules.Schedule ℕ → Option (List ℕ) → Result own.Schedule Ending → Type 0
ReadsPlan plan told left (Ok schedule) = (told ≡ Ok (schedule_of schedule)) × PlanEnds plan left
ReadsPlan plan told left (Err (BadPlan line)) = told ≡ Err line
ReadsPlan plan told left (Err ReadFault) = Unit {0}
ReadsPlan plan told left (Err NoMemory) = Unit {0}
ReadsPlan plan told left (Err WriteFault) = ⊥
ReadsPlan plan told left (Err (Halted word)) = ⊥
ReadsPlan plan told left (Err (TurnsSpent turns)) = ⊥
ReadsPlan plan told left (Err (Idle turns)) = ⊥
ReadsPlan plan told left (Err Done) = ⊥
ReadsPlan plan told left (Err Usage) = ⊥
ReadsPlan plan told left (Err (Refused refusal)) = ⊥
ReadsPlan plan told left (Err (NotAssembled kind line)) = ⊥

-- the file of a source was written: the source means a program, the output got exactly the bytes of its file, and
-- nothing is left of the input
pub record WritesFile {S K : Type 0} (meaning : Result asm.Program asm.Refusal) (left : S → Option (List ℕ)) (grew : K → List ℕ → K → Type 0) (source : S) (old new : K) : Type 0 where
  pub program : asm.Program
  pub file : List ℕ
  pub means : meaning ≡ Ok program
  pub is_file : IsFile program file
  pub output_grew : grew old file new
  pub input_ended : left source ≡ Some []

-- a part of the file of a source was written: the output got a front of its bytes
pub record WritesPart {K : Type 0} (meaning : Result asm.Program asm.Refusal) (grew : K → List ℕ → K → Type 0) (old new : K) : Type 0 where
  pub program : asm.Program
  pub file : List ℕ
  pub means : meaning ≡ Ok program
  pub is_file : IsFile program file
  pub output_grew : GrewByPrefix grew old file new

-- the ending of `asm` by the meaning of its source
abbrev pub EndsAssembly : {S K : Type 0} → Result asm.Program asm.Refusal → (S → Option (List ℕ)) → (K → List ℕ → K → Type 0) → S → K → K → Ending → Type 0
EndsAssembly meaning left grew source old new Done = WritesFile meaning left grew source old new
EndsAssembly meaning left grew source old new (NotAssembled kind line) = meaning ≡ Err (record { kind = kind; line = line })
EndsAssembly meaning left grew source old new (BadPlan line) = ⊥
EndsAssembly meaning left grew source old new WriteFault = WritesPart meaning grew old new
EndsAssembly meaning left grew source old new ReadFault = Unit {0}
EndsAssembly meaning left grew source old new NoMemory = Unit {0}
EndsAssembly meaning left grew source old new (Halted word) = ⊥
EndsAssembly meaning left grew source old new (TurnsSpent turns) = ⊥
EndsAssembly meaning left grew source old new (Idle turns) = ⊥
EndsAssembly meaning left grew source old new Usage = ⊥
EndsAssembly meaning left grew source old new (Refused refusal) = ⊥

-- the endings of `asm`, whatever is told of the input: the output is as before where no file was written
abbrev pub KeepsOutput : {K : Type 0} → K → K → Ending → Type 0
KeepsOutput old new Done = Unit {0}
KeepsOutput old new WriteFault = Unit {0}
KeepsOutput old new (NotAssembled kind line) = new ≡ old
KeepsOutput old new (BadPlan line) = ⊥
KeepsOutput old new ReadFault = new ≡ old
KeepsOutput old new NoMemory = new ≡ old
KeepsOutput old new (Halted word) = ⊥
KeepsOutput old new (TurnsSpent turns) = ⊥
KeepsOutput old new (Idle turns) = ⊥
KeepsOutput old new Usage = ⊥
KeepsOutput old new (Refused refusal) = ⊥
