-- From the ending that was told to the promise of each status.
use Rattle.std.proofs.Common.{◌≡◌, ◌≢◌, ℕ, List, ◌⊎◌, true, Option, Some, None, Result, Ok, Err, refl, sym, ap, subst, ◌∙◌, inl, inr, arith}
use Rattle.kn_io.specs.Sink.{GrewByPrefix}
use Rattle.unix_model.specs.Machine as machine
use Rattle.unix_model.specs.Notes.{spent_note}
use Rattle.unix_model.specs.Schedule.{Schedule}
use Rattle.command_line.specs.Words.{Command, Load, Once, Work, Asm, Setup}
use Rattle.rv_asm.specs.Programs as asm
use Rattle.keynix.specs.declared.ending.Ending.{Ending}
use Rattle.keynix.specs.declared.ending.Ending.TheVariants.{Halted, TurnsSpent, Idle, Done, Usage, Refused, NotAssembled, BadPlan, ReadFault, WriteFault, NoMemory}
use Rattle.flat_bundle.specs.Booting.{Booted, OneOutcome, Refusal}
use Rattle.keynix.specs.declared.ending.Refusal as own
use Rattle.keynix.specs.Inputs.{IsBoot, refusal_of}
use Rattle.keynix.proofs.BootSteps.{one-boot}
use Rattle.keynix.specs.Endings.{Ends, EndsAssembly, EndsOn, EndsOnce, EndsPlan, FromPlan, IsCaused, IsPlan, IsSpent, IsUnread, KeepsOutput, PlanEnds, RefusesPlanAs, RunsOn, RunsWhole, RefusesAs, WritesFile, WritesPart, run_of, schedule_told}
use Rattle.keynix.specs.Loads.{EndsLoad, EndsWork}
use Rattle.keynix.specs.Promises.{Answers, ByCommand, HaltsOn, KeepsInputOf, LoadTold, ReadCause, RefusesInput, RefusesPlan, RefusesSource, Runs, StopsOn, is_status, stop_status}
use Rattle.keynix.proofs.LoadSteps.{load_told}
use Rattle.keynix.proofs.StatusSteps.{spent-status, status-by, status-is}
use Rattle.keynix.specs.Telling.{Tells, TakesMemory, PutsNote, PutsPartOfNote, ending_note, ending_status, idle_note, plan_note, refusal_note, usage_note, read_fault_note, write_fault_note, no_memory_note}

-- an ending whose input wasn't read has another
unread-status : {A : Type 0} (ending : Ending) (n : ℕ) → IsUnread (Unit {0}) ending → ending_status ending ≡ n → n ≢ 3 → n ≢ 6 → A
unread-status ReadFault n unread e three six = absurd (three (sym e))
unread-status NoMemory n unread e three six = absurd (six (sym e))
unread-status WriteFault n unread e three six = absurd unread
unread-status (Halted word) n unread e three six = absurd unread
unread-status (TurnsSpent made) n unread e three six = absurd unread
unread-status (Idle made) n unread e three six = absurd unread
unread-status Done n unread e three six = absurd unread
unread-status Usage n unread e three six = absurd unread
unread-status (Refused refusal) n unread e three six = absurd unread
unread-status (NotAssembled kind line) n unread e three six = absurd unread
unread-status (BadPlan line) n unread e three six = absurd unread

module _ {S P K E : Type 0} (left : S → Option (List ℕ)) (plan_left : P → Option (List ℕ)) (grew : K → List ℕ → K → Type 0) (noted : E → List ℕ → E → Type 0) (read plan_read write : Type 0) (source_old source_new : S) (plan_old plan_new : P) (output_old output_new : K) (notes_old notes_new : E) where
  -- the words are no command
  usage_by : (command : Option Command) (ending : Ending) → ByCommand command left plan_left grew read plan_read write source_old source_new plan_old plan_new output_old output_new ending → ending_status ending ≡ 1 → PutsNote noted (ending_note ending) notes_old notes_new
      → (command ≡ None) × noted notes_old usage_note notes_new
  usage_by None Usage follows e note = (refl, note)
  usage_by (Some (Once setup)) Usage follows e note = absurd follows.0
  usage_by (Some (Work load)) Usage follows e note = absurd follows.0
  usage_by (Some Asm) Usage follows e note = absurd follows.0
  usage_by command (Halted word) follows e note = absurd (omega (arith, e))
  usage_by command (TurnsSpent made) follows e note = absurd (omega (arith, e))
  usage_by command (Idle made) follows e note = absurd (omega (arith, e))
  usage_by command Done follows e note = absurd (omega (arith, e))
  usage_by command (Refused refusal) follows e note = absurd (omega (arith, e))
  usage_by command (NotAssembled kind line) follows e note = absurd (omega (arith, e))
  usage_by command (BadPlan line) follows e note = absurd (omega (arith, e))
  usage_by command ReadFault follows e note = absurd (omega (arith, e))
  usage_by command WriteFault follows e note = absurd (omega (arith, e))
  usage_by command NoMemory follows e note = absurd (omega (arith, e))

  -- the machine halted
  halted_by : (setup : Setup) (text bytes : List ℕ) (schedule : Schedule) (booted : Result Booted Refusal) (ending : Ending) → schedule_told setup.plan text ≡ Ok schedule → EndsPlan setup.plan (plan_left plan_new) ending → IsBoot setup bytes booted → Ends setup.turns schedule booted left grew source_new output_old output_new ending
      → ending_status ending ≡ 0 → PutsNote noted (ending_note ending) notes_old notes_new
      → HaltsOn setup text bytes left grew noted (plan_left plan_new) source_new output_old output_new notes_old notes_new
  halted_by setup text bytes schedule (Ok booted) (Halted word) is ended same runs e note =
      record { schedule = schedule; booted = booted; word = word; begins = record { plan_is = is; plan_ended = ended; boots = same }; runs = runs.0; stop_is = runs.1; notes_grew = note }
  halted_by setup text bytes schedule (Err refusal) (Halted word) is ended same never e note = absurd never
  halted_by setup text bytes schedule (Ok booted) Done is ended same never e note = absurd never
  halted_by setup text bytes schedule (Err refusal) Done is ended same never e note = absurd never
  halted_by setup text bytes schedule booted (TurnsSpent made) is ended same ends e note = absurd (omega (arith, e))
  halted_by setup text bytes schedule booted (Idle made) is ended same ends e note = absurd (omega (arith, e))
  halted_by setup text bytes schedule booted Usage is ended same ends e note = absurd (omega (arith, e))
  halted_by setup text bytes schedule booted (Refused refusal) is ended same ends e note = absurd (omega (arith, e))
  halted_by setup text bytes schedule booted (NotAssembled kind line) is ended same ends e note = absurd (omega (arith, e))
  halted_by setup text bytes schedule booted (BadPlan line) is ended same ends e note = absurd (omega (arith, e))
  halted_by setup text bytes schedule booted ReadFault is ended same ends e note = absurd (omega (arith, e))
  halted_by setup text bytes schedule booted WriteFault is ended same ends e note = absurd (omega (arith, e))
  halted_by setup text bytes schedule booted NoMemory is ended same ends e note = absurd (omega (arith, e))

  halted_once : (setup : Setup) (text bytes : List ℕ) (told : Result Schedule ℕ) (ending : Ending) → schedule_told setup.plan text ≡ told → EndsOnce setup told left grew (plan_left plan_new) source_old source_new output_old output_new ending → left source_old ≡ Some bytes
      → ending_status ending ≡ 0 → PutsNote noted (ending_note ending) notes_old notes_new
      → HaltsOn setup text bytes left grew noted (plan_left plan_new) source_new output_old output_new notes_old notes_new
  halted_once setup text bytes (Ok schedule) ending is ends known e note = by (ends.1 bytes known)
    where
      by : EndsOn setup schedule bytes left grew source_new output_old output_new ending → HaltsOn setup text bytes left grew noted (plan_left plan_new) source_new output_old output_new notes_old notes_new
      by (inl on) = halted_by setup text bytes schedule on.0 ending is ends.0 on.1 on.2 e note
      by (inr unread) = unread-status ending 0 unread.0 e (omega arith) (omega arith)
  halted_once setup text bytes (Err line) (Halted word) is never known e note = absurd never
  halted_once setup text bytes (Err line) Done is never known e note = absurd never
  halted_once setup text bytes (Err refused) (TurnsSpent made) is ends known e note = absurd (omega (arith, e))
  halted_once setup text bytes (Err refused) (Idle made) is ends known e note = absurd (omega (arith, e))
  halted_once setup text bytes (Err refused) Usage is ends known e note = absurd (omega (arith, e))
  halted_once setup text bytes (Err refused) (Refused refusal) is ends known e note = absurd (omega (arith, e))
  halted_once setup text bytes (Err refused) (NotAssembled kind line) is ends known e note = absurd (omega (arith, e))
  halted_once setup text bytes (Err refused) (BadPlan line) is ends known e note = absurd (omega (arith, e))
  halted_once setup text bytes (Err refused) ReadFault is ends known e note = absurd (omega (arith, e))
  halted_once setup text bytes (Err refused) WriteFault is ends known e note = absurd (omega (arith, e))
  halted_once setup text bytes (Err refused) NoMemory is ends known e note = absurd (omega (arith, e))

  -- the file was written
  written_by : (meaning : Result asm.Program asm.Refusal) (ending : Ending) → KeepsOutput output_old output_new ending → EndsAssembly meaning left grew source_new output_old output_new ending → ending_status ending ≡ 0 → PutsNote noted (ending_note ending) notes_old notes_new
      → WritesFile meaning left grew source_new output_old output_new × (notes_new ≡ notes_old)
  written_by meaning Done keeps ends e note = (ends, note)
  written_by meaning (Halted word) keeps ends e note = absurd keeps
  written_by meaning (TurnsSpent made) keeps ends e note = absurd (omega (arith, e))
  written_by meaning (Idle made) keeps ends e note = absurd (omega (arith, e))
  written_by meaning Usage keeps ends e note = absurd (omega (arith, e))
  written_by meaning (Refused refusal) keeps ends e note = absurd (omega (arith, e))
  written_by meaning (NotAssembled kind line) keeps ends e note = absurd (omega (arith, e))
  written_by meaning (BadPlan line) keeps ends e note = absurd (omega (arith, e))
  written_by meaning ReadFault keeps ends e note = absurd (omega (arith, e))
  written_by meaning WriteFault keeps ends e note = absurd (omega (arith, e))
  written_by meaning NoMemory keeps ends e note = absurd (omega (arith, e))

  -- nothing, a part or all of the file was written
  part_written_by : ((a b : K) (x : List ℕ) → grew a x b → GrewByPrefix grew a x b) → (meaning : Result asm.Program asm.Refusal) (ending : Ending) → KeepsOutput output_old output_new ending → EndsAssembly meaning left grew source_new output_old output_new ending
      → (output_new ≡ output_old) ⊎ WritesPart meaning grew output_old output_new
  part_written_by whole meaning Done keeps ends = inr (record { program = ends.program; file = ends.file; means = ends.means; is_file = ends.is_file; output_grew = whole output_old output_new ends.file ends.output_grew })
  part_written_by whole meaning WriteFault keeps ends = inr ends
  part_written_by whole meaning (Halted word) keeps ends = absurd keeps
  part_written_by whole meaning (TurnsSpent made) keeps ends = absurd keeps
  part_written_by whole meaning (Idle made) keeps ends = absurd keeps
  part_written_by whole meaning Usage keeps ends = absurd keeps
  part_written_by whole meaning (Refused refusal) keeps ends = absurd keeps
  part_written_by whole meaning (BadPlan line) keeps ends = absurd keeps
  part_written_by whole meaning (NotAssembled kind line) keeps ends = inl keeps
  part_written_by whole meaning ReadFault keeps ends = inl keeps
  part_written_by whole meaning NoMemory keeps ends = inl keeps

  -- the machine stopped so, without halting, where an ending says so with the number of its turns
  stopped_on : (why : machine.Stop → Type 0) (note : ℕ → List ℕ) (setup : Setup) (text bytes : List ℕ) (schedule : Schedule) (booted : Booted) (made : ℕ) → Runs setup text bytes (plan_left plan_new) schedule booted
      → RunsWhole (run_of setup.turns schedule booted) booted.input left grew source_new output_old output_new × why (run_of setup.turns schedule booted).stop × ((run_of setup.turns schedule booted).turns ≡ made)
      → noted notes_old (note made) notes_new → StopsOn setup why note text bytes left grew noted (plan_left plan_new) source_new output_old output_new notes_old notes_new
  stopped_on why note setup text bytes schedule booted made begins runs told =
      record {
        schedule = schedule;
        booted = booted;
        begins = begins;
        runs = runs.0;
        stop_is = runs.1;
        notes_grew = subst (λ number. noted notes_old (note number) notes_new) (sym runs.2) told;
      }

  -- by any ending of which each run says so
  stopped_once : (why : machine.Stop → Type 0) (note : ℕ → List ℕ) (setup : Setup) (text bytes : List ℕ) (made : ℕ) (ending : Ending)
      → ((schedule : Schedule) (booted : Booted) → Ends setup.turns schedule (Ok booted) left grew source_new output_old output_new ending
      → RunsWhole (run_of setup.turns schedule booted) booted.input left grew source_new output_old output_new × why (run_of setup.turns schedule booted).stop × ((run_of setup.turns schedule booted).turns ≡ made))
      → ((refusal : Refusal) → RefusesAs refusal output_old output_new ending → ⊥) → (EndsPlan setup.plan (plan_left plan_new) ending → PlanEnds setup.plan (plan_left plan_new))
      → (IsUnread (Unit {0}) ending → ⊥) → ((line : ℕ) → RefusesPlanAs line source_old source_new output_old output_new ending → ⊥)
      → (told : Result Schedule ℕ) → schedule_told setup.plan text ≡ told → EndsOnce setup told left grew (plan_left plan_new) source_old source_new output_old output_new ending → left source_old ≡ Some bytes
      → noted notes_old (note made) notes_new → StopsOn setup why note text bytes left grew noted (plan_left plan_new) source_new output_old output_new notes_old notes_new
  stopped_once why note setup text bytes made ending runs_so refused_not ends_plan unread_not plan_not (Ok schedule) is ends known told = by (ends.1 bytes known)
    where
      on : (booted : Result Booted Refusal) → IsBoot setup bytes booted → Ends setup.turns schedule booted left grew source_new output_old output_new ending → StopsOn setup why note text bytes left grew noted (plan_left plan_new) source_new output_old output_new notes_old notes_new
      on (Ok booted) boots runs = stopped_on why note setup text bytes schedule booted made (record { plan_is = is; plan_ended = ends_plan ends.0; boots = boots }) (runs_so schedule booted runs) told
      on (Err refusal) boots refuses = absurd (refused_not refusal refuses)

      by : EndsOn setup schedule bytes left grew source_new output_old output_new ending → StopsOn setup why note text bytes left grew noted (plan_left plan_new) source_new output_old output_new notes_old notes_new
      by (inl found) = on found.0 found.1 found.2
      by (inr unread) = absurd (unread_not unread.0)
  stopped_once why note setup text bytes made ending runs_so refused_not ends_plan unread_not plan_not (Err line) is never known told = absurd (plan_not line never)

  -- all turns were made
  spent_by : (setup : Setup) (text bytes : List ℕ) (told : Result Schedule ℕ) (ending : Ending) → schedule_told setup.plan text ≡ told → EndsOnce setup told left grew (plan_left plan_new) source_old source_new output_old output_new ending → left source_old ≡ Some bytes
      → ending_status ending ≡ 9 → PutsNote noted (ending_note ending) notes_old notes_new → StopsOn setup IsSpent spent_note text bytes left grew noted (plan_left plan_new) source_new output_old output_new notes_old notes_new
  spent_by setup text bytes told (TurnsSpent made) is ends known e note =
      stopped_once IsSpent spent_note setup text bytes made (TurnsSpent made) (λ schedule booted runs. runs) (λ refusal never. never) (λ ended. ended) (λ never. never) (λ line never. never) told is ends known note
  spent_by setup text bytes told (Idle made) is ends known e note = absurd (omega (arith, e))
  spent_by setup text bytes told (Halted word) is ends known e note = absurd (omega (arith, e))
  spent_by setup text bytes told Done is ends known e note = absurd (omega (arith, e))
  spent_by setup text bytes told Usage is ends known e note = absurd (omega (arith, e))
  spent_by setup text bytes told (Refused refusal) is ends known e note = absurd (omega (arith, e))
  spent_by setup text bytes told (NotAssembled kind line) is ends known e note = absurd (omega (arith, e))
  spent_by setup text bytes told (BadPlan line) is ends known e note = absurd (omega (arith, e))
  spent_by setup text bytes told ReadFault is ends known e note = absurd (omega (arith, e))
  spent_by setup text bytes told WriteFault is ends known e note = absurd (omega (arith, e))
  spent_by setup text bytes told NoMemory is ends known e note = absurd (omega (arith, e))

  -- the machine is idle
  idle_by : (setup : Setup) (text bytes : List ℕ) (told : Result Schedule ℕ) (ending : Ending) → schedule_told setup.plan text ≡ told → EndsOnce setup told left grew (plan_left plan_new) source_old source_new output_old output_new ending → left source_old ≡ Some bytes
      → ending_status ending ≡ 10 → PutsNote noted (ending_note ending) notes_old notes_new → StopsOn setup (λ stop. stop ≡ machine.Idle) idle_note text bytes left grew noted (plan_left plan_new) source_new output_old output_new notes_old notes_new
  idle_by setup text bytes told (Idle made) is ends known e note =
      stopped_once (λ stop. stop ≡ machine.Idle) idle_note setup text bytes made (Idle made) (λ schedule booted runs. runs) (λ refusal never. never) (λ ended. ended) (λ never. never) (λ line never. never) told is ends known note
  idle_by setup text bytes told (TurnsSpent made) is ends known e note = absurd (omega (arith, e))
  idle_by setup text bytes told (Halted word) is ends known e note = absurd (omega (arith, e))
  idle_by setup text bytes told Done is ends known e note = absurd (omega (arith, e))
  idle_by setup text bytes told Usage is ends known e note = absurd (omega (arith, e))
  idle_by setup text bytes told (Refused refusal) is ends known e note = absurd (omega (arith, e))
  idle_by setup text bytes told (NotAssembled kind line) is ends known e note = absurd (omega (arith, e))
  idle_by setup text bytes told (BadPlan line) is ends known e note = absurd (omega (arith, e))
  idle_by setup text bytes told ReadFault is ends known e note = absurd (omega (arith, e))
  idle_by setup text bytes told WriteFault is ends known e note = absurd (omega (arith, e))
  idle_by setup text bytes told NoMemory is ends known e note = absurd (omega (arith, e))

  -- the plan or the input is refused
  refused_on : (setup : Setup) (text bytes : List ℕ) (schedule : Schedule) (refusal : own.Refusal) (booted : Result Booted Refusal) → schedule_told setup.plan text ≡ Ok schedule → PlanEnds setup.plan (plan_left plan_new) → IsBoot setup bytes booted → Ends setup.turns schedule booted left grew source_new output_old output_new (Refused refusal)
      → noted notes_old (refusal_note (refusal_of refusal)) notes_new → RefusesInput setup text bytes noted (plan_left plan_new) notes_old notes_new
  refused_on setup text bytes schedule refusal (Ok booted) is ended same never note = absurd never
  refused_on setup text bytes schedule refusal (Err why) is ended same refuses note =
      record { schedule = schedule; refusal = why; plan_is = is; plan_ended = ended; boots = same; notes_grew = subst (λ told. noted notes_old (refusal_note told) notes_new) (sym refuses.0) note }

  refused_once : (setup : Setup) (text bytes : List ℕ) (told : Result Schedule ℕ) (ending : Ending) → schedule_told setup.plan text ≡ told → EndsOnce setup told left grew (plan_left plan_new) source_old source_new output_old output_new ending → left source_old ≡ Some bytes
      → ending_status ending ≡ 2 → PutsNote noted (ending_note ending) notes_old notes_new → RefusesPlan setup text noted notes_old notes_new ⊎ RefusesInput setup text bytes noted (plan_left plan_new) notes_old notes_new
  refused_once setup text bytes (Ok schedule) (Refused refusal) is ends known e note = inr (by (ends.1 bytes known))
    where
      by : EndsOn setup schedule bytes left grew source_new output_old output_new (Refused refusal) → RefusesInput setup text bytes noted (plan_left plan_new) notes_old notes_new
      by (inl on) = refused_on setup text bytes schedule refusal on.0 is ends.0 on.1 on.2 note
      by (inr unread) = absurd unread.0
  refused_once setup text bytes (Ok schedule) (NotAssembled kind line) is ends known e note = absurd (by (ends.1 bytes known))
    where
      never : (booted : Result Booted Refusal) → Ends setup.turns schedule booted left grew source_new output_old output_new (NotAssembled kind line) → ⊥
      never (Ok booted) ends = ends
      never (Err refusal) ends = ends

      by : EndsOn setup schedule bytes left grew source_new output_old output_new (NotAssembled kind line) → ⊥
      by (inl on) = never on.0 on.2
      by (inr unread) = unread.0
  refused_once setup text bytes (Ok schedule) (BadPlan line) is ends known e note = absurd (by (ends.1 bytes known))
    where
      never : (booted : Result Booted Refusal) → Ends setup.turns schedule booted left grew source_new output_old output_new (BadPlan line) → ⊥
      never (Ok booted) ends = ends
      never (Err refusal) ends = ends

      by : EndsOn setup schedule bytes left grew source_new output_old output_new (BadPlan line) → ⊥
      by (inl on) = never on.0 on.2
      by (inr unread) = unread.0
  refused_once setup text bytes (Err refused) (BadPlan line) is ends known e note = inl (record { line = refused; plan_is = is; notes_grew = subst (λ told. noted notes_old (plan_note told) notes_new) (sym ends.0) note })
  refused_once setup text bytes (Err refused) (Refused refusal) is never known e note = absurd never
  refused_once setup text bytes (Err refused) (NotAssembled kind line) is never known e note = absurd never
  refused_once setup text bytes told (Halted word) is ends known e note = absurd (omega (arith, e))
  refused_once setup text bytes told (TurnsSpent made) is ends known e note = absurd (omega (arith, e))
  refused_once setup text bytes told (Idle made) is ends known e note = absurd (omega (arith, e))
  refused_once setup text bytes told Done is ends known e note = absurd (omega (arith, e))
  refused_once setup text bytes told Usage is ends known e note = absurd (omega (arith, e))
  refused_once setup text bytes told ReadFault is ends known e note = absurd (omega (arith, e))
  refused_once setup text bytes told WriteFault is ends known e note = absurd (omega (arith, e))
  refused_once setup text bytes told NoMemory is ends known e note = absurd (omega (arith, e))

  -- the source is refused
  refused_source_by : (bytes : List ℕ) (ending : Ending) → KeepsOutput output_old output_new ending → EndsAssembly (asm.assembled bytes) left grew source_new output_old output_new ending → ending_status ending ≡ 2 → PutsNote noted (ending_note ending) notes_old notes_new
      → RefusesSource bytes noted notes_old notes_new
  refused_source_by bytes (NotAssembled kind line) keeps ends e note = record { refusal = record { kind = kind; line = line }; means = ends; notes_grew = note }
  refused_source_by bytes (Refused refusal) keeps ends e note = absurd keeps
  refused_source_by bytes (BadPlan line) keeps ends e note = absurd keeps
  refused_source_by bytes (Halted word) keeps ends e note = absurd (omega (arith, e))
  refused_source_by bytes (TurnsSpent made) keeps ends e note = absurd (omega (arith, e))
  refused_source_by bytes (Idle made) keeps ends e note = absurd (omega (arith, e))
  refused_source_by bytes Done keeps ends e note = absurd (omega (arith, e))
  refused_source_by bytes Usage keeps ends e note = absurd (omega (arith, e))
  refused_source_by bytes ReadFault keeps ends e note = absurd (omega (arith, e))
  refused_source_by bytes WriteFault keeps ends e note = absurd (omega (arith, e))
  refused_source_by bytes NoMemory keeps ends e note = absurd (omega (arith, e))

  -- a call of the plan or of the input failed
  read_by : (command : Option Command) (ending : Ending) → ByCommand command left plan_left grew read plan_read write source_old source_new plan_old plan_new output_old output_new ending → ending_status ending ≡ 3 → PutsNote noted (ending_note ending) notes_old notes_new
      → ReadCause command read plan_read × noted notes_old read_fault_note notes_new
  read_by None ReadFault follows e note = cc
  read_by (Some (Once setup)) ReadFault follows e note = (follows.0, note)
  read_by (Some (Work load)) ReadFault follows e note = absurd follows.0
  read_by (Some Asm) ReadFault follows e note = (follows.0, note)
  read_by command (Halted word) follows e note = absurd (omega (arith, e))
  read_by command (TurnsSpent made) follows e note = absurd (omega (arith, e))
  read_by command (Idle made) follows e note = absurd (omega (arith, e))
  read_by command Done follows e note = absurd (omega (arith, e))
  read_by command Usage follows e note = absurd (omega (arith, e))
  read_by command (Refused refusal) follows e note = absurd (omega (arith, e))
  read_by command (NotAssembled kind line) follows e note = absurd (omega (arith, e))
  read_by command (BadPlan line) follows e note = absurd (omega (arith, e))
  read_by command WriteFault follows e note = absurd (omega (arith, e))
  read_by command NoMemory follows e note = absurd (omega (arith, e))

  -- the statuses of a command
  load-status : (load : Load) (found : Result Booted Refusal) (ending : Ending) → EndsLoad load found grew output_old output_new ending → is_status (Some (Work load)) (ending_status ending) ≡ true
  load-status load found Done ends = refl
  load-status load found WriteFault ends = refl
  load-status load found (TurnsSpent made) ends = refl
  load-status load found (Idle made) ends = refl
  load-status load found (Refused told) ends = refl
  load-status load found (Halted word) ends = refl
  load-status load found Usage ends = absurd ends
  load-status load found (NotAssembled kind line) ends = refl
  load-status load found (BadPlan line) ends = refl
  load-status load found ReadFault ends = absurd ends
  load-status load found NoMemory ends = refl

  one-status : (command : Option Command) (ending : Ending) → ByCommand command left plan_left grew read plan_read write source_old source_new plan_old plan_new output_old output_new ending → is_status command (ending_status ending) ≡ true
  one-status None ending follows = ap (λ (e : Ending). is_status None (ending_status e)) follows.0
  one-status (Some (Once setup)) Usage follows = absurd follows.0
  one-status (Some (Once setup)) (Halted word) follows = refl
  one-status (Some (Once setup)) (TurnsSpent made) follows = refl
  one-status (Some (Once setup)) (Idle made) follows = refl
  one-status (Some (Once setup)) Done follows = refl
  one-status (Some (Once setup)) (Refused refusal) follows = refl
  one-status (Some (Once setup)) (NotAssembled kind line) follows = refl
  one-status (Some (Once setup)) (BadPlan line) follows = refl
  one-status (Some (Once setup)) ReadFault follows = refl
  one-status (Some (Once setup)) WriteFault follows = refl
  one-status (Some (Once setup)) NoMemory follows = refl
  one-status (Some (Work load)) ending follows = by follows.2
    where
      by : EndsWork load grew output_old output_new ending → is_status (Some (Work load)) (ending_status ending) ≡ true
      by (inl on) = load-status load on.0 ending on.2
      by (inr none) = ap (λ (e : Ending). is_status (Some (Work load)) (ending_status e)) none.0
  one-status (Some Asm) Done follows = refl
  one-status (Some Asm) (NotAssembled kind line) follows = refl
  one-status (Some Asm) ReadFault follows = refl
  one-status (Some Asm) WriteFault follows = refl
  one-status (Some Asm) NoMemory follows = refl
  one-status (Some Asm) (Refused refusal) follows = refl
  one-status (Some Asm) (BadPlan line) follows = refl
  one-status (Some Asm) (Halted word) follows = refl
  one-status (Some Asm) (TurnsSpent made) follows = absurd follows.1
  one-status (Some Asm) (Idle made) follows = absurd follows.1
  one-status (Some Asm) Usage follows = absurd follows.0

  fault-status : (command : Option Command) → is_status command 4 ≡ true
  fault-status None = refl
  fault-status (Some (Once setup)) = refl
  fault-status (Some (Work load)) = refl
  fault-status (Some Asm) = refl

  memory-status : (command : Option Command) (ending : Ending) → ByCommand command left plan_left grew read plan_read write source_old source_new plan_old plan_new output_old output_new ending → TakesMemory ending → is_status command 6 ≡ true
  memory-status None ending follows takes = absurd (subst TakesMemory follows.0 takes)
  memory-status (Some (Once setup)) ending follows takes = refl
  memory-status (Some (Work load)) ending follows takes = refl
  memory-status (Some Asm) ending follows takes = refl

  status-one : {rose : Type 0} {status : ℕ} (command : Option Command) (ending : Ending) → ByCommand command left plan_left grew read plan_read write source_old source_new plan_old plan_new output_old output_new ending → Tells noted rose ending notes_old notes_new status → is_status command status ≡ true
  status-one command ending follows (inl told) = ap (is_status command) told.0 ∙ one-status command ending follows
  status-one command ending follows (inr (inl told)) = ap (is_status command) told.0 ∙ fault-status command
  status-one command ending follows (inr (inr told)) = ap (is_status command) told.0 ∙ memory-status command ending follows told.1

  module _ (rose : Type 0) (command : Option Command) (status : ℕ) (answers : Answers command left plan_left grew noted read plan_read write rose source_old source_new plan_old plan_new output_old output_new notes_old notes_new status) where
    -- what follows from the words that were given
    by_command : (given : Option Command) → command ≡ given → ByCommand given left plan_left grew read plan_read write source_old source_new plan_old plan_new output_old output_new answers.ending
    by_command given is = subst (λ command. ByCommand command left plan_left grew read plan_read write source_old source_new plan_old plan_new output_old output_new answers.ending) is answers.follows

    pub status-told : is_status command status ≡ true
    status-told = status-one command answers.ending answers.follows answers.told

    pub usage-told : status ≡ 1 → (command ≡ None) × noted notes_old usage_note notes_new
    usage-told e = let is = status-is noted rose answers.ending notes_old notes_new status 1 answers.told e (omega arith) (omega arith) in usage_by command answers.ending answers.follows is.0 is.1

    pub read-told : status ≡ 3 → ReadCause command read plan_read × noted notes_old read_fault_note notes_new
    read-told e = let is = status-is noted rose answers.ending notes_old notes_new status 3 answers.told e (omega arith) (omega arith) in read_by command answers.ending answers.follows is.0 is.1

    -- the output's or the notes' count rose
    written : (ending : Ending) → ByCommand command left plan_left grew read plan_read write source_old source_new plan_old plan_new output_old output_new ending → ending_status ending ≡ 4 → write
    written WriteFault follows e = cause command follows
      where
        cause : (command : Option Command) → ByCommand command left plan_left grew read plan_read write source_old source_new plan_old plan_new output_old output_new WriteFault → write
        cause None follows = cc
        cause (Some (Once setup)) follows = follows.0
        cause (Some (Work load)) follows = follows.0
        cause (Some Asm) follows = follows.0
    written (Halted word) follows e = absurd (omega (arith, e))
    written (TurnsSpent made) follows e = absurd (omega (arith, e))
    written (Idle made) follows e = absurd (omega (arith, e))
    written Done follows e = absurd (omega (arith, e))
    written Usage follows e = absurd (omega (arith, e))
    written (Refused refusal) follows e = absurd (omega (arith, e))
    written (NotAssembled kind line) follows e = absurd (omega (arith, e))
    written (BadPlan line) follows e = absurd (omega (arith, e))
    written ReadFault follows e = absurd (omega (arith, e))
    written NoMemory follows e = absurd (omega (arith, e))

    pub write-told : status ≡ 4 → write ⊎ rose
    write-told e = by answers.told
      where
        by : Tells noted rose answers.ending notes_old notes_new status → write ⊎ rose
        by (inl told) = inl (written answers.ending answers.follows (sym told.0 ∙ e))
        by (inr (inl told)) = inr told.1
        by (inr (inr told)) = absurd (omega (arith, told.0, e))

    -- all of the note of a write fault
    note_whole : (ending : Ending) → ending_status ending ≡ 4 → PutsNote noted (ending_note ending) notes_old notes_new → noted notes_old write_fault_note notes_new
    note_whole WriteFault e note = note
    note_whole (Halted word) e note = absurd (omega (arith, e))
    note_whole (TurnsSpent made) e note = absurd (omega (arith, e))
    note_whole (Idle made) e note = absurd (omega (arith, e))
    note_whole Done e note = absurd (omega (arith, e))
    note_whole Usage e note = absurd (omega (arith, e))
    note_whole (Refused refusal) e note = absurd (omega (arith, e))
    note_whole (NotAssembled kind line) e note = absurd (omega (arith, e))
    note_whole (BadPlan line) e note = absurd (omega (arith, e))
    note_whole ReadFault e note = absurd (omega (arith, e))
    note_whole NoMemory e note = absurd (omega (arith, e))

    pub note-part-told : ((a b : E) (x : List ℕ) → noted a x b → GrewByPrefix noted a x b) → status ≡ 4 → PutsPartOfNote noted notes_old notes_new
    note-part-told whole e = by answers.told
      where
        by : Tells noted rose answers.ending notes_old notes_new status → PutsPartOfNote noted notes_old notes_new
        by (inl told) = (WriteFault, write_fault_note, refl, whole notes_old notes_new write_fault_note (note_whole answers.ending (sym told.0 ∙ e) told.1))
        by (inr (inl told)) = told.2
        by (inr (inr told)) = absurd (omega (arith, told.0, e))

    pub note-whole-told : status ≡ 4 → ¬ rose → noted notes_old write_fault_note notes_new
    note-whole-told e quiet = by answers.told
      where
        by : Tells noted rose answers.ending notes_old notes_new status → noted notes_old write_fault_note notes_new
        by (inl told) = note_whole answers.ending (sym told.0 ∙ e) told.1
        by (inr (inl told)) = absurd (quiet told.1)
        by (inr (inr told)) = absurd (omega (arith, told.0, e))

    -- host memory ran out
    no_memory_by : (ending : Ending) → ending_status ending ≡ 6 → PutsNote noted (ending_note ending) notes_old notes_new → noted notes_old no_memory_note notes_new
    no_memory_by NoMemory e note = note
    no_memory_by (Halted word) e note = absurd (omega (arith, e))
    no_memory_by (TurnsSpent made) e note = absurd (omega (arith, e))
    no_memory_by (Idle made) e note = absurd (omega (arith, e))
    no_memory_by Done e note = absurd (omega (arith, e))
    no_memory_by Usage e note = absurd (omega (arith, e))
    no_memory_by (Refused refusal) e note = absurd (omega (arith, e))
    no_memory_by (NotAssembled kind line) e note = absurd (omega (arith, e))
    no_memory_by (BadPlan line) e note = absurd (omega (arith, e))
    no_memory_by ReadFault e note = absurd (omega (arith, e))
    no_memory_by WriteFault e note = absurd (omega (arith, e))

    pub no_memory-told : status ≡ 6 → noted notes_old no_memory_note notes_new
    no_memory-told e = by answers.told
      where
        by : Tells noted rose answers.ending notes_old notes_new status → noted notes_old no_memory_note notes_new
        by (inl told) = no_memory_by answers.ending (sym told.0 ∙ e) told.1
        by (inr (inl told)) = absurd (omega (arith, told.0, e))
        by (inr (inr told)) = told.2

    -- words that are no command are answered so, unless the note fails
    usage_ending : command ≡ None → answers.ending ≡ Usage
    usage_ending none = (by_command None none).0

    pub usage-exactly : command ≡ None → (status ≡ 1) ⊎ ((status ≡ 4) × rose)
    usage-exactly none = by answers.told
      where
        by : Tells noted rose answers.ending notes_old notes_new status → (status ≡ 1) ⊎ ((status ≡ 4) × rose)
        by (inl told) = inl (told.0 ∙ ap ending_status (usage_ending none))
        by (inr (inl told)) = inr (told.0, told.1)
        by (inr (inr told)) = absurd (subst TakesMemory (usage_ending none) told.1)

    pub usage-output : command ≡ None → output_new ≡ output_old
    usage-output none = (by_command None none).2

    pub input-kept : KeepsInputOf command source_old source_new
    input-kept = by command answers.follows
      where
        by : (command : Option Command) → ByCommand command left plan_left grew read plan_read write source_old source_new plan_old plan_new output_old output_new answers.ending → KeepsInputOf command source_old source_new
        by None follows = follows.1
        by (Some (Once setup)) follows = tt
        by (Some (Work load)) follows = follows.1
        by (Some Asm) follows = tt

    -- the ending of `work`
    pub load-told : OneOutcome → ((a b : K) (x : List ℕ) → grew a x b → GrewByPrefix grew a x b) → (load : Load) → command ≡ Some (Work load) → LoadTold load grew noted write rose output_old output_new notes_old notes_new status
    load-told one whole load given =
        let follows = by_command (Some (Work load)) given in
        load_told load grew noted write output_old output_new notes_old notes_new rose status one whole answers.ending follows.0 follows.2 answers.told

    -- the output got a front of what the run puts, and all of it where the run was made whole
    part_by : (whole : (a b : K) (x : List ℕ) → grew a x b → GrewByPrefix grew a x b) (turns : ℕ) (schedule : Schedule) (booted : Booted) (ending : Ending) → RunsOn (run_of turns schedule booted) booted.input left grew source_new output_old output_new ending
        → GrewByPrefix grew output_old (run_of turns schedule booted).put output_new
    part_by whole turns schedule booted (Halted word) runs = whole output_old output_new _ runs.0.output_grew
    part_by whole turns schedule booted (TurnsSpent made) runs = whole output_old output_new _ runs.0.output_grew
    part_by whole turns schedule booted (Idle made) runs = whole output_old output_new _ runs.0.output_grew
    part_by whole turns schedule booted ReadFault runs = runs
    part_by whole turns schedule booted WriteFault runs = runs
    part_by whole turns schedule booted NoMemory runs = runs
    part_by whole turns schedule booted Done runs = absurd runs
    part_by whole turns schedule booted Usage runs = absurd runs
    part_by whole turns schedule booted (Refused refusal) runs = absurd runs
    part_by whole turns schedule booted (NotAssembled kind line) runs = absurd runs
    part_by whole turns schedule booted (BadPlan line) runs = absurd runs

    -- the ending of `once`
    once_on : (setup : Setup) (text : List ℕ) → command ≡ Some (Once setup) → IsPlan setup.plan (plan_left plan_old) text → EndsOnce setup (schedule_told setup.plan text) left grew (plan_left plan_new) source_old source_new output_old output_new answers.ending
    once_on setup text given plan = (by_command (Some (Once setup)) given).1 text plan

    caused_by : (setup : Setup) → command ≡ Some (Once setup) → IsCaused (read ⊎ FromPlan setup.plan plan_read) write answers.ending
    caused_by setup given = (by_command (Some (Once setup)) given).0

    -- the ending of what the input boots, or it wasn't read
    on-booted : OneOutcome → (setup : Setup) (bytes : List ℕ) (schedule : Schedule) (found : Result Booted Refusal) → IsBoot setup bytes found → EndsOn setup schedule bytes left grew source_new output_old output_new answers.ending
        → Ends setup.turns schedule found left grew source_new output_old output_new answers.ending ⊎ (IsUnread (Unit {0}) answers.ending × (output_new ≡ output_old))
    on-booted one setup bytes schedule found boots (inl on) = inl (subst (λ found. Ends setup.turns schedule found left grew source_new output_old output_new answers.ending) (one-boot setup one bytes on.0 found on.1 boots) on.2)
    on-booted one setup bytes schedule found boots (inr unread) = inr unread

    -- where nothing was read, only a failed call or want of memory is told
    unread-cause : {A : Type 0} (cause : Type 0) (ending : Ending) → IsUnread (Unit {0}) ending → IsCaused cause write ending → ¬ cause → ending_status ending ≢ 6 → A
    unread-cause cause ReadFault unread caused no_read enough = absurd (no_read caused)
    unread-cause cause NoMemory unread caused no_read enough = absurd (enough refl)
    unread-cause cause WriteFault unread caused no_read enough = absurd unread
    unread-cause cause (Halted word) unread caused no_read enough = absurd unread
    unread-cause cause (TurnsSpent made) unread caused no_read enough = absurd unread
    unread-cause cause (Idle made) unread caused no_read enough = absurd unread
    unread-cause cause Done unread caused no_read enough = absurd unread
    unread-cause cause Usage unread caused no_read enough = absurd unread
    unread-cause cause (Refused refusal) unread caused no_read enough = absurd unread
    unread-cause cause (NotAssembled kind line) unread caused no_read enough = absurd unread
    unread-cause cause (BadPlan line) unread caused no_read enough = absurd unread

    -- under a schedule that is told
    ends_on : (setup : Setup) (text bytes : List ℕ) (schedule : Schedule) → command ≡ Some (Once setup) → IsPlan setup.plan (plan_left plan_old) text → schedule_told setup.plan text ≡ Ok schedule → left source_old ≡ Some bytes → EndsOn setup schedule bytes left grew source_new output_old output_new answers.ending
    ends_on setup text bytes schedule given plan is known = (subst (λ told. EndsOnce setup told left grew (plan_left plan_new) source_old source_new output_old output_new answers.ending) is (once_on setup text given plan)).1 bytes known

    -- where the plan is refused
    refuses_on : (setup : Setup) (text : List ℕ) (line : ℕ) → command ≡ Some (Once setup) → IsPlan setup.plan (plan_left plan_old) text → schedule_told setup.plan text ≡ Err line → RefusesPlanAs line source_old source_new output_old output_new answers.ending
    refuses_on setup text line given plan is = subst (λ told. EndsOnce setup told left grew (plan_left plan_new) source_old source_new output_old output_new answers.ending) is (once_on setup text given plan)

    pub halted-told : status ≡ 0 → (setup : Setup) (text bytes : List ℕ) → command ≡ Some (Once setup) → IsPlan setup.plan (plan_left plan_old) text → left source_old ≡ Some bytes → HaltsOn setup text bytes left grew noted (plan_left plan_new) source_new output_old output_new notes_old notes_new
    halted-told e setup text bytes given plan known =
        let is = status-is noted rose answers.ending notes_old notes_new status 0 answers.told e (omega arith) (omega arith) in
        halted_once setup text bytes (schedule_told setup.plan text) answers.ending refl (once_on setup text given plan) known is.0 is.1

    pub spent-told : status ≡ 9 → (setup : Setup) (text bytes : List ℕ) → command ≡ Some (Once setup) → IsPlan setup.plan (plan_left plan_old) text → left source_old ≡ Some bytes → StopsOn setup IsSpent spent_note text bytes left grew noted (plan_left plan_new) source_new output_old output_new notes_old notes_new
    spent-told e setup text bytes given plan known =
        let is = status-is noted rose answers.ending notes_old notes_new status 9 answers.told e (omega arith) (omega arith) in
        spent_by setup text bytes (schedule_told setup.plan text) answers.ending refl (once_on setup text given plan) known is.0 is.1

    pub idle-told : status ≡ 10 → (setup : Setup) (text bytes : List ℕ) → command ≡ Some (Once setup) → IsPlan setup.plan (plan_left plan_old) text → left source_old ≡ Some bytes → StopsOn setup (λ stop. stop ≡ machine.Idle) idle_note text bytes left grew noted (plan_left plan_new) source_new output_old output_new notes_old notes_new
    idle-told e setup text bytes given plan known =
        let is = status-is noted rose answers.ending notes_old notes_new status 10 answers.told e (omega arith) (omega arith) in
        idle_by setup text bytes (schedule_told setup.plan text) answers.ending refl (once_on setup text given plan) known is.0 is.1

    pub refused-told : status ≡ 2 → (setup : Setup) (text bytes : List ℕ) → command ≡ Some (Once setup) → IsPlan setup.plan (plan_left plan_old) text → left source_old ≡ Some bytes → RefusesPlan setup text noted notes_old notes_new ⊎ RefusesInput setup text bytes noted (plan_left plan_new) notes_old notes_new
    refused-told e setup text bytes given plan known =
        let is = status-is noted rose answers.ending notes_old notes_new status 2 answers.told e (omega arith) (omega arith) in
        refused_once setup text bytes (schedule_told setup.plan text) answers.ending refl (once_on setup text given plan) known is.0 is.1

    pub part-told : OneOutcome → ((s : K) (x : List ℕ) → GrewByPrefix grew s x s) → ((a b : K) (x : List ℕ) → grew a x b → GrewByPrefix grew a x b) → (setup : Setup) (text bytes : List ℕ) (schedule : Schedule) (booted : Booted) → command ≡ Some (Once setup) → IsPlan setup.plan (plan_left plan_old) text → schedule_told setup.plan text ≡ Ok schedule → left source_old ≡ Some bytes → IsBoot setup bytes (Ok booted)
        → GrewByPrefix grew output_old (run_of setup.turns schedule booted).put output_new
    part-told one nothing whole setup text bytes schedule booted given plan is known boots = by (on-booted one setup bytes schedule (Ok booted) boots (ends_on setup text bytes schedule given plan is known))
      where
        by : Ends setup.turns schedule (Ok booted) left grew source_new output_old output_new answers.ending ⊎ (IsUnread (Unit {0}) answers.ending × (output_new ≡ output_old)) → GrewByPrefix grew output_old (run_of setup.turns schedule booted).put output_new
        by (inl runs) = part_by whole setup.turns schedule booted answers.ending runs
        by (inr unread) = subst (λ output. GrewByPrefix grew output_old (run_of setup.turns schedule booted).put output) (sym unread.1) (nothing output_old (run_of setup.turns schedule booted).put)

    -- nothing else was looked at where the plan is refused
    untouched_by : (line : ℕ) (ending : Ending) → RefusesPlanAs line source_old source_new output_old output_new ending → (source_new ≡ source_old) × (output_new ≡ output_old)
    untouched_by refused (BadPlan line) refuses = (refuses.1, refuses.2)
    untouched_by refused ReadFault refuses = refuses
    untouched_by refused NoMemory refuses = refuses
    untouched_by refused (Halted word) never = absurd never
    untouched_by refused (TurnsSpent made) never = absurd never
    untouched_by refused (Idle made) never = absurd never
    untouched_by refused Done never = absurd never
    untouched_by refused Usage never = absurd never
    untouched_by refused (Refused refusal) never = absurd never
    untouched_by refused (NotAssembled kind line) never = absurd never
    untouched_by refused WriteFault never = absurd never

    pub plan-first : (setup : Setup) (text : List ℕ) (line : ℕ) → command ≡ Some (Once setup) → IsPlan setup.plan (plan_left plan_old) text → schedule_told setup.plan text ≡ Err line → (source_new ≡ source_old) × (output_new ≡ output_old)
    plan-first setup text line given plan is = untouched_by line answers.ending (refuses_on setup text line given plan is)

    -- nothing was put where the input is refused
    stays_by : (refusal : Refusal) (ending : Ending) → RefusesAs refusal output_old output_new ending → output_new ≡ output_old
    stays_by refusal (Refused told) refuses = refuses.1
    stays_by refusal ReadFault refuses = refuses
    stays_by refusal NoMemory refuses = refuses
    stays_by why (Halted word) never = absurd never
    stays_by why (TurnsSpent made) never = absurd never
    stays_by why (Idle made) never = absurd never
    stays_by why Done never = absurd never
    stays_by why Usage never = absurd never
    stays_by why (NotAssembled kind line) never = absurd never
    stays_by why (BadPlan line) never = absurd never
    stays_by why WriteFault never = absurd never

    stays_once : OneOutcome → (setup : Setup) (bytes : List ℕ) (refusal : Refusal) (told : Result Schedule ℕ) → EndsOnce setup told left grew (plan_left plan_new) source_old source_new output_old output_new answers.ending → left source_old ≡ Some bytes → IsBoot setup bytes (Err refusal) → output_new ≡ output_old
    stays_once one setup bytes refusal (Ok schedule) ends known boots = by (on-booted one setup bytes schedule (Err refusal) boots (ends.1 bytes known))
      where
        by : Ends setup.turns schedule (Err refusal) left grew source_new output_old output_new answers.ending ⊎ (IsUnread (Unit {0}) answers.ending × (output_new ≡ output_old)) → output_new ≡ output_old
        by (inl refuses) = stays_by refusal answers.ending refuses
        by (inr unread) = unread.1
    stays_once one setup bytes refusal (Err line) ends known boots = (untouched_by line answers.ending ends).1

    pub refused-output-told : OneOutcome → (setup : Setup) (text bytes : List ℕ) (refusal : Refusal) → command ≡ Some (Once setup) → IsPlan setup.plan (plan_left plan_old) text → left source_old ≡ Some bytes → IsBoot setup bytes (Err refusal) → output_new ≡ output_old
    refused-output-told one setup text bytes refusal given plan known boots = stays_once one setup bytes refusal (schedule_told setup.plan text) (once_on setup text given plan) known boots

    -- without a fault and with memory, the status is the ending's
    status_by : ¬ rose → status ≢ 6 → status ≡ ending_status answers.ending
    status_by = status-by noted rose answers.ending notes_old notes_new status answers.told

    complete_by : (turns : ℕ) (schedule : Schedule) (booted : Booted) (cause : Type 0) (ending : Ending) → RunsOn (run_of turns schedule booted) booted.input left grew source_new output_old output_new ending → IsCaused cause write ending → ¬ cause → ¬ write → ending_status ending ≢ 6
        → ending_status ending ≡ stop_status (run_of turns schedule booted).stop
    complete_by turns schedule booted cause (Halted word) runs caused no_read no_write enough = sym (ap stop_status runs.1)
    complete_by turns schedule booted cause (TurnsSpent made) runs caused no_read no_write enough = spent-status (run_of turns schedule booted).stop runs.1
    complete_by turns schedule booted cause (Idle made) runs caused no_read no_write enough = sym (ap stop_status runs.1)
    complete_by turns schedule booted cause ReadFault runs caused no_read no_write enough = absurd (no_read caused)
    complete_by turns schedule booted cause WriteFault runs caused no_read no_write enough = absurd (no_write caused)
    complete_by turns schedule booted cause NoMemory runs caused no_read no_write enough = absurd (enough refl)
    complete_by turns schedule booted cause Done runs caused no_read no_write enough = absurd runs
    complete_by turns schedule booted cause Usage runs caused no_read no_write enough = absurd runs
    complete_by turns schedule booted cause (Refused refusal) runs caused no_read no_write enough = absurd runs
    complete_by turns schedule booted cause (NotAssembled kind line) runs caused no_read no_write enough = absurd runs
    complete_by turns schedule booted cause (BadPlan line) runs caused no_read no_write enough = absurd runs

    -- neither the input nor the plan failed
    neither : (setup : Setup) → ¬ read → ¬ FromPlan setup.plan plan_read → ¬ (read ⊎ FromPlan setup.plan plan_read)
    neither setup no_read no_plan (inl input) = no_read input
    neither setup no_read no_plan (inr plan) = no_plan plan

    pub complete-told : OneOutcome → (setup : Setup) (text bytes : List ℕ) (schedule : Schedule) (booted : Booted) → command ≡ Some (Once setup) → IsPlan setup.plan (plan_left plan_old) text → schedule_told setup.plan text ≡ Ok schedule → left source_old ≡ Some bytes → IsBoot setup bytes (Ok booted)
        → ¬ read → ¬ FromPlan setup.plan plan_read → ¬ write → ¬ rose → status ≢ 6 → status ≡ stop_status (run_of setup.turns schedule booted).stop
    complete-told one setup text bytes schedule booted given plan is known boots no_read no_plan no_write quiet enough =
        let same : status ≡ ending_status answers.ending = status_by quiet enough in
        same ∙ by (λ six. enough (same ∙ six)) (on-booted one setup bytes schedule (Ok booted) boots (ends_on setup text bytes schedule given plan is known))
      where
        by : ending_status answers.ending ≢ 6 → Ends setup.turns schedule (Ok booted) left grew source_new output_old output_new answers.ending ⊎ (IsUnread (Unit {0}) answers.ending × (output_new ≡ output_old)) → ending_status answers.ending ≡ stop_status (run_of setup.turns schedule booted).stop
        by some (inl runs) = complete_by setup.turns schedule booted (read ⊎ FromPlan setup.plan plan_read) answers.ending runs (caused_by setup given) (neither setup no_read no_plan) no_write some
        by some (inr unread) = unread-cause (read ⊎ FromPlan setup.plan plan_read) answers.ending unread.0 (caused_by setup given) (neither setup no_read no_plan) some

    refuses_by : (refusal : Refusal) (cause : Type 0) (ending : Ending) → RefusesAs refusal output_old output_new ending → IsCaused cause write ending → ¬ cause → ending_status ending ≢ 6 → ending_status ending ≡ 2
    refuses_by refusal cause (Refused told) refuses caused no_read enough = refl
    refuses_by refusal cause ReadFault refuses caused no_read enough = absurd (no_read caused)
    refuses_by refusal cause NoMemory refuses caused no_read enough = absurd (enough refl)
    refuses_by why cause (Halted word) refuses caused no_read enough = absurd refuses
    refuses_by why cause (TurnsSpent made) refuses caused no_read enough = absurd refuses
    refuses_by why cause (Idle made) refuses caused no_read enough = absurd refuses
    refuses_by why cause Done refuses caused no_read enough = absurd refuses
    refuses_by why cause Usage refuses caused no_read enough = absurd refuses
    refuses_by why cause (NotAssembled kind line) refuses caused no_read enough = absurd refuses
    refuses_by why cause (BadPlan line) refuses caused no_read enough = absurd refuses
    refuses_by why cause WriteFault refuses caused no_read enough = absurd refuses

    plan_by : (line : ℕ) (cause : Type 0) (ending : Ending) → RefusesPlanAs line source_old source_new output_old output_new ending → IsCaused cause write ending → ¬ cause → ending_status ending ≢ 6 → ending_status ending ≡ 2
    plan_by refused cause (BadPlan line) refuses caused no_read enough = refl
    plan_by refused cause ReadFault refuses caused no_read enough = absurd (no_read caused)
    plan_by refused cause NoMemory refuses caused no_read enough = absurd (enough refl)
    plan_by refused cause (Halted word) refuses caused no_read enough = absurd refuses
    plan_by refused cause (TurnsSpent made) refuses caused no_read enough = absurd refuses
    plan_by refused cause (Idle made) refuses caused no_read enough = absurd refuses
    plan_by refused cause Done refuses caused no_read enough = absurd refuses
    plan_by refused cause Usage refuses caused no_read enough = absurd refuses
    plan_by refused cause (Refused refusal) refuses caused no_read enough = absurd refuses
    plan_by refused cause (NotAssembled kind line) refuses caused no_read enough = absurd refuses
    plan_by refused cause WriteFault refuses caused no_read enough = absurd refuses

    once_by : OneOutcome → (setup : Setup) (bytes : List ℕ) (refusal : Refusal) (told : Result Schedule ℕ) → EndsOnce setup told left grew (plan_left plan_new) source_old source_new output_old output_new answers.ending → left source_old ≡ Some bytes → IsBoot setup bytes (Err refusal) → IsCaused (read ⊎ FromPlan setup.plan plan_read) write answers.ending
        → ¬ (read ⊎ FromPlan setup.plan plan_read) → ending_status answers.ending ≢ 6 → ending_status answers.ending ≡ 2
    once_by one setup bytes refusal (Ok schedule) ends known boots caused no_read enough = by (on-booted one setup bytes schedule (Err refusal) boots (ends.1 bytes known))
      where
        by : Ends setup.turns schedule (Err refusal) left grew source_new output_old output_new answers.ending ⊎ (IsUnread (Unit {0}) answers.ending × (output_new ≡ output_old)) → ending_status answers.ending ≡ 2
        by (inl refuses) = refuses_by refusal (read ⊎ FromPlan setup.plan plan_read) answers.ending refuses caused no_read enough
        by (inr unread) = unread-cause (read ⊎ FromPlan setup.plan plan_read) answers.ending unread.0 caused no_read enough
    once_by one setup bytes refusal (Err line) ends known boots caused no_read enough = plan_by line (read ⊎ FromPlan setup.plan plan_read) answers.ending ends caused no_read enough

    pub refuses-told : OneOutcome → (setup : Setup) (text bytes : List ℕ) (refusal : Refusal) → command ≡ Some (Once setup) → IsPlan setup.plan (plan_left plan_old) text → left source_old ≡ Some bytes → IsBoot setup bytes (Err refusal) → ¬ read → ¬ FromPlan setup.plan plan_read → ¬ rose → status ≢ 6 → status ≡ 2
    refuses-told one setup text bytes refusal given plan known boots no_read no_plan quiet enough =
        let same : status ≡ ending_status answers.ending = status_by quiet enough in
        same ∙ once_by one setup bytes refusal (schedule_told setup.plan text) (once_on setup text given plan) known boots (caused_by setup given) (neither setup no_read no_plan) (λ six. enough (same ∙ six))

    pub refuses_plan-told : (setup : Setup) (text : List ℕ) (line : ℕ) → command ≡ Some (Once setup) → IsPlan setup.plan (plan_left plan_old) text → schedule_told setup.plan text ≡ Err line → ¬ read → ¬ FromPlan setup.plan plan_read → ¬ rose → status ≢ 6 → status ≡ 2
    refuses_plan-told setup text line given plan is no_read no_plan quiet enough =
        let same : status ≡ ending_status answers.ending = status_by quiet enough in
        same ∙ plan_by line (read ⊎ FromPlan setup.plan plan_read) answers.ending (refuses_on setup text line given plan is) (caused_by setup given) (neither setup no_read no_plan) (λ six. enough (same ∙ six))

    -- the ending of a source that means a program, or is refused
    assembly : (bytes : List ℕ) → command ≡ Some Asm → left source_old ≡ Some bytes → EndsAssembly (asm.assembled bytes) left grew source_new output_old output_new answers.ending
    assembly bytes given told = (by_command (Some Asm) given).2 bytes told

    kept : command ≡ Some Asm → KeepsOutput output_old output_new answers.ending
    kept given = (by_command (Some Asm) given).1

    pub refused_source-told : status ≡ 2 → (bytes : List ℕ) → command ≡ Some Asm → left source_old ≡ Some bytes → RefusesSource bytes noted notes_old notes_new
    refused_source-told e bytes given told =
        let is = status-is noted rose answers.ending notes_old notes_new status 2 answers.told e (omega arith) (omega arith) in
        refused_source_by bytes answers.ending (kept given) (assembly bytes given told) is.0 is.1

    pub written-told : status ≡ 0 → (bytes : List ℕ) → command ≡ Some Asm → left source_old ≡ Some bytes → WritesFile (asm.assembled bytes) left grew source_new output_old output_new × (notes_new ≡ notes_old)
    written-told e bytes given told =
        let is = status-is noted rose answers.ending notes_old notes_new status 0 answers.told e (omega arith) (omega arith) in
        written_by (asm.assembled bytes) answers.ending (kept given) (assembly bytes given told) is.0 is.1

    pub file-part-told : ((a b : K) (x : List ℕ) → grew a x b → GrewByPrefix grew a x b) → status ≡ 4 → (bytes : List ℕ) → command ≡ Some Asm → left source_old ≡ Some bytes → (output_new ≡ output_old) ⊎ WritesPart (asm.assembled bytes) grew output_old output_new
    file-part-told whole e bytes given told = part_written_by whole (asm.assembled bytes) answers.ending (kept given) (assembly bytes given told)

    -- an ending that leaves the output may fail to be told, or take memory
    output_where : (ending : Ending) → KeepsOutput output_old output_new ending → Tells noted rose ending notes_old notes_new status → status ≢ 0 → status ≢ 4 → output_new ≡ output_old
    output_where Done keeps (inl told) some other = absurd (some told.0)
    output_where Done keeps (inr (inl told)) some other = absurd (other told.0)
    output_where Done keeps (inr (inr told)) some other = absurd told.1
    output_where WriteFault keeps (inl told) some other = absurd (other told.0)
    output_where WriteFault keeps (inr (inl told)) some other = absurd (other told.0)
    output_where WriteFault keeps (inr (inr told)) some other = absurd told.1
    output_where (BadPlan line) keeps told some other = absurd keeps
    output_where (NotAssembled kind line) keeps told some other = keeps
    output_where ReadFault keeps told some other = keeps
    output_where NoMemory keeps told some other = keeps
    output_where (Halted word) keeps told some other = absurd keeps
    output_where (TurnsSpent made) keeps told some other = absurd keeps
    output_where (Idle made) keeps told some other = absurd keeps
    output_where Usage keeps told some other = absurd keeps
    output_where (Refused refusal) keeps told some other = absurd keeps

    pub output-told : status ≢ 0 → status ≢ 4 → command ≡ Some Asm → output_new ≡ output_old
    output-told some other given = output_where answers.ending (kept given) answers.told some other

    -- without a fault and with memory, the status is what the source means
    assembles_by : (program : asm.Program) (ending : Ending) → EndsAssembly (Ok program) left grew source_new output_old output_new ending → IsCaused read write ending → ¬ read → ¬ write → ending_status ending ≢ 6 → ending_status ending ≡ 0
    assembles_by program Done ends cause no_read no_write enough = refl
    assembles_by program (BadPlan line) ends cause no_read no_write enough = absurd ends
    assembles_by program (NotAssembled kind line) ends cause no_read no_write enough = cc
    assembles_by program ReadFault ends cause no_read no_write enough = absurd (no_read cause)
    assembles_by program WriteFault ends cause no_read no_write enough = absurd (no_write cause)
    assembles_by program NoMemory ends cause no_read no_write enough = absurd (enough refl)
    assembles_by program (Halted word) ends cause no_read no_write enough = absurd ends
    assembles_by program (TurnsSpent made) ends cause no_read no_write enough = absurd ends
    assembles_by program (Idle made) ends cause no_read no_write enough = absurd ends
    assembles_by program Usage ends cause no_read no_write enough = absurd ends
    assembles_by program (Refused refusal) ends cause no_read no_write enough = absurd ends

    pub assembles-told : (bytes : List ℕ) (program : asm.Program) → command ≡ Some Asm → left source_old ≡ Some bytes → asm.assembled bytes ≡ Ok program → ¬ read → ¬ write → ¬ rose → status ≢ 6 → status ≡ 0
    assembles-told bytes program given told means no_read no_write quiet enough =
        let is : status ≡ ending_status answers.ending = status_by quiet enough in
        is ∙ assembles_by program answers.ending (subst (λ meaning. EndsAssembly meaning left grew source_new output_old output_new answers.ending) means (assembly bytes given told))
        (by_command (Some Asm) given).0 no_read no_write (λ six. enough (is ∙ six))

    refused_by_meaning : (refusal : asm.Refusal) (ending : Ending) → EndsAssembly (Err refusal) left grew source_new output_old output_new ending → IsCaused read write ending → ¬ read → ending_status ending ≢ 6 → ending_status ending ≡ 2
    refused_by_meaning refusal (BadPlan line) ends cause no_read enough = absurd ends
    refused_by_meaning refusal (NotAssembled kind line) ends cause no_read enough = refl
    refused_by_meaning refusal Done ends cause no_read enough = let no : Err refusal ≡ Ok ends.program = ends.means in cc
    refused_by_meaning refusal WriteFault ends cause no_read enough = let no : Err refusal ≡ Ok ends.program = ends.means in cc
    refused_by_meaning refusal ReadFault ends cause no_read enough = absurd (no_read cause)
    refused_by_meaning refusal NoMemory ends cause no_read enough = absurd (enough refl)
    refused_by_meaning refusal (Halted word) ends cause no_read enough = absurd ends
    refused_by_meaning refusal (TurnsSpent made) ends cause no_read enough = absurd ends
    refused_by_meaning refusal (Idle made) ends cause no_read enough = absurd ends
    refused_by_meaning refusal Usage ends cause no_read enough = absurd ends
    refused_by_meaning refusal (Refused told) ends cause no_read enough = absurd ends

    pub refuses_source-told : (bytes : List ℕ) (refusal : asm.Refusal) → command ≡ Some Asm → left source_old ≡ Some bytes → asm.assembled bytes ≡ Err refusal → ¬ read → ¬ rose → status ≢ 6 → status ≡ 2
    refuses_source-told bytes refusal given told means no_read quiet enough =
        let is : status ≡ ending_status answers.ending = status_by quiet enough in
        is ∙ refused_by_meaning refusal answers.ending (subst (λ meaning. EndsAssembly meaning left grew source_new output_old output_new answers.ending) means (assembly bytes given told))
        (by_command (Some Asm) given).0 no_read (λ six. enough (is ∙ six))

    -- nothing was put where the source is refused
    source_stays_by : (refusal : asm.Refusal) (ending : Ending) → KeepsOutput output_old output_new ending → EndsAssembly (Err refusal) left grew source_new output_old output_new ending → output_new ≡ output_old
    source_stays_by refusal Done keeps ends = let no : Err refusal ≡ Ok ends.program = ends.means in cc
    source_stays_by refusal WriteFault keeps ends = let no : Err refusal ≡ Ok ends.program = ends.means in cc
    source_stays_by refusal (NotAssembled kind line) keeps ends = keeps
    source_stays_by refusal ReadFault keeps ends = keeps
    source_stays_by refusal NoMemory keeps ends = keeps
    source_stays_by refusal (Halted word) keeps ends = absurd keeps
    source_stays_by refusal (TurnsSpent made) keeps ends = absurd keeps
    source_stays_by refusal (Idle made) keeps ends = absurd keeps
    source_stays_by refusal Usage keeps ends = absurd keeps
    source_stays_by refusal (Refused told) keeps ends = absurd keeps
    source_stays_by refusal (BadPlan line) keeps ends = absurd keeps

    pub refused_source-output-told : (bytes : List ℕ) (refusal : asm.Refusal) → command ≡ Some Asm → left source_old ≡ Some bytes → asm.assembled bytes ≡ Err refusal → output_new ≡ output_old
    refused_source-output-told bytes refusal given told means =
        source_stays_by refusal answers.ending (kept given) (subst (λ meaning. EndsAssembly meaning left grew source_new output_old output_new answers.ending) means (assembly bytes given told))
