-- From the ending of `work` to what its status promises.
use Rattle.std.proofs.Common.{◌≡◌, ◌≢◌, ℕ, List, ◌⊎◌, Result, Ok, Err, refl, sym, ap, subst, ◌∙◌, inl, inr, arith}
use Rattle.kn_io.specs.Sink.{GrewByPrefix}
use Rattle.unix_model.specs.Machine as machine
use Rattle.unix_model.specs.Notes.{spent_note}
use Rattle.workload.specs.Workload.{work_bundle}
use Rattle.flat_bundle.specs.Booting.{Booted, OneOutcome, Refusal}
use Rattle.keynix.specs.declared.ending.Ending.{Ending}
use Rattle.keynix.specs.declared.ending.Ending.TheVariants.{Halted, TurnsSpent, Idle, Done, Usage, Refused, NotAssembled, BadPlan, ReadFault, WriteFault, NoMemory}
use Rattle.keynix.specs.Endings.{IsCaused, IsSpent}
use Rattle.keynix.specs.Loads.{BootsLoad, EndsLoad, EndsWork, RefusesLoad, StopsLoad, SumsUp, SumsUpPart, load_run}
use Rattle.keynix.specs.Promises.{LoadTold, stop_status}
use Rattle.keynix.specs.Telling.{Tells, PutsNote, ending_note, ending_status, idle_note, refusal_note}
use Rattle.command_line.specs.Words.{Load, default_setup}
use Rattle.keynix.proofs.BootSteps.{one-boot}
use Rattle.keynix.proofs.StatusSteps.{spent-status, status-by, status-is}

module _ {K E : Type 0} (load : Load) (grew : K → List ℕ → K → Type 0) (noted : E → List ℕ → E → Type 0) (write : Type 0) (output_old output_new : K) (notes_old notes_new : E) where
  -- by the ending's status, where its note was put
  halted_by : (ending : Ending) → EndsWork load grew output_old output_new ending → ending_status ending ≡ 0 → PutsNote noted (ending_note ending) notes_old notes_new → SumsUp load grew output_old output_new × (notes_new ≡ notes_old)
  halted_by ending (inr none) e note = absurd (omega (arith, sym (ap ending_status none.0) ∙ e))
  halted_by ending (inl on) e note = by on.0 on.1 ending on.2 e note
    where
      by : (found : Result Booted Refusal) → BootsLoad load found → (ending : Ending) → EndsLoad load found grew output_old output_new ending → ending_status ending ≡ 0 → PutsNote noted (ending_note ending) notes_old notes_new → SumsUp load grew output_old output_new × (notes_new ≡ notes_old)
      by (Ok booted) boots Done ends e note = (record { booted = booted; boots = boots; halts = ends.0; output_grew = ends.1 }, note)
      by (Err refusal) boots Done ends e note = absurd ends
      by found boots (Halted word) ends e note = absurd ends
      by found boots (TurnsSpent made) ends e note = absurd (omega (arith, e))
      by found boots (Idle made) ends e note = absurd (omega (arith, e))
      by found boots Usage ends e note = absurd (omega (arith, e))
      by found boots (Refused refusal) ends e note = absurd (omega (arith, e))
      by found boots (NotAssembled kind line) ends e note = absurd (omega (arith, e))
      by found boots (BadPlan line) ends e note = absurd (omega (arith, e))
      by found boots ReadFault ends e note = absurd (omega (arith, e))
      by found boots WriteFault ends e note = absurd (omega (arith, e))
      by found boots NoMemory ends e note = absurd (omega (arith, e))

  -- the run stopped so
  stopped : (why : machine.Stop → Type 0) (note : ℕ → List ℕ) (booted : Booted) (made : ℕ) → BootsLoad load (Ok booted) → why (load_run booted).stop → (load_run booted).turns ≡ made → noted notes_old (note made) notes_new → StopsLoad load why note noted notes_old notes_new
  stopped why note booted made boots stop is told =
      record { booted = booted; boots = boots; stop_is = stop; notes_grew = subst (λ number. noted notes_old (note number) notes_new) (sym is) told }

  spent_by : (ending : Ending) → EndsWork load grew output_old output_new ending → ending_status ending ≡ 9 → PutsNote noted (ending_note ending) notes_old notes_new → StopsLoad load IsSpent spent_note noted notes_old notes_new
  spent_by ending (inr none) e note = absurd (omega (arith, sym (ap ending_status none.0) ∙ e))
  spent_by ending (inl on) e note = by on.0 on.1 ending on.2 e note
    where
      by : (found : Result Booted Refusal) → BootsLoad load found → (ending : Ending) → EndsLoad load found grew output_old output_new ending → ending_status ending ≡ 9 → PutsNote noted (ending_note ending) notes_old notes_new → StopsLoad load IsSpent spent_note noted notes_old notes_new
      by (Ok booted) boots (TurnsSpent made) ends e note = stopped IsSpent spent_note booted made boots ends.0 ends.1 note
      by (Err refusal) boots (TurnsSpent made) ends e note = absurd ends
      by found boots (Halted word) ends e note = absurd (omega (arith, e))
      by found boots (Idle made) ends e note = absurd (omega (arith, e))
      by found boots Done ends e note = absurd (omega (arith, e))
      by found boots Usage ends e note = absurd (omega (arith, e))
      by found boots (Refused refusal) ends e note = absurd (omega (arith, e))
      by found boots (NotAssembled kind line) ends e note = absurd (omega (arith, e))
      by found boots (BadPlan line) ends e note = absurd (omega (arith, e))
      by found boots ReadFault ends e note = absurd (omega (arith, e))
      by found boots WriteFault ends e note = absurd (omega (arith, e))
      by found boots NoMemory ends e note = absurd (omega (arith, e))

  idle_by : (ending : Ending) → EndsWork load grew output_old output_new ending → ending_status ending ≡ 10 → PutsNote noted (ending_note ending) notes_old notes_new → StopsLoad load (λ stop. stop ≡ machine.Idle) idle_note noted notes_old notes_new
  idle_by ending (inr none) e note = absurd (omega (arith, sym (ap ending_status none.0) ∙ e))
  idle_by ending (inl on) e note = by on.0 on.1 ending on.2 e note
    where
      by : (found : Result Booted Refusal) → BootsLoad load found → (ending : Ending) → EndsLoad load found grew output_old output_new ending → ending_status ending ≡ 10 → PutsNote noted (ending_note ending) notes_old notes_new → StopsLoad load (λ stop. stop ≡ machine.Idle) idle_note noted notes_old notes_new
      by (Ok booted) boots (Idle made) ends e note = stopped (λ stop. stop ≡ machine.Idle) idle_note booted made boots ends.0 ends.1 note
      by (Err refusal) boots (Idle made) ends e note = absurd ends
      by found boots (Halted word) ends e note = absurd (omega (arith, e))
      by found boots (TurnsSpent made) ends e note = absurd (omega (arith, e))
      by found boots Done ends e note = absurd (omega (arith, e))
      by found boots Usage ends e note = absurd (omega (arith, e))
      by found boots (Refused refusal) ends e note = absurd (omega (arith, e))
      by found boots (NotAssembled kind line) ends e note = absurd (omega (arith, e))
      by found boots (BadPlan line) ends e note = absurd (omega (arith, e))
      by found boots ReadFault ends e note = absurd (omega (arith, e))
      by found boots WriteFault ends e note = absurd (omega (arith, e))
      by found boots NoMemory ends e note = absurd (omega (arith, e))

  refused_by : (ending : Ending) → EndsWork load grew output_old output_new ending → ending_status ending ≡ 2 → PutsNote noted (ending_note ending) notes_old notes_new → RefusesLoad load noted notes_old notes_new
  refused_by ending (inr none) e note = absurd (omega (arith, sym (ap ending_status none.0) ∙ e))
  refused_by ending (inl on) e note = by on.0 on.1 ending on.2 e note
    where
      by : (found : Result Booted Refusal) → BootsLoad load found → (ending : Ending) → EndsLoad load found grew output_old output_new ending → ending_status ending ≡ 2 → PutsNote noted (ending_note ending) notes_old notes_new → RefusesLoad load noted notes_old notes_new
      by (Err refusal) boots (Refused told) ends e note =
          record { refusal = refusal; boots = boots; notes_grew = subst (λ why. noted notes_old (refusal_note why) notes_new) (sym ends.0) note }
      by (Ok booted) boots (Refused told) ends e note = absurd ends
      by found boots (NotAssembled kind line) ends e note = absurd ends
      by found boots (BadPlan line) ends e note = absurd ends
      by found boots (Halted word) ends e note = absurd (omega (arith, e))
      by found boots (TurnsSpent made) ends e note = absurd (omega (arith, e))
      by found boots (Idle made) ends e note = absurd (omega (arith, e))
      by found boots Done ends e note = absurd (omega (arith, e))
      by found boots Usage ends e note = absurd (omega (arith, e))
      by found boots ReadFault ends e note = absurd (omega (arith, e))
      by found boots WriteFault ends e note = absurd (omega (arith, e))
      by found boots NoMemory ends e note = absurd (omega (arith, e))

  -- what the output got: nothing, but where the run halted and its summary was put
  part_by : ((a b : K) (x : List ℕ) → grew a x b → GrewByPrefix grew a x b) → (ending : Ending) → EndsWork load grew output_old output_new ending → (output_new ≡ output_old) ⊎ SumsUpPart load grew output_old output_new
  part_by whole ending (inr none) = inl none.1
  part_by whole ending (inl on) = by on.0 on.1 ending on.2
    where
      by : (found : Result Booted Refusal) → BootsLoad load found → (ending : Ending) → EndsLoad load found grew output_old output_new ending → (output_new ≡ output_old) ⊎ SumsUpPart load grew output_old output_new
      by (Ok booted) boots Done ends = inr (record { booted = booted; boots = boots; halts = ends.0; output_grew = whole output_old output_new _ ends.1 })
      by (Ok booted) boots WriteFault ends = inr (record { booted = booted; boots = boots; halts = ends.0; output_grew = ends.1 })
      by (Ok booted) boots (TurnsSpent made) ends = inl ends.2
      by (Ok booted) boots (Idle made) ends = inl ends.2
      by (Ok booted) boots (Refused told) ends = absurd ends
      by (Err refusal) boots (Refused told) ends = inl ends.1
      by (Err refusal) boots Done ends = absurd ends
      by (Err refusal) boots WriteFault ends = absurd ends
      by (Err refusal) boots (TurnsSpent made) ends = absurd ends
      by (Err refusal) boots (Idle made) ends = absurd ends
      by found boots (Halted word) ends = absurd ends
      by found boots Usage ends = absurd ends
      by found boots (NotAssembled kind line) ends = absurd ends
      by found boots (BadPlan line) ends = absurd ends
      by found boots ReadFault ends = absurd ends
      by found boots NoMemory ends = absurd ends

  -- an ending that has neither of the statuses of a written summary leaves the output
  stays_by : (ending : Ending) → EndsWork load grew output_old output_new ending → ending_status ending ≢ 0 → ending_status ending ≢ 4 → output_new ≡ output_old
  stays_by ending (inr none) some other = none.1
  stays_by ending (inl on) some other = by on.0 ending on.2 some other
    where
      by : (found : Result Booted Refusal) (ending : Ending) → EndsLoad load found grew output_old output_new ending → ending_status ending ≢ 0 → ending_status ending ≢ 4 → output_new ≡ output_old
      by found Done ends some other = absurd (some refl)
      by found WriteFault ends some other = absurd (other refl)
      by (Ok booted) (TurnsSpent made) ends some other = ends.2
      by (Ok booted) (Idle made) ends some other = ends.2
      by (Err refusal) (Refused told) ends some other = ends.1
      by (Ok booted) (Refused told) ends some other = absurd ends
      by (Err refusal) (TurnsSpent made) ends some other = absurd ends
      by (Err refusal) (Idle made) ends some other = absurd ends
      by found (Halted word) ends some other = absurd ends
      by found Usage ends some other = absurd ends
      by found (NotAssembled kind line) ends some other = absurd ends
      by found (BadPlan line) ends some other = absurd ends
      by found ReadFault ends some other = absurd ends
      by found NoMemory ends some other = absurd ends

  -- an ending that isn't told, or of which the note takes memory, was none with a written summary
  quiet_where : (rose : Type 0) (status : ℕ) (ending : Ending) → EndsWork load grew output_old output_new ending → Tells noted rose ending notes_old notes_new status → status ≢ 0 → status ≢ 4 → output_new ≡ output_old
  quiet_where rose status ending ends (inl told) some other = stays_by ending ends (λ e. some (told.0 ∙ e)) (λ e. other (told.0 ∙ e))
  quiet_where rose status ending ends (inr (inl told)) some other = absurd (other told.0)
  quiet_where rose status Done ends (inr (inr told)) some other = absurd told.1
  quiet_where rose status WriteFault ends (inr (inr told)) some other = absurd told.1
  quiet_where rose status (TurnsSpent made) ends (inr (inr told)) some other = stays_by (TurnsSpent made) ends (λ e. omega (arith, e)) (λ e. omega (arith, e))
  quiet_where rose status (Idle made) ends (inr (inr told)) some other = stays_by (Idle made) ends (λ e. omega (arith, e)) (λ e. omega (arith, e))
  quiet_where rose status (Refused refusal) ends (inr (inr told)) some other = stays_by (Refused refusal) ends (λ e. omega (arith, e)) (λ e. omega (arith, e))
  quiet_where rose status (Halted word) (inl on) (inr (inr told)) some other = absurd on.2
  quiet_where rose status (Halted word) (inr none) (inr (inr told)) some other = none.1
  quiet_where rose status Usage ends (inr (inr told)) some other = absurd told.1
  quiet_where rose status (NotAssembled kind line) ends (inr (inr told)) some other = stays_by (NotAssembled kind line) ends (λ e. omega (arith, e)) (λ e. omega (arith, e))
  quiet_where rose status (BadPlan line) ends (inr (inr told)) some other = stays_by (BadPlan line) ends (λ e. omega (arith, e)) (λ e. omega (arith, e))
  quiet_where rose status ReadFault ends (inr (inr told)) some other = absurd told.1
  quiet_where rose status NoMemory ends (inr (inr told)) some other = absurd told.1

  -- the status of what is booted
  boots_as : OneOutcome → (found : Result Booted Refusal) → BootsLoad load found → (ending : Ending) → EndsWork load grew output_old output_new ending → ending_status ending ≢ 6 → EndsLoad load found grew output_old output_new ending
  boots_as one found boots ending (inr none) enough = absurd (enough (ap ending_status none.0))
  boots_as one found boots ending (inl on) enough = subst (λ found. EndsLoad load found grew output_old output_new ending) (one-boot default_setup one (work_bundle load.seed load.lines) on.0 found on.1 boots) on.2

  complete_by : (booted : Booted) (ending : Ending) → EndsLoad load (Ok booted) grew output_old output_new ending → IsCaused ⊥ write ending → ¬ write → ending_status ending ≡ stop_status (load_run booted).stop
  complete_by booted Done ends caused quiet = ap stop_status (sym ends.0.1)
  complete_by booted (TurnsSpent made) ends caused quiet = spent-status (load_run booted).stop ends.0
  complete_by booted (Idle made) ends caused quiet = ap stop_status (sym ends.0)
  complete_by booted WriteFault ends caused quiet = absurd (quiet caused)
  complete_by booted (Refused told) ends caused quiet = absurd ends
  complete_by booted (Halted word) ends caused quiet = absurd ends
  complete_by booted Usage ends caused quiet = absurd ends
  complete_by booted (NotAssembled kind line) ends caused quiet = absurd ends
  complete_by booted (BadPlan line) ends caused quiet = absurd ends
  complete_by booted ReadFault ends caused quiet = absurd ends
  complete_by booted NoMemory ends caused quiet = absurd ends

  refuses_by : (refusal : Refusal) (ending : Ending) → EndsLoad load (Err refusal) grew output_old output_new ending → ending_status ending ≡ 2
  refuses_by refusal (Refused told) ends = refl
  refuses_by refusal Done ends = absurd ends
  refuses_by refusal (TurnsSpent made) ends = absurd ends
  refuses_by refusal (Idle made) ends = absurd ends
  refuses_by refusal WriteFault ends = absurd ends
  refuses_by refusal (Halted word) ends = absurd ends
  refuses_by refusal Usage ends = absurd ends
  refuses_by refusal (NotAssembled kind line) ends = absurd ends
  refuses_by refusal (BadPlan line) ends = absurd ends
  refuses_by refusal ReadFault ends = absurd ends
  refuses_by refusal NoMemory ends = absurd ends

  pub load_told : (rose : Type 0) (status : ℕ) → OneOutcome → ((a b : K) (x : List ℕ) → grew a x b → GrewByPrefix grew a x b) → (ending : Ending) → IsCaused ⊥ write ending → EndsWork load grew output_old output_new ending → Tells noted rose ending notes_old notes_new status
      → LoadTold load grew noted write rose output_old output_new notes_old notes_new status
  load_told rose status one whole ending caused ends told =
      record {
        halted = λ e. let is = status-is noted rose ending notes_old notes_new status 0 told e (omega arith) (omega arith) in halted_by ending ends is.0 is.1;
        spent = λ e. let is = status-is noted rose ending notes_old notes_new status 9 told e (omega arith) (omega arith) in spent_by ending ends is.0 is.1;
        idled = λ e. let is = status-is noted rose ending notes_old notes_new status 10 told e (omega arith) (omega arith) in idle_by ending ends is.0 is.1;
        refused = λ e. let is = status-is noted rose ending notes_old notes_new status 2 told e (omega arith) (omega arith) in refused_by ending ends is.0 is.1;
        part = part_by whole ending ends;
        stays = quiet_where rose status ending ends told;
        complete = λ booted boots no_write quiet enough.
            let same : status ≡ ending_status ending = status-by noted rose ending notes_old notes_new status told quiet enough in
            same ∙ complete_by booted ending (boots_as one (Ok booted) boots ending ends (λ six. enough (same ∙ six))) caused no_write;
        refuses = λ refusal boots quiet enough.
            let same : status ≡ ending_status ending = status-by noted rose ending notes_old notes_new status told quiet enough in
            same ∙ refuses_by refusal ending (boots_as one (Err refusal) boots ending ends (λ six. enough (same ∙ six)));
      }
