-- The ending of `work`: from the run of its bundle over a console that counts.
use Rattle.std.proofs.Common.{◌≡◌, ◌≢◌, ℕ, ◌+◌, ◌*◌, ◌^◌, ◌<◌, ◌≤◌, ◌%◌, List, [], ◌∷◌, false, Option, None, Result, Ok, Err, refl, ap, subst, ◌∙◌, inl, inr, arith, length}
use Rattle.std.specs.List.{sum}
use Rattle.std.proofs.Math.Nat.{mod-eq_of_lt}
use Rattle.bundle.specs.Bundles.{Bundle}
use Rattle.flat_bundle.specs.Booting.{Boots, Booted, Refusal, stores, has_no_room, refuses, ends, started}
use Rattle.kn_io.specs.Counting.{GrewCounted, counted_bytes, counted_sum}
use Rattle.kn_io.specs.Faults.{Rose}
use Rattle.kn_io.specs.Sink.{GrewByPrefix}
use Rattle.kn_io.specs.declared.count_sink.CountSink.{CountSink}
use Rattle.unix_model.specs.Boot as model
use Rattle.unix_model.specs.Boot.{with_init}
use Rattle.unix_model.specs.Calls.{call_of}
use Rattle.unix_model.specs.Rules.{AreSizes}
use Rattle.unix_model.specs.Schedule as schedules
use Rattle.unix_model.specs.State.{Unix}
use Rattle.unix_laws.proofs.BootRuled.{Empty, empty-at-first, stored-empty, loaded-ruled}
use Rattle.unix_laws.specs.ConsoleLaws.{RunPutsFew}
use Rattle.unix_laws.specs.RuleLaws.{BootRules}
use Rattle.workload.specs.Workload.{summary, work_bundle}
use Rattle.keynix.specs.declared.ending.Ending.{Ending}
use Rattle.keynix.specs.declared.ending.Ending.TheVariants.{Halted, TurnsSpent, Idle, Done, Usage, Refused, NotAssembled, BadPlan, ReadFault, WriteFault, NoMemory}
use Rattle.keynix.specs.Endings.{Ends, EndsOn, IsCaused, IsUnread}
use Rattle.keynix.specs.Counts.{CountsStay}
use Rattle.keynix.specs.Inputs.{IsBoot, IsBootWhere}
use Rattle.keynix.specs.Loads.{BootsLoad, EndsWork, PutsSummary, load_run, load_summary}
use Rattle.command_line.specs.Words.{Load, Setup, default_pages, default_quantum, default_setup, default_turns}

-- ---- what a run of the load puts

-- a bundle that boots gives the rules of a state
text-ruled : (pages quantum : ℕ) → AreSizes pages quantum 0 → {unix : Unix} {bundle : Bundle} {result : Result Booted Refusal} → Boots unix bundle result → Empty pages quantum unix → (booted : Booted) → result ≡ Ok booted → BootRules call_of booted.unix
text-ruled pages quantum sizes (stores {unix = unix} {next = next} entry stored is e rest) empty booted made =
    text-ruled pages quantum sizes rest (stored-empty pages quantum 0 unix next (stored ∷ []) empty e) booted made
text-ruled pages quantum sizes (has_no_room entry stored is e) empty booted made = cc
text-ruled pages quantum sizes (refuses kind line) empty booted made = cc
text-ruled pages quantum sizes (ends {unix = unix} rest) empty booted made = by (with_init unix) refl made
  where
    by : (loaded : Result Unix model.BootRefusal) → with_init unix ≡ loaded → started rest loaded ≡ Ok booted → BootRules call_of booted.unix
    by (Ok next) is e =
        let same : record { unix = next; input = rest } ≡ booted = cc in
        subst (λ (b : Booted). BootRules call_of b.unix) same (loaded-ruled call_of pages quantum sizes unix next empty is)
    by (Err (model.BadProgram fault)) is e = cc
    by (Err model.NoRoomToStart) is e = cc
    by (Err (model.NoRoomFor entry)) is e = cc
    by (Err model.NoProgram) is e = cc

default-sizes : AreSizes default_setup.pages default_setup.quantum 0
unfolding default_pages default_quantum
default-sizes = record { least = omega arith; most = omega arith; whole = refl; some_turns = omega arith; few_turns = omega arith; round = omega arith }

-- the bundle is no ELF file
no-elf : (load : Load) → model.is_elf (work_bundle load.seed load.lines) ≡ false
unfolding work_bundle
no-elf load = refl

load-ruled : (load : Load) (booted : Booted) → BootsLoad load (Ok booted) → BootRules call_of booted.unix
unfolding IsBoot
load-ruled load booted boots =
    text-ruled default_setup.pages default_setup.quantum default-sizes (subst (λ elf. IsBootWhere elf default_setup (work_bundle load.seed load.lines) (Ok booted)) (no-elf load) boots) (empty-at-first default_setup.pages default_setup.quantum) booted refl

-- so its bytes are fewer than are counted
load-few : RunPutsFew → (load : Load) (booted : Booted) → BootsLoad load (Ok booted) → length (load_run booted).put < 2 ^ 64
unfolding default_turns
load-few few load booted boots =
    let ruled : BootRules call_of booted.unix = load-ruled load booted boots in
    let bound : length (load_run booted).put ≤ 100000000 * 4096 = few call_of 100000000 booted.unix (schedules.Round None) booted.input ruled.slots ruled.sent in
    omega (arith, bound)

-- a count from 0 is that of the bytes, and the sum likewise
counted : (old new : CountSink) (put : List ℕ) → GrewCounted old put new → counted_bytes old ≡ 0 → counted_sum old ≡ 0 → length put < 2 ^ 64
    → (counted_bytes new ≡ length put) × (counted_sum new ≡ sum put % 2 ^ 32)
counted old new put grew no_bytes no_sum few =
    let size : counted_bytes old + length put ≡ length put = omega (arith, no_bytes) in
    let total : counted_sum old + sum put ≡ sum put = omega (arith, no_sum) in
    (grew.count ∙ ap (λ n. n % 2 ^ 64) size ∙ mod-eq_of_lt few, grew.sum_is ∙ ap (λ n. n % 2 ^ 32) total)

-- ---- how it ends

-- a count that is always 0 doesn't rise
never-rises : {A : Type 0} → Rose 0 0 → A
never-rises rose = absurd (omega (arith, rose))

module _ (load : Load) {S K : Type 0} (left : S → Option (List ℕ)) (source : S) (console_old console_new : CountSink) (grew : K → List ℕ → K → Type 0) (old : K) where
  -- the run under the setup that was made for it
  pub runs-so : (setup : Setup) (made ending : Ending) → setup ≡ default_setup → made ≡ ending → EndsOn setup (schedules.Round None) (work_bundle load.seed load.lines) left GrewCounted source console_old console_new made
      → EndsOn default_setup (schedules.Round None) (work_bundle load.seed load.lines) left GrewCounted source console_old console_new ending
  runs-so setup made ending is same on =
      subst (λ setup. EndsOn setup (schedules.Round None) (work_bundle load.seed load.lines) left GrewCounted source console_old console_new ending) is
      (subst (λ ending. EndsOn setup (schedules.Round None) (work_bundle load.seed load.lines) left GrewCounted source console_old console_new ending) same on)

  -- the load halted, and what the console counted was put
  pub halted-puts : RunPutsFew → counted_bytes console_old ≡ 0 → counted_sum console_old ≡ 0 → (word : ℕ) → EndsOn default_setup (schedules.Round None) (work_bundle load.seed load.lines) left GrewCounted source console_old console_new (Halted word)
      → (new : K) (ending : Ending) → PutsSummary (summary load.seed load.lines (counted_bytes console_new) (counted_sum console_new)) grew old new ending → EndsWork load grew old new ending
  halted-puts few no_bytes no_sum word (inr unread) new ending puts = absurd unread.0
  halted-puts few no_bytes no_sum word (inl on) new ending puts = by on.0 on.1 on.2 ending puts
    where
      text : (booted : Booted) → BootsLoad load (Ok booted) → GrewCounted console_old (load_run booted).put console_new → summary load.seed load.lines (counted_bytes console_new) (counted_sum console_new) ≡ load_summary load booted
      text booted boots grown =
          let is = counted console_old console_new (load_run booted).put grown no_bytes no_sum (load-few few load booted boots) in
          ap (λ n. summary load.seed load.lines n (counted_sum console_new)) is.0 ∙ ap (λ n. summary load.seed load.lines (length (load_run booted).put) n) is.1

      by : (found : Result Booted Refusal) → BootsLoad load found → Ends default_setup.turns (schedules.Round None) found left GrewCounted source console_old console_new (Halted word)
          → (ending : Ending) → PutsSummary (summary load.seed load.lines (counted_bytes console_new) (counted_sum console_new)) grew old new ending → EndsWork load grew old new ending
      by (Err refusal) boots never ending puts = absurd never
      by (Ok booted) boots runs Done puts = inl (Ok booted, boots, ((word, runs.1), subst (λ text. grew old text new) (text booted boots runs.0.output_grew) puts))
      by (Ok booted) boots runs WriteFault puts = inl (Ok booted, boots, ((word, runs.1), subst (λ text. GrewByPrefix grew old text new) (text booted boots runs.0.output_grew) puts))
      by (Ok booted) boots runs NoMemory puts = inr (refl, puts)
      by (Ok booted) boots runs ReadFault puts = absurd puts
      by (Ok booted) boots runs (Halted other) puts = absurd puts
      by (Ok booted) boots runs (TurnsSpent made) puts = absurd puts
      by (Ok booted) boots runs (Idle made) puts = absurd puts
      by (Ok booted) boots runs Usage puts = absurd puts
      by (Ok booted) boots runs (Refused refusal) puts = absurd puts
      by (Ok booted) boots runs (NotAssembled kind line) puts = absurd puts
      by (Ok booted) boots runs (BadPlan line) puts = absurd puts

  -- where nothing was booted, memory ran out
  unread-ends : (ending : Ending) → IsUnread (Unit {0}) ending → IsCaused (Rose 0 0) (Rose 0 0) ending → EndsWork load grew old old ending
  unread-ends NoMemory unread caused = inr (refl, refl)
  unread-ends ReadFault unread caused = never-rises caused
  unread-ends WriteFault unread caused = absurd unread
  unread-ends (Halted word) unread caused = absurd unread
  unread-ends (TurnsSpent made) unread caused = absurd unread
  unread-ends (Idle made) unread caused = absurd unread
  unread-ends Done unread caused = absurd unread
  unread-ends Usage unread caused = absurd unread
  unread-ends (Refused told) unread caused = absurd unread
  unread-ends (NotAssembled kind line) unread caused = absurd unread
  unread-ends (BadPlan line) unread caused = absurd unread

  -- any other ending puts nothing
  pub other-ends : (ending : Ending) → ((word : ℕ) → ending ≢ Halted word) → IsCaused (Rose 0 0) (Rose 0 0) ending → EndsOn default_setup (schedules.Round None) (work_bundle load.seed load.lines) left GrewCounted source console_old console_new ending
      → EndsWork load grew old old ending
  other-ends ending other caused (inl on) = by on.0 on.1 ending other caused on.2
    where
      by : (found : Result Booted Refusal) → BootsLoad load found → (ending : Ending) → ((word : ℕ) → ending ≢ Halted word) → IsCaused (Rose 0 0) (Rose 0 0) ending
          → Ends default_setup.turns (schedules.Round None) found left GrewCounted source console_old console_new ending → EndsWork load grew old old ending
      by (Ok booted) boots (TurnsSpent made) other caused runs = inl (Ok booted, boots, (runs.1, runs.2, refl))
      by (Ok booted) boots (Idle made) other caused runs = inl (Ok booted, boots, (runs.1, runs.2, refl))
      by (Err refusal) boots (Refused told) other caused so = inl (Err refusal, boots, (so.0, refl))
      by (Err refusal) boots (TurnsSpent made) other caused never = absurd never
      by (Err refusal) boots (Idle made) other caused never = absurd never
      by (Ok booted) boots (Refused told) other caused never = absurd never
      by (Ok booted) boots Done other caused never = absurd never
      by (Err refusal) boots Done other caused never = absurd never
      by (Ok booted) boots (NotAssembled kind line) other caused never = absurd never
      by (Err refusal) boots (NotAssembled kind line) other caused never = absurd never
      by (Ok booted) boots (BadPlan line) other caused never = absurd never
      by (Err refusal) boots (BadPlan line) other caused never = absurd never
      by found boots ReadFault other caused so = never-rises caused
      by found boots WriteFault other caused so = never-rises caused
      by found boots NoMemory other caused so = inr (refl, refl)
      by found boots (Halted word) other caused so = absurd (other word refl)
      by found boots Usage other caused so = absurd caused
  other-ends ending other caused (inr unread) = unread-ends ending unread.0 caused

-- whose counts stay, and which no fault caused
pub counts-stay : (write : Type 0) → write → (ending : Ending) → CountsStay (Unit {0}) write ending
counts-stay write same ReadFault = same
counts-stay write same WriteFault = tt
counts-stay write same (Halted word) = (tt, same)
counts-stay write same (TurnsSpent made) = (tt, same)
counts-stay write same (Idle made) = (tt, same)
counts-stay write same Done = (tt, same)
counts-stay write same Usage = (tt, same)
counts-stay write same (Refused refusal) = (tt, same)
counts-stay write same (NotAssembled kind line) = (tt, same)
counts-stay write same (BadPlan line) = (tt, same)
counts-stay write same NoMemory = (tt, same)

pub no-cause : (write : Type 0) (ending : Ending) → IsCaused (Rose 0 0) (Rose 0 0) ending → IsCaused ⊥ write ending
no-cause write ReadFault caused = never-rises caused
no-cause write WriteFault caused = never-rises caused
no-cause write (Halted word) caused = tt
no-cause write (TurnsSpent made) caused = tt
no-cause write (Idle made) caused = tt
no-cause write Done caused = tt
no-cause write Usage caused = caused
no-cause write (Refused refusal) caused = tt
no-cause write (NotAssembled kind line) caused = tt
no-cause write (BadPlan line) caused = tt
no-cause write NoMemory caused = tt
