-- A run so far, and the rest.
use Rattle.std.proofs.Common.{◌≡◌, ℕ, zero, suc, ◌+◌, ◌-◌, ◌<◌, ◌≤◌, Bool, false, List, [], ◌++◌, Option, Some, None, refl, sym, ap, ap₂, subst, ◌∙◌, inl, inr, arith, append-nil, append_assoc, add-zero, zero-add}
use Rattle.kn_io.specs.Sink.{GrewByPrefix}
use Rattle.unix_model.specs.Calls.{call_of}
use Rattle.unix_model.specs.Machine.{RunResult, Stop, Going, ended, run, run_from, stop_by, stop_or_going}
use Rattle.unix_model.specs.Schedule.{Schedule, ends_idle, is_spent, next_slot, schedule_after, schedule_begun, unix_machine, unix_run}
use Rattle.unix_model.specs.State.{Unix, halted_word}
use Rattle.unix_model.specs.Turn.{turned}
use Rattle.unix_model.specs.TurnRecord.{Turn}
use Rattle.unix_laws.proofs.EveryTurn.{input_splits}
use Rattle.flat_file_calls.specs.Console.{TakesFront}
use Rattle.flat_unix.specs.FreeTurns.{ticked_times}
use Rattle.keynix.specs.Rows.{GoesOn, MakesRow, rest_of, schedule_later, turns_then}
use Rattle.keynix.specs.Runs.{RunsAs}
use Rattle.keynix.proofs.RowLaws.{later-one, rest_behind, run-row, run-turn, turns_then-joined}

-- ---- where a run ends

-- why no turn is made ends it, whatever the number
pub run-stopped : (n : ℕ) (unix : Unix) (schedule : Schedule) (input : List ℕ) (stop : Stop) → stop_by (halted_word unix) (is_spent schedule) ≡ Some stop → run_from (unix_machine call_of) n unix schedule input ≡ ended unix schedule input stop
unfolding run_from unix_machine
run-stopped zero unix schedule input stop is = ap (λ found. ended unix schedule input (stop_or_going found)) is
run-stopped (suc n) unix schedule input stop is = rw is refl

-- no turn is left
pub run-made : (unix : Unix) (schedule : Schedule) (input : List ℕ) → stop_by (halted_word unix) (is_spent schedule) ≡ None → run_from (unix_machine call_of) 0 unix schedule input ≡ ended unix schedule input Going
unfolding run_from unix_machine
run-made unix schedule input is = ap (λ found. ended unix schedule input (stop_or_going found)) is

module _ {S K : Type 0} (left : S → Option (List ℕ)) (grew : K → List ℕ → K → Type 0) where
  -- ---- one step

  -- turns in a row are a step of a run
  pub row-goes_on : (nothing : (s : K) → grew s [] s) (most made : ℕ) (unix next : Unix) (schedule later : Schedule) (input : List ℕ) (idle : Bool) (source : S) (old new : K)
      → 0 < made → made ≤ most → halted_word unix ≡ None → is_spent schedule ≡ false → MakesRow schedule made unix input left grew next source old new
      → idle ≡ ends_idle next schedule → later ≡ schedule_later next made schedule
      → GoesOn (run_from (unix_machine call_of) most unix schedule input) (most - made) input left grew next later made idle source old new
  row-goes_on nothing most zero unix next schedule later input idle source old new some few going given makes idles passes = absurd (omega (arith, some))
  row-goes_on nothing most (suc made) unix next schedule later input idle source old new some few going given (inl one) idles passes =
      let turn : Turn = turned call_of unix (next_slot unix schedule) input in
      let rest : ℕ = most - suc made in
      let all : most ≡ suc rest = omega (arith, few, one.0) in
      let state_is : next ≡ turn.state = one.2.state_is in
      let same : rest_behind rest schedule turn ≡ rest_of idle rest next later turn.left =
      ap (λ (state : Unix). rest_of (ends_idle state schedule) rest state (schedule_after call_of state schedule) turn.left) (sym state_is)
      ∙ ap₂ (λ idle schedule. rest_of idle rest next schedule turn.left) (sym idles) (later-one next schedule given ∙ ap (λ number. schedule_later next number schedule) (sym one.0) ∙ sym passes) in
      record {
        taken = turn.taken;
        put = turn.put;
        now = turn.left;
        run_is =
            ap (λ all. run_from (unix_machine call_of) all unix schedule input) all
            ∙ run-turn rest unix schedule input going given
            ∙ ap₂ (λ number rest. turns_then turn.taken turn.put number rest) (sym one.0) same;
        input_is = sym (input_splits call_of unix (next_slot unix schedule) input);
        input_left = one.2.source_left;
        output_grew = one.2.sink_grew;
      }
  row-goes_on nothing most (suc made) unix next schedule later input idle source old new some few going given (inr free) idles passes =
      let rest : ℕ = most - suc made in
      let all : most ≡ suc made + rest = omega (arith, few) in
      let same : rest_of (ends_idle (ticked_times (suc made) unix) schedule) rest (ticked_times (suc made) unix) (schedule_later (ticked_times (suc made) unix) (suc made) schedule) input ≡ rest_of idle rest next later input =
      ap (λ (state : Unix). rest_of (ends_idle state schedule) rest state (schedule_later state (suc made) schedule) input) (sym free.1)
      ∙ ap₂ (λ idle schedule. rest_of idle rest next schedule input) (sym idles) (sym passes) in
      record {
        taken = [];
        put = [];
        now = input;
        run_is = run-row made rest most unix schedule input all going free.0 ∙ ap (turns_then [] [] (suc made)) same;
        input_is = refl;
        input_left = free.2;
        output_grew = subst (λ new. grew old [] new) (sym free.3) (nothing old);
      }

  -- a turn that failed has lost a front of what the run takes
  pub turn-lost : (most : ℕ) (unix : Unix) (schedule : Schedule) (input : List ℕ) (now : Option (List ℕ)) → 0 < most → halted_word unix ≡ None → is_spent schedule ≡ false
      → TakesFront input (turned call_of unix (next_slot unix schedule) input).taken now → TakesFront input (run_from (unix_machine call_of) most unix schedule input).taken now
  turn-lost zero unix schedule input now some going given front = absurd (omega (arith, some))
  turn-lost (suc rest) unix schedule input now some going given front =
      let turn : Turn = turned call_of unix (next_slot unix schedule) input in
      let after : RunResult Unix Schedule = rest_behind rest schedule turn in
      let whole : (run_from (unix_machine call_of) (suc rest) unix schedule input).taken ≡ turn.taken ++ after.taken =
      ap (λ (run : RunResult Unix Schedule). run.taken) (run-turn rest unix schedule input going given) in
      record {
        front = front.front;
        behind = front.behind ++ after.taken;
        left = front.left;
        front_is = sym (append_assoc front.front front.behind after.taken) ∙ ap (λ bytes. bytes ++ after.taken) front.front_is ∙ sym whole;
        input_is = front.input_is;
        left_is = front.left_is;
      }

  -- and the output got a front of what the run puts
  pub turn-part : (longer : (a b : K) (x y : List ℕ) → GrewByPrefix grew a x b → GrewByPrefix grew a (x ++ y) b) (most : ℕ) (unix : Unix) (schedule : Schedule) (input : List ℕ) (old new : K)
      → 0 < most → halted_word unix ≡ None → is_spent schedule ≡ false
      → GrewByPrefix grew old (turned call_of unix (next_slot unix schedule) input).put new → GrewByPrefix grew old (run_from (unix_machine call_of) most unix schedule input).put new
  turn-part longer zero unix schedule input old new some going given part = absurd (omega (arith, some))
  turn-part longer (suc rest) unix schedule input old new some going given part =
      let turn : Turn = turned call_of unix (next_slot unix schedule) input in
      let after : RunResult Unix Schedule = rest_behind rest schedule turn in
      let whole : (run_from (unix_machine call_of) (suc rest) unix schedule input).put ≡ turn.put ++ after.put =
      ap (λ (run : RunResult Unix Schedule). run.put) (run-turn rest unix schedule input going given) in
      subst (λ bytes. GrewByPrefix grew old bytes new) (sym whole) (longer old new turn.put after.put part)

  -- ---- step by step

  -- before the first turn
  pub run-begins : (turns : ℕ) (unix : Unix) (schedule begun : Schedule) (input : List ℕ) (source : S) (old : K) → (nothing : (s : K) → grew s [] s) → begun ≡ schedule_begun call_of unix schedule → left source ≡ Some input
      → GoesOn (unix_run call_of turns unix schedule input) turns input left grew unix begun 0 false source old old
  unfolding unix_run run unix_machine
  run-begins turns unix schedule begun input source old nothing is told =
      record {
        taken = [];
        put = [];
        now = input;
        run_is = ap (λ begun. run_from (unix_machine call_of) turns unix begun input) (sym is) ∙ none (run_from (unix_machine call_of) turns unix begun input);
        input_is = refl;
        input_left = told;
        output_grew = nothing old;
      }
    where
      none : (rest : RunResult Unix Schedule) → rest ≡ turns_then [] [] 0 rest
      none rest = rw (zero-add rest.turns) refl

  module _ (whole : RunResult Unix Schedule) (input : List ℕ) (old : K) where
    -- some turns more
    pub goes_on-more : (joined : (a b c : K) (x y : List ℕ) → grew a x b → grew b y c → grew a (x ++ y) c) (n m made more : ℕ) (unix next : Unix) (schedule later : Schedule) (idle : Bool) (source after : S) (mid new : K)
        → GoesOn whole n input left grew unix schedule made false source old mid
        → ((bytes : List ℕ) → left source ≡ Some bytes → GoesOn (run_from (unix_machine call_of) n unix schedule bytes) m bytes left grew next later more idle after mid new)
        → GoesOn whole m input left grew next later (made + more) idle after old new
    goes_on-more joined n m made more unix next schedule later idle source after mid new before step =
        let last = step before.now before.input_left in
        record {
          taken = before.taken ++ last.taken;
          put = before.put ++ last.put;
          now = last.now;
          run_is = before.run_is ∙ ap (turns_then before.taken before.put made) last.run_is ∙ turns_then-joined before.taken before.put made last.taken last.put more (rest_of idle m next later last.now);
          input_is = before.input_is ∙ ap (λ bytes. before.taken ++ bytes) last.input_is ∙ sym (append_assoc before.taken last.taken last.now);
          input_left = last.input_left;
          output_grew = joined old mid new before.put last.put before.output_grew last.output_grew;
        }

    -- the same, by other names
    pub goes_on-same : (n m made more : ℕ) (idle other : Bool) (unix : Unix) (schedule : Schedule) (source : S) (new : K) → n ≡ m → made ≡ more → idle ≡ other
        → GoesOn whole n input left grew unix schedule made idle source old new → GoesOn whole m input left grew unix schedule more other source old new
    goes_on-same n m made more idle other unix schedule source new lefts numbers idles before =
        subst (λ m. GoesOn whole m input left grew unix schedule more other source old new) lefts
        (subst (λ more. GoesOn whole n input left grew unix schedule more other source old new) numbers
        (subst (λ other. GoesOn whole n input left grew unix schedule made other source old new) idles before))

    -- no turn follows
    pub goes_on-ends : (n made : ℕ) (unix : Unix) (schedule : Schedule) (idle : Bool) (stop : Stop) (source : S) (new : K) → GoesOn whole n input left grew unix schedule made idle source old new
        → ((bytes : List ℕ) → rest_of idle n unix schedule bytes ≡ ended unix schedule bytes stop) → RunsAs whole input left grew unix schedule made stop source old new
    goes_on-ends n made unix schedule idle stop source new before ends =
        let is : whole ≡ turns_then before.taken before.put made (ended unix schedule before.now stop) = before.run_is ∙ ap (turns_then before.taken before.put made) (ends before.now) in
        record {
          state_is = sym (ap (λ (run : RunResult Unix Schedule). run.state) is);
          schedule_is = sym (ap (λ (run : RunResult Unix Schedule). run.schedule) is);
          turns_are = sym (ap (λ (run : RunResult Unix Schedule). run.turns) is ∙ add-zero made);
          stop_is = sym (ap (λ (run : RunResult Unix Schedule). run.stop) is);
          input_left = before.input_left ∙ ap (λ (run : RunResult Unix Schedule). Some run.left) (sym is);
          input_split = before.input_is ∙ ap₂ (λ taken now. taken ++ now) (sym (ap (λ (run : RunResult Unix Schedule). run.taken) is ∙ append-nil before.taken)) (sym (ap (λ (run : RunResult Unix Schedule). run.left) is));
          output_grew = subst (λ bytes. grew old bytes new) (sym (ap (λ (run : RunResult Unix Schedule). run.put) is ∙ append-nil before.put)) before.output_grew;
        }

    -- a step failed
    pub goes_on-lost : (n made : ℕ) (unix : Unix) (schedule : Schedule) (source : S) (mid : K) (now : Option (List ℕ)) → GoesOn whole n input left grew unix schedule made false source old mid
        → ((bytes : List ℕ) → left source ≡ Some bytes → TakesFront bytes (run_from (unix_machine call_of) n unix schedule bytes).taken now) → TakesFront input whole.taken now
    goes_on-lost n made unix schedule source mid now before step =
        let front = step before.now before.input_left in
        let is : whole.taken ≡ before.taken ++ (run_from (unix_machine call_of) n unix schedule before.now).taken = ap (λ (run : RunResult Unix Schedule). run.taken) before.run_is in
        record {
          front = before.taken ++ front.front;
          behind = front.behind;
          left = front.left;
          front_is = append_assoc before.taken front.front front.behind ∙ ap (λ bytes. before.taken ++ bytes) front.front_is ∙ sym is;
          input_is = before.input_is ∙ ap (λ bytes. before.taken ++ bytes) front.input_is ∙ sym (append_assoc before.taken front.front front.left);
          left_is = front.left_is;
        }

    pub goes_on-part : (joined : (a b c : K) (x y : List ℕ) → grew a x b → GrewByPrefix grew b y c → GrewByPrefix grew a (x ++ y) c) (n made : ℕ) (unix : Unix) (schedule : Schedule) (source : S) (mid new : K) → GoesOn whole n input left grew unix schedule made false source old mid
        → ((bytes : List ℕ) → left source ≡ Some bytes → GrewByPrefix grew mid (run_from (unix_machine call_of) n unix schedule bytes).put new) → GrewByPrefix grew old whole.put new
    goes_on-part joined n made unix schedule source mid new before step =
        subst (λ bytes. GrewByPrefix grew old bytes new) (sym (ap (λ (run : RunResult Unix Schedule). run.put) before.run_is))
        (joined old mid new before.put (run_from (unix_machine call_of) n unix schedule before.now).put before.output_grew (step before.now before.input_left))
