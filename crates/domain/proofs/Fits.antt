-- Numbers that may stand at a place of a root.
use Rattle.std.proofs.Common.{◌≡◌, ◌<◌, ◌≤◌, ℕ, true, refl, sym, subst, arith}
use Rattle.kn_base.specs.declared.key.Key.{Key}
use Rattle.unix_model.specs.Rules.{IsBreak}
use Rattle.domain.specs.declared.types.Phase.{Phase}
use Rattle.domain.specs.declared.types.Phase.TheVariants.{Run, Asked, Sent, Done, Exiting, Zombie}
use Rattle.domain.specs.declared.types.State.{State}
use Rattle.domain.specs.declared.types.State.TheVariants.{Available, Running, Waiting}
use Rattle.domain.specs.Keys.{is_number, word_in}
use Rattle.domain.specs.Domains.{phase_number, state_number}
use Rattle.domain.specs.Rules.{NumberFits}

pub state_low : (state : State) → state_number state < 3
state_low Available = omega arith
state_low Running = omega arith
state_low Waiting = omega arith

phase_low : (phase : Phase) → phase_number phase < 6
phase_low Run = omega arith
phase_low Asked = omega arith
phase_low Sent = omega arith
phase_low Done = omega arith
phase_low Exiting = omega arith
phase_low Zombie = omega arith

pub life_fits : (key : Key) (state : ℕ) → state < 3 → is_number key ≡ true → word_in key 0 ≡ state → NumberFits 6 key
life_fits key state low number first = record {
  number = number;
  state = λ e. omega arith;
  phase = λ e. absurd (omega arith);
  break = λ e. absurd (omega arith);
  call = λ e. absurd (omega arith);
  request = λ e. absurd (omega arith);
  answer = λ e. absurd (omega arith);
  parked = λ e. absurd (omega arith);
  unused = λ e. absurd (omega arith);
}

-- the number of a phase is below 6
pub ids_low : (key : Key) → is_number key ≡ true → word_in key 2 < 6 → NumberFits 7 key
ids_low key number low = record {
  number = number;
  state = λ e. absurd (omega arith);
  phase = λ e. low;
  break = λ e. absurd (omega arith);
  call = λ e. absurd (omega arith);
  request = λ e. absurd (omega arith);
  answer = λ e. absurd (omega arith);
  parked = λ e. absurd (omega arith);
  unused = λ e. absurd (omega arith);
}

pub phase_fits : (key : Key) (phase : Phase) → is_number key ≡ true → word_in key 2 ≡ phase_number phase → NumberFits 7 key
phase_fits key phase number third = ids_low key number (subst (λ n. n < 6) (sym third) (phase_low phase))

-- the ids change, and the phase stays
pub ids_fit : (key was : Key) → is_number key ≡ true → word_in key 2 ≡ word_in was 2 → NumberFits 7 was → NumberFits 7 key
ids_fit key was number third before = ids_low key number (subst (λ n. n < 6) (sym third) (before.phase refl))

pub break_fits : (key : Key) (first last : ℕ) → is_number key ≡ true → word_in key 0 ≡ first → word_in key 1 ≡ last → IsBreak first last → NumberFits 8 key
break_fits key first last number one two is = record {
  number = number;
  state = λ e. absurd (omega arith);
  phase = λ e. absurd (omega arith);
  break = λ e. subst (λ n. IsBreak n (word_in key 1)) (sym one) (subst (IsBreak first) (sym two) is);
  call = λ e. absurd (omega arith);
  request = λ e. absurd (omega arith);
  answer = λ e. absurd (omega arith);
  parked = λ e. absurd (omega arith);
  unused = λ e. absurd (omega arith);
}

pub call_fits : (key : Key) → is_number key ≡ true → word_in key 0 < 256 → NumberFits 9 key
call_fits key number low = record {
  number = number;
  state = λ e. absurd (omega arith);
  phase = λ e. absurd (omega arith);
  break = λ e. absurd (omega arith);
  call = λ e. low;
  request = λ e. absurd (omega arith);
  answer = λ e. absurd (omega arith);
  parked = λ e. absurd (omega arith);
  unused = λ e. absurd (omega arith);
}

pub request_fits : (key : Key) → is_number key ≡ true → word_in key 2 ≤ 4096 → NumberFits 10 key
request_fits key number low = record {
  number = number;
  state = λ e. absurd (omega arith);
  phase = λ e. absurd (omega arith);
  break = λ e. absurd (omega arith);
  call = λ e. absurd (omega arith);
  request = λ e. low;
  answer = λ e. absurd (omega arith);
  parked = λ e. absurd (omega arith);
  unused = λ e. absurd (omega arith);
}

pub answer_fits : (key : Key) → is_number key ≡ true → word_in key 2 ≤ 4096 → NumberFits 11 key
answer_fits key number low = record {
  number = number;
  state = λ e. absurd (omega arith);
  phase = λ e. absurd (omega arith);
  break = λ e. absurd (omega arith);
  call = λ e. absurd (omega arith);
  request = λ e. absurd (omega arith);
  answer = λ e. low;
  parked = λ e. absurd (omega arith);
  unused = λ e. absurd (omega arith);
}

pub marks_fit : (key : Key) → is_number key ≡ true → word_in key 0 < 2 → word_in key 2 ≡ 0 → NumberFits 12 key
marks_fit key number low zero = record {
  number = number;
  state = λ e. absurd (omega arith);
  phase = λ e. absurd (omega arith);
  break = λ e. absurd (omega arith);
  call = λ e. absurd (omega arith);
  request = λ e. absurd (omega arith);
  answer = λ e. absurd (omega arith);
  parked = λ e. low;
  unused = λ e. zero;
}
