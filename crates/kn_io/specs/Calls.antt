-- The calls that an object in memory got: which of them fail, and how many did.
use Rattle.std.specs.Prelude.{ℕ, ◌+◌, ◌-◌, ◌^◌, ◌==◌, min, List, Bool, if◌then◌else◌}
use Rattle.std.specs.List.{list_any}

-- The numbers of the calls that fail, from 0, how many calls there were, and how many failed.
pub record Calls : Type 0 where
  pub fails : List ℕ
  pub count : ℕ
  pub faults : ℕ

-- Before the first call.
abbrev pub no_calls : List ℕ → Calls
no_calls fails = record { fails = fails; count = 0; faults = 0 }

-- The next call is one that fails.
abbrev pub fails_next : Calls → Bool
fails_next calls = list_any (λ number. number == calls.count) calls.fails

-- One more, up to the last value of a count.
abbrev pub counted : ℕ → ℕ
counted count = min (count + 1) (2 ^ 64 - 1)

-- After one more call, which failed or didn't.
abbrev pub after_call : Calls → Bool → Calls
after_call calls failed = record {
  fails = calls.fails;
  count = counted calls.count;
  faults = if failed then counted calls.faults else calls.faults;
}
