-- Lines that wait.
use Rattle.std.specs.Prelude.{Bool, true, false, Ok, Err}
use Rattle.unix_model.specs.Effect.{Line, Waits, Goes, Takes, Puts}

abbrev pub is_waiting : Line → Bool
is_waiting (Err errno) = false
is_waiting (Ok Waits) = true
is_waiting (Ok (Goes state)) = false
is_waiting (Ok (Takes state taken left)) = false
is_waiting (Ok (Puts state put)) = false
