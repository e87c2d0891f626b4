-- One string of exec.
use Rattle.std.specs.Prelude.{ℕ, ◌+◌, List, length, Result, Ok, nat_lt}
use Rattle.unix_model.specs.declared.calls.Errno.{Errno}
use Rattle.unix_model.specs.declared.calls.Errno.TheVariants.{E2big}
use Rattle.unix_model.specs.Enter.{text_at, with_nul}
use Rattle.unix_model.specs.Memory.{Memory}
use Rattle.unix_model.specs.Refusals.{◌>>=◌, ◌>>◌, refuse◌when◌}

-- the string at an address with its NUL, for which there is so much room
unfoldable pub string_at : Memory → (room address : ℕ) → Result (List ℕ) Errno
string_at memory room address = do
  text ← text_at memory E2big (room + 1) address
  refuse E2big when nat_lt room (length text + 1)
  Ok (with_nul text)
