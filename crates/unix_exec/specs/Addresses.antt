-- The addresses of strings, byte by byte.
use Rattle.std.specs.Prelude.{ℕ, ◌+◌, ◌==◌, Bool, List, [], ◌∷◌, ◌++◌, if◌then◌else◌}
use Rattle.std.specs.Int.{to_le_bytes, w32}

-- the addresses, as words, of the strings that begin among some bytes: the first of these is at an address, and begins one or not
unfoldable pub addresses_from : Bool → ℕ → List ℕ → List ℕ
addresses_from begins address [] = []
addresses_from begins address (byte ∷ bytes) = (if begins then to_le_bytes w32 address else []) ++ addresses_from (byte == 0) (address + 1) bytes
