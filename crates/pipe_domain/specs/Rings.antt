-- The ring of a pipe: its page, written from a place on and round.
use Rattle.std.specs.Prelude.{ℕ, ◌+◌, ◌-◌, List, take, drop, length, nat_le, if◌then◌else◌}
use Rattle.kn_base.specs.Rows.{overwritten}

-- how many bytes a ring has
abbrev pub ring_size : ℕ
ring_size = 4096

-- A page in which bytes were written from a place on, and on from its start where they come to its end.
unfoldable pub ring_written : List ℕ → ℕ → List ℕ → List ℕ
ring_written page place bytes =
    if nat_le (place + length bytes) ring_size then overwritten page place bytes else
    overwritten (overwritten page place (take (ring_size - place) bytes)) 0 (drop (ring_size - place) bytes)
