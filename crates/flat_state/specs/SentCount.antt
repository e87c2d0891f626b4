-- The counts of calls that are sent.
use Rattle.std.specs.Prelude.{◌≡◌, ℕ, ◌≤◌, List, slice_index}
use Rattle.unix_model.specs.declared.calls.Call.{Call}
use Rattle.unix_model.specs.declared.calls.Call.TheVariants.{Read, Getdents}

-- the count that read and getdents are sent with is at most what one call moves
abbrev pub HasSmallCount : Call → List ℕ → Type 0
HasSmallCount call arguments = (call ≡ Read → slice_index arguments 2 ≤ 4096) × (call ≡ Getdents → slice_index arguments 2 ≤ 4096)
