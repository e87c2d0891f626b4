use Rattle.std.proofs.Common.{◌≡◌, ◌^◌, ◌+◌, ◌%◌, drop}
use Rattle.std.specs.List.{sum}
use Rattle.kn_io.proofs.count_sink.sum_after.Given as goal

-- so far, and the rest
abbrev pub invariant-loop-byte : goal.invariant-loop-byte
invariant-loop-byte l = (l.sum + sum (drop l.byte-index l.bytes)) % 2 ^ 32 ≡ (l.start + sum l.bytes) % 2 ^ 32
