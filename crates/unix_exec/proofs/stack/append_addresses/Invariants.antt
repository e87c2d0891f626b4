use Rattle.std.proofs.Common.{◌≡◌, ◌+◌, ◌++◌, true, drop}
use Rattle.unix_exec.specs.Addresses.{addresses_from}
use Rattle.unix_exec.proofs.stack.append_addresses.Given as goal

-- the addresses so far, and the rest
abbrev pub invariant-loop-byte : goal.invariant-loop-byte
invariant-loop-byte l = record {
  place : l.address ≡ l.start + l.byte-index;
  so_far : l.bytes.items ++ addresses_from l.begins l.address (drop l.byte-index l.strings) ≡ l.initial.bytes.items ++ addresses_from true l.start l.strings;
}
