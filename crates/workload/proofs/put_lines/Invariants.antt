use Rattle.std.proofs.Common.{◌≡◌, ◌++◌, ◌-◌}
use Rattle.workload.specs.Workload.{data_lines}
use Rattle.workload.proofs.put_lines.Given as goal

-- so far, and the rest
abbrev pub invariant-loop : goal.invariant-loop
invariant-loop l = l.bytes.items ++ data_lines (l.lines - l.counter) l.number ≡ l.initial.bytes.items ++ data_lines l.lines l.seed
