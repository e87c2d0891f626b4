use Rattle.std.proofs.Common.{◌≡◌, ◌+◌}
use Rattle.kernel_tables.specs.Kernel.{kernel_of}
use Rattle.domain.specs.Checks.{node_rows}
use Rattle.domain.specs.Tests.{all_pass, is_null}
use Rattle.domain.proofs.checks.words.are_null.Given as goal

abbrev pub invariant-loop-n : goal.invariant-loop-n
invariant-loop-n g l = record { nulls : l.nulls ≡ all_pass (λ k. is_null (node_rows (kernel_of (g.T.Store.memory l.store)) l.node.0 (l.from + k))) l.n }
