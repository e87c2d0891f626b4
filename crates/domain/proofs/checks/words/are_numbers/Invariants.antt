use Rattle.std.proofs.Common.{◌≡◌}
use Rattle.kernel_tables.specs.Kernel.{kernel_of}
use Rattle.domain.specs.Keys.{is_number}
use Rattle.domain.specs.Checks.{node_rows}
use Rattle.domain.specs.Tests.{all_pass}
use Rattle.domain.proofs.checks.words.are_numbers.Given as goal

abbrev pub invariant-loop-place : goal.invariant-loop-place
invariant-loop-place g l = record { numbers : l.numbers ≡ all_pass (λ k. is_number (node_rows (kernel_of (g.T.Store.memory l.store)) l.node.0 k)) l.place }
