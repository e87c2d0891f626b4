use Rattle.std.proofs.Common.{◌≡◌, nat_le}
use Rattle.kernel_tables.specs.Kernel.{kernel_of}
use Rattle.domain.specs.Domains.{node_words}
use Rattle.domain.specs.Checks.{node_rows}
use Rattle.domain.specs.Tests.{all_pass}
use Rattle.domain.proofs.checks.words.are_descriptors.Given as goal

abbrev pub invariant-loop-n : goal.invariant-loop-n
invariant-loop-n g l = record { fit : l.fit ≡ all_pass (λ k. nat_le (node_words (node_rows (kernel_of (g.T.Store.memory l.store)) l.node.0) k) 2048) l.n }
