use Rattle.std.proofs.Common.{ℕ, ◌≡◌, ◌<◌, ◌*◌, get_or, length}
use Rattle.kernel_tables.specs.Kernel.{kernel_of}
use Rattle.kernel_tables.specs.Rows.{domain_rows}
use Rattle.domain.specs.Domains.{node_words}
use Rattle.domain.proofs.readers.words.registers.Given as goal

abbrev pub invariant-loop-place : goal.invariant-loop-place
invariant-loop-place g l = record { size : length l.x ≡ 32; reads : (k : ℕ) → k < 3 * l.place → get_or l.x k 0 ≡ node_words (domain_rows (kernel_of (g.T.Store.memory l.store)) l.node.0) k }
