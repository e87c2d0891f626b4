use Rattle.std.proofs.Common.{◌≡◌, ◌+◌, ◌*◌, ◌≤◌, length}
use Rattle.unix_model.specs.Texts.{lines_of}
use Rattle.rv_asm.specs.Answers.{scan_view}
use Rattle.rv_asm.specs.Programs as model
use Rattle.rv_asm.proofs.scan.first_reading.Given as goal

abbrev pub invariant-loop-rest : goal.invariant-loop-rest
invariant-loop-rest l =
    (model.scan_lines 1 model.start_scan (lines_of l.source) ≡ model.scan_lines l.number (scan_view l.scan) (lines_of l.rest))
    × (l.number + length (lines_of l.rest) ≡ 1 + length (lines_of l.source))
    × (1 ≤ l.number)
    × (l.number ≤ 100001)
    × (l.scan.position.text_bytes ≤ 4294967296 * l.number)
    × (l.scan.position.data_bytes ≤ 4294967296 * l.number)

abbrev pub decreases-loop-rest : goal.decreases-loop-rest
decreases-loop-rest l = length l.rest
