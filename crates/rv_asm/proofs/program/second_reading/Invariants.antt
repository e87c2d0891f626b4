use Rattle.std.proofs.Common.{◌≡◌, ◌+◌, ◌≤◌, length}
use Rattle.unix_model.specs.Texts.{lines_of}
use Rattle.rv_asm.specs.Answers.{layout_view}
use Rattle.rv_asm.specs.Files.{SpellAll}
use Rattle.rv_asm.specs.Layout.{start}
use Rattle.rv_asm.specs.Programs as model
use Rattle.rv_asm.proofs.ProgramLaws.{with_front}
use Rattle.rv_asm.proofs.program.second_reading.Given as goal

abbrev pub invariant-loop-rest : goal.invariant-loop-rest
invariant-loop-rest l =
    (front : model.Program)
    × (SpellAll front.instructions l.program.text.items)
    × (l.program.bytes.items ≡ front.bytes)
    × (model.make_lines (layout_view l.layout) 1 start (lines_of l.source) ≡ with_front front (model.make_lines (layout_view l.layout) l.number l.position (lines_of l.rest)))
    × (l.number + length (lines_of l.rest) ≡ 1 + length (lines_of l.source))
    × (1 ≤ l.number)
    × (l.position.text_bytes ≤ 1048576)
    × (l.position.data_bytes ≤ 1048576)
    × (length l.program.text.items ≤ l.position.text_bytes)
    × (length l.program.bytes.items ≤ l.position.data_bytes)

abbrev pub decreases-loop-rest : goal.decreases-loop-rest
decreases-loop-rest l = length l.rest
