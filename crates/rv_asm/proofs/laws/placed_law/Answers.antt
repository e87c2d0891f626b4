use Rattle.unix_model.specs.Texts.{lines_of}
use Rattle.rv_asm.specs.Layout.{start}
use Rattle.rv_asm.specs.Placement.{position_of}
use Rattle.rv_asm.specs.Programs.{layout_of, start_scan}
use Rattle.rv_asm.proofs.LabelLaws.{label_stands}
use Rattle.rv_asm.proofs.PlacedLaws.{line_holds, line_is_made, meaning_made}
use Rattle.rv_asm.proofs.laws.placed_law.Goals as goal

pub returns-clause-words : goal.returns-clause-words
returns-clause-words c = λ source file scan program reads means is n line there part.
    line_holds (layout_of scan) (position_of source n) line program file
    (line_is_made (layout_of scan) 1 n start line (lines_of source) program (meaning_made source scan program reads means) there) is part

pub returns-clause-labels : goal.returns-clause-labels
returns-clause-labels c = λ source scan reads n line name there label. label_stands 1 n start_scan scan (lines_of source) line name reads there label
