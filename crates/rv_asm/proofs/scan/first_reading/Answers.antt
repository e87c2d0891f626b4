use Rattle.std.proofs.Common.{rules, ◌≡◌, ◌≢◌, ◌∙◌, [], ◌<◌, ◌≤◌, arith, ap, length}
use Rattle.std.proofs.lemmas.List.{nil_from_length}
use Rattle.unix_model.specs.Texts.{lines_of}
use Rattle.rv_asm.specs.Answers.{scan_view}
use Rattle.rv_asm.specs.Programs as model
use Rattle.rv_asm.proofs.AnswerLaws.{refused}
use Rattle.rv_asm.proofs.ScanLaws.{too_many, line_refused, line_read}
use Rattle.rv_asm.proofs.scan.first_reading.Goals as goal

pub returns-then-number-gt-MOST_LINES-clause-scanned :
    goal.returns-then-number-gt-MOST_LINES-clause-scanned
returns-then-number-gt-MOST_LINES-clause-scanned c =
    let some : c.loop-rest.rest.now ≢ [] = search rules in
    let lines = c.split_line.ensures.lines some in
    let many : 100000 < c.loop-rest.number = search rules in
    c.loop-rest.invariant.0 ∙ ap (λ l. model.scan_lines c.loop-rest.number (scan_view c.loop-rest.scan) l) lines ∙ too_many c.loop-rest.number (scan_view c.loop-rest.scan) _ _ many

pub returns-in-Err-clause-scanned : goal.returns-in-Err-clause-scanned
returns-in-Err-clause-scanned c =
    let some : c.loop-rest.rest.now ≢ [] = search rules in
    let lines = c.split_line.ensures.lines some in
    let few : c.loop-rest.number ≤ 100000 = search rules in
    refused c.in-Err.fault _ _ c.in-Err.ensures.scanned (λ refusal refuses. c.loop-rest.invariant.0 ∙ ap (λ l. model.scan_lines c.loop-rest.number (scan_view c.loop-rest.scan) l) lines ∙ line_refused c.loop-rest.number (scan_view c.loop-rest.scan) _ _ refusal few refuses)

pub loop-rest-preserved : goal.loop-rest-preserved
loop-rest-preserved c =
    let some : c.loop-rest.rest.now ≢ [] = search rules in
    let lines = c.split_line.ensures.lines some in
    let few : c.loop-rest.number ≤ 100000 = search rules in
    let counted = ap length lines in
    let bounds = c.loop-rest.invariant in (
      c.loop-rest.invariant.0 ∙ ap (λ l. model.scan_lines c.loop-rest.number (scan_view c.loop-rest.scan) l) lines ∙ line_read c.loop-rest.number (scan_view c.loop-rest.scan) _ _ _ few c.in-Ok.ensures.scanned,
      omega (arith, counted, bounds.1),
      omega (arith, bounds.2),
      omega (arith, few),
      omega (arith, bounds.4, c.in-Ok.ensures.text_bound),
      omega (arith, bounds.5, c.in-Ok.ensures.data_bound),
    )

pub returns-clause-scanned : goal.returns-clause-scanned
unfolding model.scan_lines lines_of
returns-clause-scanned c =
    let short : length c.loop-rest.rest.now ≡ 0 = search rules in
    let none : c.loop-rest.rest.now ≡ [] = nil_from_length c.loop-rest.rest.now short in
    c.loop-rest.invariant.0 ∙ ap (λ text. model.scan_lines c.loop-rest.number (scan_view c.loop-rest.scan) (lines_of text)) none

pub returns-clause-counted : goal.returns-clause-counted
unfolding lines_of
returns-clause-counted c =
    let short : length c.loop-rest.rest.now ≡ 0 = search rules in
    let none : c.loop-rest.rest.now ≡ [] = nil_from_length c.loop-rest.rest.now short in
    let counted = ap (λ text. length (lines_of text)) none in
    omega (arith, counted, c.loop-rest.invariant.1)
