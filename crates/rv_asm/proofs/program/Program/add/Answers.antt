use Rattle.std.proofs.Common.{rules, ◌∙◌, ◌≤◌, ap, sym, subst, length, arith}
use Rattle.rv_asm.specs.Answers.{layout_view}
use Rattle.rv_asm.specs.Layout.{text_start}
use Rattle.rv_asm.specs.Views.{statement_view}
use Rattle.rv_asm.proofs.SizeLaws.{at_line_ok, data_inside, data_moved, text_inside, text_moved}
use Rattle.rv_asm.proofs.program.Program.add.Goals as goal

pub returns-in-Ok-push_words-clause-text_fits : goal.returns-in-Ok-push_words-clause-text_fits
unfolding text_start
returns-in-Ok-push_words-clause-text_fits c =
    let made = sym c.in-Ok.ensures.value in
    let words = c.in-Ok-push_words.ensures.spelled in
    let inside = text_inside (layout_view c.args.layout.now) _ (statement_view c.args.statement.now) c.args.position _ _ _ words.text c.in-Text.is made words.spelled words.grew c.requires.text_inside in
    let few : c.after-next.result.text_bytes ≤ 1048576 = search rules in
    (subst (λ next. length c.push_words.new.text.items ≤ next.text_bytes) (sym c.after-next.ensures.moved) inside, few)

pub returns-in-Ok-push_words-clause-data_fits : goal.returns-in-Ok-push_words-clause-data_fits
returns-in-Ok-push_words-clause-data_fits c =
    let stays = ap (λ next. next.data_bytes) c.after-next.ensures.moved ∙ (text_moved (statement_view c.args.statement.now) c.args.position c.in-Text.is).1 in
    (omega (arith, stays, c.requires.data_inside), omega (arith, stays, c.requires.data_fits))

pub returns-in-Ok-push_data-clause-text_fits : goal.returns-in-Ok-push_data-clause-text_fits
returns-in-Ok-push_data-clause-text_fits c =
    let stays = ap (λ next. next.text_bytes) c.after-next.ensures.moved ∙ (data_moved (statement_view c.args.statement.now) c.args.position c.in-Data.is).1 in
    (omega (arith, stays, c.requires.text_inside), omega (arith, stays, c.requires.text_fits))

pub returns-in-Ok-push_data-clause-data_fits : goal.returns-in-Ok-push_data-clause-data_fits
returns-in-Ok-push_data-clause-data_fits c =
    let put = c.in-Ok-push_data.ensures in
    let inside = data_inside (statement_view c.args.statement.now) c.args.position _ _ put.0 c.in-Data.is (at_line_ok c.args.number _ put.0 put.1) put.2 c.requires.data_inside in
    let few : c.after-next.result.data_bytes ≤ 1048576 = search rules in
    (subst (λ next. length c.push_data.new.bytes.items ≤ next.data_bytes) (sym c.after-next.ensures.moved) inside, few)
