use Rattle.std.proofs.Common.{rules, ◌≡◌, ◌≢◌, ◌∙◌, ◌++◌, [], ◌+◌, arith, ap, sym, refl, subst, length}
use Rattle.std.proofs.lemmas.List.{nil_from_length}
use Rattle.unix_model.specs.Texts.{lines_of}
use Rattle.rv_asm.specs.Answers.{layout_view}
use Rattle.rv_asm.specs.Files.{SpellAll}
use Rattle.rv_asm.specs.Layout.{moved, start}
use Rattle.rv_asm.specs.Programs as model
use Rattle.rv_asm.proofs.AnswerLaws.{refused}
use Rattle.rv_asm.proofs.ProgramLaws.{with_front, front_empty, line_made, line_unmade, none_left, spell_more}
use Rattle.rv_asm.proofs.program.second_reading.Goals as goal

pub loop-rest-init : goal.loop-rest-init
loop-rest-init c =
    let begun : c.start-position.result ≡ start = c.start-position.ensures in (
      model.empty,
      c.new.ensures.items,
      c.new-2.ensures.items,
      front_empty (model.make_lines (layout_view c.args.layout.now) 1 start (lines_of c.args.source.now))
          ∙ ap (λ p. with_front model.empty (model.make_lines (layout_view c.args.layout.now) 1 p (lines_of c.args.source.now))) (sym begun),
      refl,
      search rules,
      search rules,
      search rules,
      search rules,
      search rules,
    )

pub returns-in-Err-clause-refused : goal.returns-in-Err-clause-refused
returns-in-Err-clause-refused c =
    let some : c.loop-rest.rest.now ≢ [] = search rules in
    let lines = c.split_line.ensures.lines some in
    let inv = c.loop-rest.invariant in
    let layout = layout_view c.args.layout.now in
    let same = c.statement_at-statement.ensures.value in
    refused c.in-Err.fault _ _ c.in-Err.ensures.made (λ refusal refuses.
    inv.3
    ∙ ap (λ l. with_front inv.0 (model.make_lines layout c.loop-rest.number c.loop-rest.position l)) lines
    ∙ line_unmade layout c.loop-rest.number c.loop-rest.position _ _ inv.0 refusal
    (ap (λ s. model.at_line c.loop-rest.number (model.made_of layout c.loop-rest.position s)) (sym same) ∙ refuses))

pub loop-rest-preserved : goal.loop-rest-preserved
loop-rest-preserved c =
    let some : c.loop-rest.rest.now ≢ [] = search rules in
    let lines = c.split_line.ensures.lines some in
    let counted = ap length lines in
    let inv = c.loop-rest.invariant in
    let layout = layout_view c.args.layout.now in
    let same = c.statement_at-statement.ensures.value in
    let made = c.in-Ok.ensures.made in
    let front = model.followed_by inv.0 made.program in
    let meant = ap (λ s. model.at_line c.loop-rest.number (model.made_of layout c.loop-rest.position s)) (sym same) ∙ made.meant in
    let next = c.in-Ok.ensures.next ∙ ap (λ s. moved s c.loop-rest.position) same in (
      front,
      subst (λ text. SpellAll front.instructions text) (sym made.text_grew) (spell_more inv.0.instructions made.program.instructions c.loop-rest.program.text.items made.text inv.1 made.spelled),
      made.bytes_grew ∙ ap (λ bytes. bytes ++ made.program.bytes) inv.2,
      inv.3
          ∙ ap (λ l. with_front inv.0 (model.make_lines layout c.loop-rest.number c.loop-rest.position l)) lines
          ∙ line_made layout c.loop-rest.number c.loop-rest.position _ _ inv.0 made.program meant
          ∙ ap (λ p. with_front front (model.make_lines layout (c.loop-rest.number + 1) p (lines_of c.split_line.result.1.now))) (sym next),
      omega (arith, counted, inv.4),
      omega (arith, inv.5),
      c.in-Ok.ensures.text_fits.1,
      c.in-Ok.ensures.data_fits.1,
      c.in-Ok.ensures.text_fits.0,
      c.in-Ok.ensures.data_fits.0,
    )

pub returns-clause-made : goal.returns-clause-made
unfolding lines_of
returns-clause-made c =
    let short : length c.loop-rest.rest.now ≡ 0 = search rules in
    let none : c.loop-rest.rest.now ≡ [] = nil_from_length c.loop-rest.rest.now short in
    let inv = c.loop-rest.invariant in
    let layout = layout_view c.args.layout.now in
    record {
      program = inv.0;
      meant =
          inv.3
          ∙ ap (λ text. with_front inv.0 (model.make_lines layout c.loop-rest.number c.loop-rest.position (lines_of text))) none
          ∙ none_left layout c.loop-rest.number c.loop-rest.position inv.0;
      text = c.loop-rest.program.text.items;
      spelled = inv.1;
      text_grew = refl;
      bytes_grew = inv.2;
    }
