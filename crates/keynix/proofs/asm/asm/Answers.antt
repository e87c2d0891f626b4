use Rattle.std.proofs.Common.{◌≡◌, Ok, Err, sym, ap, subst, ◌∙◌}
use Rattle.kn_io.specs.Sink.{GrewByPrefix}
use Rattle.rv_asm.specs.Programs.{assembled}
use Rattle.keynix.proofs.LongSource.{front-means}
use Rattle.keynix.proofs.asm.asm.Goals as goal

pub returns-in-Err-At-clause-ends : goal.returns-in-Err-At-clause-ends
returns-in-Err-At-clause-ends g c = λ bytes told.
    let front = front-means (g.S.Source.left c.args.input.now) (g.S.Source.left c.read_front.new.input) c.in-Ok.source.items bytes c.in-Ok.ensures.takes c.in-Ok.ensures.whole told in
    let refused : assembled c.as_slice.result.now ≡ Err (record { kind = c.in-Err-At.kind; line = c.in-Err-At.line }) = rw c.in-Err-At.field-0-is at c.in-Err-At.ensures.refused in
    front.0 ∙ ap assembled (sym c.as_slice.ensures.value) ∙ refused

pub returns-in-Ok-put-clause-ends : goal.returns-in-Ok-put-clause-ends
returns-in-Ok-put-clause-ends g c = λ bytes told.
    let front = front-means (g.S.Source.left c.args.input.now) (g.S.Source.left c.read_front.new.input) c.in-Ok.source.items bytes c.in-Ok.ensures.takes c.in-Ok.ensures.whole told in
    let made = c.in-Ok-assemble.ensures.made in
    let means : assembled c.in-Ok.source.items ≡ Ok made.0 = ap assembled (sym c.as_slice.ensures.value) ∙ made.1 in
    record {
      program = made.0;
      file = c.in-Ok-assemble.file.items;
      means = front.0 ∙ means;
      is_file = made.2;
      output_grew = subst (λ file. g.K.Sink.grew c.args.output.now file c.put.new.self) c.as_slice-2.ensures.value c.in-Ok-put.ensures.grew;
      input_ended = front.1 made.0 means;
    }

pub returns-clause-ends : goal.returns-clause-ends
returns-clause-ends g c = λ bytes told.
    let front = front-means (g.S.Source.left c.args.input.now) (g.S.Source.left c.read_front.new.input) c.in-Ok.source.items bytes c.in-Ok.ensures.takes c.in-Ok.ensures.whole told in
    let made = c.in-Ok-assemble.ensures.made in
    record {
      program = made.0;
      file = c.in-Ok-assemble.file.items;
      means = front.0 ∙ ap assembled (sym c.as_slice.ensures.value) ∙ made.1;
      is_file = made.2;
      output_grew = subst (λ file. GrewByPrefix g.K.Sink.grew c.args.output.now file c.put.new.self) c.as_slice-2.ensures.value c.in-Err-put.ensures.part;
    }
