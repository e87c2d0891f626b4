use Rattle.std.proofs.Common.{◌≡◌, ◌≤◌, ◌+◌, ◌++◌, ◌∷◌, ℕ, List, [], length, drop, get_or, arith, ap, sym, ◌∙◌, length-append}
use Rattle.std.specs.Global.{Global}
use Rattle.std.specs.List.{slice_split}
use Rattle.std.specs.Prelude.{Vec}
use Rattle.unix_model.specs.Effect.{is_nul}
use Rattle.unix_model.specs.Loading.{string_bytes}
use Rattle.flat_memory.specs.StringsView.{strings_of}
use Rattle.flat_texts.proofs.SplitLaws.{after, after-nothing, bytes-pushed, split-end, split-more, split-nul}
use Rattle.flat_texts.proofs.split.split_texts.Goals as goal
use Rattle.flat_texts.proofs.split.split_texts.Goals.{then-byte-eq0+in_ok-push, else-byte-eq0+in_ok-push-2}

pub loop-byte-init : goal.loop-byte-init
loop-byte-init c =
    let texts : c.new-texts.result.items ≡ [] = c.new-texts.ensures.items in
    let text : c.new-text.result.items ≡ [] = c.new-text.ensures.items in
    record {
      split = rw (texts, text) (sym (after-nothing c.args.bytes.now));
      few = rw (texts, text) (omega arith);
    }

pub loop-byte-preserved : goal.loop-byte-preserved
loop-byte-preserved c =
    elim c.if-byte-eq0.branch [
      | then-byte-eq0+in_ok-push w ↦
          let texts : c.if-byte-eq0.texts.items ≡ c.loop-byte.texts.items ++ c.loop-byte.text ∷ [] = ap (λ (v : Vec (Vec ℕ Global) Global). v.items) w.texts-is ∙ w.in_ok-push.ensures.items in
          let text : c.if-byte-eq0.text.items ≡ [] = ap (λ (v : Vec ℕ Global). v.items) w.text-is ∙ w.new-text-then-byte-eq0.ensures.items in
          record {
            split = rw (texts, text) (c.loop-byte.invariant.split ∙ split-nul c.args.bytes.now c.loop-byte.byte-index c.loop-byte.texts.items c.loop-byte.text (omega arith) w.if-byte-eq0.true);
            few = rw (texts, text) (omega (arith, c.loop-byte.invariant.few, bytes-pushed c.loop-byte.texts.items c.loop-byte.text));
          }
      | else-byte-eq0+in_ok-push-2 w ↦
          let texts : c.if-byte-eq0.texts.items ≡ c.loop-byte.texts.items = ap (λ (v : Vec (Vec ℕ Global) Global). v.items) w.texts-is in
          let text : c.if-byte-eq0.text.items ≡ c.loop-byte.text.items ++ get_or c.args.bytes.now c.loop-byte.byte-index 0 ∷ [] = ap (λ (v : Vec ℕ Global). v.items) w.text-is ∙ w.in_ok-push-2.ensures.items in
          record {
            split = rw (texts, text) (c.loop-byte.invariant.split ∙ split-more c.args.bytes.now c.loop-byte.byte-index c.loop-byte.texts.items c.loop-byte.text.items (omega arith) w.if-byte-eq0.false);
            few = rw (texts, text) (omega (arith, c.loop-byte.invariant.few, length-append c.loop-byte.text.items (get_or c.args.bytes.now c.loop-byte.byte-index 0 ∷ [])));
          }
    ]

pub returns-clause-texts : goal.returns-clause-texts
returns-clause-texts c = split-end c.args.bytes.now c.loop-byte.byte-index c.loop-byte.texts.items c.loop-byte.text.items (omega arith) c.loop-byte.invariant.split
