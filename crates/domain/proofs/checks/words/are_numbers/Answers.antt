use Rattle.std.proofs.Common.{◌≡◌, ◌∙◌, ap, arith, refl, sym}
use Rattle.kernel_tables.specs.Kernel.{kernel_of}
use Rattle.domain.specs.Keys.{is_number}
use Rattle.domain.specs.Checks.{node_rows}
use Rattle.domain.specs.Tests.{all_pass}
use Rattle.domain.proofs.Passing.{pass_none, pass_more}
use Rattle.domain.proofs.checks.words.are_numbers.Goals as goal

pub loop-place-init : goal.loop-place-init
loop-place-init g c = record { numbers = sym (pass_none (λ k. is_number (node_rows (kernel_of (g.T.Store.memory c.args.store.now)) c.args.node.0 k)) 0 refl) }

pub loop-place-preserved : goal.loop-place-preserved
loop-place-preserved g c = record {
  numbers = pass_more (λ k. is_number (node_rows (kernel_of (g.T.Store.memory c.args.store.now)) c.args.node.0 k)) c.loop-place.place c.loop-place.numbers c.is_number.result c.both-numbers.result c.loop-place.invariant.numbers
      (c.is_number.ensures ∙ ap is_number c.row_key.ensures) c.both-numbers.ensures;
}

pub returns : goal.returns
returns g c =
    let ended = c.loop-place-test.false in
    c.loop-place.invariant.numbers ∙ ap (all_pass (λ k. is_number (node_rows (kernel_of (g.T.Store.memory c.args.store.now)) c.args.node.0 k))) (let same : c.loop-place.place ≡ 11 = omega arith in same)
