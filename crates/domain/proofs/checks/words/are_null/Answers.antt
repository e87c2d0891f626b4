use Rattle.std.proofs.Common.{◌≡◌, ◌+◌, ◌∙◌, ap, arith, refl, sym}
use Rattle.kernel_tables.specs.Kernel.{kernel_of}
use Rattle.domain.specs.Checks.{node_rows}
use Rattle.domain.specs.Tests.{all_pass, is_null}
use Rattle.domain.proofs.Passing.{pass_none, pass_more}
use Rattle.domain.proofs.checks.words.are_null.Goals as goal

pub loop-n-init : goal.loop-n-init
loop-n-init g c = record { nulls = sym (pass_none (λ k. is_null (node_rows (kernel_of (g.T.Store.memory c.args.store.now)) c.args.node.0 (c.args.from + k))) 0 refl) }

pub loop-n-preserved : goal.loop-n-preserved
loop-n-preserved g c = record {
  nulls = pass_more (λ k. is_null (node_rows (kernel_of (g.T.Store.memory c.args.store.now)) c.args.node.0 (c.args.from + k))) c.loop-n.n c.loop-n.nulls c.is_null.result c.both-nulls.result c.loop-n.invariant.nulls
      (c.is_null.ensures ∙ ap is_null c.row_key.ensures) c.both-nulls.ensures;
}

pub returns : goal.returns
returns g c =
    let ended = c.loop-n-test.false in
    c.loop-n.invariant.nulls ∙ ap (all_pass (λ k. is_null (node_rows (kernel_of (g.T.Store.memory c.args.store.now)) c.args.node.0 (c.args.from + k)))) (let same : c.loop-n.n ≡ c.args.count = omega arith in same)
