use Rattle.std.proofs.Common.{◌≡◌, ◌∙◌, nat_le, ap, arith, refl, sym}
use Rattle.kernel_tables.specs.Kernel.{kernel_of}
use Rattle.domain.specs.Domains.{node_words}
use Rattle.domain.specs.Checks.{node_rows}
use Rattle.domain.specs.Tests.{all_pass}
use Rattle.domain.proofs.Passing.{pass_none, pass_more}
use Rattle.domain.proofs.checks.words.are_descriptors.Goals as goal

pub loop-n-init : goal.loop-n-init
loop-n-init g c = record { fit = sym (pass_none (λ k. nat_le (node_words (node_rows (kernel_of (g.T.Store.memory c.args.store.now)) c.args.node.0) k) 2048) 0 refl) }

pub loop-n-preserved : goal.loop-n-preserved
loop-n-preserved g c = record {
  fit = pass_more (λ k. nat_le (node_words (node_rows (kernel_of (g.T.Store.memory c.args.store.now)) c.args.node.0) k) 2048) c.loop-n.n c.loop-n.fit (nat_le c.word_of.result 2048) c.both-fit.result c.loop-n.invariant.fit
      (ap (λ w. nat_le w 2048) c.word_of.ensures) c.both-fit.ensures;
}

pub returns : goal.returns
returns g c =
    let ended = c.loop-n-test.false in
    c.loop-n.invariant.fit ∙ ap (all_pass (λ k. nat_le (node_words (node_rows (kernel_of (g.T.Store.memory c.args.store.now)) c.args.node.0) k) 2048)) (let same : c.loop-n.n ≡ 32 = omega arith in same)
