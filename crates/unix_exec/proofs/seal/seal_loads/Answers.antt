use Rattle.std.proofs.Common.{sym, subst, ◌∙◌, arith}
use Rattle.std.specs.Prelude.{IsSome}
use Rattle.kernel_tables.specs.Kernel.{kernel_of}
use Rattle.kernel_forest.proofs.Rest.{rest-nodes}
use Rattle.unix_exec.proofs.Sealed.{seals_none, seals_needed, seals_other, map_still, sealed_needed}
use Rattle.unix_exec.proofs.seal.seal_loads.Goals as goal
use Rattle.unix_exec.proofs.seal.seal_loads.Goals.{then-is_sealed, else-is_sealed}

pub loop-page-init : goal.loop-page-init
loop-page-init g c = record {
  seals = seals_none (kernel_of (g.T.Store.memory c.args.store.now)) c.args.space.0.0 c.args.loads.now c.requires.space;
  good = c.requires.good;
  keeps = g.met.T.Store.keeps_same c.args.store.now;
}

pub protect-requires-clause-mapped : goal.protect-requires-clause-mapped
protect-requires-clause-mapped g c =
    subst IsSome (sym (map_still (kernel_of (g.T.Store.memory c.args.store.now)) (kernel_of (g.T.Store.memory c.loop-page.store)) c.args.space.0.0 c.loop-page.page c.args.loads.now c.loop-page.invariant.seals))
    (c.requires.mapped c.loop-page.page (sealed_needed c.args.loads.now c.loop-page.page (sym c.is_sealed.ensures ∙ c.if-is_sealed.true)))

pub protect-requires-clause-room : goal.protect-requires-clause-room
protect-requires-clause-room g c =
    let nodes = c.loop-page.invariant.seals.nodes in
    let all = rest-nodes (kernel_of (g.T.Store.memory c.args.store.now)) (kernel_of (g.T.Store.memory c.loop-page.store)) c.loop-page.invariant.seals.rest in
    let room = c.requires.room in
    omega arith

pub loop-page-preserved : goal.loop-page-preserved
loop-page-preserved g c =
    let old = kernel_of (g.T.Store.memory c.args.store.now) in
    let now = kernel_of (g.T.Store.memory c.loop-page.store) in
    elim c.if-is_sealed.branch [
      | then-is_sealed w ↦ rw w.store-is (record {
        seals = seals_needed old now c.args.space.0.0 c.loop-page.page c.args.loads.now c.loop-page.invariant.seals (kernel_of (g.T.Store.memory w.protect.new.store)) c.requires.trees.0 c.requires.trees.1
            (sym c.is_sealed.ensures ∙ w.if-is_sealed.true)
            (c.requires.mapped c.loop-page.page (sealed_needed c.args.loads.now c.loop-page.page (sym c.is_sealed.ensures ∙ w.if-is_sealed.true)))
            w.protect.ensures.protected
            (w.protect.ensures.no_node (c.loop-page.invariant.seals.ways c.loop-page.page
            (c.requires.ways c.loop-page.page c.loop-page-test.true (sealed_needed c.args.loads.now c.loop-page.page (sym c.is_sealed.ensures ∙ w.if-is_sealed.true)))));
        good = w.protect.ensures.good;
        keeps = g.met.T.Store.keeps_trans c.args.store.now c.loop-page.store w.protect.new.store c.loop-page.invariant.keeps w.protect.ensures.keeps;
      })
      | else-is_sealed w ↦ rw w.store-is (record {
        seals = seals_other old now c.args.space.0.0 c.loop-page.page c.args.loads.now c.loop-page.invariant.seals (sym c.is_sealed.ensures ∙ w.if-is_sealed.false);
        good = c.loop-page.invariant.good;
        keeps = c.loop-page.invariant.keeps;
      })
    ]
