use Rattle.std.proofs.Common.{ℕ, Option, ap, sym, ◌∙◌, arith}
use Rattle.kernel_tables.specs.Kernel.{kernel_of}
use Rattle.forest.specs.Walks.{Mapping}
use Rattle.kernel_forest.proofs.Rest.{rest-nodes}
use Rattle.unix_exec.proofs.Maps.{maps_none, not_yet, room_for_page, maps_needed, maps_other}
use Rattle.unix_exec.proofs.pages.map_loads.Goals as goal
use Rattle.unix_exec.proofs.pages.map_loads.Goals.{then-is_needed, else-is_needed}

pub loop-page-init : goal.loop-page-init
loop-page-init g c = record {
  maps = maps_none (kernel_of (g.T.Store.memory c.args.store.now)) c.args.space.0.0 c.args.loads.now c.requires.space c.requires.empty;
  good = c.requires.good;
  keeps = g.met.T.Store.keeps_same c.args.store.now;
}

pub map_zero-requires-clause-unmapped : goal.map_zero-requires-clause-unmapped
map_zero-requires-clause-unmapped g c =
    ap (λ (map : ℕ → Option Mapping). map c.loop-page.page) c.loop-page.invariant.maps.here ∙ not_yet c.args.loads.now c.loop-page.page

pub map_zero-requires-clause-room : goal.map_zero-requires-clause-room
map_zero-requires-clause-room g c =
    let old = kernel_of (g.T.Store.memory c.args.store.now) in
    let now = kernel_of (g.T.Store.memory c.loop-page.store) in
    let nodes = rest-nodes old now c.loop-page.invariant.maps.rest in
    let room = room_for_page c.args.loads.now c.loop-page.page old.machine.nodes_taken now.machine.nodes_taken old.nodes c.loop-page-test.true (sym c.is_needed.ensures ∙ c.if-is_needed.true)
    c.loop-page.invariant.maps.most c.requires.room in
    omega arith

pub loop-page-preserved : goal.loop-page-preserved
loop-page-preserved g c =
    let old = kernel_of (g.T.Store.memory c.args.store.now) in
    let now = kernel_of (g.T.Store.memory c.loop-page.store) in
    elim c.if-is_needed.branch [
      | then-is_needed w ↦ rw w.store-is (record {
        maps = maps_needed old now c.args.space.0.0 c.loop-page.page c.args.loads.now c.loop-page.invariant.maps (kernel_of (g.T.Store.memory w.map_zero.new.store)) c.requires.trees.0 c.requires.trees.1
            (sym c.is_needed.ensures ∙ w.if-is_needed.true) w.map_zero.ensures.own_way w.map_zero.ensures.mapped;
        good = w.map_zero.ensures.good;
        keeps = g.met.T.Store.keeps_trans c.args.store.now c.loop-page.store w.map_zero.new.store c.loop-page.invariant.keeps w.map_zero.ensures.keeps;
      })
      | else-is_needed w ↦ rw w.store-is (record {
        maps = maps_other old now c.args.space.0.0 c.loop-page.page c.args.loads.now c.loop-page.invariant.maps (sym c.is_needed.ensures ∙ w.if-is_needed.false);
        good = c.loop-page.invariant.good;
        keeps = c.loop-page.invariant.keeps;
      })
    ]
