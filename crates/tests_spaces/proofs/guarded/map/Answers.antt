use Rattle.std.proofs.Common.{ap, ◌∙◌}
use Rattle.kernel_tables.specs.Kernel.{Kernel, kernel_of}
use Rattle.tests_spaces.proofs.Keeping.{changed_keeps}
use Rattle.tests_spaces.proofs.guarded.map.Goals as goal

pub returns-in-None-clause-spaces : goal.returns-in-None-clause-spaces
returns-in-None-clause-spaces g c =
    changed_keeps (kernel_of (g.T.Store.memory c.args.store.now)) (kernel_of (g.T.Store.memory c.map_zero.new.store)) c.args.space.0.0 _ c.map_zero.ensures.mapped.outside_now
    (c.map_zero.ensures.mapped.changes c.requires.ready.outside c.requires.ready.trees).1

pub returns-in-None-clause-stays : goal.returns-in-None-clause-stays
returns-in-None-clause-stays g c =
    (changed_keeps (kernel_of (g.T.Store.memory c.args.store.now)) (kernel_of (g.T.Store.memory c.map_zero.new.store)) c.args.space.0.0 _ c.map_zero.ensures.mapped.outside_now
    (c.map_zero.ensures.mapped.changes c.requires.ready.outside c.requires.ready.trees).1).stay c.args.space.0.0 c.requires.space

pub returns-in-None-clause-ready : goal.returns-in-None-clause-ready
returns-in-None-clause-ready g c = record {
  good = c.map_zero.ensures.good;
  zero = ap (λ (k : Kernel). k.page_zero) c.map_zero.ensures.mapped.rest ∙ c.requires.ready.zero;
  outside = c.requires.ready.outside;
  trees = (c.map_zero.ensures.mapped.changes c.requires.ready.outside c.requires.ready.trees).0;
}
