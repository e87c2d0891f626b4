use Rattle.std.proofs.Common.{ap, ◌∙◌}
use Rattle.kernel_tables.specs.Kernel.{Kernel, kernel_of}
use Rattle.tests_spaces.proofs.Keeping.{changed_keeps}
use Rattle.tests_spaces.proofs.guarded.take_away.Goals as goal

pub returns-in-Some-clause-spaces : goal.returns-in-Some-clause-spaces
returns-in-Some-clause-spaces g c =
    changed_keeps (kernel_of (g.T.Store.memory c.args.store.now)) (kernel_of (g.T.Store.memory c.unmap.new.store)) c.args.space.0.0 _ c.unmap.ensures.unmapped.replaces.outside_now
    (c.unmap.ensures.unmapped.replaces.changes c.requires.ready.outside c.requires.ready.trees).1

pub returns-in-Some-clause-stays : goal.returns-in-Some-clause-stays
returns-in-Some-clause-stays g c =
    (changed_keeps (kernel_of (g.T.Store.memory c.args.store.now)) (kernel_of (g.T.Store.memory c.unmap.new.store)) c.args.space.0.0 _ c.unmap.ensures.unmapped.replaces.outside_now
    (c.unmap.ensures.unmapped.replaces.changes c.requires.ready.outside c.requires.ready.trees).1).stay c.args.space.0.0 c.requires.space

pub returns-in-Some-clause-ready : goal.returns-in-Some-clause-ready
returns-in-Some-clause-ready g c = record {
  good = c.unmap.ensures.good;
  zero = ap (λ (k : Kernel). k.page_zero) c.unmap.ensures.unmapped.replaces.rest ∙ c.requires.ready.zero;
  outside = c.requires.ready.outside;
  trees = (c.unmap.ensures.unmapped.replaces.changes c.requires.ready.outside c.requires.ready.trees).0;
}
