use Rattle.std.proofs.Common.{ap, ◌∙◌}
use Rattle.kernel_tables.specs.Kernel.{Kernel, kernel_of}
use Rattle.space_bank.specs.Laws.{and_outside}
use Rattle.forest.specs.Walks.{space_key}
use Rattle.tests_spaces.proofs.Keeping.{added_keeps, added_space, added_apart}
use Rattle.tests_spaces.proofs.guarded.share_of.Goals as goal

pub returns-then-has_room-clause-spaces : goal.returns-then-has_room-clause-spaces
returns-then-has_room-clause-spaces g c =
    added_keeps (kernel_of (g.T.Store.memory c.args.store.now)) (kernel_of (g.T.Store.memory c.share.new.store)) c.share.result.0.0
    c.requires.ready.outside c.requires.ready.trees c.share.ensures.shared

pub returns-then-has_room-clause-stays : goal.returns-then-has_room-clause-stays
returns-then-has_room-clause-stays g c =
    (added_keeps (kernel_of (g.T.Store.memory c.args.store.now)) (kernel_of (g.T.Store.memory c.share.new.store)) c.share.result.0.0
    c.requires.ready.outside c.requires.ready.trees c.share.ensures.shared).stay c.args.space.0.0 c.requires.space

pub returns-then-has_room-clause-added : goal.returns-then-has_room-clause-added
returns-then-has_room-clause-added g c =
    added_space (kernel_of (g.T.Store.memory c.args.store.now)) (kernel_of (g.T.Store.memory c.share.new.store)) c.share.result.0.0
    c.requires.ready.outside c.requires.ready.trees c.share.ensures.shared

pub returns-then-has_room-clause-ready : goal.returns-then-has_room-clause-ready
returns-then-has_room-clause-ready g c = record {
  good = c.share.ensures.good;
  zero = ap (λ (k : Kernel). k.page_zero) c.share.ensures.shared.rest ∙ c.requires.ready.zero;
  outside = and_outside c.requires.ready.outside (space_key c.share.result.0.0);
  trees = (c.share.ensures.shared.adds c.requires.ready.outside c.requires.ready.trees).0;
}

pub returns-then-has_room-clause-apart : goal.returns-then-has_room-clause-apart
returns-then-has_room-clause-apart g c =
    added_apart (kernel_of (g.T.Store.memory c.args.store.now)) (kernel_of (g.T.Store.memory c.share.new.store)) c.share.result.0.0
    c.requires.ready.outside c.requires.ready.trees c.share.ensures.shared c.args.space.0.0 c.requires.space
