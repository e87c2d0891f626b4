use Rattle.std.proofs.Common.{refl}
use Rattle.std.proofs.lemmas.Bool.{eq-eqb}
use Rattle.kn_base.specs.declared.key.Key.TheVariants.{Domain as DomainKey}
use Rattle.kernel_tables.specs.Kernel.{kernel_of}
use Rattle.kernel_forest.proofs.Rest.{put-pages, put-size}
use Rattle.domain.proofs.BlockSets.{dropped_changes}
use Rattle.domain.proofs.Dropping.{once1, quiet1, in_hand1, dropped_rows, drops_domain}
use Rattle.domain.proofs.ends.drop_root.Goals as goal

pub give_row-requires-clause-once : goal.give_row-requires-clause-once
give_row-requires-clause-once g c =
    once1 (kernel_of (g.T.Store.memory c.args.store.now)) (kernel_of (g.T.Store.memory c.put_slot.new.store)) c.args.slot c.args.root.0 c.requires.good c.requires.rows c.requires.slot c.requires.named c.requires.drops c.put_slot.ensures.put

pub give_row-requires-clause-quiet : goal.give_row-requires-clause-quiet
give_row-requires-clause-quiet g c =
    quiet1 (kernel_of (g.T.Store.memory c.args.store.now)) (kernel_of (g.T.Store.memory c.put_slot.new.store)) c.args.slot c.args.root.0 c.requires.good c.requires.rows c.requires.slot c.requires.named c.requires.drops c.put_slot.ensures.put

pub give_row-requires-clause-in_hand : goal.give_row-requires-clause-in_hand
give_row-requires-clause-in_hand g c = (
  c.requires.shares.0,
  c.requires.shares.1,
  DomainKey (record { 0 = c.args.root.0 }),
  eq-eqb c.args.root.0 c.args.root.0 refl,
  in_hand1 (kernel_of (g.T.Store.memory c.args.store.now)) (kernel_of (g.T.Store.memory c.put_slot.new.store)) c.args.slot c.args.root.0 c.requires.good c.requires.rows c.requires.slot c.requires.named c.requires.drops c.put_slot.ensures.put c.requires.shares.0 c.requires.shares.1 c.requires.shares.2,
)

pub returns-clause-dropped : goal.returns-clause-dropped
returns-clause-dropped g c =
    drops_domain (kernel_of (g.T.Store.memory c.args.store.now)) (kernel_of (g.T.Store.memory c.put_slot.new.store)) c.args.slot c.args.root.0 c.requires.good c.requires.rows c.requires.slot c.requires.named c.requires.drops c.put_slot.ensures.put (kernel_of (g.T.Store.memory c.give_row.new.store)) c.give_row.ensures.given

pub returns-clause-rows : goal.returns-clause-rows
returns-clause-rows g c =
    dropped_rows (kernel_of (g.T.Store.memory c.args.store.now)) (kernel_of (g.T.Store.memory c.put_slot.new.store)) c.args.slot c.args.root.0 c.requires.good c.requires.rows c.requires.slot c.requires.named c.requires.drops c.put_slot.ensures.put (kernel_of (g.T.Store.memory c.give_row.new.store)) c.give_row.ensures.given

pub returns-clause-blocks : goal.returns-clause-blocks
returns-clause-blocks g c =
    let k0 = kernel_of (g.T.Store.memory c.args.store.now) in
    let k1 = kernel_of (g.T.Store.memory c.put_slot.new.store) in
    dropped_changes k0 c.args.slot c.args.root.0 k1.pages k1.size (g.T.Store.blocks c.args.store.now) (g.T.Store.blocks c.put_slot.new.store) (g.T.Store.blocks c.give_row.new.store)
    (put-pages k0 k1 c.put_slot.ensures.put) (put-size k0 k1 c.put_slot.ensures.put) c.put_slot.ensures.blocks c.give_row.ensures.blocks
