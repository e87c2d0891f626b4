use Rattle.std.proofs.Common.{[], arith}
use Rattle.kernel_tables.specs.Kernel.{kernel_of}
use Rattle.space_bank.specs.Shares.{nothing_outside}
use Rattle.tests_invoke.proofs.PeopleLaws.{born_lives, free_taken, one_more, room_taken, rows_taken, space_in_hand}
use Rattle.tests_invoke.proofs.people.add.Goals as goal

pub space_node-space-requires-clause-room : goal.space_node-space-requires-clause-room
space_node-space-requires-clause-room g c = let a = c.requires.peopled.taken in let b = c.requires.peopled.nodes in let d = c.requires.few in omega arith

pub new_domain-root-requires-clause-rows : goal.new_domain-root-requires-clause-rows
new_domain-root-requires-clause-rows g c =
    rows_taken (kernel_of (g.T.Store.memory c.args.store.now)) (kernel_of (g.T.Store.memory c.space_node-space.new.store)) c.args.slot c.space_node-space.result.0
    c.requires.peopled c.requires.few c.requires.good c.space_node-space.ensures.taken

pub new_domain-root-requires-clause-free : goal.new_domain-root-requires-clause-free
new_domain-root-requires-clause-free g c =
    free_taken (kernel_of (g.T.Store.memory c.args.store.now)) (kernel_of (g.T.Store.memory c.space_node-space.new.store)) c.args.slot c.space_node-space.result.0
    c.requires.peopled c.requires.few c.requires.good c.space_node-space.ensures.taken

pub new_domain-root-requires-clause-room : goal.new_domain-root-requires-clause-room
new_domain-root-requires-clause-room g c =
    room_taken (kernel_of (g.T.Store.memory c.args.store.now)) (kernel_of (g.T.Store.memory c.space_node-space.new.store)) c.args.slot c.space_node-space.result.0
    c.requires.peopled c.requires.few c.requires.good c.space_node-space.ensures.taken

pub new_domain-root-requires-clause-shares : goal.new_domain-root-requires-clause-shares
new_domain-root-requires-clause-shares g c = (
  nothing_outside,
  [],
  space_in_hand (kernel_of (g.T.Store.memory c.args.store.now)) (kernel_of (g.T.Store.memory c.space_node-space.new.store)) c.args.slot c.space_node-space.result.0
      c.requires.peopled c.space_node-space.ensures.shares,
)

pub set_phase-requires-clause-live : goal.set_phase-requires-clause-live
set_phase-requires-clause-live g c =
    born_lives (kernel_of (g.T.Store.memory c.space_node-space.new.store)) (kernel_of (g.T.Store.memory c.new_domain-root.new.store)) c.args.slot c.space_node-space.result.0 c.new_domain-root.result.0
    c.new_domain-root.ensures.made

pub returns-clause-peopled : goal.returns-clause-peopled
returns-clause-peopled g c =
    one_more (kernel_of (g.T.Store.memory c.args.store.now)) (kernel_of (g.T.Store.memory c.space_node-space.new.store)) (kernel_of (g.T.Store.memory c.new_domain-root.new.store)) (kernel_of (g.T.Store.memory c.set_phase.new.store))
    c.args.slot c.space_node-space.result.0 c.new_domain-root.result.0
    c.requires.peopled c.requires.few c.requires.good c.space_node-space.ensures.taken c.space_node-space.ensures.shares c.new_domain-root.ensures.made
    c.set_phase.ensures.others c.set_phase.ensures.set c.set_phase.ensures.rows

pub returns-clause-keeps : goal.returns-clause-keeps
returns-clause-keeps g c =
    g.met.T.Store.keeps_trans c.args.store.now c.new_domain-root.new.store c.set_phase.new.store
    (g.met.T.Store.keeps_trans c.args.store.now c.space_node-space.new.store c.new_domain-root.new.store c.space_node-space.ensures.keeps c.new_domain-root.ensures.keeps) c.set_phase.ensures.keeps
