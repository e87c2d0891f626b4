use Rattle.std.proofs.Common.{rules, ◌∙◌, ◌∷◌}
use Rattle.kn_base.specs.declared.key.Key.TheVariants.{Node}
use Rattle.kernel_tables.specs.Kernel.{kernel_of}
use Rattle.kernel_forest.proofs.Rest.{put-pages, put-size}
use Rattle.domain.proofs.Ending.{mine1, once_r, quiet_r, in_hand, once_d, quiet_d, in_hand_d, ended_rows, ends_domain, names_itself, root_regs_node, root_descriptors_node}
use Rattle.kernel_tables.specs.Rows.{domain_rows}
use Rattle.domain.proofs.BlockSets.{ended_changes}
use Rattle.domain.proofs.Kept.{given-pages, given-size, keys-pages, keys-size}
use Rattle.domain.proofs.ends.end_process.Goals as goal

pub put_row-requires-clause-mine : goal.put_row-requires-clause-mine
put_row-requires-clause-mine g c =
    mine1 (kernel_of (g.T.Store.memory c.args.store.now)) (kernel_of (g.T.Store.memory c.set_phase.new.store)) (kernel_of (g.T.Store.memory c.set_phase.new.store)) (kernel_of (g.T.Store.memory c.set_phase.new.store)) c.args.root.0 c.node_of_words-regs.result.0 c.node_of_words-descriptors.result.0
    c.requires.rows c.requires.ends c.node_of_words-regs.ensures c.node_of_words-descriptors.ensures c.set_phase.ensures.set c.set_phase.ensures.others c.set_phase.ensures.rows

pub give_row-requires-clause-once : goal.give_row-requires-clause-once
give_row-requires-clause-once g c =
    once_r (kernel_of (g.T.Store.memory c.args.store.now)) (kernel_of (g.T.Store.memory c.set_phase.new.store)) (kernel_of (g.T.Store.memory c.put_row.new.store)) (kernel_of (g.T.Store.memory c.put_row-2.new.store)) c.args.root.0 c.node_of_words-regs.result.0 c.node_of_words-descriptors.result.0
    c.requires.rows c.requires.ends c.node_of_words-regs.ensures c.node_of_words-descriptors.ensures c.set_phase.ensures.set c.set_phase.ensures.others c.set_phase.ensures.rows c.put_row.ensures.put c.put_row-2.ensures.put

pub give_row-requires-clause-quiet : goal.give_row-requires-clause-quiet
give_row-requires-clause-quiet g c =
    quiet_r (kernel_of (g.T.Store.memory c.args.store.now)) (kernel_of (g.T.Store.memory c.set_phase.new.store)) (kernel_of (g.T.Store.memory c.put_row.new.store)) (kernel_of (g.T.Store.memory c.put_row-2.new.store)) c.args.root.0 c.node_of_words-regs.result.0 c.node_of_words-descriptors.result.0
    c.requires.rows c.requires.ends c.node_of_words-regs.ensures c.node_of_words-descriptors.ensures c.set_phase.ensures.set c.set_phase.ensures.others c.set_phase.ensures.rows c.put_row.ensures.put c.put_row-2.ensures.put

pub give_row-requires-clause-in_hand : goal.give_row-requires-clause-in_hand
give_row-requires-clause-in_hand g c = (
  c.requires.shares.0,
  Node (record { 0 = c.node_of_words-descriptors.result.0 }) ∷ c.requires.shares.1,
  Node (record { 0 = c.node_of_words-regs.result.0 }),
  names_itself c.node_of_words-regs.result.0,
  in_hand (kernel_of (g.T.Store.memory c.args.store.now)) (kernel_of (g.T.Store.memory c.set_phase.new.store)) (kernel_of (g.T.Store.memory c.put_row.new.store)) (kernel_of (g.T.Store.memory c.put_row-2.new.store)) c.args.root.0 c.node_of_words-regs.result.0 c.node_of_words-descriptors.result.0
      c.requires.rows c.requires.ends c.node_of_words-regs.ensures c.node_of_words-descriptors.ensures c.set_phase.ensures.set c.set_phase.ensures.others c.set_phase.ensures.rows c.put_row.ensures.put c.put_row-2.ensures.put c.requires.shares.0 c.requires.shares.1 c.requires.shares.2,
)

pub give_row-requires-2-clause-once : goal.give_row-requires-2-clause-once
give_row-requires-2-clause-once g c =
    once_d (kernel_of (g.T.Store.memory c.args.store.now)) (kernel_of (g.T.Store.memory c.set_phase.new.store)) (kernel_of (g.T.Store.memory c.put_row.new.store)) (kernel_of (g.T.Store.memory c.put_row-2.new.store)) c.args.root.0 c.node_of_words-regs.result.0 c.node_of_words-descriptors.result.0
    c.requires.rows c.requires.ends c.node_of_words-regs.ensures c.node_of_words-descriptors.ensures c.set_phase.ensures.set c.set_phase.ensures.others c.set_phase.ensures.rows c.put_row.ensures.put c.put_row-2.ensures.put (kernel_of (g.T.Store.memory c.give_row.new.store)) c.give_row.ensures.given

pub give_row-requires-2-clause-quiet : goal.give_row-requires-2-clause-quiet
give_row-requires-2-clause-quiet g c =
    quiet_d (kernel_of (g.T.Store.memory c.args.store.now)) (kernel_of (g.T.Store.memory c.set_phase.new.store)) (kernel_of (g.T.Store.memory c.put_row.new.store)) (kernel_of (g.T.Store.memory c.put_row-2.new.store)) c.args.root.0 c.node_of_words-regs.result.0 c.node_of_words-descriptors.result.0
    c.requires.rows c.requires.ends c.node_of_words-regs.ensures c.node_of_words-descriptors.ensures c.set_phase.ensures.set c.set_phase.ensures.others c.set_phase.ensures.rows c.put_row.ensures.put c.put_row-2.ensures.put (kernel_of (g.T.Store.memory c.give_row.new.store)) c.give_row.ensures.given

pub give_row-requires-2-clause-in_hand : goal.give_row-requires-2-clause-in_hand
give_row-requires-2-clause-in_hand g c = (
  c.requires.shares.0,
  c.requires.shares.1,
  Node (record { 0 = c.node_of_words-descriptors.result.0 }),
  names_itself c.node_of_words-descriptors.result.0,
  in_hand_d (kernel_of (g.T.Store.memory c.args.store.now)) (kernel_of (g.T.Store.memory c.set_phase.new.store)) (kernel_of (g.T.Store.memory c.put_row.new.store)) (kernel_of (g.T.Store.memory c.put_row-2.new.store)) c.args.root.0 c.node_of_words-regs.result.0 c.node_of_words-descriptors.result.0
      c.requires.rows c.requires.ends c.node_of_words-regs.ensures c.node_of_words-descriptors.ensures c.set_phase.ensures.set c.set_phase.ensures.others c.set_phase.ensures.rows c.put_row.ensures.put c.put_row-2.ensures.put (kernel_of (g.T.Store.memory c.give_row.new.store)) c.give_row.ensures.given c.requires.shares.0 c.requires.shares.1 c.requires.shares.2,
)

pub returns-clause-ended : goal.returns-clause-ended
returns-clause-ended g c =
    ends_domain (kernel_of (g.T.Store.memory c.args.store.now)) (kernel_of (g.T.Store.memory c.set_phase.new.store)) (kernel_of (g.T.Store.memory c.put_row.new.store)) (kernel_of (g.T.Store.memory c.put_row-2.new.store)) c.args.root.0 c.node_of_words-regs.result.0 c.node_of_words-descriptors.result.0
    c.requires.rows c.requires.ends c.node_of_words-regs.ensures c.node_of_words-descriptors.ensures c.set_phase.ensures.set c.set_phase.ensures.others c.set_phase.ensures.rows c.put_row.ensures.put c.put_row-2.ensures.put (kernel_of (g.T.Store.memory c.give_row.new.store)) c.give_row.ensures.given (kernel_of (g.T.Store.memory c.give_row-2.new.store)) c.give_row-2.ensures.given c.set_phase.ensures.lives

pub returns-clause-rows : goal.returns-clause-rows
returns-clause-rows g c =
    ended_rows (kernel_of (g.T.Store.memory c.args.store.now)) (kernel_of (g.T.Store.memory c.set_phase.new.store)) (kernel_of (g.T.Store.memory c.put_row.new.store)) (kernel_of (g.T.Store.memory c.put_row-2.new.store)) c.args.root.0 c.node_of_words-regs.result.0 c.node_of_words-descriptors.result.0
    c.requires.rows c.requires.ends c.node_of_words-regs.ensures c.node_of_words-descriptors.ensures c.set_phase.ensures.set c.set_phase.ensures.others c.set_phase.ensures.rows c.put_row.ensures.put c.put_row-2.ensures.put (kernel_of (g.T.Store.memory c.give_row.new.store)) c.give_row.ensures.given (kernel_of (g.T.Store.memory c.give_row-2.new.store)) c.give_row-2.ensures.given

pub returns-clause-keeps : goal.returns-clause-keeps
returns-clause-keeps g c = search (g.met.T.Store.keeps_trans, rules) depth 14

pub returns-clause-blocks : goal.returns-clause-blocks
returns-clause-blocks g c =
    let k0 = kernel_of (g.T.Store.memory c.args.store.now) in
    let k1 = kernel_of (g.T.Store.memory c.set_phase.new.store) in
    let k2 = kernel_of (g.T.Store.memory c.put_row.new.store) in
    let k3 = kernel_of (g.T.Store.memory c.put_row-2.new.store) in
    let k4 = kernel_of (g.T.Store.memory c.give_row.new.store) in
    let p1 = keys-pages k0 k1 c.set_phase.ensures.others.rest in
    let p2 = put-pages k1 k2 c.put_row.ensures.put ∙ p1 in
    let p3 = put-pages k2 k3 c.put_row-2.ensures.put ∙ p2 in
    let p4 = given-pages k3 k4 c.give_row.ensures.given.rest ∙ p3 in
    let s3 = put-size k2 k3 c.put_row-2.ensures.put ∙ put-size k1 k2 c.put_row.ensures.put ∙ keys-size k0 k1 c.set_phase.ensures.others.rest in
    let s4 = given-size k3 k4 c.give_row.ensures.given.rest ∙ s3 in
    ended_changes k0 c.args.root.0 c.node_of_words-regs.result.0 c.node_of_words-descriptors.result.0 k1.pages k2.pages k3.pages k4.pages k3.size k4.size
    (g.T.Store.blocks c.args.store.now) (g.T.Store.blocks c.set_phase.new.store) (g.T.Store.blocks c.put_row.new.store) (g.T.Store.blocks c.put_row-2.new.store) (g.T.Store.blocks c.give_row.new.store) (g.T.Store.blocks c.give_row-2.new.store)
    p1 p2 p3 p4 s3 s4
    (root_regs_node (domain_rows k0) c.args.root.0 c.requires.ends.live ∙ c.node_of_words-regs.ensures)
    (root_descriptors_node (domain_rows k0) c.args.root.0 c.requires.ends.live ∙ c.node_of_words-descriptors.ensures)
    c.set_phase.ensures.blocks c.put_row.ensures.blocks c.put_row-2.ensures.blocks c.give_row.ensures.blocks c.give_row-2.ensures.blocks
