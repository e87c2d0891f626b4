use Rattle.std.proofs.Common.{arith, rules, ◌∙◌, ◌+◌, ◌/◌}
use Rattle.kernel_tables.specs.Kernel.{kernel_of}
use Rattle.kernel_forest.proofs.Rest.{rest-nodes, rest-pages, rest-size}
use Rattle.domain.proofs.Born.{fresh_mine, fresh_null, fresh_place}
use Rattle.domain.proofs.BlockSets.{born_changes}
use Rattle.domain.proofs.Kept.{keys-nodes, keys-pages, keys-size, keys-taken}
use Rattle.domain.proofs.Making.{makes_domain, made_good}
use Rattle.domain.proofs.life.new_domain.Goals as goal

pub returns-clause-keeps : goal.returns-clause-keeps
returns-clause-keeps g c = search (g.met.T.Store.keeps_trans, rules) depth 14

pub returns-clause-made : goal.returns-clause-made
returns-clause-made g c =
    makes_domain (kernel_of (g.T.Store.memory c.args.store.now)) (kernel_of (g.T.Store.memory c.take_row-regs.new.store)) (kernel_of (g.T.Store.memory c.zero_keys.new.store)) (kernel_of (g.T.Store.memory c.take_row-descriptors.new.store)) (kernel_of (g.T.Store.memory c.zero_keys-2.new.store)) (kernel_of (g.T.Store.memory c.take_row-root.new.store)) (kernel_of (g.T.Store.memory c.fill_root.new.store)) (kernel_of (g.T.Store.memory c.put_slot.new.store)) c.args.slot c.args.space.0 c.take_row-regs.result.0 c.take_row-descriptors.result.0 c.take_row-root.result.0
    c.requires.rows c.fill_root.ensures.good c.requires.slot c.requires.free c.requires.shares.0 c.requires.shares.1 c.requires.shares.2
    c.take_row-regs.ensures.taken c.take_row-regs.ensures.was_free c.zero_keys.ensures.filled c.take_row-descriptors.ensures.taken c.take_row-descriptors.ensures.was_free c.zero_keys-2.ensures.filled
    c.take_row-root.ensures.taken c.take_row-root.ensures.was_free c.fill_root.ensures.filled c.put_slot.ensures.put

pub returns-clause-rows : goal.returns-clause-rows
returns-clause-rows g c =
    made_good (kernel_of (g.T.Store.memory c.args.store.now)) (kernel_of (g.T.Store.memory c.take_row-regs.new.store)) (kernel_of (g.T.Store.memory c.zero_keys.new.store)) (kernel_of (g.T.Store.memory c.take_row-descriptors.new.store)) (kernel_of (g.T.Store.memory c.zero_keys-2.new.store)) (kernel_of (g.T.Store.memory c.take_row-root.new.store)) (kernel_of (g.T.Store.memory c.fill_root.new.store)) (kernel_of (g.T.Store.memory c.put_slot.new.store)) c.args.slot c.args.space.0 c.take_row-regs.result.0 c.take_row-descriptors.result.0 c.take_row-root.result.0
    c.requires.rows c.fill_root.ensures.good c.requires.slot c.requires.free c.requires.shares.0 c.requires.shares.1 c.requires.shares.2
    c.take_row-regs.ensures.taken c.take_row-regs.ensures.was_free c.zero_keys.ensures.filled c.take_row-descriptors.ensures.taken c.take_row-descriptors.ensures.was_free c.zero_keys-2.ensures.filled
    c.take_row-root.ensures.taken c.take_row-root.ensures.was_free c.fill_root.ensures.filled c.put_slot.ensures.put

pub take_row-descriptors-requires-clause-room : goal.take_row-descriptors-requires-clause-room
take_row-descriptors-requires-clause-room g c =
    let old = kernel_of (g.T.Store.memory c.args.store.now) in
    let k1 = kernel_of (g.T.Store.memory c.take_row-regs.new.store) in
    let k2 = kernel_of (g.T.Store.memory c.zero_keys.new.store) in
    let a = c.take_row-regs.ensures.taken.number in
    let b = keys-taken k1 k2 c.zero_keys.ensures.filled.rest in
    let d = rest-nodes old k1 c.take_row-regs.ensures.taken.rest in
    let e = keys-nodes k1 k2 c.zero_keys.ensures.filled.rest in
    let room = c.requires.room in
    omega arith

pub take_row-root-requires-clause-room : goal.take_row-root-requires-clause-room
take_row-root-requires-clause-room g c =
    let old = kernel_of (g.T.Store.memory c.args.store.now) in
    let k1 = kernel_of (g.T.Store.memory c.take_row-regs.new.store) in
    let k2 = kernel_of (g.T.Store.memory c.zero_keys.new.store) in
    let a = c.take_row-regs.ensures.taken.number in
    let b = keys-taken k1 k2 c.zero_keys.ensures.filled.rest in
    let d = rest-nodes old k1 c.take_row-regs.ensures.taken.rest in
    let e = keys-nodes k1 k2 c.zero_keys.ensures.filled.rest in
    let k3 = kernel_of (g.T.Store.memory c.take_row-descriptors.new.store) in
    let k4 = kernel_of (g.T.Store.memory c.zero_keys-2.new.store) in
    let a2 = c.take_row-descriptors.ensures.taken.number in
    let b2 = keys-taken k3 k4 c.zero_keys-2.ensures.filled.rest in
    let d2 = rest-nodes k2 k3 c.take_row-descriptors.ensures.taken.rest in
    let e2 = keys-nodes k3 k4 c.zero_keys-2.ensures.filled.rest in
    let room = c.requires.room in
    omega arith

pub zero_keys-requires-clause-mine : goal.zero_keys-requires-clause-mine
zero_keys-requires-clause-mine g c = fresh_mine (kernel_of (g.T.Store.memory c.args.store.now)) (kernel_of (g.T.Store.memory c.take_row-regs.new.store)) c.take_row-regs.result.0 c.take_row-regs.ensures.taken

pub zero_keys-requires-clause-nulls : goal.zero_keys-requires-clause-nulls
zero_keys-requires-clause-nulls g c =
    λ place low. fresh_place (kernel_of (g.T.Store.memory c.args.store.now)) (kernel_of (g.T.Store.memory c.take_row-regs.new.store)) c.take_row-regs.result.0 c.take_row-regs.ensures.taken place

pub zero_keys-requires-2-clause-mine : goal.zero_keys-requires-2-clause-mine
zero_keys-requires-2-clause-mine g c = fresh_mine (kernel_of (g.T.Store.memory c.zero_keys.new.store)) (kernel_of (g.T.Store.memory c.take_row-descriptors.new.store)) c.take_row-descriptors.result.0 c.take_row-descriptors.ensures.taken

pub zero_keys-requires-2-clause-nulls : goal.zero_keys-requires-2-clause-nulls
zero_keys-requires-2-clause-nulls g c =
    λ place low. fresh_place (kernel_of (g.T.Store.memory c.zero_keys.new.store)) (kernel_of (g.T.Store.memory c.take_row-descriptors.new.store)) c.take_row-descriptors.result.0 c.take_row-descriptors.ensures.taken place

pub fill_root-requires-clause-mine : goal.fill_root-requires-clause-mine
fill_root-requires-clause-mine g c = fresh_mine (kernel_of (g.T.Store.memory c.zero_keys-2.new.store)) (kernel_of (g.T.Store.memory c.take_row-root.new.store)) c.take_row-root.result.0 c.take_row-root.ensures.taken

pub fill_root-requires-clause-nulls : goal.fill_root-requires-clause-nulls
fill_root-requires-clause-nulls g c = fresh_null (kernel_of (g.T.Store.memory c.zero_keys-2.new.store)) (kernel_of (g.T.Store.memory c.take_row-root.new.store)) c.take_row-root.result.0 c.take_row-root.ensures.taken

pub returns-clause-blocks : goal.returns-clause-blocks
returns-clause-blocks g c =
    let old = (kernel_of (g.T.Store.memory c.args.store.now)) in
    let k1 = (kernel_of (g.T.Store.memory c.take_row-regs.new.store)) in
    let k2 = (kernel_of (g.T.Store.memory c.zero_keys.new.store)) in
    let k3 = (kernel_of (g.T.Store.memory c.take_row-descriptors.new.store)) in
    let k4 = (kernel_of (g.T.Store.memory c.zero_keys-2.new.store)) in
    let k5 = (kernel_of (g.T.Store.memory c.take_row-root.new.store)) in
    let k6 = (kernel_of (g.T.Store.memory c.fill_root.new.store)) in
    let p1 = rest-pages old k1 c.take_row-regs.ensures.taken.rest in
    let p2 = keys-pages k1 k2 c.zero_keys.ensures.filled.rest ∙ p1 in
    let p3 = rest-pages k2 k3 c.take_row-descriptors.ensures.taken.rest ∙ p2 in
    let p4 = keys-pages k3 k4 c.zero_keys-2.ensures.filled.rest ∙ p3 in
    let p5 = rest-pages k4 k5 c.take_row-root.ensures.taken.rest ∙ p4 in
    let p6 = keys-pages k5 k6 c.fill_root.ensures.filled.fills.rest ∙ p5 in
    let s2 = keys-size k1 k2 c.zero_keys.ensures.filled.rest ∙ rest-size old k1 c.take_row-regs.ensures.taken.rest in
    let s4 = keys-size k3 k4 c.zero_keys-2.ensures.filled.rest ∙ rest-size k2 k3 c.take_row-descriptors.ensures.taken.rest ∙ s2 in (
      c.take_row-regs.result.0,
      c.take_row-descriptors.result.0,
      born_changes (g.T.Store.blocks c.args.store.now) (g.T.Store.blocks c.take_row-regs.new.store) (g.T.Store.blocks c.zero_keys.new.store) (g.T.Store.blocks c.take_row-descriptors.new.store) (g.T.Store.blocks c.zero_keys-2.new.store) (g.T.Store.blocks c.take_row-root.new.store) (g.T.Store.blocks c.fill_root.new.store) (g.T.Store.blocks c.put_slot.new.store)
          old.size k2.size k4.size old.pages k1.pages k3.pages k5.pages k6.pages c.take_row-regs.result.0 c.take_row-descriptors.result.0 c.take_row-root.result.0 (11 + c.args.slot / 16) s2 s4 p1 p3 p5 p6
          c.take_row-regs.ensures.blocks c.zero_keys.ensures.blocks c.take_row-descriptors.ensures.blocks c.zero_keys-2.ensures.blocks c.take_row-root.ensures.blocks c.fill_root.ensures.blocks c.put_slot.ensures.blocks,
    )
