use Rattle.std.proofs.Common.{rules, arith}
use Rattle.kernel_tables.specs.Kernel.{kernel_of}
use Rattle.kernel_tables.specs.Rows.{domain_rows}
use Rattle.kernel_forest.proofs.Rest.{put-pages}
use Rattle.domain.proofs.BlockSets.{filled_changes}
use Rattle.domain.proofs.Born.{null_place}
use Rattle.domain.proofs.Kept.{keys-pages}
use Rattle.domain.proofs.FillingRoot.{fills_root, runs}
use Rattle.domain.proofs.Fits.{life_fits}
use Rattle.domain.proofs.life.fill_root.Goals as goal

pub returns-clause-keeps : goal.returns-clause-keeps
returns-clause-keeps g c = search (g.met.T.Store.keeps_trans, rules) depth 14

pub zero_keys-requires-clause-nulls : goal.zero_keys-requires-clause-nulls
zero_keys-requires-clause-nulls g c = λ place low. null_place (domain_rows (kernel_of (g.T.Store.memory c.args.store.now)) c.args.root.0) c.requires.nulls place

pub returns-clause-filled : goal.returns-clause-filled
returns-clause-filled g c =
    fills_root (kernel_of (g.T.Store.memory c.args.store.now)) (kernel_of (g.T.Store.memory c.zero_keys.new.store)) (kernel_of (g.T.Store.memory c.put_row.new.store)) (kernel_of (g.T.Store.memory c.put_row-2.new.store))
    (kernel_of (g.T.Store.memory c.put_row-3.new.store)) (kernel_of (g.T.Store.memory c.put_row-4.new.store)) (kernel_of (g.T.Store.memory c.put_row-5.new.store)) (kernel_of (g.T.Store.memory c.put_row-6.new.store))
    c.args.root.0 c.args.slot c.args.space.0 c.args.regs.0 c.args.descriptors.0 c.counted_of-life.result c.requires.mine c.requires.nulls
    (runs c.counted_of-life.result c.counted_of-life.ensures.word c.counted_of-life.ensures.count)
    (life_fits c.counted_of-life.result 1 (omega arith) c.counted_of-life.ensures.number c.counted_of-life.ensures.word)
    c.zero_keys.ensures.filled c.put_row.ensures.put c.put_row-2.ensures.put c.put_row-3.ensures.put c.put_row-4.ensures.put c.put_row-5.ensures.put c.put_row-6.ensures.put

pub returns-clause-blocks : goal.returns-clause-blocks
returns-clause-blocks g c =
    let k0 = kernel_of (g.T.Store.memory c.args.store.now) in
    let k1 = kernel_of (g.T.Store.memory c.zero_keys.new.store) in
    let k2 = kernel_of (g.T.Store.memory c.put_row.new.store) in
    let k3 = kernel_of (g.T.Store.memory c.put_row-2.new.store) in
    let k4 = kernel_of (g.T.Store.memory c.put_row-3.new.store) in
    let k5 = kernel_of (g.T.Store.memory c.put_row-4.new.store) in
    let k6 = kernel_of (g.T.Store.memory c.put_row-5.new.store) in
    filled_changes (g.T.Store.blocks c.args.store.now) (g.T.Store.blocks c.zero_keys.new.store) (g.T.Store.blocks c.put_row.new.store) (g.T.Store.blocks c.put_row-2.new.store) (g.T.Store.blocks c.put_row-3.new.store) (g.T.Store.blocks c.put_row-4.new.store) (g.T.Store.blocks c.put_row-5.new.store) (g.T.Store.blocks c.put_row-6.new.store)
    k0.pages k1.pages k2.pages k3.pages k4.pages k5.pages k6.pages c.args.root.0
    (keys-pages k0 k1 c.zero_keys.ensures.filled.rest) (put-pages k1 k2 c.put_row.ensures.put) (put-pages k2 k3 c.put_row-2.ensures.put) (put-pages k3 k4 c.put_row-3.ensures.put)
    (put-pages k4 k5 c.put_row-4.ensures.put) (put-pages k5 k6 c.put_row-5.ensures.put)
    c.zero_keys.ensures.blocks c.put_row.ensures.blocks c.put_row-2.ensures.blocks c.put_row-3.ensures.blocks c.put_row-4.ensures.blocks c.put_row-5.ensures.blocks c.put_row-6.ensures.blocks
