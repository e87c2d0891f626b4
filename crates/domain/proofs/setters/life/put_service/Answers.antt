use Rattle.std.proofs.Common.{ap, arith}
use Rattle.kernel_tables.specs.Kernel.{kernel_of}
use Rattle.space_bank.specs.FreeList.{is_free}
use Rattle.domain.proofs.Living.{service_put, service_rows, service_lives, service_sets}
use Rattle.domain.proofs.Writing.{slot_put}
use Rattle.domain.proofs.setters.life.put_service.Goals as goal

pub write_key-requires-clause-inside : goal.write_key-requires-clause-inside
write_key-requires-clause-inside g c =
    let nodes = c.requires.good.sized.all_nodes in
    let high = c.requires.service.high in
    omega arith

pub write_key-requires-clause-used : goal.write_key-requires-clause-used
write_key-requires-clause-used g c =
    let high = c.requires.service.high in
    ap is_free (c.requires.good.nodes.fixed c.args.root.0 (omega arith))

pub returns-clause-put : goal.returns-clause-put
returns-clause-put g c =
    let old = kernel_of (g.T.Store.memory c.args.store.now) in
    let new = kernel_of (g.T.Store.memory c.write_key.new.store) in
    let high = c.requires.service.high in
    service_put old new c.args.root.0 c.args.key c.requires.good c.requires.service c.requires.fits
    (slot_put old new c.args.root.0 6 c.args.key c.requires.good (omega arith) (omega arith) c.write_key.ensures.written c.write_key.ensures.shares)

pub returns-clause-rows : goal.returns-clause-rows
returns-clause-rows g c =
    let old = kernel_of (g.T.Store.memory c.args.store.now) in
    let new = kernel_of (g.T.Store.memory c.write_key.new.store) in
    let high = c.requires.service.high in
    service_rows old new c.args.root.0 c.args.key c.requires.good c.requires.service c.requires.fits
    (slot_put old new c.args.root.0 6 c.args.key c.requires.good (omega arith) (omega arith) c.write_key.ensures.written c.write_key.ensures.shares)

pub returns-clause-set : goal.returns-clause-set
returns-clause-set g c =
    let old = kernel_of (g.T.Store.memory c.args.store.now) in
    let new = kernel_of (g.T.Store.memory c.write_key.new.store) in
    let high = c.requires.service.high in
    service_lives old new c.args.root.0 c.args.key c.requires.good c.requires.service c.requires.fits
    (slot_put old new c.args.root.0 6 c.args.key c.requires.good (omega arith) (omega arith) c.write_key.ensures.written c.write_key.ensures.shares)

pub returns-clause-others : goal.returns-clause-others
returns-clause-others g c =
    let old = kernel_of (g.T.Store.memory c.args.store.now) in
    let new = kernel_of (g.T.Store.memory c.write_key.new.store) in
    let high = c.requires.service.high in
    service_sets old new c.args.root.0 c.args.key c.requires.good c.requires.service c.requires.fits
    (slot_put old new c.args.root.0 6 c.args.key c.requires.good (omega arith) (omega arith) c.write_key.ensures.written c.write_key.ensures.shares)
