use Rattle.std.proofs.Common.{◌/◌, sym}
use Rattle.kernel_tables.specs.Kernel.{kernel_of}
use Rattle.user_copy.specs.SpaceMemory.{space_memory}
use Rattle.user_copy.proofs.Pages.{found_inside, memory_found, memory_none}
use Rattle.user_copy.proofs.Texts.{one_byte, no_byte}
use Rattle.user_copy.proofs.read.take_byte.Goals as goal

pub read_memory_page-requires-clause-page : goal.read_memory_page-requires-clause-page
read_memory_page-requires-clause-page g c =
    found_inside (kernel_of (g.T.Store.memory c.args.store.now)) c.args.space.0.0 (c.args.at / 4096) (record { writable = c.in-Some.found.writable; page = c.in-Some.found.page.0 })
    c.requires.good c.requires.trees.1.held.sound c.requires.space (sym c.in-Some.ensures)

pub returns-in-Some : goal.returns-in-Some
returns-in-Some g c =
    let kernel = kernel_of (g.T.Store.memory c.args.store.now) in
    one_byte (space_memory kernel c.args.space.0.0) c.args.at _ c.read_memory_page.new.into
    (memory_found kernel c.args.space.0.0 (c.args.at / 4096) (record { writable = c.in-Some.found.writable; page = c.in-Some.found.page.0 }) (sym c.in-Some.ensures))
    c.read_memory_page.ensures.read

pub returns-in-None : goal.returns-in-None
returns-in-None g c =
    let kernel = kernel_of (g.T.Store.memory c.args.store.now) in
    no_byte (space_memory kernel c.args.space.0.0) c.args.at (memory_none kernel c.args.space.0.0 (c.args.at / 4096) (sym c.in-None.ensures))
