use Rattle.std.proofs.Common.{sym}
use Rattle.kernel_tables.specs.Kernel.{kernel_of}
use Rattle.user_copy.specs.SpaceMemory.{space_memory}
use Rattle.user_copy.proofs.Pages.{memory_found, memory_none}
use Rattle.user_copy.proofs.Tests.{writable_found, writable_none}
use Rattle.user_copy.proofs.write.is_writable.Goals as goal

pub returns-in-Some : goal.returns-in-Some
returns-in-Some g c address is =
    let kernel = kernel_of (g.T.Store.memory c.args.store.now) in
    writable_found (space_memory kernel c.args.space.0.0) address c.args.page _
    (memory_found kernel c.args.space.0.0 c.args.page (record { writable = c.in-Some.found.writable; page = c.in-Some.found.page.0 }) (sym c.in-Some.ensures)) is

pub returns-in-None : goal.returns-in-None
returns-in-None g c address is =
    let kernel = kernel_of (g.T.Store.memory c.args.store.now) in
    writable_none (space_memory kernel c.args.space.0.0) address c.args.page (memory_none kernel c.args.space.0.0 c.args.page (sym c.in-None.ensures)) is
