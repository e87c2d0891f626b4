use Rattle.std.proofs.Common.{None, replicate}
use Rattle.kernel_tables.specs.Kernel.{kernel_of}
use Rattle.kernel_machine.specs.Contents.{place_in}
use Rattle.dir_domain.proofs.Names.{hole-place, put-told}
use Rattle.dir_domain.proofs.rename.remove_name.Goals as goal

pub returns-clause-changed : goal.returns-clause-changed
returns-clause-changed g c =
    put-told (kernel_of (g.T.Store.memory c.args.store.now)) (kernel_of (g.T.Store.memory c.change_place.new.store)) c.args.dir c.args.name.now (place_in (replicate 32 0)) None c.change_place.result hole-place c.change_place.ensures.changed
