use Rattle.kernel_tables.specs.Kernel.{kernel_of}
use Rattle.tests_spaces.proofs.Keeping.{readable}
use Rattle.tests_spaces.proofs.walk.are_well.Goals as goal

pub keys_in_range-requires : goal.keys_in_range-requires
keys_in_range-requires g c = record { readable = readable (kernel_of (g.T.Store.memory c.args.store.now)) c.requires.ready }
