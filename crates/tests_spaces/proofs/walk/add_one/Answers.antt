use Rattle.kernel_tables.specs.Kernel.{kernel_of}
use Rattle.tests_spaces.proofs.Walking.{spaces_kept, put_behind}
use Rattle.tests_spaces.proofs.walk.add_one.Goals as goal

pub returns-clause-spaces : goal.returns-clause-spaces
returns-clause-spaces g c =
    let old = kernel_of (g.T.Store.memory c.args.store.now) in
    let new = kernel_of (g.T.Store.memory c.new_one-space.new.store) in
    put_behind new c.args.spaces.now.items c.keep.new.spaces.items c.new_one-space.result c.keep.ensures
    (spaces_kept old new c.args.spaces.now.items c.new_one-space.ensures.spaces c.requires.spaces) c.new_one-space.ensures.added
