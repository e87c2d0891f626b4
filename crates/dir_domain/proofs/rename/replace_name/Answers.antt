use Rattle.std.proofs.Common.{Some}
use Rattle.kernel_tables.specs.Kernel.{kernel_of}
use Rattle.kernel_machine.specs.Contents.{place_in}
use Rattle.dir_domain.specs.Changes.{entry_of}
use Rattle.dir_domain.proofs.Names.{entry-put, put-told}
use Rattle.dir_domain.proofs.rename.replace_name.Goals as goal

pub returns-clause-changed : goal.returns-clause-changed
returns-clause-changed g c =
    put-told (kernel_of (g.T.Store.memory c.args.store.now)) (kernel_of (g.T.Store.memory c.change_place.new.store)) c.args.dir c.args.name.now (place_in c.entry_bytes.result) (Some (entry_of c.args.name.now c.args.inode)) c.change_place.result
    (entry-put c.args.name.now c.args.inode c.entry_bytes.result c.entry_bytes.ensures c.requires.name.some_bytes c.requires.name.few_bytes c.ranges.inode.fits) c.change_place.ensures.changed
