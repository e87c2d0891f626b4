use Rattle.std.proofs.Common.{ap, sym, ◌∙◌}
use Rattle.kernel_tables.specs.Kernel.{kernel_of}
use Rattle.unix_model.specs.Files.{inode_named}
use Rattle.dir_domain.proofs.Seen.{places-are}
use Rattle.dir_domain.proofs.find.find_name.Goals as goal

pub returns-in-Some : goal.returns-in-Some
returns-in-Some g c =
    c.in-Some.ensures.inode
    ∙ ap (λ places. inode_named places c.args.name.now) (sym (places-are (kernel_of (g.T.Store.memory c.args.store.now)) c.args.dir c.directory_row-row.result c.directory_row-row.ensures))

pub returns-in-None : goal.returns-in-None
returns-in-None g c =
    c.in-None.ensures.inode
    ∙ ap (λ places. inode_named places c.args.name.now) (sym (places-are (kernel_of (g.T.Store.memory c.args.store.now)) c.args.dir c.directory_row-row.result c.directory_row-row.ensures))
