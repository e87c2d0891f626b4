use Rattle.kernel_tables.specs.Kernel.{kernel_of}
use Rattle.space_bank.proofs.EmptyBank.{made_bank}
use Rattle.space_bank.proofs.empty.fill.Goals as goal

pub returns-clause-made : goal.returns-clause-made
returns-clause-made g c =
    made_bank c.args.pages c.args.quantum (kernel_of (g.T.Store.memory c.args.store.now))
    (kernel_of (g.T.Store.memory c.set_words.new.store)) (kernel_of (g.T.Store.memory c.set_first_inodes.new.store)) (kernel_of (g.T.Store.memory c.link_pages.new.store))
    (kernel_of (g.T.Store.memory c.fix_nodes.new.store)) (kernel_of (g.T.Store.memory c.link_nodes.new.store))
    (kernel_of (g.T.Store.memory c.set_service_roots.new.store)) c.requires.zeros c.set_words.ensures.written c.set_first_inodes.ensures.written
    c.link_pages.ensures.linked c.fix_nodes.ensures.fixed c.link_nodes.ensures.linked c.set_service_roots.ensures.rooted
