use Rattle.kn_base.specs.declared.key.Key.TheVariants.{Page}
use Rattle.kernel_tables.specs.Kernel.{kernel_of}
use Rattle.forest.specs.Walks.{digits}
use Rattle.kernel_forest.specs.Trees.{forest_of}
use Rattle.seg_tree.proofs.Walking.{page_found, none_found}
use Rattle.seg_tree.proofs.PageCopies.{way_in_use}
use Rattle.seg_tree.proofs.walk.find.Goals as goal

pub returns-in-Page-clause-found : goal.returns-in-Page-clause-found
returns-in-Page-clause-found g c =
    page_found (forest_of (kernel_of (g.T.Store.memory c.args.store.now))).keys c.args.space.0.0 c.args.page c.key_on_way.result (Page c.in-Page.id c.in-Page.writable)
    c.requires.page c.key_on_way.ensures c.in-Page.is

pub returns-in_default-clause-found : goal.returns-in_default-clause-found
returns-in_default-clause-found g c =
    none_found (forest_of (kernel_of (g.T.Store.memory c.args.store.now))).keys c.args.space.0.0 c.args.page c.key_on_way.result c.requires.page c.key_on_way.ensures c.in_default.not-Page

pub key_on_way-requires-clause-sound : goal.key_on_way-requires-clause-sound
key_on_way-requires-clause-sound g c = c.requires.trees.1.held.sound

pub returns-in-Page-clause-in_use : goal.returns-in-Page-clause-in_use
returns-in-Page-clause-in_use g c =
    way_in_use (kernel_of (g.T.Store.memory c.args.store.now)) c.args.space.0.0 (digits 5 c.args.page) c.key_on_way.result c.in-Page.id c.in-Page.writable c.requires.good c.requires.trees.1.held.sound c.requires.space
    c.key_on_way.ensures c.in-Page.is
