use Rattle.kernel_tables.specs.Kernel.{kernel_of}
use Rattle.file_domain.proofs.TreeCuts.{both_changes, cut_resizes, memory_short}
use Rattle.file_domain.proofs.cutting.cut_tree.Goals as goal

pub clear_rest-requires-clause-good : goal.clear_rest-requires-clause-good
clear_rest-requires-clause-good g c = c.give_pages.ensures.given.good

pub clear_rest-requires-clause-file : goal.clear_rest-requires-clause-file
clear_rest-requires-clause-file g c = c.give_pages.ensures.given.file

pub lower_length-requires-clause-good : goal.lower_length-requires-clause-good
lower_length-requires-clause-good g c = c.clear_rest.ensures.cleared.good

pub lower_length-requires-clause-file : goal.lower_length-requires-clause-file
lower_length-requires-clause-file g c = c.clear_rest.ensures.cleared.file

pub lower_length-requires-clause-memory : goal.lower_length-requires-clause-memory
lower_length-requires-clause-memory g c =
    let old = kernel_of (g.T.Store.memory c.args.store.now) in
    let mid = kernel_of (g.T.Store.memory c.give_pages.new.store) in
    let new = kernel_of (g.T.Store.memory c.clear_rest.new.store) in
    memory_short old mid new new c.args.file c.args.length c.args.inode c.requires.good c.requires.file c.requires.order
    (both_changes old mid new new c.args.file c.args.length c.args.inode c.requires.good c.requires.file c.requires.order c.give_pages.ensures.given c.clear_rest.ensures.cleared)

pub returns-clause-cut : goal.returns-clause-cut
returns-clause-cut g c =
    let old = kernel_of (g.T.Store.memory c.args.store.now) in
    let mid = kernel_of (g.T.Store.memory c.give_pages.new.store) in
    let short = kernel_of (g.T.Store.memory c.clear_rest.new.store) in
    let new = kernel_of (g.T.Store.memory c.lower_length.new.store) in
    cut_resizes old mid short new c.args.file c.args.length c.args.inode c.requires.good c.requires.file c.requires.order
    (both_changes old mid short new c.args.file c.args.length c.args.inode c.requires.good c.requires.file c.requires.order c.give_pages.ensures.given c.clear_rest.ensures.cleared)
    c.lower_length.ensures.lowered

pub returns-clause-keeps : goal.returns-clause-keeps
returns-clause-keeps g c =
    g.met.T.Store.keeps_trans c.args.store.now c.clear_rest.new.store c.lower_length.new.store
    (g.met.T.Store.keeps_trans c.args.store.now c.give_pages.new.store c.clear_rest.new.store c.give_pages.ensures.keeps c.clear_rest.ensures.keeps) c.lower_length.ensures.keeps
