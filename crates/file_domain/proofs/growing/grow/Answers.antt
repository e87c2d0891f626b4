use Rattle.std.proofs.Common.{◌≡◌, ◌+◌, ◌-◌, ◌<◌, ◌≤◌, true, false, ap₂, ⊎_elim}
use Rattle.std.proofs.lemmas.Bool.{cases_lt}
use Rattle.kernel_tables.specs.Kernel.{kernel_of}
use Rattle.kernel_tables.proofs.Sizes.{length-memory_page, length-inodes}
use Rattle.file_trees.proofs.Pages.{tree_whole}
use Rattle.file_domain.proofs.Growth.{grows, has_none}
use Rattle.unix_model.specs.Numbers.{pages_of}
use Rattle.file_domain.proofs.Seen.{file_tree, grown_row}
use Rattle.file_domain.proofs.growing.grow.Goals as goal

pub set_inode-requires-clause-right : goal.set_inode-requires-clause-right
set_inode-requires-clause-right g c =
    grown_row (kernel_of (g.T.Store.memory c.args.store.now)) c.args.file c.args.length c.args.inode c.requires.good.standing c.requires.number c.requires.file c.requires.most

pub returns-then-promise-clause-grown : goal.returns-then-promise-clause-grown
returns-then-promise-clause-grown g c =
    let old = kernel_of (g.T.Store.memory c.args.store.now) in
    let standing = c.requires.good.standing in
    let whole = tree_whole old c.args.inode.root standing.bank standing.trees.held.sound (file_tree old c.args.file c.args.inode standing c.requires.file)
    (record { whole = λ page which. length-memory_page (g.T.Store.memory c.args.store.now) page standing.bank.sized which (g.met.T.Store.page_length c.args.store.now) }) in
    let more : c.pages_of.result - c.pages_of-2.result ≡ pages_of c.args.length - pages_of c.args.inode.length = ap₂ (λ a b. a - b) c.pages_of.ensures c.pages_of-2.ensures in
    grows old c.args.file c.args.length (c.pages_of.result - c.pages_of-2.result) c.args.inode c.requires.good c.requires.number c.requires.file c.requires.order whole
    (length-inodes (g.T.Store.memory c.args.store.now) standing.bank.sized) more (kernel_of (g.T.Store.memory c.promise.new.store)) (kernel_of (g.T.Store.memory c.set_inode.new.store))
    c.if-promise.ensures.after c.promise.ensures.good c.set_inode.ensures.written c.set_inode.ensures.roots c.set_inode.ensures.good

pub returns-else-promise-clause-refused : goal.returns-else-promise-clause-refused
returns-else-promise-clause-refused g c =
    let old = kernel_of (g.T.Store.memory c.args.store.now) in
    let standing = c.requires.good.standing in
    let whole = tree_whole old c.args.inode.root standing.bank standing.trees.held.sound (file_tree old c.args.file c.args.inode standing c.requires.file)
    (record { whole = λ page which. length-memory_page (g.T.Store.memory c.args.store.now) page standing.bank.sized which (g.met.T.Store.page_length c.args.store.now) }) in
    let more : c.pages_of.result - c.pages_of-2.result ≡ pages_of c.args.length - pages_of c.args.inode.length = ap₂ (λ a b. a - b) c.pages_of.ensures c.pages_of-2.ensures in
    has_none old c.args.file c.args.length (c.pages_of.result - c.pages_of-2.result) c.args.inode c.requires.good c.requires.number c.requires.file c.requires.order whole
    (length-inodes (g.T.Store.memory c.args.store.now) standing.bank.sized) more (kernel_of (g.T.Store.memory c.promise.new.store)) c.if-promise.ensures.after
    (⊎_elim
    (λ (full : old.size < old.machine.promised + (c.pages_of.result - c.pages_of-2.result)). full)
    (λ (fits : old.machine.promised + (c.pages_of.result - c.pages_of-2.result) ≤ old.size). absurd (let no = c.if-promise.ensures.granted.1 fits in let never : false ≡ true = no in cc))
    (cases_lt old.size (old.machine.promised + (c.pages_of.result - c.pages_of-2.result))))
