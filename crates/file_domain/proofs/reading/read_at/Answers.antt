use Rattle.std.proofs.Common.{◌≡◌, ◌-◌, [], length, ap, sym, subst, ◌∙◌, arith}
use Rattle.std.proofs.lemmas.List.{length-take-le}
use Rattle.kn_base.specs.Rows.{part_at}
use Rattle.kernel_tables.specs.Kernel.{kernel_of}
use Rattle.kernel_tables.proofs.Sizes.{length-memory_page}
use Rattle.kernel_machine.specs.Contents.{file_in}
use Rattle.kernel_machine.proofs.PagesHeld.{file-long}
use Rattle.file_trees.specs.Trees.{tree_memory}
use Rattle.file_trees.proofs.Pages.{tree_whole}
use Rattle.file_domain.specs.Effects.{Reads}
use Rattle.file_domain.proofs.Seen.{rest_same, same_row, bytes_are, file_tree, file_row, reads}
use Rattle.file_domain.proofs.reading.read_at.Goals as goal

pub read_tree-requires-clause-tree : goal.read_tree-requires-clause-tree
read_tree-requires-clause-tree g c =
    let kernel = kernel_of (g.T.Store.memory c.args.store.now) in
    file_tree kernel c.args.file c.in-Some.inode c.requires.standing (same_row kernel c.args.file c.in-Some.inode c.requires.file.0 c.requires.file.1 c.in-Some.ensures)

pub read_tree-requires-clause-within : goal.read_tree-requires-clause-within
read_tree-requires-clause-within g c =
    let kernel = kernel_of (g.T.Store.memory c.args.store.now) in
    let row = file_row kernel c.args.file c.in-Some.inode c.requires.standing c.requires.number (same_row kernel c.args.file c.in-Some.inode c.requires.file.0 c.requires.file.1 c.in-Some.ensures) in
    let short = length-take-le c.count_there-count.result c.args.into.now c.count_there-count.ensures.few in
    let within = c.count_there-count.ensures.within in
    let some = c.if-count-gt0.true in
    let most = row.length in
    omega arith

pub returns-then-count-gt0-clause-read : goal.returns-then-count-gt0-clause-read
returns-then-count-gt0-clause-read g c bytes seen =
    let kernel = kernel_of (g.T.Store.memory c.args.store.now) in
    let file = same_row kernel c.args.file c.in-Some.inode c.requires.file.0 c.requires.file.1 c.in-Some.ensures in
    let is = bytes_are kernel c.args.file c.in-Some.inode bytes file seen in
    let whole = tree_whole kernel c.in-Some.inode.root c.requires.standing.bank c.requires.standing.trees.held.sound (file_tree kernel c.args.file c.in-Some.inode c.requires.standing file)
    (record { whole = λ page which. length-memory_page (g.T.Store.memory c.args.store.now) page c.requires.standing.bank.sized which (g.met.T.Store.page_length c.args.store.now) }) in
    let long : length bytes ≡ c.in-Some.inode.length = ap length is ∙ file-long (tree_memory kernel c.in-Some.inode.root) whole c.in-Some.inode.length in
    let short = length-take-le c.count_there-count.result c.args.into.now c.count_there-count.ensures.few in
    let within = c.count_there-count.ensures.within in
    let some = c.if-count-gt0.true in
    reads bytes c.args.into.now c.read_tree.new.into c.args.at c.count_there-count.result c.count_there-count.ensures.few (omega arith)
    (λ less. c.count_there-count.ensures.all (omega arith)) (λ less. c.count_there-count.ensures.rest (omega arith) ∙ ap (λ n. n - c.args.at) (sym long))
    (c.read_tree.ensures.read c.in-Some.inode.length (omega arith)
    ∙ ap (part_at (file_in (tree_memory kernel c.in-Some.inode.root) c.in-Some.inode.length) c.args.at) short
    ∙ ap (λ file. part_at file c.args.at c.count_there-count.result) (sym is))

pub returns-else-count-gt0-clause-read : goal.returns-else-count-gt0-clause-read
returns-else-count-gt0-clause-read g c bytes seen =
    let kernel = kernel_of (g.T.Store.memory c.args.store.now) in
    let file = same_row kernel c.args.file c.in-Some.inode c.requires.file.0 c.requires.file.1 c.in-Some.ensures in
    let is = bytes_are kernel c.args.file c.in-Some.inode bytes file seen in
    let whole = tree_whole kernel c.in-Some.inode.root c.requires.standing.bank c.requires.standing.trees.held.sound (file_tree kernel c.args.file c.in-Some.inode c.requires.standing file)
    (record { whole = λ page which. length-memory_page (g.T.Store.memory c.args.store.now) page c.requires.standing.bank.sized which (g.met.T.Store.page_length c.args.store.now) }) in
    let long : length bytes ≡ c.in-Some.inode.length = ap length is ∙ file-long (tree_memory kernel c.in-Some.inode.root) whole c.in-Some.inode.length in
    let none : c.count_there-count.result ≡ 0 = let none = c.if-count-gt0.false in omega arith in
    let within = c.count_there-count.ensures.within in
    subst (λ n. Reads bytes c.args.at c.args.into.now n c.count_there-count.result) (sym (rest_same c.args.into.now c.count_there-count.result none))
    (reads bytes c.args.into.now [] c.args.at c.count_there-count.result c.count_there-count.ensures.few (omega arith)
    (λ less. c.count_there-count.ensures.all (omega arith)) (λ less. c.count_there-count.ensures.rest (omega arith) ∙ ap (λ n. n - c.args.at) (sym long))
    (sym (ap (part_at bytes c.args.at) none)))
