use Rattle.std.proofs.Common.{◌≡◌, ◌/◌, ℕ, length, take, replicate, ap, sym, ◌∙◌, arith}
use Rattle.std.proofs.lemmas.List.{length-replicate}
use Rattle.kernel_tables.specs.Kernel.{kernel_of}
use Rattle.kernel_tables.proofs.Sizes.{length-memory_page}
use Rattle.file_trees.proofs.Cuts.{clears_none, clears_blank, clears_put, may_clear, real_clear}
use Rattle.file_trees.proofs.Pages.{tree_whole, zero_part}
use Rattle.file_trees.proofs.cutting.clear_piece.Goals as goal

pub put_in_page-requires-clause-can_write : goal.put_in_page-requires-clause-can_write
put_in_page-requires-clause-can_write g c =
    let kernel = kernel_of (g.T.Store.memory c.args.store.now) in
    let zeros : take c.args.count c.zeros-zeros.result ≡ replicate c.args.count 0 = ap (take c.args.count) c.zeros-zeros.ensures ∙ zero_part 0 c.args.count (omega arith) in
    may_clear kernel c.args.tree.0.0 c.args.at c.args.count c.args.owner c.requires.good c.requires.space
    (tree_whole kernel c.args.tree.0.0 c.requires.good c.requires.trees.1.held.sound (λ some. c.requires.space)
    (record { whole = λ page which. length-memory_page (g.T.Store.memory c.args.store.now) page c.requires.good.sized which (g.met.T.Store.page_length c.args.store.now) }))
    c.requires.within _ (sym c.in-Some.ensures.found) (length (take c.args.count c.zeros-zeros.result)) (ap length zeros ∙ length-replicate {A = ℕ} c.args.count 0)
    (c.requires.writable (c.args.at / 4096) _ (sym c.in-Some.ensures.found))

pub put_in_page-requires-clause-page_room : goal.put_in_page-requires-clause-page_room
put_in_page-requires-clause-page_room g c other there shared =
    let kernel = kernel_of (g.T.Store.memory c.args.store.now) in
    c.requires.page_room other there
    (real_clear kernel c.args.tree.0.0 c.args.at c.args.count c.args.owner c.requires.good c.requires.space
    (tree_whole kernel c.args.tree.0.0 c.requires.good c.requires.trees.1.held.sound (λ some. c.requires.space)
    (record { whole = λ page which. length-memory_page (g.T.Store.memory c.args.store.now) page c.requires.good.sized which (g.met.T.Store.page_length c.args.store.now) }))
    c.requires.within _ (sym c.in-Some.ensures.found) c.if-found-ne0.true other there)
    shared

pub returns-then-found-ne0-clause-cleared : goal.returns-then-found-ne0-clause-cleared
returns-then-found-ne0-clause-cleared g c =
    let kernel = kernel_of (g.T.Store.memory c.args.store.now) in
    let zeros : take c.args.count c.zeros-zeros.result ≡ replicate c.args.count 0 = ap (take c.args.count) c.zeros-zeros.ensures ∙ zero_part 0 c.args.count (omega arith) in
    clears_put kernel c.args.tree.0.0 c.args.at c.args.count c.args.owner c.requires.good c.requires.space
    (tree_whole kernel c.args.tree.0.0 c.requires.good c.requires.trees.1.held.sound (λ some. c.requires.space)
    (record { whole = λ page which. length-memory_page (g.T.Store.memory c.args.store.now) page c.requires.good.sized which (g.met.T.Store.page_length c.args.store.now) }))
    c.requires.within _ (sym c.in-Some.ensures.found) (kernel_of (g.T.Store.memory c.put_in_page.new.store)) (take c.args.count c.zeros-zeros.result) zeros
    c.put_in_page.ensures.good c.put_in_page.ensures.put

pub returns-else-found-ne0-clause-cleared : goal.returns-else-found-ne0-clause-cleared
returns-else-found-ne0-clause-cleared g c =
    let kernel = kernel_of (g.T.Store.memory c.args.store.now) in
    clears_blank kernel c.args.tree.0.0 c.args.at c.args.count c.args.owner c.requires.good c.requires.space
    (tree_whole kernel c.args.tree.0.0 c.requires.good c.requires.trees.1.held.sound (λ some. c.requires.space)
    (record { whole = λ page which. length-memory_page (g.T.Store.memory c.args.store.now) page c.requires.good.sized which (g.met.T.Store.page_length c.args.store.now) }))
    c.requires.within _ c.requires.zero (sym c.in-Some.ensures.found) c.if-found-ne0.false

pub returns-in-None-clause-cleared : goal.returns-in-None-clause-cleared
returns-in-None-clause-cleared g c =
    let kernel = kernel_of (g.T.Store.memory c.args.store.now) in
    clears_none kernel c.args.tree.0.0 c.args.at c.args.count c.args.owner c.requires.good c.requires.space
    (tree_whole kernel c.args.tree.0.0 c.requires.good c.requires.trees.1.held.sound (λ some. c.requires.space)
    (record { whole = λ page which. length-memory_page (g.T.Store.memory c.args.store.now) page c.requires.good.sized which (g.met.T.Store.page_length c.args.store.now) }))
    c.requires.within (sym c.in-None.ensures.found)
