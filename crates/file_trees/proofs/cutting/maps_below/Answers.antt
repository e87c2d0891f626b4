use Rattle.std.proofs.Common.{◌≡◌, ◌≢◌, sym, ap, ◌∙◌, arith, ⊎_elim}
use Rattle.std.proofs.lemmas.Bool.{cases_eq}
use Rattle.kernel_tables.specs.Kernel.{kernel_of}
use Rattle.forest.specs.Walks.{map_of}
use Rattle.kernel_forest.specs.Trees.{forest_of}
use Rattle.file_trees.proofs.cutting.maps_below.Goals as goal

pub loop-page-init : goal.loop-page-init
loop-page-init g c number below = absurd (omega arith)

pub returns-in-Some-clause-some : goal.returns-in-Some-clause-some
returns-in-Some-clause-some g c = λ e. (c.loop-page.page, c.loop-page-test.true, _, sym c.in-Some.ensures.found)

pub loop-page-preserved : goal.loop-page-preserved
loop-page-preserved g c number below = ⊎_elim
    (λ (t : number ≡ c.loop-page.page). ap (map_of (forest_of (kernel_of (g.T.Store.memory c.args.store.now))).keys c.args.tree.0.0) t ∙ sym c.in-None.ensures.found)
    (λ (t : number ≢ c.loop-page.page). c.loop-page.invariant number (omega arith))
    (cases_eq number c.loop-page.page)

pub returns-clause-none : goal.returns-clause-none
returns-clause-none g c = λ e number below.
    let past = c.loop-page-test.false in
    c.loop-page.invariant number (omega arith)
