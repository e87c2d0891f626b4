use Rattle.std.proofs.Common.{arith, sym, ◌∙◌}
use Rattle.kernel_tables.specs.Kernel.{kernel_of}
use Rattle.kernel_forest.proofs.Moves.{unnamed_zero, bank_page}
use Rattle.kernel_forest.proofs.Giving.{hand_page, hand_page_unnamed, hand_page_once, hand_page_many, lets_nothing, lets_page_given, lets_page_lowered}
use Rattle.kn_base.specs.declared.key.Key.TheVariants.{Page}
use Rattle.std.proofs.Common.{refl}
use Rattle.seg_tree.proofs.BlockCounts.{at_most, none_at_most}
use Rattle.seg_tree.proofs.release.release_page.Goals as goal

pub returns-then-page-eq0-clause-released : goal.returns-then-page-eq0-clause-released
returns-then-page-eq0-clause-released g c =
    lets_nothing (kernel_of (g.T.Store.memory c.args.store.now)) (Page c.args.page c.args.writable) (unnamed_zero (Page c.args.page c.args.writable) c.args.page c.args.writable refl c.if-page-eq0.true) tt

pub page_count-requires-clause-page : goal.page_count-requires-clause-page
page_count-requires-clause-page g c =
    let k = kernel_of (g.T.Store.memory c.args.store.now) in
    bank_page k c.args.page.0 (hand_page k c.args.page c.args.writable c.requires.good c.if-page-eq0.false c.requires.hand)

pub give_page-requires-clause-low : goal.give_page-requires-clause-low
give_page-requires-clause-low g c =
    let k = kernel_of (g.T.Store.memory c.args.store.now) in
    (bank_page k c.args.page.0 (hand_page k c.args.page c.args.writable c.requires.good c.if-page-eq0.false c.requires.hand)).low

pub give_page-requires-clause-high : goal.give_page-requires-clause-high
give_page-requires-clause-high g c =
    let k = kernel_of (g.T.Store.memory c.args.store.now) in
    (bank_page k c.args.page.0 (hand_page k c.args.page c.args.writable c.requires.good c.if-page-eq0.false c.requires.hand)).high

pub give_page-requires-clause-taken : goal.give_page-requires-clause-taken
give_page-requires-clause-taken g c =
    let k = kernel_of (g.T.Store.memory c.args.store.now) in
    hand_page_once k c.args.page c.args.writable c.requires.good c.if-page-eq0.false c.requires.hand (sym c.page_count.ensures ∙ c.if-page_count-eq1.true)

pub give_page-requires-clause-unnamed : goal.give_page-requires-clause-unnamed
give_page-requires-clause-unnamed g c =
    let k = kernel_of (g.T.Store.memory c.args.store.now) in
    hand_page_unnamed k c.args.page c.args.writable c.requires.good c.if-page-eq0.false c.requires.hand (sym c.page_count.ensures ∙ c.if-page_count-eq1.true)

pub lower_page-requires-clause-page : goal.lower_page-requires-clause-page
lower_page-requires-clause-page g c =
    let k = kernel_of (g.T.Store.memory c.args.store.now) in
    bank_page k c.args.page.0 (hand_page k c.args.page c.args.writable c.requires.good c.if-page-eq0.false c.requires.hand)

pub lower_page-requires-clause-shared : goal.lower_page-requires-clause-shared
lower_page-requires-clause-shared g c =
    let k = kernel_of (g.T.Store.memory c.args.store.now) in
    hand_page_many k c.args.page c.args.writable c.requires.good c.if-page-eq0.false c.requires.hand (λ e. c.if-page_count-eq1.false (c.page_count.ensures ∙ e))

pub returns-then-page_count-eq1-clause-released : goal.returns-then-page_count-eq1-clause-released
returns-then-page_count-eq1-clause-released g c =
    let k = kernel_of (g.T.Store.memory c.args.store.now) in
    lets_page_given k (kernel_of (g.T.Store.memory c.give_page.new.store)) c.args.page c.args.writable c.requires.good c.if-page-eq0.false c.requires.hand (sym c.page_count.ensures ∙ c.if-page_count-eq1.true)
    c.give_page.ensures.given c.give_page.ensures.shares

pub returns-else-page_count-eq1-clause-released : goal.returns-else-page_count-eq1-clause-released
returns-else-page_count-eq1-clause-released g c =
    let k = kernel_of (g.T.Store.memory c.args.store.now) in
    lets_page_lowered k (kernel_of (g.T.Store.memory c.lower_page.new.store)) c.args.page c.args.writable c.requires.good c.if-page-eq0.false c.requires.hand
    (hand_page_many k c.args.page c.args.writable c.requires.good c.if-page-eq0.false c.requires.hand (λ e. c.if-page_count-eq1.false (c.page_count.ensures ∙ e)))
    c.lower_page.ensures.lowered c.lower_page.ensures.shares

pub returns-then-page-eq0-clause-blocks : goal.returns-then-page-eq0-clause-blocks
returns-then-page-eq0-clause-blocks g c = none_at_most 3

pub returns-then-page_count-eq1-clause-blocks : goal.returns-then-page_count-eq1-clause-blocks
returns-then-page_count-eq1-clause-blocks g c = at_most 3 (omega arith) c.give_page.ensures.blocks

pub returns-else-page_count-eq1-clause-blocks : goal.returns-else-page_count-eq1-clause-blocks
returns-else-page_count-eq1-clause-blocks g c = at_most 3 (omega arith) c.lower_page.ensures.blocks
