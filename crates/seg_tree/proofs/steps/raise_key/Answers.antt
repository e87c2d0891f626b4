use Rattle.std.proofs.Common.{◌-◌, sym, subst, arith}
use Rattle.kn_base.specs.declared.key.Key.{Key}
use Rattle.kernel_tables.specs.Kernel.{kernel_of, first_page}
use Rattle.kernel_tables.specs.Rows.{entry_at}
use Rattle.kernel_forest.specs.Trees.{page_tree}
use Rattle.kernel_forest.specs.Moves.{RaisesKey}
use Rattle.kernel_forest.proofs.Bridge.{page_inside, tree_taken}
use Rattle.kernel_forest.proofs.Moves.{may_raise_page, may_raise_node, node_shares, page_shares, bank_page, node_below, node_taken, raises_node, raises_page, raises_nothing, unnamed_zero, neither}
use Rattle.seg_tree.proofs.BlockCounts.{at_most, none_at_most}
use Rattle.seg_tree.proofs.steps.raise_key.Goals as goal

pub raise_page-requires-clause-page : goal.raise_page-requires-clause-page
raise_page-requires-clause-page g c =
    let kernel = kernel_of (g.T.Store.memory c.args.store.now) in
    let may = may_raise_page kernel c.args.key c.in-Page.id c.in-Page.writable c.requires.may c.in-Page.is c.if-id-ne0.true in
    bank_page kernel c.in-Page.id.0 (page_inside kernel c.in-Page.id.0 c.requires.good may.0)

pub raise_page-requires-clause-taken : goal.raise_page-requires-clause-taken
raise_page-requires-clause-taken g c =
    let kernel = kernel_of (g.T.Store.memory c.args.store.now) in
    let may = may_raise_page kernel c.args.key c.in-Page.id c.in-Page.writable c.requires.may c.in-Page.is c.if-id-ne0.true in
    let inside = page_inside kernel c.in-Page.id.0 c.requires.good may.0 in
    tree_taken page_tree (entry_at kernel.page_entries (c.in-Page.id.0 - first_page kernel.size)) inside.some

pub raise_page-requires-clause-few : goal.raise_page-requires-clause-few
raise_page-requires-clause-few g c =
    let kernel = kernel_of (g.T.Store.memory c.args.store.now) in
    let may = may_raise_page kernel c.args.key c.in-Page.id c.in-Page.writable c.requires.may c.in-Page.is c.if-id-ne0.true in
    let inside = page_inside kernel c.in-Page.id.0 c.requires.good may.0 in
    let few = may.1 in
    let same = page_shares kernel c.in-Page.id.0 inside in
    omega arith

pub raise_node-requires-clause-inside : goal.raise_node-requires-clause-inside
raise_node-requires-clause-inside g c =
    let kernel = kernel_of (g.T.Store.memory c.args.store.now) in
    let may = may_raise_node kernel c.args.key c.in-Segment.id c.in-Segment.height c.requires.may c.in-Segment.is in
    node_below kernel c.in-Segment.id.0 c.requires.good may.0

pub raise_node-requires-clause-taken : goal.raise_node-requires-clause-taken
raise_node-requires-clause-taken g c =
    let kernel = kernel_of (g.T.Store.memory c.args.store.now) in
    let may = may_raise_node kernel c.args.key c.in-Segment.id c.in-Segment.height c.requires.may c.in-Segment.is in
    node_taken kernel c.in-Segment.id.0 may.0

pub raise_node-requires-clause-few : goal.raise_node-requires-clause-few
raise_node-requires-clause-few g c =
    let kernel = kernel_of (g.T.Store.memory c.args.store.now) in
    let may = may_raise_node kernel c.args.key c.in-Segment.id c.in-Segment.height c.requires.may c.in-Segment.is in
    let few = may.1 in
    let same = node_shares kernel c.in-Segment.id.0 may.0 in
    omega arith

pub returns-then-id-ne0-clause-raised : goal.returns-then-id-ne0-clause-raised
returns-then-id-ne0-clause-raised g c =
    let kernel = kernel_of (g.T.Store.memory c.args.store.now) in
    let new = kernel_of (g.T.Store.memory c.raise_page.new.store) in
    let may = may_raise_page kernel c.args.key c.in-Page.id c.in-Page.writable c.requires.may c.in-Page.is c.if-id-ne0.true in
    subst (λ (key : Key). RaisesKey kernel new key) (sym c.in-Page.is)
    (raises_page kernel new c.in-Page.id c.in-Page.writable c.requires.good c.if-id-ne0.true may.0 c.raise_page.ensures.raised c.raise_page.ensures.shares)

pub returns-else-id-ne0-clause-raised : goal.returns-else-id-ne0-clause-raised
returns-else-id-ne0-clause-raised g c =
    let kernel = kernel_of (g.T.Store.memory c.args.store.now) in
    raises_nothing kernel c.args.key (unnamed_zero c.args.key c.in-Page.id c.in-Page.writable c.in-Page.is c.if-id-ne0.false) c.requires.of_tree

pub returns-in-Segment-clause-raised : goal.returns-in-Segment-clause-raised
returns-in-Segment-clause-raised g c =
    let kernel = kernel_of (g.T.Store.memory c.args.store.now) in
    let new = kernel_of (g.T.Store.memory c.raise_node.new.store) in
    let may = may_raise_node kernel c.args.key c.in-Segment.id c.in-Segment.height c.requires.may c.in-Segment.is in
    subst (λ (key : Key). RaisesKey kernel new key) (sym c.in-Segment.is)
    (raises_node kernel new c.in-Segment.id c.in-Segment.height may.0 c.raise_node.ensures.raised c.raise_node.ensures.shares)

pub returns-in_default : goal.returns-in_default
returns-in_default g c =
    let kernel = kernel_of (g.T.Store.memory c.args.store.now) in
    record { raised = raises_nothing kernel c.args.key (neither c.args.key c.in_default.not-Page c.in_default.not-Segment) c.requires.of_tree; good = c.requires.good; blocks = none_at_most 1; keeps = g.met.T.Store.keeps_same c.args.store.now }

pub returns-then-id-ne0-clause-blocks : goal.returns-then-id-ne0-clause-blocks
returns-then-id-ne0-clause-blocks g c = at_most 1 (omega arith) c.raise_page.ensures.blocks

pub returns-else-id-ne0-clause-blocks : goal.returns-else-id-ne0-clause-blocks
returns-else-id-ne0-clause-blocks g c = none_at_most 1

pub returns-in-Segment-clause-blocks : goal.returns-in-Segment-clause-blocks
returns-in-Segment-clause-blocks g c = at_most 1 (omega arith) c.raise_node.ensures.blocks
