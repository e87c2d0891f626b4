use Rattle.std.proofs.Common.{refl, sym, ◌∙◌}
use Rattle.kernel_tables.specs.Kernel.{kernel_of}
use Rattle.unix_model.specs.Tables.{at}
use Rattle.forest.specs.Walks.{place_of}
use Rattle.kernel_forest.specs.Trees.{forest_of}
use Rattle.kernel_forest.proofs.GivingNodes.{hand_owned}
use Rattle.seg_tree.proofs.Emptying.{out_page, out_page_hand, out_node, out_nothing, leaf_or_none, leaves_tree}
use Rattle.seg_tree.proofs.release.take_out.Goals as goal

pub tree_key-key-requires-clause-owned : goal.tree_key-key-requires-clause-owned
tree_key-key-requires-clause-owned g c = hand_owned (kernel_of (g.T.Store.memory c.args.store.now)) c.args.node c.args.height c.requires.hand

pub put_key-requires-clause-owned : goal.put_key-requires-clause-owned
put_key-requires-clause-owned g c = hand_owned (kernel_of (g.T.Store.memory c.args.store.now)) c.args.node c.args.height c.requires.hand

pub put_key-requires-clause-was_of_tree : goal.put_key-requires-clause-was_of_tree
put_key-requires-clause-was_of_tree g c =
    leaves_tree c.args.height (at (forest_of (kernel_of (g.T.Store.memory c.args.store.now))).keys (place_of c.args.node.0 c.args.digit)) c.requires.fits

pub release_page-requires-clause-hand : goal.release_page-requires-clause-hand
release_page-requires-clause-hand g c =
    out_page_hand (kernel_of (g.T.Store.memory c.args.store.now)) (kernel_of (g.T.Store.memory c.put_key.new.store)) c.args.node c.args.digit c.args.height c.in-Page.id c.in-Page.writable
    c.requires.once c.requires.digit c.requires.hand (sym c.tree_key-key.ensures ∙ c.in-Page.is) c.put_key.ensures.put

pub returns-in-Page-clause-out : goal.returns-in-Page-clause-out
returns-in-Page-clause-out g c =
    out_page (kernel_of (g.T.Store.memory c.args.store.now)) (kernel_of (g.T.Store.memory c.put_key.new.store)) (kernel_of (g.T.Store.memory c.release_page.new.store)) c.args.node c.args.digit c.args.height c.in-Page.id c.in-Page.writable
    c.requires.once c.requires.digit c.requires.hand (sym c.tree_key-key.ensures ∙ c.in-Page.is) c.put_key.ensures.put c.release_page.ensures.released

pub returns-in-Segment-clause-out : goal.returns-in-Segment-clause-out
returns-in-Segment-clause-out g c =
    out_node (kernel_of (g.T.Store.memory c.args.store.now)) (kernel_of (g.T.Store.memory c.put_key.new.store)) c.args.node c.args.digit c.args.height c.in-Segment.id c.in-Segment.height
    c.requires.once c.requires.digit c.requires.hand c.requires.fits (sym c.tree_key-key.ensures ∙ c.in-Segment.is) c.put_key.ensures.put

pub returns-in_default-clause-out : goal.returns-in_default-clause-out
returns-in_default-clause-out g c =
    let old = kernel_of (g.T.Store.memory c.args.store.now) in
    out_nothing old (kernel_of (g.T.Store.memory c.put_key.new.store)) c.args.node c.args.digit c.args.height
    (at (forest_of (kernel_of (g.T.Store.memory c.args.store.now))).keys (place_of c.args.node.0 c.args.digit)) c.requires.once c.requires.digit refl
    (leaf_or_none c.args.height (at (forest_of (kernel_of (g.T.Store.memory c.args.store.now))).keys (place_of c.args.node.0 c.args.digit)) c.requires.fits
    (λ page writable e. c.in_default.not-Page page writable (c.tree_key-key.ensures ∙ e)) (λ node low e. c.in_default.not-Segment node low (c.tree_key-key.ensures ∙ e)))
    (leaves_tree c.args.height (at (forest_of (kernel_of (g.T.Store.memory c.args.store.now))).keys (place_of c.args.node.0 c.args.digit)) c.requires.fits)
    c.put_key.ensures.put
