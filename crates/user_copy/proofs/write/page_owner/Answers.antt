use Rattle.std.proofs.Common.{◌≡◌, ap, sym, subst, ◌∙◌}
use Rattle.std.specs.Option.{is_some}
use Rattle.kernel_tables.specs.Kernel.{kernel_of}
use Rattle.space_bank.specs.Changes.{IsTaken}
use Rattle.forest.specs.Objects.{NodeObject}
use Rattle.kernel_forest.specs.Trees.{node_tree, page_tree, tree_in, forest_of}
use Rattle.kernel_forest.proofs.Moves.{node_below, node_taken, owner_entry, never_taken}
use Rattle.user_copy.specs.Writing.{pages_for}
use Rattle.user_copy.proofs.Pages.{tree_of_pages}
use Rattle.user_copy.proofs.write.page_owner.Goals as goal

pub node_entry-requires-clause-node : goal.node_entry-requires-clause-node
node_entry-requires-clause-node g c = node_below (kernel_of (g.T.Store.memory c.args.store.now)) c.args.space.0.0 c.requires.good c.requires.space.owned

pub returns-in-Taken-clause-owner : goal.returns-in-Taken-clause-owner
returns-in-Taken-clause-owner g c =
    c.tree_pages.ensures ∙ ap pages_for (sym (owner_entry (kernel_of (g.T.Store.memory c.args.store.now)) c.args.space.0.0 ∙ ap (tree_in node_tree) (sym c.node_entry.ensures ∙ c.in-Taken.is)))

pub returns-in-Taken-clause-tree : goal.returns-in-Taken-clause-tree
returns-in-Taken-clause-tree g c =
    let is : (forest_of (kernel_of (g.T.Store.memory c.args.store.now))).owner (NodeObject c.args.space.0.0) ≡ node_tree c.in-Taken.owner
    = owner_entry (kernel_of (g.T.Store.memory c.args.store.now)) c.args.space.0.0 ∙ ap (tree_in node_tree) (sym c.node_entry.ensures ∙ c.in-Taken.is) in
    ap page_tree c.tree_pages.ensures ∙ tree_of_pages (node_tree c.in-Taken.owner) (ap is_some (sym is) ∙ c.requires.space.owned) ∙ sym is

pub returns-in_default-clause-owner : goal.returns-in_default-clause-owner
returns-in_default-clause-owner g c =
    absurd (never_taken c.node_entry.result c.in_default.not-Taken
    (subst IsTaken (sym c.node_entry.ensures) (node_taken (kernel_of (g.T.Store.memory c.args.store.now)) c.args.space.0.0 c.requires.space.owned)))

pub returns-in_default-clause-tree : goal.returns-in_default-clause-tree
returns-in_default-clause-tree g c =
    absurd (never_taken c.node_entry.result c.in_default.not-Taken
    (subst IsTaken (sym c.node_entry.ensures) (node_taken (kernel_of (g.T.Store.memory c.args.store.now)) c.args.space.0.0 c.requires.space.owned)))
