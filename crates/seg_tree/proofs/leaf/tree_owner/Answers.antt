use Rattle.std.proofs.Common.{◌≡◌, ℕ, ap, sym, subst, ◌∙◌}
use Rattle.std.specs.Option.{IsSome}
use Rattle.kernel_tables.specs.declared.entry.NodeOwner.{NodeOwner}
use Rattle.kernel_tables.specs.declared.entry.Entry.{Entry}
use Rattle.kernel_tables.specs.declared.entry.Entry.TheVariants.{Taken}
use Rattle.kernel_tables.specs.Kernel.{Kernel, kernel_of}
use Rattle.kernel_tables.specs.Rows.{entry_at}
use Rattle.forest.specs.Objects.{NodeObject}
use Rattle.space_bank.specs.Changes.{IsTaken}
use Rattle.kernel_forest.specs.Trees.{forest_of, node_tree, tree_in}
use Rattle.kernel_forest.proofs.Moves.{node_below, node_taken, owner_entry, never_taken}
use Rattle.seg_tree.proofs.leaf.tree_owner.Goals as goal

-- the owner of a node's entry tells the tree, and the entry of a node of a tree is taken
entry_told : (kernel : Kernel) (node : ℕ) (entry told : Entry NodeOwner) → entry ≡ entry_at kernel.node_entries node → entry ≡ told → (forest_of kernel).owner (NodeObject node) ≡ tree_in node_tree told
entry_told kernel node entry told is same = owner_entry kernel node ∙ ap (tree_in node_tree) (sym is ∙ same)

taken_told : (kernel : Kernel) (node : ℕ) (entry : Entry NodeOwner) → entry ≡ entry_at kernel.node_entries node → IsSome ((forest_of kernel).owner (NodeObject node)) → IsTaken entry
taken_told kernel node entry is owned = subst IsTaken (sym is) (node_taken kernel node owned)

pub node_entry-requires-clause-node : goal.node_entry-requires-clause-node
node_entry-requires-clause-node g c = node_below (kernel_of (g.T.Store.memory c.args.store.now)) c.args.node.0 c.requires.good c.requires.owned

pub returns-in-Taken : goal.returns-in-Taken
returns-in-Taken g c =
    entry_told (kernel_of (g.T.Store.memory c.args.store.now)) c.args.node.0 c.node_entry.result (Taken c.in-Taken.owner c.in-Taken.count) c.node_entry.ensures c.in-Taken.is

pub returns-in_default : goal.returns-in_default
returns-in_default g c =
    absurd (never_taken c.node_entry.result c.in_default.not-Taken (taken_told (kernel_of (g.T.Store.memory c.args.store.now)) c.args.node.0 c.node_entry.result c.node_entry.ensures c.requires.owned))
