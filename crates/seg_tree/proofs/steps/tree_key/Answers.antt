use Rattle.std.proofs.Common.{◌≡◌, ◌<◌, ◌+◌, ◌*◌, ℕ, sym, ◌∙◌}
use Rattle.std.specs.Option.{IsSome}
use Rattle.kn_base.specs.declared.key.Key.{Key}
use Rattle.kernel_tables.specs.Kernel.{Kernel, kernel_of}
use Rattle.kernel_tables.specs.Rows.{key_table}
use Rattle.unix_model.specs.Tables.{at}
use Rattle.forest.specs.Objects.{NodeObject}
use Rattle.forest.specs.Walks.{place_of}
use Rattle.kernel_forest.specs.Trees.{forest_of}
use Rattle.kernel_forest.proofs.Moves.{node_below, tree_place}
use Rattle.seg_tree.proofs.steps.tree_key.Goals as goal

-- the key that is spelled at a place of a node of a tree is the one that stands there
key_there : (kernel : Kernel) (node digit : ℕ) (key : Key) → IsSome ((forest_of kernel).owner (NodeObject node)) → digit < 16 → key ≡ key_table kernel.keys (16 * node + digit)
    → key ≡ at (forest_of kernel).keys (place_of node digit)
key_there kernel node digit key owned below is = is ∙ sym (tree_place kernel node digit owned below)

pub spelled_key-requires-clause-node : goal.spelled_key-requires-clause-node
spelled_key-requires-clause-node g c = node_below (kernel_of (g.T.Store.memory c.args.store.now)) c.args.node.0 c.requires.good c.requires.owned

pub returns : goal.returns
returns g c = key_there (kernel_of (g.T.Store.memory c.args.store.now)) c.args.node.0 c.args.digit c.spelled_key.result c.requires.owned c.requires.digit c.spelled_key.ensures
