use Rattle.std.proofs.Common.{◌≡◌, Some, None, refl, ap}
use Rattle.kn_base.specs.declared.key.Key.TheVariants.{Page}
use Rattle.forest.specs.Objects.{named}
use Rattle.kernel_tables.specs.Kernel.{kernel_of}
use Rattle.kernel_forest.proofs.Giving.{lets_nothing}
use Rattle.seg_tree.proofs.Children.{fits_tree}
use Rattle.seg_tree.proofs.Mapping.{trees_nothing, was_null, put_inside}
use Rattle.seg_tree.proofs.spaces.map_zero.Goals as goal

pub put_leaf-requires-clause-trees : goal.put_leaf-requires-clause-trees
put_leaf-requires-clause-trees g c =
    (c.requires.trees.0, trees_nothing (kernel_of (g.T.Store.memory c.args.store.now)) c.requires.trees.0 (Page (record { 0 = 0 }) c.args.writable) refl tt c.requires.trees.1)

pub put_leaf-requires-clause-owners : goal.put_leaf-requires-clause-owners
put_leaf-requires-clause-owners g c object h = let no : None ≡ Some object = h in cc

pub returns-clause-mapped : goal.returns-clause-mapped
returns-clause-mapped g c =
    let old = kernel_of (g.T.Store.memory c.args.store.now) in
    let new = kernel_of (g.T.Store.memory c.put_leaf.new.store) in
    let put = c.put_leaf.ensures.put in
    let null = was_null old new c.args.space.0.0 c.args.page (Page (record { 0 = 0 }) c.args.writable) c.put_leaf.result put c.requires.unmapped in
    record {
      changes = λ outside trees.
          put.after outside (trees_nothing old outside (Page (record { 0 = 0 }) c.args.writable) refl tt trees) new
          (lets_nothing new c.put_leaf.result (ap named null) (fits_tree 1 c.put_leaf.result put.leaf));
      filled = put.filled (λ e. cc);
      ways = put.ways;
      outside_now = put.outside_now;
      rows_now = put.rows_now;
      apart_now = put.apart_now;
      owners_now = put.owners_now;
      inside = put_inside old new c.args.space.0.0 c.args.page (Page (record { 0 = 0 }) c.args.writable) c.put_leaf.result put;
      rest = put.rest;
      most = put.most;
    }

pub returns-clause-own_way : goal.returns-clause-own_way
returns-clause-own_way g c = c.put_leaf.ensures.put.own

pub returns-clause-no_node : goal.returns-clause-no_node
returns-clause-no_node g c own = c.put_leaf.ensures.put.none own

pub returns-clause-blocks : goal.returns-clause-blocks
returns-clause-blocks g c = c.put_leaf.ensures.blocks
