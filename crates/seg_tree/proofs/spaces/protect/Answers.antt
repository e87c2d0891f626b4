use Rattle.std.proofs.Common.{ℕ, Some, false, sym, subst, arith}
use Rattle.unix_model.specs.Tables.{with_at}
use Rattle.forest.specs.Walks.{map_of}
use Rattle.kernel_tables.specs.Kernel.{kernel_of}
use Rattle.kernel_forest.specs.Trees.{forest_of}
use Rattle.seg_tree.specs.Promises.{Remaps}
use Rattle.kernel_forest.proofs.Rest.{rest-nodes}
use Rattle.seg_tree.proofs.Replacing.{page_is, none_is, may_protect, raised_trees, raised_space, raised_owners, raised_way, protected_owned, protected_many, protected}
use Rattle.seg_tree.proofs.BlockCounts.{none_at_most, more_at_most}
use Rattle.seg_tree.proofs.spaces.protect.Goals as goal

pub raise_key-requires-clause-may : goal.raise_key-requires-clause-may
raise_key-requires-clause-may g c =
    may_protect (kernel_of (g.T.Store.memory c.args.store.now)) c.args.space.0.0 c.args.page c.in-Some.found.writable c.in-Some.found.page c.requires.good c.requires.page
    (sym c.in-Some.ensures.found) c.requires.trees.0 c.requires.trees.1

pub put_leaf-requires-clause-trees : goal.put_leaf-requires-clause-trees
put_leaf-requires-clause-trees g c = (
  c.requires.trees.0,
  raised_trees (kernel_of (g.T.Store.memory c.args.store.now)) c.args.space.0.0 c.args.page c.in-Some.found.writable c.in-Some.found.page c.requires.good c.requires.page
      (sym c.in-Some.ensures.found) (kernel_of (g.T.Store.memory c.raise_key.new.store)) c.requires.trees.0 c.requires.trees.1 c.raise_key.ensures.raised,
)

pub put_leaf-requires-clause-space : goal.put_leaf-requires-clause-space
put_leaf-requires-clause-space g c =
    raised_space (kernel_of (g.T.Store.memory c.args.store.now)) c.args.space.0.0 c.args.page c.in-Some.found.writable c.in-Some.found.page c.requires.good c.requires.page
    (sym c.in-Some.ensures.found) (kernel_of (g.T.Store.memory c.raise_key.new.store)) c.raise_key.ensures.raised c.args.space.0.0 c.requires.space

pub put_leaf-requires-clause-owners : goal.put_leaf-requires-clause-owners
put_leaf-requires-clause-owners g c =
    raised_owners (kernel_of (g.T.Store.memory c.args.store.now)) c.args.space.0.0 c.args.page c.in-Some.found.writable c.in-Some.found.page c.requires.good c.requires.page
    (sym c.in-Some.ensures.found) (kernel_of (g.T.Store.memory c.raise_key.new.store)) c.raise_key.ensures.raised c.requires.trees.0 c.requires.trees.1

pub put_leaf-requires-clause-room : goal.put_leaf-requires-clause-room
put_leaf-requires-clause-room g c =
    let number = c.raise_key.ensures.raised.steps.number in
    let nodes = rest-nodes (kernel_of (g.T.Store.memory c.args.store.now)) (kernel_of (g.T.Store.memory c.raise_key.new.store)) c.raise_key.ensures.raised.steps.rest in
    let room = c.requires.room in
    omega arith

pub lower_leaf-requires-clause-owned : goal.lower_leaf-requires-clause-owned
lower_leaf-requires-clause-owned g c = protected_owned (kernel_of (g.T.Store.memory c.args.store.now)) c.args.space.0.0 c.args.page c.in-Some.found.writable c.in-Some.found.page c.requires.good c.requires.page (sym c.in-Some.ensures.found) (kernel_of (g.T.Store.memory c.raise_key.new.store)) c.raise_key.ensures.raised (kernel_of (g.T.Store.memory c.put_leaf.new.store)) c.put_leaf.result c.put_leaf.ensures.put c.requires.trees.0 c.requires.trees.1

pub lower_leaf-requires-clause-shared : goal.lower_leaf-requires-clause-shared
lower_leaf-requires-clause-shared g c = protected_many (kernel_of (g.T.Store.memory c.args.store.now)) c.args.space.0.0 c.args.page c.in-Some.found.writable c.in-Some.found.page c.requires.good c.requires.page (sym c.in-Some.ensures.found) (kernel_of (g.T.Store.memory c.raise_key.new.store)) c.raise_key.ensures.raised (kernel_of (g.T.Store.memory c.put_leaf.new.store)) c.put_leaf.result c.put_leaf.ensures.put c.requires.trees.0 c.requires.trees.1

pub returns-in-Some-clause-protected : goal.returns-in-Some-clause-protected
returns-in-Some-clause-protected g c found is =
    let old = kernel_of (g.T.Store.memory c.args.store.now) in
    let new = kernel_of (g.T.Store.memory c.lower_leaf.new.store) in
    let pages = page_is (map_of (forest_of old).keys c.args.space.0.0 c.args.page) c.in-Some.found.writable c.in-Some.found.page.0 found c.in-Some.ensures.found is in
    subst (λ (number : ℕ). Remaps old new c.args.space.0.0 4 (with_at (map_of (forest_of old).keys c.args.space.0.0) c.args.page (Some (record { writable = false; page = number })))) pages
    (protected (kernel_of (g.T.Store.memory c.args.store.now)) c.args.space.0.0 c.args.page c.in-Some.found.writable c.in-Some.found.page c.requires.good c.requires.page (sym c.in-Some.ensures.found) (kernel_of (g.T.Store.memory c.raise_key.new.store)) c.raise_key.ensures.raised (kernel_of (g.T.Store.memory c.put_leaf.new.store)) c.put_leaf.result c.put_leaf.ensures.put c.requires.trees.0 c.requires.trees.1 new (c.lower_leaf.ensures.lowered c.in-Some.found.writable))

pub returns-in-None-clause-protected : goal.returns-in-None-clause-protected
returns-in-None-clause-protected g c found is =
    absurd (none_is (map_of (forest_of (kernel_of (g.T.Store.memory c.args.store.now))).keys c.args.space.0.0 c.args.page) found c.in-None.ensures.found is)

pub returns-in-Some-clause-no_node : goal.returns-in-Some-clause-no_node
returns-in-Some-clause-no_node g c own =
    let raised = c.raise_key.ensures.raised.steps.number in
    let put = c.put_leaf.ensures.put.none (raised_way (kernel_of (g.T.Store.memory c.args.store.now)) c.args.space.0.0 c.args.page c.in-Some.found.writable c.in-Some.found.page c.requires.good c.requires.page
    (sym c.in-Some.ensures.found) (kernel_of (g.T.Store.memory c.raise_key.new.store)) c.raise_key.ensures.raised c.requires.trees.0 c.requires.trees.1 c.args.space.0.0 c.args.page c.requires.space own) in
    let lowered = (c.lower_leaf.ensures.lowered c.in-Some.found.writable).steps.number in
    omega arith

pub returns-in-Some-clause-blocks : goal.returns-in-Some-clause-blocks
returns-in-Some-clause-blocks g c =
    more_at_most 87 (omega arith) c.raise_key.ensures.blocks (more_at_most 86 (omega arith) c.put_leaf.ensures.blocks c.lower_leaf.ensures.blocks)

pub returns-in-None-clause-blocks : goal.returns-in-None-clause-blocks
returns-in-None-clause-blocks g c = none_at_most 87
