use Rattle.std.proofs.Common.{◌∷◌, [], sym, subst}
use Rattle.kn_base.specs.declared.key.Key.{Key}
use Rattle.kernel_tables.specs.Kernel.{kernel_of}
use Rattle.kernel_forest.specs.Releases.{InHand, Lets}
use Rattle.kernel_forest.proofs.Giving.{lets_nothing}
use Rattle.seg_tree.proofs.Children.{fits_tree}
use Rattle.seg_tree.proofs.Mapping.{leaf_or_null}
use Rattle.seg_tree.proofs.BlockCounts.{none_at_most}
use Rattle.seg_tree.proofs.release.release_leaf.Goals as goal

pub release_page-requires-clause-hand : goal.release_page-requires-clause-hand
release_page-requires-clause-hand g c = subst (λ (key : Key). InHand (kernel_of (g.T.Store.memory c.args.store.now)) (key ∷ [])) c.in-Page.is c.requires.hand

pub returns-in-Page-clause-released : goal.returns-in-Page-clause-released
returns-in-Page-clause-released g c =
    subst (λ (key : Key). Lets (kernel_of (g.T.Store.memory c.args.store.now)) (kernel_of (g.T.Store.memory c.release_page.new.store)) (key ∷ []) []) (sym c.in-Page.is) c.release_page.ensures.released

pub returns-in_default-clause-released : goal.returns-in_default-clause-released
returns-in_default-clause-released g c =
    lets_nothing (kernel_of (g.T.Store.memory c.args.store.now)) c.args.key (leaf_or_null c.args.key c.requires.leaf c.in_default.not-Page) (fits_tree 1 c.args.key c.requires.leaf)

pub returns-in-Page-clause-blocks : goal.returns-in-Page-clause-blocks
returns-in-Page-clause-blocks g c = c.release_page.ensures.blocks

pub returns-in_default-clause-blocks : goal.returns-in_default-clause-blocks
returns-in_default-clause-blocks g c = none_at_most 3
