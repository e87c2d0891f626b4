use Rattle.std.proofs.Common.{◌≡◌, true, false, ap}
use Rattle.forest.specs.Objects.{named}
use Rattle.seg_tree.proofs.Forms.{leaf_is}
use Rattle.seg_tree.proofs.checking.is_leaf.Goals as goal

pub returns-in-Segment-clause-leaf : goal.returns-in-Segment-clause-leaf
returns-in-Segment-clause-leaf c e = (let wrong : false ≡ true = e in cc)

pub returns-in-Segment-clause-node : goal.returns-in-Segment-clause-node
returns-in-Segment-clause-node c e = (c.in-Segment.id.0, ap named c.in-Segment.is)

pub returns-in_default-clause-leaf : goal.returns-in_default-clause-leaf
returns-in_default-clause-leaf c e = leaf_is c.args.key c.in_default.not-Segment

pub returns-in_default-clause-node : goal.returns-in_default-clause-node
returns-in_default-clause-node c e = (let wrong : true ≡ false = e in cc)
