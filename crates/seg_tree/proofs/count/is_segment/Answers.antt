use Rattle.seg_tree.proofs.Counting.{ends_below, none_below}
use Rattle.seg_tree.proofs.count.is_segment.Goals as goal

pub returns-in_default : goal.returns-in_default
returns-in_default c = λ other keys levels some. none_below keys c.args.key levels (ends_below keys c.args.key c.in_default.not-Segment) some
