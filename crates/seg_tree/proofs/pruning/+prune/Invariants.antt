use Rattle.seg_tree.proofs.pruning.+prune.Given as goal

abbrev pub decreases-prune : goal.decreases-prune
decreases-prune g l = l.levels
