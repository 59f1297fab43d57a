-- `tree_holds` judges left half, right half, then the node's own outputs; the size falls at each call. Assumes nothing.
use Rattle.solution.proofs.group_clauses.+tree_holds.Given as goal

abbrev pub decreases-tree_holds : goal.decreases-tree_holds
decreases-tree_holds l = l.m
