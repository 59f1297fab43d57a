-- `put_tree` writes the left half's blocks, the right half's, then the node's own; the size falls at each call. Assumes nothing.
use Rattle.cnf.proofs.totalizer.+put_tree.Given as goal

abbrev pub decreases-put_tree : goal.decreases-put_tree
decreases-put_tree l = l.m
