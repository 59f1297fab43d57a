-- `put_tree` writes the left half, the right half, then the node itself; two leaves have no halves that write. Assumes nothing.
use lib.ListN.{length}
use Rattle.filling.proofs.+put_tree.Given as goal

abbrev pub decreases-put_tree : goal.decreases-put_tree
decreases-put_tree l = length l.leaves.now
