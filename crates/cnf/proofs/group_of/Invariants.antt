-- `group_of` halves the groups until one is left. Invariant: the block is not before the lower group, nor past the upper one's first. Assumes nothing.
use Prim.Native.Nat.{◌-◌, ◌≤◌, ◌<◌}
use lib.ListN.{get_or}
use Rattle.cnf.proofs.group_of.Given as goal

abbrev pub invariant-loop-low : goal.invariant-loop-low
invariant-loop-low l =
    (l.low < l.high) × (l.high ≤ l.s) × (get_or l.first l.low 0 ≤ l.b) × (l.high < l.s → l.b < get_or l.first l.high 0)

abbrev pub decreases-loop-low : goal.decreases-loop-low
decreases-loop-low l = l.high - l.low
