-- `read_groups` reads line by line. Invariant: the whole text gives what its rest gives after the groups read. Assumes nothing.
use Prim.Native.Nat.{◌-◌}
use lib.ListN.{length}
use Rattle.group_lines.proofs.Lines.{Halfway}
use Rattle.group_lines.proofs.read_groups.Given as goal

abbrev pub invariant-loop-at : goal.invariant-loop-at
invariant-loop-at l = Halfway l.text l.entrants l.count l.groups l.done l.at

abbrev pub decreases-loop-at : goal.decreases-loop-at
decreases-loop-at l = length l.text - l.at
