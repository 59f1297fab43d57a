-- `read_entrants` reads entrant after entrant. Invariant: the whole line gives what its rest gives after the entrants read. Assumes nothing.
use Prim.Native.Nat.{◌-◌}
use lib.ListN.{length}
use Rattle.group_lines.proofs.Entrants.{Halfway}
use Rattle.group_lines.proofs.read_entrants.Given as goal

abbrev pub invariant-loop-at : goal.invariant-loop-at
invariant-loop-at l = Halfway l.line l.start l.n l.word l.at

abbrev pub decreases-loop-at : goal.decreases-loop-at
decreases-loop-at l = length l.line - l.at
