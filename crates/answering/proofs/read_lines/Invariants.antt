-- `read_lines` reads line by line. Invariant: the whole output leaves what its rest leaves after the lines read. Assumes nothing.
use Prim.Native.Nat.{◌-◌}
use lib.ListN.{length}
use Rattle.answering.proofs.Lines.{Halfway}
use Rattle.answering.proofs.read_lines.Given as goal

abbrev pub invariant-loop-at : goal.invariant-loop-at
invariant-loop-at l = Halfway l.output l.initial.values l.reading l.values l.at

abbrev pub decreases-loop-at : goal.decreases-loop-at
decreases-loop-at l = length l.output - l.at
