-- `take_piece` feeds part after part. Invariant: the whole piece gives what its rest gives after the bytes used. Assumes nothing.
use Prim.Native.Nat.{◌-◌}
use mathlib.Core.Path.{◌≡◌}
use lib.ListN.{length}
use Rattle.lines.specs.Cut.{cutting}
use Rattle.lines.proofs.Lines.{Part}
use Rattle.solver_output.proofs.take_piece.Given as goal

abbrev pub invariant-loop-at : goal.invariant-loop-at
invariant-loop-at l =
    Part l.piece (cutting l.initial.state l.initial.space l.initial.values) (cutting l.state l.space l.values) l.at × (length l.space ≡ length l.initial.space) × (length l.values ≡ length l.initial.values)

abbrev pub decreases-loop-at : goal.decreases-loop-at
decreases-loop-at l = length l.piece - l.at
