-- `put_back` puts bytes back to their places. Invariant: the other bytes are still to be put back. Assumes nothing.
use mathlib.Core.Path.{◌≡◌}
use Rattle.literals.specs.Line.{put_back}
use Rattle.literals.proofs.put_back.Given as goal

abbrev pub invariant-loop-i : goal.invariant-loop-i
invariant-loop-i l = put_back l.count l.places l.bytes l.initial.values ≡ put_back l.i l.places l.bytes l.values
