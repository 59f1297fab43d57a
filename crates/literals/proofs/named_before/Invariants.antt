-- `named_before` looks for a variable among the first literals. Invariant: the answer is that of the literals still to be looked at. Assumes nothing.
use Prim.Native.Nat.{◌≤◌, ◌-◌}
use mathlib.Core.Path.{◌≡◌}
use lib.ListN.{length, take, drop}
use Rattle.model.specs.Assignment.{words_of}
use Rattle.literals.specs.Line.{named, names?}
use Rattle.literals.proofs.named_before.Given as goal

abbrev pub invariant-loop-i : goal.invariant-loop-i
invariant-loop-i l = (l.at ≤ length l.s) × (l.i ≤ l.count) × (names? l.v (take l.count (named (words_of l.s))) ≡ names? l.v (take (l.count - l.i) (named (words_of (drop l.at l.s)))))

abbrev pub decreases-loop-i : goal.decreases-loop-i
decreases-loop-i l = l.count - l.i
