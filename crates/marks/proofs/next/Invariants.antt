-- `next` goes from word to word. Invariant: the first mark from q on is that from p on. Assumes nothing.
use Prim.Native.Nat.{◌-◌}
use mathlib.Core.Path.{◌≡◌}
use Rattle.marks.specs.Marks.{next_mark}
use Rattle.marks.proofs.next.Given as goal

abbrev pub invariant-loop-q : goal.invariant-loop-q
invariant-loop-q l = next_mark l.marks l.p ≡ next_mark l.marks l.q

abbrev pub decreases-loop-q : goal.decreases-loop-q
decreases-loop-q l = 256 - l.q
