-- `number_length` takes one digit away at a time. Assumes nothing.
use mathlib.Core.Path.{◌≡◌}
use Prim.Native.Nat.{◌+◌}
use lib.ListN.{length}
use Rattle.model.specs.Text.{decimal}
use Rattle.text.proofs.number_length.Given as goal

abbrev pub invariant-loop-x : goal.invariant-loop-x
invariant-loop-x l = l.k + length (decimal l.x) ≡ length (decimal l.v) + 1

abbrev pub decreases-loop-x : goal.decreases-loop-x
decreases-loop-x l = l.x
