-- `decimal` gives the number that digits stand for. Invariant: it is the number of the digits from the next on, after v. Assumes nothing.
use Prim.Native.Nat.{◌<◌, ◌^◌}
use mathlib.Core.Path.{◌≡◌}
use lib.ListN.{drop}
use Rattle.model.specs.Sheet.{digits_after}
use Rattle.model.proofs.decimal.Given as goal

abbrev pub invariant-loop-b : goal.invariant-loop-b
invariant-loop-b l = (l.v < 10 ^ l.b-index) × (digits_after 0 l.d ≡ digits_after l.v (drop l.b-index l.d))
