-- `list` ends: each run moves on. What it writes is compared with stored output. Assumes nothing.
use mathlib.Core.Path.{◌≡◌}
use Prim.Native.Nat.{◌+◌, ◌-◌}
use lib.ListN.{length}
use Rattle.write_cnf.proofs.list.Given as goal

abbrev pub invariant-loop-b : goal.invariant-loop-b
invariant-loop-b l = length l.piece ≡ 524288

abbrev pub decreases-loop-b : goal.decreases-loop-b
decreases-loop-b l = l.last + 1 - l.b
