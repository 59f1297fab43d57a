-- `constraints_hold` judges the first c constraints. Invariant: the test of all is the test of those from j on. Assumes nothing.
use mathlib.Core.Path.{◌≡◌}
use Prim.Native.Nat.{◌-◌}
use lib.ListN.{take}
use Rattle.std.specs.List.{list_all}
use Rattle.model.specs.Lists.{range}
use Rattle.model.specs.Close.{assignment_of}
use Rattle.solution.specs.Holds.{constraint_holds_at}
use Rattle.solution.proofs.constraints_hold.Given as goal

abbrev pub invariant-loop-j : goal.invariant-loop-j
invariant-loop-j l =
    let p = constraint_holds_at (assignment_of l.values) (take l.s l.groups) (take l.c l.constraints) l.words l.n in
    list_all p (range 0 l.c) ≡ list_all p (range l.j (l.c - l.j))
