-- `out_fault` names the first field out of its range. Assumes nothing.
use Prim.Native.Nat.{ℕ, ◌+◌, ◌-◌, ◌/◌, ◌≤◌}
use mathlib.Core.Bool.{Bool, true, false, cond}
use mathlib.Core.List.{List}
use native.Mathlib.Omega.{arith}
use lib.Dec.{leb, eqb}
use lib.ListN.{length}
use Rattle.model.specs.Sheet.{value_at, first_group}
use Rattle.line_fault.specs.declared.Head.{Head}
use Rattle.line_fault.specs.Fault.{first_judged, in_range, out_field, out_fault}
use Rattle.line_fault.proofs.Places.{first-bound}
use Rattle.line_fault.proofs.out_fault.Goals as goal

early : (h : Head) (done : ℕ) (l : List ℕ) → first_judged h done l ≤ 3
unfolding first_judged first_group
early h done l = go (eqb done 0) (leb done h.s) (eqb (value_at l 1) 6)
  where
    go : (a b c : Bool) → cond a 1 (cond b 2 (cond c 3 2)) ≤ 3
    go true b c = omega arith
    go false true c = omega arith
    go false false true = omega arith
    go false false false = omega arith

near : (h : Head) (done : ℕ) (l : List ℕ) → out_field h done l ≤ length l / 4 + 3
unfolding out_field
near h done l = omega (arith, early h done l, first-bound (in_range h done l) (first_judged h done l) (length l / 4 - first_judged h done l))

pub number_fault-requires : goal.number_fault-requires
number_fault-requires c = omega (arith, c.first_out-i.ensures, c.requires, near c.args.h c.args.done c.args.line.now)

pub returns : goal.returns
unfolding out_fault
returns c = rw (← c.first_out-i.ensures, ← c.field_range.ensures) c.number_fault.ensures
