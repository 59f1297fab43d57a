-- `constraint_count` judges the number of fields, the code, the count. Assumes nothing.
use Prim.Native.Nat.{ℕ, ◌≤◌}
use mathlib.Core.Path.{◌≡◌, sym, ◌∙◌}
use mathlib.Core.Bool.{Bool, true, false, cond}
use lib.Dec.{eqb}
use native.Mathlib.Omega.{arith}
use borrow.Author.Tests.{le-leb, lt-leb, lt-ltb, le-ltb}
use Rattle.model.specs.Sheet.{first_group, group_count}
use Rattle.model.proofs.Lists.{true-T}
use Rattle.model.proofs.Codes.{member-bound}
use Rattle.line_fault.specs.Fault.{constraint_count}
use Rattle.line_fault.proofs.constraint_count.Goals as goal

-- a constraint's groups begin in the fourth field at the latest
early : (code a : ℕ) → a ≡ cond (eqb code 6) 3 2 → a ≤ 3
early code a e = go (eqb code 6) e
  where
    go : (b : Bool) → a ≡ cond b 3 2 → a ≤ 3
    go true e = omega arith
    go false e = omega arith

pub returns-then-has-lt4 : goal.returns-then-has-lt4
unfolding constraint_count
returns-then-has-lt4 c = rw (lt-ltb _ _ c.if-has-lt4.true)

pub returns-then-code-lt1 : goal.returns-then-code-lt1
unfolding constraint_count
returns-then-code-lt1 c = rw (le-ltb _ _ c.if-has-lt4.false, ← c.value-code.ensures, lt-leb _ _ c.if-code-lt1.true, ← c.bounds.ensures) c.number_fault.ensures

pub returns-then-code-gt7 : goal.returns-then-code-gt7
unfolding constraint_count
returns-then-code-gt7 c = rw (le-ltb _ _ c.if-has-lt4.false, ← c.value-code.ensures, le-leb _ _ c.if-code-lt1.false, lt-leb _ _ c.if-code-gt7.true, ← c.bounds-then-code-gt7.ensures) c.number_fault-then-code-gt7.ensures

pub returns-then-not-code_in_range : goal.returns-then-not-code_in_range
unfolding constraint_count
returns-then-not-code_in_range c = rw (le-ltb _ _ c.if-has-lt4.false, ← c.value-code.ensures, le-leb _ _ c.if-code-lt1.false, le-leb _ _ c.if-code-gt7.false, ← c.count_from-count.ensures, ← c.code_in_range.ensures, c.if-not-code_in_range.true-raw, ← c.bounds-then-not-code_in_range.ensures) c.number_fault-then-not-code_in_range.ensures

pub overflow_add-must : goal.overflow_add-must
overflow_add-must c = let m = member-bound c.value-code.result c.count_from-count.result (true-T _ (sym c.code_in_range.ensures ∙ c.if-not-code_in_range.false)) in
    omega (arith, c.member_count.ensures, m, early c.value-code.result c.first_group.result c.first_group.ensures)

pub overflow_cast-must : goal.overflow_cast-must
overflow_cast-must c = let m = member-bound c.value-code.result c.count_from-count.result (true-T _ (sym c.code_in_range.ensures ∙ c.if-not-code_in_range.false)) in
    omega (arith, c.member_count.ensures, m, early c.value-code.result c.first_group.result c.first_group.ensures)

pub returns : goal.returns
unfolding constraint_count first_group group_count
returns c = rw (le-ltb _ _ c.if-has-lt4.false, ← c.value-code.ensures, le-leb _ _ c.if-code-lt1.false, le-leb _ _ c.if-code-gt7.false, ← c.count_from-count.ensures, ← c.code_in_range.ensures, c.if-not-code_in_range.false-raw, ← c.first_group.ensures, ← c.member_count.ensures)
