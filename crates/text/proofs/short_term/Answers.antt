-- `short_term`: a term that is known has no text; one that is open its digits, a space, and a minus sign. Assumes nothing.
use native.Mathlib.Omega.{arith}
use Rattle.text.proofs.Numbers.{pos-length, neg-length}
use Rattle.text.proofs.short_term.Goals as goal

pub returns-in-Open-Pos : goal.returns-in-Open-Pos
returns-in-Open-Pos c = omega (arith, pos-length c.in-Open-Pos.is (rw c.in-Open-Pos.is at c.in-Open-Pos.field-0-is))

pub returns-in-Open-Neg : goal.returns-in-Open-Neg
returns-in-Open-Neg c = omega (arith, neg-length c.in-Open-Neg.is (rw c.in-Open-Neg.is at c.in-Open-Neg.field-0-is))
