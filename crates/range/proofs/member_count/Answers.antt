-- `member_count` is the number of a code's groups. Assumes nothing.
use Prim.Native.Nat.{ℕ}
use mathlib.Core.Path.{sym}
use mathlib.Core.List.{[], ◌∷◌}
use lib.ListN.{get_or-eq_default}
use Rattle.model.specs.Clauses.{member_count}
use borrow.Author.Tests.{eq-eqb, ne_eqb}
use Rattle.range.proofs.member_count.Goals as goal

pub returns-then-code-eq6 : goal.returns-then-code-eq6
unfolding member_count
returns-then-code-eq6 c = simp (eq-eqb _ _ c.if-code-eq6.true)

pub returns-then-code-lt8 : goal.returns-then-code-lt8
unfolding member_count
returns-then-code-lt8 c = simp (ne_eqb _ _ c.if-code-eq6.false)

pub returns : goal.returns
unfolding member_count
returns c = rw (ne_eqb _ _ c.if-code-eq6.false) (sym (get_or-eq_default {A = ℕ} (0 ∷ 2 ∷ 2 ∷ 3 ∷ 3 ∷ 3 ∷ 0 ∷ 2 ∷ []) 0 c.if-code-lt8.false))
