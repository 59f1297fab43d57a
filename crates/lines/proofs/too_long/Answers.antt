-- `too_long` looks at the first byte. Assumes nothing.
use Prim.Native.Nat.{ℕ}
use mathlib.Core.Path.{◌≡◌, refl}
use mathlib.Core.List.{List, [], ◌∷◌}
use native.Mathlib.Omega.{arith}
use borrow.Author.Tests.{ne_eqb}
use lib.ListN.{length}
use Rattle.model.specs.Assignment.{is_passed_over}
use Rattle.lines.specs.Cut.{too_long}
use Rattle.lines.proofs.too_long.Goals as goal

empty : (kept : List ℕ) → length kept ≡ 0 → 24 ≡ too_long kept
unfolding too_long is_passed_over
empty [] e = refl
empty (b ∷ bs) e = absurd (omega arith)

pub returns-then-line-eq0 : goal.returns-then-line-eq0
returns-then-line-eq0 c = empty _ c.if-line-eq0.true

pub returns-then-line-eq99 : goal.returns-then-line-eq99
unfolding too_long is_passed_over
returns-then-line-eq99 c = rw c.if-line-eq99.true

pub returns-then-line-eq115 : goal.returns-then-line-eq115
unfolding too_long is_passed_over
returns-then-line-eq115 c = rw c.if-line-eq115.true

pub returns : goal.returns
unfolding too_long is_passed_over
returns c = rw (ne_eqb _ _ c.if-line-eq99.false, ne_eqb _ _ c.if-line-eq115.false)
