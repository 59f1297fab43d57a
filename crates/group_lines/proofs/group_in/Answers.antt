-- `group_in` gives the number before a word's colon. Assumes nothing.
use Prim.Native.Nat.{ℕ}
use mathlib.Core.Path.{◌≡◌, refl}
use mathlib.Core.List.{List, [], ◌∷◌}
use native.Mathlib.Omega.{arith}
use borrow.Author.Tests.{eq-eqb, ne_eqb}
use lib.ListN.{length, length-take}
use Rattle.group_lines.specs.Lines.{group_in}
use Rattle.group_lines.proofs.group_in.Goals as goal

empty : (w : List ℕ) → length w ≡ 0 → 0 ≡ group_in w
unfolding group_in
empty [] e = refl
empty (b ∷ bs) e = absurd (omega arith)

pub returns-then-n-eq0 : goal.returns-then-n-eq0
returns-then-n-eq0 c = empty c.args.w.now c.if-n-eq0.true

pub returns-then-w-n-ne58 : goal.returns-then-w-n-ne58
unfolding group_in
returns-then-w-n-ne58 c = rw (ne_eqb _ _ c.if-w-n-ne58.true)

pub slice_bounds-number_in-length : goal.slice_bounds-number_in-length
slice_bounds-number_in-length c = simp length-take (omega arith)

pub returns : goal.returns
unfolding group_in
returns c = rw (eq-eqb _ _ c.if-w-n-ne58.false) c.number_in.ensures
