-- `variable_in` gives the variable that digits name. Assumes nothing.
use mathlib.Core.Path.{◌≡◌, refl}
use Rattle.std.specs.Prelude.{Option, None}
use mathlib.Core.List.{List, [], ◌∷◌}
use mathlib.Core.Bool.{Bool, true, false, cond, ◌&&◌}
use Prim.Native.Nat.{ℕ, ◌≤◌}
use lib.ListN.{length, get_or}
use lib.Dec.{leb, ltb}
use Rattle.model.specs.Sheet.{digits_after, number_of}
use Rattle.model.specs.Assignment.{variable_in}
use native.Mathlib.Omega.{arith}
use borrow.Author.Tests.{le-leb, lt-leb, eq-eqb, ne_eqb}
use Rattle.line_form.proofs.variable_in.Goals as goal

empty : (l : List ℕ) → length l ≡ 0 → None ≡ variable_in l
unfolding variable_in number_of
empty [] e = refl
empty (b ∷ bs) e = absurd (omega arith)

counted : (l : List ℕ) (o : Option ℕ) → (length l ≡ 0 → ⊥) → length l ≤ 9 → (get_or l 0 0 ≡ 48 → ⊥) → o ≡ cond (leb (length l) 9) (digits_after 0 l) None
    → o ≡ variable_in l
unfolding variable_in number_of
counted l o z h f e =
    rw (e, le-leb (length l) 9 h, ne_eqb (get_or l 0 0) 48 f, ne_eqb (length l) 0 z) (rest (ltb 1 (length l)))
  where
    rest : (b : Bool) → digits_after 0 l ≡ cond (b && false) None (digits_after 0 l)
    rest true = refl
    rest false = refl

pub returns-then-n-eq0 : goal.returns-then-n-eq0
returns-then-n-eq0 c = empty c.args.d.now c.if-n-eq0.true

pub returns-then-n-gt9 : goal.returns-then-n-gt9
unfolding variable_in number_of
returns-then-n-gt9 c = simp (lt-leb _ _ c.if-n-gt9.true)

pub returns-then-d-eq48 : goal.returns-then-d-eq48
unfolding variable_in number_of
returns-then-d-eq48 c = simp (le-leb _ _ c.if-n-gt9.false, eq-eqb _ _ c.if-d-eq48.true)

pub returns : goal.returns
returns c = counted c.args.d.now c.decimal.result c.if-n-eq0.false c.if-n-gt9.false c.if-d-eq48.false c.decimal.ensures
