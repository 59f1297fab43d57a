-- The values of an assignment, and the assignment of values. Assumes nothing.
use mathlib.Core.Path.{◌≡◌, refl, ap, ap₂}
use Prim.Native.Nat.{ℕ, zero, suc}
use native.Mathlib.Omega.{arith}
use mathlib.Core.Bool.{Bool, true, false}
use mathlib.Core.List.{List, [], ◌∷◌, ◌++◌}
use lib.Dec.{T, eqb}
use lib.ListN.{length, length-map}
use Rattle.std.specs.List.{list_all}
use Rattle.model.specs.Assignment.{is_said}
use Rattle.model.specs.Close.{assignment_of}
use Rattle.model.specs.Fill.{value_of, values_of}
use Rattle.model.proofs.Lists.{and_left, and_right, between_le}

pub values-count : (a : List Bool) → length (values_of a) ≡ length a
unfolding values_of
values-count a = length-map a value_of

pub values-append : (a b : List Bool) → values_of (a ++ b) ≡ values_of a ++ values_of b
unfolding values_of
values-append [] b = refl
values-append (x ∷ a) b = ap (λ (l : List ℕ). value_of x ∷ l) (values-append a b)

pub values-said : (a : List Bool) → T (list_all is_said (values_of a))
unfolding values_of is_said
values-said [] = tt
values-said (true ∷ a) = values-said a
values-said (false ∷ a) = values-said a

pub values_assign : (a : List Bool) → assignment_of (values_of a) ≡ a
unfolding values_of assignment_of
values_assign [] = refl
values_assign (true ∷ a) = ap (λ (l : List Bool). true ∷ l) (values_assign a)
values_assign (false ∷ a) = ap (λ (l : List Bool). false ∷ l) (values_assign a)

pub assigned_values : (values : List ℕ) → T (list_all is_said values) → values_of (assignment_of values) ≡ values
unfolding values_of assignment_of is_said
assigned_values [] t = refl
assigned_values (x ∷ xs) t =
    ap₂ (λ (y : ℕ) (ys : List ℕ). y ∷ ys) (one x (and_left (is_said x) (list_all is_said xs) t)) (assigned_values xs (and_right (is_said x) (list_all is_said xs) t))
  where
    one : (x : ℕ) → T (is_said x) → value_of (eqb x 1) ≡ x
    one zero t = absurd t
    one (suc zero) t = refl
    one (suc (suc zero)) t = refl
    one (suc (suc (suc x))) t = let h = (between_le 1 2 (suc (suc (suc x))) t).1 in absurd (omega arith)
