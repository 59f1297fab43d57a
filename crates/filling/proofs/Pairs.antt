-- Laws of a constraint's X, told from its first two groups: that they are the X of the constraint among the first groups. Assumes nothing.
use mathlib.Core.Path.{◌≡◌, refl, sym, ap₂, ◌∙◌}
use mathlib.Core.Bool.{Bool, true, false, cond}
use mathlib.Core.List.{List, []}
use Prim.Native.Nat.{ℕ}
use native.Mathlib.Omega.{arith}
use borrow.Author.Tests.{eq-eqb, ne_eqb, eqb-true, eqb-false}
use lib.Bits.{bit_and, bit_or}
use lib.Dec.{T, eqb}
use lib.ListN.{get_or, take}
use Rattle.model.specs.declared.Group.{Group}
use Rattle.model.specs.declared.Constraint.{Constraint}
use Rattle.model.specs.Words.{less}
use Rattle.model.specs.Clauses.{is_difference}
use Rattle.model.specs.Model.{group_at, member_at, constraint_sized, constraint_in_range}
use Rattle.model.specs.Difference.{apart}
use Rattle.model.specs.Cnf.{either_open, differing}
use Rattle.model.specs.Solution.{set_of}
use Rattle.model.specs.Fill.{open_values, one_of, difference_values, values_of}
use Rattle.propagation_laws.proofs.Ranges.{not-seven-entrant}
use Rattle.difference.proofs.Groups.{differing-seven}
use Rattle.filling.specs.Parts.{pair_values}
use Rattle.filling.proofs.Draws.{two-own}
use Rattle.filling.proofs.Values.{differences-none, differences-are}

-- ---- as they are written

module _ (n : ℕ) (f g : Group) (d : List ℕ) (c : Constraint) where
  pub pair-none : (c.code ≡ 7 → ⊥) → values_of (pair_values n f g d c) ≡ []
  unfolding pair_values is_difference values_of
  pair-none other = rw (ne_eqb c.code 7 other)

  pub pair-are : c.code ≡ 7 → (o v w : ℕ) → o ≡ cond (eqb (apart f g) 0) (either_open f g) 0 → v ≡ set_of d (get_or c.groups 0 0)
      → w ≡ set_of d (get_or c.groups 1 0) → values_of (open_values n o (less (bit_or v w) (bit_and v w))) ≡ values_of (pair_values n f g d c)
  unfolding pair_values is_difference one_of
  pair-are seven o v w q a b = rw (eq-eqb c.code 7 seven, q, a, b)

-- ---- as the definition has them

module _ (n s : ℕ) (groups : List Group) (d : List ℕ) (c : Constraint) (t : T (constraint_in_range s c)) (sized : T (constraint_sized c)) where
  pub pair_is : (f g : Group) → f ≡ group_at (take s groups) (get_or c.groups 0 0) → g ≡ group_at (take s groups) (get_or c.groups 1 0)
      → values_of (pair_values n f g d c) ≡ values_of (difference_values n (take s groups) (take s d) c)
  unfolding member_at
  pair_is f g p q = go (eqb c.code 7) refl
    where
      go : (x : Bool) → eqb c.code 7 ≡ x → values_of (pair_values n f g d c) ≡ values_of (difference_values n (take s groups) (take s d) c)
      go true e =
          let seven = eqb-true c.code 7 e in
          let o = cond (eqb (apart f g) 0) (either_open f g) 0 in
          let both : o ≡ differing (take s groups) c = ap₂ (λ (x y : Group). cond (eqb (apart x y) 0) (either_open x y) 0) p q ∙ differing-seven (take s groups) c seven in
          sym (pair-are n f g d c seven o _ _ refl refl refl)
          ∙ differences-are n (take s groups) (take s d) c o _ _ both (two-own s d c t sized seven 0 (omega arith)) (two-own s d c t sized seven 1 (omega arith))
      go false e =
          let other = eqb-false c.code 7 e in
          pair-none n f g d c other ∙ sym (differences-none n (take s groups) (take s d) c (not-seven-entrant s c t other))
