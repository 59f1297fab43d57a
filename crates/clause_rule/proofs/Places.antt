-- What making a literal true leaves as it is, and what is read of a table that four lists make. Assumes nothing.
use mathlib.Core.Path.{◌≡◌, refl, sym, ap, ◌∙◌}
use Prim.Native.Nat.{ℕ, zero, suc, ◌-◌, ◌≤◌, ◌<◌}
use native.Mathlib.Decide.{dec_lt}
use native.Mathlib.Omega.{arith}
use mathlib.Core.List.{List, [], ◌∷◌}
use lib.Bits.{bit_or}
use lib.ListN.{length, get_or, get_or-eq_default}
use Rattle.model.specs.declared.Literal.{Literal}
use Rattle.model.specs.declared.Literal.TheVariants.{Pos, Neg}
use Rattle.model.specs.declared.Group.{Group}
use Rattle.model.specs.Limits.{limits}
use Rattle.model.specs.Lists.{on_place}
use Rattle.model.specs.Words.{less}
use Rattle.model.specs.Model.{zero_group, group_at}
use Rattle.model.specs.Propagate.{fixed_with, possible_without, made_true}
use Rattle.table.specs.Table.{group, zipped, Whole}
use Rattle.table.proofs.Fields.{zipped-at}
use Rattle.model.proofs.Words.{bit-zero, bit-or, bit-less, bit_ext}

-- fixing takes nobody out of the possible ones
pub possible-kept : (w g h : ℕ) (t : List Group) → (group_at (made_true (Pos g) w t) h).possible ≡ (group_at t h).possible
unfolding made_true group_at fixed_with
possible-kept w g h t = go (g - 1) (h - 1) t
  where
    go : (i j : ℕ) (t : List Group) → (get_or (on_place i (fixed_with w) t) j zero_group).possible ≡ (get_or t j zero_group).possible
    go i j [] = refl
    go zero zero (x ∷ t) = refl
    go zero (suc j) (x ∷ t) = refl
    go (suc i) zero (x ∷ t) = refl
    go (suc i) (suc j) (x ∷ t) = go i j t

place_still : (i : ℕ) (r : Group → Group) (t : List Group) → ((g : Group) → r g ≡ g) → on_place i r t ≡ t
place_still i r [] e = refl
place_still zero r (x ∷ t) e = ap {B = List Group} (λ y. y ∷ t) (e x)
place_still (suc i) r (x ∷ t) e = ap {B = List Group} (λ u. x ∷ u) (place_still i r t e)

-- making a literal true for nobody changes nothing
pub made_none : (l : Literal) (t : List Group) → made_true l 0 t ≡ t
unfolding made_true fixed_with possible_without
made_none (Pos g) t =
    place_still (g - 1) (fixed_with 0) t
    (λ x. ap (λ (f : ℕ). record { fixed = f; possible = x.possible; low = x.low; high = x.high }) (bit_ext (bit_or x.fixed 0) x.fixed (λ e. omega (arith, bit-or e x.fixed 0, bit-zero e))))
made_none (Neg g) t =
    place_still (g - 1) (possible_without 0) t
    (λ x. ap (λ (p : ℕ). record { fixed = x.fixed; possible = p; low = x.low; high = x.high }) (bit_ext (less x.possible 0) x.possible (λ e. omega (arith, bit-less e x.possible 0, bit-zero e))))

-- ---- what is read of a table that four lists make

module _ (f p l h : List ℕ) (k : Whole (zipped f p l h)) (g : ℕ) where
  there : g - 1 < limits.groups → group_at (zipped f p l h) g ≡ group (get_or f (g - 1) 0) (get_or p (g - 1) 0) (get_or l (g - 1) 0) (get_or h (g - 1) 0)
  unfolding group_at
  there s = zipped-at f p l h (g - 1) (omega arith)

  past : limits.groups ≤ g - 1 → group_at (zipped f p l h) g ≡ zero_group
  unfolding group_at
  past s = get_or-eq_default (zipped f p l h) zero_group (omega arith)

  pub fixed-at : length f ≡ limits.groups → (group_at (zipped f p l h) g).fixed ≡ get_or f (g - 1) 0
  unfolding zero_group
  fixed-at n =
      elim (dec_lt (g - 1) limits.groups) [
        | yes s ↦ ap (λ (x : Group). x.fixed) (there s)
        | no s ↦ ap (λ (x : Group). x.fixed) (past (omega arith)) ∙ sym (get_or-eq_default f 0 (omega arith))
      ]

  pub possible-at : length p ≡ limits.groups → (group_at (zipped f p l h) g).possible ≡ get_or p (g - 1) 0
  unfolding zero_group
  possible-at n =
      elim (dec_lt (g - 1) limits.groups) [
        | yes s ↦ ap (λ (x : Group). x.possible) (there s)
        | no s ↦ ap (λ (x : Group). x.possible) (past (omega arith)) ∙ sym (get_or-eq_default p 0 (omega arith))
      ]
