-- A group of the first of an array, and the two groups of a code 7 constraint. Assumes nothing.
use mathlib.Core.Path.{◌≡◌, refl, sym, ap, ap₂, ◌∙◌}
use mathlib.Core.Bool.{Bool, true, false, cond, not, ◌&&◌}
use mathlib.Core.List.{List}
use Prim.Native.Nat.{ℕ, ◌-◌, ◌≤◌, ◌<◌}
use native.Mathlib.Omega.{arith}
use borrow.Author.Tests.{eq-eqb, ltb-true, ltb-false}
use lib.Dec.{eqb, ltb}
use lib.ListN.{length, get_or, take, length-take, get_or-eq_default}
use lib.Seq.{get_or-take}
use Rattle.model.specs.declared.Group.{Group}
use Rattle.model.specs.declared.Constraint.{Constraint}
use Rattle.model.specs.Limits.{limits}
use Rattle.model.specs.Clauses.{is_difference}
use Rattle.model.specs.Model.{zero_group, group_at, member_at}
use Rattle.model.specs.Difference.{apart, is_apart}
use Rattle.model.specs.Cnf.{either_open, is_open_difference, differing}
use Rattle.difference.specs.Pair.{member_of, apart_of, differing_of}

-- ---- a group

pub no-group : (t : List Group) (g i : ℕ) → i ≡ g - 1 → length t ≤ i → zero_group ≡ group_at t g
unfolding group_at
no-group t g i e h = sym (get_or-eq_default t zero_group {n = g - 1} (omega arith))

pub group_in_lem : (t : List Group) (s g i : ℕ) → i ≡ g - 1 → i < s → get_or t i zero_group ≡ group_at (take s t) g
unfolding group_at
group_in_lem t s g i e h = sym (get_or-take s t i zero_group h) ∙ ap (λ (k : ℕ). get_or (take s t) k zero_group) e

-- what stands at the index of group g is it, where it is one of the first s
pub member_is : (t : List Group) (s g a : ℕ) → length t ≡ limits.groups → a ≡ cond (ltb (g - 1) limits.groups) (g - 1) 0 → member_of s g (get_or t a zero_group) ≡ group_at (take s t) g
unfolding member_of
member_is t s g a l e = go (ltb (g - 1) s) (ltb (g - 1) limits.groups) refl refl
  where
    go : (x y : Bool) → ltb (g - 1) s ≡ x → ltb (g - 1) limits.groups ≡ y
        → cond (ltb (g - 1) s && ltb (g - 1) limits.groups) (get_or t a zero_group) zero_group ≡ group_at (take s t) g
    go true true p q = rw (p, q) (group_in_lem t s g a (e ∙ ap (λ (b : Bool). cond b (g - 1) 0) q) (omega (arith, ltb-true (g - 1) s p, e ∙ ap (λ (b : Bool). cond b (g - 1) 0) q)))
    go true false p q = rw (p, q) (no-group (take s t) g (g - 1) refl (omega (arith, length-take s t, l, ltb-false (g - 1) limits.groups q)))
    go false y p q = rw p (no-group (take s t) g (g - 1) refl (omega (arith, length-take s t, ltb-false (g - 1) s p)))

-- ---- a constraint

module _ (t : List Group) (c : Constraint) where
  pub apart-is : apart_of c (member_at t c 0) (member_at t c 1) ≡ is_apart t c
  unfolding apart_of is_apart is_difference
  apart-is = refl

  pub differing-is : differing_of c (member_at t c 0) (member_at t c 1) ≡ differing t c
  unfolding differing_of differing is_open_difference is_apart is_difference
  differing-is = go (eqb c.code 7) (eqb (apart (member_at t c 0) (member_at t c 1)) 0)
    where
      go : (x y : Bool) → cond x (cond y (either_open (member_at t c 0) (member_at t c 1)) 0) 0
          ≡ cond (x && not (x && not y)) (either_open (member_at t c 0) (member_at t c 1)) 0
      go true true = refl
      go true false = refl
      go false y = refl

  pub differing-seven : c.code ≡ 7 → cond (eqb (apart (member_at t c 0) (member_at t c 1)) 0) (either_open (member_at t c 0) (member_at t c 1)) 0 ≡ differing t c
  unfolding differing_of
  differing-seven e = sym (ap (λ (b : Bool). cond b (cond (eqb (apart (member_at t c 0) (member_at t c 1)) 0) (either_open (member_at t c 0) (member_at t c 1)) 0) 0) (eq-eqb c.code 7 e)) ∙ differing-is

-- the same, told from what stands at the indexes of its first two groups
module _ (t : List Group) (s : ℕ) (c : Constraint) (l : length t ≡ limits.groups) (a b : ℕ)
    (p : a ≡ cond (ltb (get_or c.groups 0 0 - 1) limits.groups) (get_or c.groups 0 0 - 1) 0) (q : b ≡ cond (ltb (get_or c.groups 1 0 - 1) limits.groups) (get_or c.groups 1 0 - 1) 0)
    (f g : Group) (is_f : f ≡ member_of s (get_or c.groups 0 0) (get_or t a zero_group)) (is-g : g ≡ member_of s (get_or c.groups 1 0) (get_or t b zero_group)) where
  pub pair-apart : apart_of c f g ≡ is_apart (take s t) c
  unfolding member_at
  pair-apart = ap₂ (λ (x y : Group). apart_of c x y) (is_f ∙ member_is t s (get_or c.groups 0 0) a l p) (is-g ∙ member_is t s (get_or c.groups 1 0) b l q) ∙ apart-is (take s t) c

  pub pair-differing : differing_of c f g ≡ differing (take s t) c
  unfolding member_at
  pair-differing = ap₂ (λ (x y : Group). differing_of c x y) (is_f ∙ member_is t s (get_or c.groups 0 0) a l p) (is-g ∙ member_is t s (get_or c.groups 1 0) b l q) ∙ differing-is (take s t) c
