-- The limits of each code, as steps of its members. Assumes nothing.
use mathlib.Core.Path.{◌≡◌, refl, sym, ap, ap₂, ◌∙◌}
use Prim.Native.Nat.{ℕ, zero, suc, ◌+◌, ◌-◌, ◌<◌, min}
use native.Mathlib.Omega.{arith}
use native.Mathlib.Decide.{dec_lt}
use mathlib.Core.List.{List, [], ◌∷◌, ◌++◌}
use lib.ListN.{length, get_or, take, drop}
use lib.Seq.{take_all, get_or-take}
use Rattle.model.specs.declared.Group.{Group}
use Rattle.model.specs.declared.Constraint.{Constraint}
use Rattle.model.specs.Limits.{limits}
use Rattle.model.specs.Clauses.{member_count, groups_of}
use Rattle.model.specs.LimitRules.{low_first, high_first, union_limits, limits_of, limit_rules}

module _ (c : Constraint) where
  abbrev member : ℕ → ℕ
  member i = get_or c.groups i 0

  abbrev steps : ℕ → List (List Group → List Group)
  steps code = limits_of code (take (member_count code c.count) c.groups)

  of_code : (k : ℕ) → c.code ≡ k → limit_rules c ≡ steps k
  unfolding limit_rules groups_of
  of_code k e = ap steps e

  here : (k i : ℕ) → i < k → get_or (take k c.groups) i 0 ≡ member i
  here k i h = get_or-take k c.groups i 0 h

  pub equal-limits : c.code ≡ 1 → limit_rules c ≡ low_first (member 0) (member 1) ++ low_first (member 1) (member 0)
  unfolding limits_of member_count
  equal-limits e = of_code 1 e ∙ ap₂ (λ (a b : ℕ). low_first a b ++ low_first b a) (here 2 0 (omega arith)) (here 2 1 (omega arith))

  pub within-limits : c.code ≡ 2 → limit_rules c ≡ low_first (member 0) (member 1)
  unfolding limits_of member_count
  within-limits e = of_code 2 e ∙ ap₂ low_first (here 2 0 (omega arith)) (here 2 1 (omega arith))

  pub both-limits : c.code ≡ 3 → limit_rules c ≡ high_first (member 0) (member 1) ++ high_first (member 0) (member 2)
  unfolding limits_of member_count
  both-limits e =
      of_code 3 e
      ∙ ap₂ (λ (a b : ℕ). high_first a b ++ high_first a (get_or (take 3 c.groups) 2 0)) (here 3 0 (omega arith)) (here 3 1 (omega arith))
      ∙ ap (λ (d : ℕ). high_first (member 0) (member 1) ++ high_first (member 0) d) (here 3 2 (omega arith))

  pub less-limits : c.code ≡ 5 → limit_rules c ≡ high_first (member 0) (member 1)
  unfolding limits_of member_count
  less-limits e = of_code 5 e ∙ ap₂ high_first (here 3 0 (omega arith)) (here 3 1 (omega arith))

  -- the members of a union, from place 1 on
  members : (k : ℕ) (gs : List ℕ) → drop 1 (take (suc k) gs) ≡ take k (drop 1 gs)
  members zero [] = refl
  members (suc k) [] = refl
  members k (g ∷ gs) = refl

  pub either-limits : c.code ≡ 4 → limit_rules c ≡ union_limits (member 0) (take 2 (drop 1 c.groups))
  unfolding limits_of member_count
  either-limits e = of_code 4 e ∙ ap₂ union_limits (here 3 0 (omega arith)) (members 2 c.groups)

  pub union-limits-are : c.code ≡ 6 → length c.groups ≡ limits.members → (count : ℕ) → count ≡ min (c.count + 1) limits.members
      → limit_rules c ≡ union_limits (member 0) (take (count - 1) (drop 1 c.groups))
  unfolding limits_of member_count
  union-limits-are e size count is =
      of_code 6 e
      ∙ ap (λ (a : ℕ). union_limits a (drop 1 (take (c.count + 1) c.groups))) (here (c.count + 1) 0 (omega arith))
      ∙ ap (λ gs. union_limits (member 0) (drop 1 gs)) (go (dec_lt (c.count + 1) limits.members))
      ∙ ap (union_limits (member 0)) (let s : count ≡ suc (count - 1) = omega arith in ap (λ (n : ℕ). drop 1 (take n c.groups)) s ∙ members (count - 1) c.groups)
    where
      go : Dec (c.count + 1 < limits.members) → take (c.count + 1) c.groups ≡ take count c.groups
      go (yes k) = let q : c.count + 1 ≡ count = omega arith in ap (λ (n : ℕ). take n c.groups) q
      go (no k) = take_all (c.count + 1) c.groups (omega arith) ∙ sym (take_all count c.groups (omega arith))

  pub no-limits : (code : ℕ) → c.code ≡ code → (code ≡ 1 → ⊥) → (code ≡ 2 → ⊥) → (code ≡ 3 → ⊥) → (code ≡ 4 → ⊥) → (code ≡ 5 → ⊥) → (code ≡ 6 → ⊥)
      → limit_rules c ≡ []
  unfolding limits_of
  no-limits zero e a b d f g h = of_code zero e
  no-limits (suc zero) e a b d f g h = absurd (a refl)
  no-limits (suc (suc zero)) e a b d f g h = absurd (b refl)
  no-limits (suc (suc (suc zero))) e a b d f g h = absurd (d refl)
  no-limits (suc (suc (suc (suc zero)))) e a b d f g h = absurd (f refl)
  no-limits (suc (suc (suc (suc (suc zero))))) e a b d f g h = absurd (g refl)
  no-limits (suc (suc (suc (suc (suc (suc zero)))))) e a b d f g h = absurd (h refl)
  no-limits (suc (suc (suc (suc (suc (suc (suc k))))))) e a b d f g h = of_code (suc (suc (suc (suc (suc (suc (suc k))))))) e
