-- The codes one by one: those whose clauses are entrant by entrant, and code 7; the number of a code's groups, and the members of its clauses. Assumes
-- nothing.
use mathlib.Core.Path.{◌≡◌, refl}
use mathlib.Core.Logic.{◌⊎◌, inl, inr}
use Prim.Native.Nat.{ℕ, zero, suc, ◌+◌, ◌-◌, ◌≤◌, ◌<◌}
use native.Mathlib.Omega.{arith}
use mathlib.Core.Bool.{false, not, ◌||◌}
use mathlib.Core.List.{List, [], ◌∷◌, ◌++◌, map}
use lib.Dec.{T, leb, eqb, leb→le}
use lib.ListN.{length, length-map}
use Rattle.model.specs.declared.Literal.{Literal}
use Rattle.model.specs.declared.Literal.TheVariants.{Pos, Neg}
use Rattle.model.specs.Lists.{range, between, is_empty}
use Rattle.model.specs.Limits.{limits}
use Rattle.model.specs.Clauses.{by_entrant, member_count, short_clauses, union_clauses, member_clauses}
use Rattle.model.specs.Model.{code_in_range}
use Rattle.model.specs.Assignment.{variable}
use Rattle.model.proofs.Lists.{and_left, and_right, between_le, All, all_both, all-map-iff, all-imp, range_all, range_length}

pub by_code : (P : ℕ → Type 0) → P 1 → P 2 → P 3 → P 4 → P 5 → P 6 → (code : ℕ) → T (by_entrant code) → P code
by_code P a b c d e f zero t = absurd t
by_code P a b c d e f (suc zero) t = a
by_code P a b c d e f (suc (suc zero)) t = b
by_code P a b c d e f (suc (suc (suc zero))) t = c
by_code P a b c d e f (suc (suc (suc (suc zero)))) t = d
by_code P a b c d e f (suc (suc (suc (suc (suc zero))))) t = e
by_code P a b c d e f (suc (suc (suc (suc (suc (suc zero)))))) t = f
by_code P a b c d e f (suc (suc (suc (suc (suc (suc (suc m))))))) t =
    let code = suc (suc (suc (suc (suc (suc (suc m)))))) in
    absurd (let h = leb→le code 6 (and_right (leb 1 code) (leb code 6) t) in omega arith)

-- and code 7 beside them
pub by_seven : (P : ℕ → Type 0) → ((code : ℕ) → T (by_entrant code) → P code) → P 7 → (code : ℕ) → T (between 1 7 code) → P code
by_seven P f g zero t = absurd t
by_seven P f g (suc zero) t = f 1 tt
by_seven P f g (suc (suc zero)) t = f 2 tt
by_seven P f g (suc (suc (suc zero))) t = f 3 tt
by_seven P f g (suc (suc (suc (suc zero)))) t = f 4 tt
by_seven P f g (suc (suc (suc (suc (suc zero))))) t = f 5 tt
by_seven P f g (suc (suc (suc (suc (suc (suc zero)))))) t = f 6 tt
by_seven P f g (suc (suc (suc (suc (suc (suc (suc zero))))))) t = g
by_seven P f g (suc (suc (suc (suc (suc (suc (suc (suc m)))))))) t =
    let code = suc (suc (suc (suc (suc (suc (suc (suc m))))))) in
    absurd (let h = leb→le code 7 (and_right (leb 1 code) (leb code 7) t) in omega arith)

pub not_seven : (code : ℕ) → T (by_entrant code) → eqb code 7 ≡ false
not_seven = by_code (λ code. eqb code 7 ≡ false) refl refl refl refl refl refl

-- ---- a code and its count in range

module _ (code k : ℕ) (r : T (code_in_range code k)) where
  pub is_code : T (between 1 7 code)
  unfolding code_in_range
  is_code = and_left (between 1 7 code) (not (eqb code 6) || between 2 (limits.members - 1) k) r

  pub entrant-or-seven : T (by_entrant code) ⊎ (code ≡ 7)
  entrant-or-seven = by_seven (λ code. T (by_entrant code) ⊎ (code ≡ 7)) (λ code t. inl t) (inr refl) code is_code

  -- "a count k (2 to 16)" where the code is 6
  pub count-in : code ≡ 6 → k ≤ limits.members - 1
  unfolding code_in_range
  count-in e =
      let h = and_right (between 1 7 code) (not (eqb code 6) || between 2 (limits.members - 1) k) r in
      (between_le 2 (limits.members - 1) k (rw e at h)).1

  -- at most as many groups as a constraint may have
  pub member-bound : member_count code k ≤ limits.members
  unfolding member_count
  member-bound =
      let P : ℕ → Type 0 = λ code. (code ≡ 6 → k ≤ limits.members - 1) → member_count code k ≤ limits.members in
      by_seven P
      (by_code P (λ h. omega arith) (λ h. omega arith) (λ h. omega arith) (λ h. omega arith) (λ h. omega arith) (λ h. let l = h refl in omega arith))
      (λ h. omega arith) code is_code count-in

  -- and as many clauses
  pub clause-bound : length (member_clauses code k) ≤ limits.members
  unfolding member_clauses short_clauses union_clauses
  clause-bound =
      let P : ℕ → Type 0 = λ code. (code ≡ 6 → k ≤ limits.members - 1) → length (member_clauses code k) ≤ limits.members in
      by_seven P
      (by_code P (λ h. omega arith) (λ h. omega arith) (λ h. omega arith) (λ h. omega arith) (λ h. omega arith)
      (λ h. let l = h refl in omega (arith, length-map {B = List Literal} (range 1 k) (λ i. Neg i ∷ Pos 0 ∷ []), range_length 1 k)))
      (λ h. omega arith) code is_code count-in

-- ---- the members that a clause speaks of

-- a clause over members 0 .. r - 1, at least one
abbrev pub Clear : ℕ → List Literal → Type 0
Clear r ls = T (not (is_empty ls)) × All (λ l. variable l < r) ls

pub members-clear : (code k : ℕ) → T (by_entrant code) → All (Clear (member_count code k)) (member_clauses code k)
unfolding member_count member_clauses short_clauses union_clauses
members-clear code k t =
    by_code (λ code. All (Clear (member_count code k)) (member_clauses code k))
    ((tt, (omega arith, (omega arith, tt))), ((tt, (omega arith, (omega arith, tt))), tt))
    ((tt, (omega arith, (omega arith, tt))), tt)
    ((tt, (omega arith, (omega arith, (omega arith, tt)))), ((tt, (omega arith, (omega arith, tt))), ((tt, (omega arith, (omega arith, tt))), tt)))
    ((tt, (omega arith, (omega arith, (omega arith, tt)))), ((tt, (omega arith, (omega arith, tt))), ((tt, (omega arith, (omega arith, tt))), tt)))
    ((tt, (omega arith, (omega arith, (omega arith, tt)))), ((tt, (omega arith, (omega arith, tt))), ((tt, (omega arith, (omega arith, tt))), tt))) (
      (
        not-empty (map Pos (range 1 k)) (Neg 0),
        (all_both (λ l. variable l < k + 1) (map Pos (range 1 k)) (Neg 0 ∷ [])).1 (
          (all-map-iff (λ l. variable l < k + 1) Pos (range 1 k)).1 (range_all (λ i. i < k + 1) 1 k (λ j l h. omega arith)),
          (omega arith, tt),
        ),
      ),
      (all-map-iff (Clear (k + 1)) (λ i. Neg i ∷ Pos 0 ∷ []) (range 1 k)).1
          (range_all (λ i. Clear (k + 1) (Neg i ∷ Pos 0 ∷ [])) 1 k (λ j l h. (tt, (omega arith, (omega arith, tt))))),
    )
    code t
  where
    not-empty : (ls : List Literal) (l : Literal) → T (not (is_empty (ls ++ (l ∷ []))))
    not-empty [] l = tt
    not-empty (x ∷ ls) l = tt

pub members-below : (code k : ℕ) → T (by_entrant code) → All (All (λ l. variable l < member_count code k)) (member_clauses code k)
members-below code k t =
    all-imp (Clear (member_count code k)) (All (λ l. variable l < member_count code k)) (λ ls h. h.1) (member_clauses code k) (members-clear code k t)
