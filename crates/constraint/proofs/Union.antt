-- The clauses of code 6, place by place. Assumes nothing.
use mathlib.Core.Path.{◌≡◌, refl, ap, ◌∙◌}
use Prim.Native.Nat.{ℕ, zero, suc, ◌+◌, ◌≤◌, ◌<◌}
use native.Mathlib.Numerals.{one-add}
use native.Mathlib.Omega.{arith}
use mathlib.Core.List.{List, [], ◌∷◌, ◌++◌, map}
use lib.ListN.{length, get_or, length-map, length-append, get_or-append, get_or-eq_default}
use lib.Seq.{get_or_at}
use Rattle.model.specs.declared.Literal.{Literal}
use Rattle.model.specs.declared.Literal.TheVariants.{Pos, Neg}
use Rattle.model.specs.Lists.{range}
use Rattle.model.specs.Clauses.{union_clauses}
use Rattle.model.proofs.Lists.{range_length, get_or-map-range}

pub union_count : (k : ℕ) → length (union_clauses k) ≡ k + 1
unfolding union_clauses
union_count k = simp (length-map, range_length) (omega arith)

-- the clause of all members
members : ℕ → List Literal
members k = map Pos (range 1 k)

long : (k : ℕ) → get_or (union_clauses k) 0 [] ≡ members k ++ (Neg 0 ∷ [])
unfolding union_clauses members
long k = refl

members-length : (k : ℕ) → length (members k) ≡ k
unfolding members
members-length k = simp (length-map, range_length)

pub long-size : (k : ℕ) → length (get_or (union_clauses k) 0 []) ≡ k + 1
long-size k = ap length (long k) ∙ length-append (members k) (Neg 0 ∷ []) ∙ omega (arith, members-length k)

pub long-below : (k i : ℕ) → i < k → get_or (get_or (union_clauses k) 0 []) i (Pos 0) ≡ Pos (i + 1)
unfolding members
long-below k i h =
    ap (λ l. get_or l i (Pos 0)) (long k)
    ∙ get_or-append (members k) (Neg 0 ∷ []) (Pos 0) i (omega (arith, members-length k))
    ∙ get_or-map-range Pos 1 k i (Pos 0) h
    ∙ ap Pos (omega arith)

pub long-last : (k : ℕ) → get_or (get_or (union_clauses k) 0 []) k (Pos 0) ≡ Neg 0
long-last k = ap (λ l. get_or l k (Pos 0)) (long k) ∙ get_or_at (members k) (Neg 0) [] (Pos 0) k (members-length k)

pub long-past : (k i : ℕ) → k < i → get_or (get_or (union_clauses k) 0 []) i (Pos 0) ≡ Pos 0
long-past k i h = get_or-eq_default (get_or (union_clauses k) 0 []) (Pos 0) (omega (arith, long-size k))

-- clause j is (-Fj H)
pub pair : (k j : ℕ) → (j ≡ 0 → ⊥) → j ≤ k → get_or (union_clauses k) j [] ≡ Neg j ∷ Pos 0 ∷ []
unfolding union_clauses
pair k zero f h = absurd (f refl)
pair k (suc i) f h = get_or-map-range (λ i. Neg i ∷ Pos 0 ∷ []) 1 k i [] h ∙ ap (λ (x : ℕ). Neg x ∷ Pos 0 ∷ []) (one-add i)

pub past_pairs : (k j : ℕ) → k < j → get_or (union_clauses k) j [] ≡ []
past_pairs k j h = get_or-eq_default (union_clauses k) [] (omega (arith, union_count k))

pub pair-first : (k j i : ℕ) → (j ≡ 0 → ⊥) → j ≤ k → i ≡ 0 → get_or (get_or (union_clauses k) j []) i (Pos 0) ≡ Neg j
pair-first k j i f h e = ap (λ l. get_or l i (Pos 0)) (pair k j f h) ∙ rw e

pub pair-rest : (k j i : ℕ) → (j ≡ 0 → ⊥) → j ≤ k → (i ≡ 0 → ⊥) → get_or (get_or (union_clauses k) j []) i (Pos 0) ≡ Pos 0
pair-rest k j zero f h g = absurd (g refl)
pair-rest k j (suc zero) f h g = ap (λ l. get_or l 1 (Pos 0)) (pair k j f h)
pair-rest k j (suc (suc i)) f h g = ap (λ l. get_or l (suc (suc i)) (Pos 0)) (pair k j f h)
