-- Laws of a constraint's test: the answers for code 7, and the loop over the constraints. Assumes nothing.
use mathlib.Core.Path.{◌≡◌, refl, sym, ap, ap₂, ◌∙◌}
use mathlib.Core.Bool.{Bool, true, false, cond, ◌&&◌}
use mathlib.Core.List.{List}
use Prim.Native.Nat.{ℕ, ◌+◌, ◌-◌, ◌<◌}
use native.Mathlib.Omega.{arith}
use borrow.Author.Tests.{eq-eqb, ne_eqb}
use lib.Bits.{bit_and, bit_or, bit_xor, or_add_and, xor_add_and}
use lib.Dec.{eqb}
use lib.ListN.{length, get_or, take}
use lib.Seq.{get_or-take}
use Rattle.model.specs.declared.Group.{Group}
use Rattle.model.specs.declared.Constraint.{Constraint}
use Rattle.std.specs.List.{list_all}
use Rattle.model.specs.Lists.{total}
use Rattle.model.specs.Limits.{limits}
use Rattle.model.specs.Words.{full, less}
use Rattle.model.specs.Clauses.{member_clauses, is_difference}
use Rattle.model.specs.Model.{zero_constraint}
use Rattle.model.specs.Difference.{is_apart}
use Rattle.model.specs.Cnf.{table_variables, differing, difference_count}
use Rattle.model.specs.Solution.{set_of}
use Rattle.model.specs.Fill.{one_of}
use Rattle.model.proofs.Words.{bit-and, bit-or, bit_ext}
use Rattle.model.proofs.Lists.{get_or-map-range, get_or-other}
use Rattle.constraint_clauses.specs.Holds.{clause_holds}
use Rattle.numbering.specs.Numbering.{differences_from}
use Rattle.solution.specs.Holds.{word_of, word_of_difference, difference_holds, constraint_holds, difference_holds_of, clauses_hold_of, constraint_holds_at}

-- ---- code 7

one_xor : (f g : ℕ) → bit_xor f g ≡ one_of f g
unfolding one_of less
one_xor f g =
    let o = bit_or f g in
    let b = bit_and f g in
    let q : bit_and o b ≡ b = bit_ext (bit_and o b) b (λ i. omega (arith, bit-and i o b, bit-or i f g, bit-and i f g)) in
    omega (arith, xor_add_and f g, or_add_and f g, xor_add_and o (bit_and o b), ap (bit_and o) q, q)

module _ (a : List Bool) (p : Bool) (o : ℕ) (d : List ℕ) (n x : ℕ) (c : Constraint) where
  pub holds-apart : p ≡ true → true ≡ difference_holds_of a p o d n x c
  unfolding difference_holds_of
  holds-apart h = rw h

  module _ (h : p ≡ false) (w : ℕ) (q : w ≡ word_of n a record { fixed = 0; possible = o; low = 0; high = 0 } x) where
    pub holds-none : w ≡ 0 → false ≡ difference_holds_of a p o d n x c
    unfolding difference_holds_of
    holds-none z = rw (h, ← q, eq-eqb w 0 z) (sym (and-false (eqb w (one_of (set_of d (get_or c.groups 0 0)) (set_of d (get_or c.groups 1 0))))))
      where
        and-false : (b : Bool) → (b && false) ≡ false
        and-false true = refl
        and-false false = refl

    pub holds-some : (w ≡ 0 → ⊥) → (f g : ℕ) → f ≡ set_of d (get_or c.groups 0 0) → g ≡ set_of d (get_or c.groups 1 0)
        → eqb w (bit_xor f g) ≡ difference_holds_of a p o d n x c
    unfolding difference_holds_of
    holds-some z f g u v =
        ap (eqb w) (one_xor f g ∙ ap₂ one_of u v)
        ∙ rw (h, ← q, ne_eqb w 0 z) (sym (and-true (eqb w (one_of (set_of d (get_or c.groups 0 0)) (set_of d (get_or c.groups 1 0))))))
      where
        and-true : (b : Bool) → (b && true) ≡ b
        and-true true = refl
        and-true false = refl

  -- ---- every code

  pub seven-holds : c.code ≡ 7 → (b : Bool) → b ≡ difference_holds_of a p o d n x c → b ≡ clauses_hold_of a p o d n x c
  unfolding clauses_hold_of is_difference
  seven-holds h b e =
      e ∙ sym (ap (λ (y : Bool). cond y (difference_holds_of a p o d n x c) (list_all (clause_holds d c.groups (full n)) (member_clauses c.code c.count))) (eq-eqb c.code 7 h))

  pub six-holds : (c.code ≡ 7 → ⊥) → (w : ℕ) → w ≡ full n → (b : Bool) → b ≡ list_all (clause_holds d c.groups w) (member_clauses c.code c.count)
      → b ≡ clauses_hold_of a p o d n x c
  unfolding clauses_hold_of is_difference
  six-holds h w q b e = e ∙ rw (q, ne_eqb c.code 7 h)

  pub table-holds : (t : List Group) → p ≡ is_apart t c → o ≡ differing t c → (b : Bool) → b ≡ clauses_hold_of a p o d n x c → b ≡ constraint_holds a t d n x c
  unfolding constraint_holds difference_holds word_of_difference clauses_hold_of difference_holds_of
  table-holds t u v b e = e ∙ ap₂ (λ (q : Bool) (w : ℕ). clauses_hold_of a q w d n x c) u v

-- ---- a place of the constraints

module _ (a : List Bool) (t : List Group) (cs : List Constraint) (c : ℕ) (d : List ℕ) (n i : ℕ) (h : i < c) where
  pub constraint-holds-at : (ns : List ℕ) → i < limits.constraints → ns ≡ differences_from (1 + table_variables t) t (take c cs)
      → (x : ℕ) → x ≡ get_or ns i 0 → i < length cs → (y : Constraint) (b : Bool) → b ≡ constraint_holds a t d n x (get_or cs i y)
      → b ≡ constraint_holds_at a t (take c cs) d n i
  unfolding constraint_holds_at differences_from
  constraint-holds-at ns l e x q f y b k =
      let first : ℕ → ℕ = λ j. 1 + table_variables t + total (difference_count t) (take (j - 1) (take c cs)) in
      let j : 1 + i - 1 ≡ i = omega arith in
      let r : x ≡ 1 + table_variables t + total (difference_count t) (take i (take c cs)) =
      q ∙ ap (λ (l : List ℕ). get_or l i 0) e ∙ get_or-map-range first 1 limits.constraints i 0 l
      ∙ ap (λ (y : ℕ). 1 + table_variables t + total (difference_count t) (take y (take c cs))) j in
      k ∙ ap₂ (constraint_holds a t d n) r (get_or-other cs i y zero_constraint f ∙ sym (get_or-take c cs i zero_constraint h))
