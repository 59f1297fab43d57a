-- `read_line` judges a line by its first byte and the state, and reads the others. Assumes nothing.
use Prim.Native.Nat.{ℕ}
use mathlib.Core.Path.{◌≡◌, refl}
use mathlib.Core.Bool.{Bool, true, false, not, ◌&&◌}
use mathlib.Core.List.{List, [], ◌∷◌}
use lib.Dec.{eqb}
use lib.ListN.{length, get_or}
use Rattle.model.specs.declared.Reading.{Reading}
use Rattle.model.specs.Assignment.{is_passed_over, call_refusal, is_taken, line_read, values_after}
use native.Mathlib.Omega.{arith}
use borrow.Author.Tests.{ne_eqb}
use Rattle.correctness.proofs.Reading.{line_reads}
use Rattle.assignment.proofs.read_line.Goals as goal

module _ (r : Reading) (line values : List ℕ) where
  -- a refusal, or a line passed over, leaves all as it was
  as_it_was : (x : ℕ) → call_refusal r line values ≡ x → is_taken r line values ≡ false
      → (record { refusal = x; reading = r } ≡ line_read r line values) × (values ≡ values_after r line values)
  unfolding line_read values_after
  as_it_was x e t = (rw (t, e), rw t)

  over : is_passed_over line ≡ true → (record { refusal = 0; reading = r } ≡ line_read r line values) × (values ≡ values_after r line values)
  over p = as_it_was 0 (zero p) (not_taken p)
    where
      zero : is_passed_over line ≡ true → call_refusal r line values ≡ 0
      zero p = unfold call_refusal in rw p

      not_taken : is_passed_over line ≡ true → is_taken r line values ≡ false
      not_taken p = unfold is_taken in rw p

  refused : (x : ℕ) → call_refusal r line values ≡ x → eqb x 0 ≡ false
      → (record { refusal = x; reading = r } ≡ line_read r line values) × (values ≡ values_after r line values)
  refused x e n = as_it_was x e (not_taken (is_passed_over line))
    where
      not_taken : (b : Bool) → is_taken r line values ≡ false
      not_taken b = unfold is_taken in rw (e, n) (go (not (is_passed_over line)))
        where
          go : (b : Bool) → (b && false) ≡ false
          go true = refl
          go false = refl

  passed-c : get_or line 0 0 ≡ 99 → is_passed_over line ≡ true
  unfolding is_passed_over
  passed-c e = rw e

  passed-s : get_or line 0 0 ≡ 115 → is_passed_over line ≡ true
  unfolding is_passed_over
  passed-s e = rw e

  other : (get_or line 0 0 ≡ 99 → ⊥) → (get_or line 0 0 ≡ 115 → ⊥) → (get_or line 0 0 ≡ 118 → ⊥) → call_refusal r line values ≡ 10
  unfolding call_refusal is_passed_over
  other a b c = rw (ne_eqb (get_or line 0 0) 99 a, ne_eqb (get_or line 0 0) 115 b, ne_eqb (get_or line 0 0) 118 c)

  late : get_or line 0 0 ≡ 118 → r.closed ≡ true → call_refusal r line values ≡ 25
  unfolding call_refusal is_passed_over
  late a c = rw (a, c)

empty : (r : Reading) (line values : List ℕ) → length line ≡ 0 → call_refusal r line values ≡ 10
unfolding call_refusal is_passed_over
empty r [] values e = refl
empty r (b ∷ bs) values e = absurd (omega arith)

-- the clauses by their names
named : {A B C : Type 0} → A × (B × C) → record { value : A; values_after : B; line_reads : C }
named p = record { value = p.0; values_after = p.1.0; line_reads = p.1.1 }

pub returns-then-line-eq0 : goal.returns-then-line-eq0
returns-then-line-eq0 c = named (line_reads _ _ _ _ _ (refused c.args.reading c.args.line.now c.args.values.now 10 (empty c.args.reading c.args.line.now c.args.values.now c.if-line-eq0.true) refl))

pub returns-then-first-eq99 : goal.returns-then-first-eq99
returns-then-first-eq99 c = named (line_reads _ _ _ _ _ (over c.args.reading c.args.line.now c.args.values.now (passed-c c.args.reading c.args.line.now c.args.values.now c.if-first-eq99.true)))

pub returns-then-first-eq115 : goal.returns-then-first-eq115
returns-then-first-eq115 c = named (line_reads _ _ _ _ _ (over c.args.reading c.args.line.now c.args.values.now (passed-s c.args.reading c.args.line.now c.args.values.now c.if-first-eq115.true)))

pub returns-then-first-ne118 : goal.returns-then-first-ne118
returns-then-first-ne118 c = named (line_reads _ _ _ _ _ (refused c.args.reading c.args.line.now c.args.values.now 10 (other c.args.reading c.args.line.now c.args.values.now c.if-first-eq99.false c.if-first-eq115.false c.if-first-ne118.true) refl))

pub returns-then-reading : goal.returns-then-reading
returns-then-reading c = named (line_reads _ _ _ _ _ (refused c.args.reading c.args.line.now c.args.values.now 25 (late c.args.reading c.args.line.now c.args.values.now c.if-first-ne118.false c.if-reading.true) refl))

pub read_values-requires : goal.read_values-requires
read_values-requires c = (omega (arith, c.if-line-eq0.false), c.if-first-ne118.false, c.if-reading.false)

pub returns : goal.returns
returns c = named (line_reads _ _ _ _ _ ((c.read_values.ensures.value, c.read_values.ensures.values_after)))
