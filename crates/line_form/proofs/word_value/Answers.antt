-- `word_value` tells what a word of a `v` line is. Assumes nothing.
use mathlib.Core.Path.{◌≡◌, refl, ◌∙◌, sym, ap}
use mathlib.Core.List.{List, [], ◌∷◌}
use mathlib.Core.Bool.{Bool, true, false, cond, ◌&&◌}
use Prim.Native.Nat.{ℕ, ◌-◌}
use lib.ListN.{length, get_or, take, drop}
use lib.Seq.{take_all}
use lib.Dec.{eqb}
use Rattle.std.specs.Prelude.{Option, None, Some}
use Rattle.model.specs.declared.Literal.TheVariants.{Pos, Neg}
use Rattle.model.specs.declared.Word.TheVariants.{Closing, Malformed}
use Rattle.model.specs.Assignment.{variable_in, as_literal, word_value}
use Rattle.line_form.proofs.Words.{zero-names-none, word-says}
use native.Mathlib.Omega.{arith}
use borrow.Author.Tests.{eq-eqb, ne_eqb}
use Rattle.line_form.proofs.word_value.Goals as goal

empty : (l : List ℕ) → length l ≡ 0 → Malformed ≡ word_value l
unfolding word_value
empty [] e = refl
empty (b ∷ bs) e = absurd (omega arith)

-- the part after the first byte
after : (b : ℕ) (bs : List ℕ) → take (length (b ∷ bs) - 1) (drop 1 (b ∷ bs)) ≡ bs
after b bs = take_all (length (b ∷ bs) - 1) bs (omega arith)

minus : (l : List ℕ) → (length l ≡ 0 → ⊥) → get_or l 0 0 ≡ 45 → (d : Option ℕ) → d ≡ variable_in (take (length l - 1) (drop 1 l))
    → (k : Option ℕ) → d ≡ k → as_literal Neg (k) ≡ word_value l
unfolding word_value
minus [] z e d h k q = absurd (z refl)
minus (b ∷ bs) z e d h k q = rw (eq-eqb b 45 e) (ap (as_literal Neg) (sym q ∙ h ∙ ap variable_in (after b bs)))

apart : (b : ℕ) → b ≡ 48 → eqb b 45 ≡ false
apart b e = ne_eqb b 45 (λ q. omega (arith, e, q))

closing : (l : List ℕ) → get_or l 0 0 ≡ 48 → length l ≡ 1 → Closing ≡ word_value l
unfolding word_value
closing [] e h = absurd (omega arith)
closing (b ∷ bs) e h = let n : length bs ≡ 0 = omega arith in rw (apart b e, eq-eqb b 48 e, eq-eqb (length bs) 0 n)

zeros : (l : List ℕ) → get_or l 0 0 ≡ 48 → (length l ≡ 1 → ⊥) → (length l ≡ 0 → ⊥) → Malformed ≡ word_value l
unfolding word_value
zeros [] e f z = absurd (z refl)
zeros (b ∷ bs) e f z =
    let n : eqb (length bs) 0 ≡ false = ne_eqb (length bs) 0 (λ q. f (omega (arith, q))) in
    rw (apart b e, n, zero-names-none (b ∷ bs) (eq-eqb b 48 e)) (go (eqb b 48))
  where
    go : (x : Bool) → Malformed ≡ cond (x && false) Closing Malformed
    go true = refl
    go false = refl

plain : (l : List ℕ) → (length l ≡ 0 → ⊥) → (get_or l 0 0 ≡ 45 → ⊥) → (get_or l 0 0 ≡ 48 → ⊥) → (d : Option ℕ) → d ≡ variable_in l
    → (k : Option ℕ) → d ≡ k → as_literal Pos (k) ≡ word_value l
unfolding word_value
plain [] z e f d h k q = absurd (z refl)
plain (b ∷ bs) z e f d h k q = rw (ne_eqb b 45 e, ne_eqb b 48 f) (ap (as_literal Pos) (sym q ∙ h))

-- the clauses by their names
named : {A B C : Type 0} → A × (B × C) → record { value : A; result_value : B; result_value_2 : C }
named p = record { value = p.0; result_value = p.1.0; result_value_2 = p.1.1 }

pub returns-then-n-eq0 : goal.returns-then-n-eq0
returns-then-n-eq0 c = named (word-says c.args.w.now _ (empty c.args.w.now c.if-n-eq0.true))

pub returns-in_default : goal.returns-in_default
returns-in_default c = named (word-says c.args.w.now _ (minus c.args.w.now c.if-n-eq0.false c.if-w-eq45.true c.variable_in.result c.variable_in.ensures None c.in_default.is))

pub returns-then-w-eq45 : goal.returns-then-w-eq45
returns-then-w-eq45 c = named (word-says c.args.w.now _ (minus c.args.w.now c.if-n-eq0.false c.if-w-eq45.true c.variable_in.result c.variable_in.ensures (Some _) c.in-Some.is))

pub returns-then-n-eq1 : goal.returns-then-n-eq1
returns-then-n-eq1 c = named (word-says c.args.w.now _ (closing c.args.w.now c.if-w-eq48.true c.if-n-eq1.true))

pub returns-then-w-eq48 : goal.returns-then-w-eq48
returns-then-w-eq48 c = named (word-says c.args.w.now _ (zeros c.args.w.now c.if-w-eq48.true c.if-n-eq1.false c.if-n-eq0.false))

pub returns-in_default-variable_in : goal.returns-in_default-variable_in
returns-in_default-variable_in c = named (word-says c.args.w.now _ (plain c.args.w.now c.if-n-eq0.false c.if-w-eq45.false c.if-w-eq48.false c.variable_in-2.result c.variable_in-2.ensures None c.in_default-variable_in.is))

pub returns : goal.returns
returns c = named (word-says c.args.w.now _ (plain c.args.w.now c.if-n-eq0.false c.if-w-eq45.false c.if-w-eq48.false c.variable_in-2.result c.variable_in-2.ensures (Some _) c.in-Some-variable_in.is))
