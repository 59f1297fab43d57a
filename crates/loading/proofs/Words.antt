-- Words of the listing: where they end and what they are. Assumes nothing.
use Rattle.std.proofs.Common.{◌≡◌, ℕ, suc, ◌+◌, ◌-◌, ◌*◌, ◌<◌, ◌≤◌, Bool, true, false, cond, ◌||◌, eqb, List, [], ◌∷◌, ◌++◌, length, get_or, take, drop, sym, refl, ap, ◌∙◌, arith, length-drop, drop_of_length-le, take_all, drop-cons, eq-eqb, ne_eqb, le-leb}
use Rattle.model.specs.declared.Literal.{Literal}
use Rattle.model.specs.declared.Literal.TheVariants.{Pos, Neg}
use Rattle.std.specs.Prelude.{Option, None, Some}
use Rattle.model.specs.Sheet.{short_number}
use Rattle.model.specs.Assignment.{variable}
use Rattle.model.specs.Text.{decimal}
use Rattle.model.proofs.Lists.{All}
use Rattle.encoding_laws.proofs.Decimal.{decimal-reads, decimal-digits, decimal-some, decimal-bound}
use Rattle.loading.specs.Loading.{word_end, word_of, spelled, Small, Read}
use Rattle.loading.specs.declared.Piece.TheVariants.{Wrong, End, Word}

-- ---- where a word ends

module _ (s : List ℕ) (i : ℕ) (h : i < length s) where
  pub end_step : (get_or s i 0 ≡ 32 → ⊥) → (get_or s i 0 ≡ 10 → ⊥) → word_end (drop i s) ≡ suc (word_end (drop (i + 1) s))
  end_step f g =
      let n : suc i ≡ i + 1 = omega arith in
      let e : drop i s ≡ get_or s i 0 ∷ drop (i + 1) s = drop-cons s i 0 h ∙ ap (λ (k : ℕ). get_or s i 0 ∷ drop k s) n in
      ap word_end e ∙ rw (ne_eqb (get_or s i 0) 32 f, ne_eqb (get_or s i 0) 10 g)

  pub end-space : get_or s i 0 ≡ 32 → word_end (drop i s) ≡ 0
  end-space e = ap word_end (drop-cons s i 0 h) ∙ rw (eq-eqb (get_or s i 0) 32 e)

  pub end_line_lem : get_or s i 0 ≡ 10 → word_end (drop i s) ≡ 0
  end_line_lem e = ap word_end (drop-cons s i 0 h) ∙ go (eqb (get_or s i 0) 32)
    where
      go : (b : Bool) → cond (b || eqb (get_or s i 0) 10) 0 (suc (word_end (drop (suc i) s))) ≡ 0
      go true = refl
      go false = rw (eq-eqb (get_or s i 0) 10 e)

pub end-past : (s : List ℕ) (i : ℕ) → length s ≤ i → word_end (drop i s) ≡ 0
end-past s i h = ap word_end (drop_of_length-le s h)

abbrev pub Solid : ℕ → Type 0
Solid b = 33 ≤ b

pub end_of : (w : List ℕ) → All Solid w → (rest : List ℕ) → word_end (w ++ (32 ∷ rest)) ≡ length w
end_of [] h rest = refl
end_of (b ∷ w) h rest =
    let k = h.0 in
    let x : eqb b 32 ≡ false = ne_eqb b 32 (λ z. omega arith) in
    let y : eqb b 10 ≡ false = ne_eqb b 10 (λ z. omega arith) in
    rw (x, y) (ap suc (end_of w h.1 rest))

digits_solid : (l : List ℕ) → All (λ b. (48 ≤ b) × (b ≤ 57)) l → All Solid l
digits_solid [] h = tt
digits_solid (b ∷ l) h = let k = h.0.0 in (omega arith, digits_solid l h.1)

pub spelled_solid : (l : Literal) → All Solid (spelled l)
unfolding spelled
spelled_solid (Pos v) = digits_solid (decimal v) (decimal-digits v)
spelled_solid (Neg v) = (omega arith, digits_solid (decimal v) (decimal-digits v))

-- ---- what a word is

pub spelled-some : (l : Literal) → 0 < length (spelled l)
unfolding spelled
spelled-some (Pos v) = decimal-some v
spelled-some (Neg v) = omega arith

decimal-short : (v : ℕ) → v < 100000 → short_number (decimal v) ≡ Some v
decimal-short v h = let s : length (decimal v) ≤ 9 = omega (arith, decimal-bound 4 v h) in rw (le-leb (length (decimal v)) 9 s, decimal-reads v)

first-digit : (l : List ℕ) → 0 < length l → All (λ b. (48 ≤ b) × (b ≤ 57)) l → get_or l 0 0 ≡ 45 → ⊥
first-digit [] s h e = omega arith
first-digit (b ∷ l) s h e = let k = h.0.0 in omega arith

-- the number after a minus sign, and without one
pub negative : (l : Literal) → Small l → get_or (spelled l) 0 0 ≡ 45 → (short_number (drop 1 (spelled l)) ≡ Some (variable l)) × (word_of l ≡ 2 * variable l + 1)
unfolding spelled word_of
negative (Pos v) s e = absurd (first-digit (decimal v) (decimal-some v) (decimal-digits v) e)
negative (Neg v) s e = (decimal-short v s.few, refl)

pub positive : (l : Literal) → Small l → (get_or (spelled l) 0 0 ≡ 45 → ⊥) → (short_number (spelled l) ≡ Some (variable l)) × (word_of l ≡ 2 * variable l)
unfolding spelled word_of
positive (Pos v) s f = (decimal-short v s.few, refl)
positive (Neg v) s f = absurd (f refl)

pub zero_number : short_number (48 ∷ []) ≡ Some 0
zero_number = refl

pub same_number : {x : Option ℕ} {v w : ℕ} → x ≡ Some v → x ≡ Some w → v ≡ w
same_number p q = cc

pub not_bad : {x : Option ℕ} {v : ℕ} → x ≡ Some v → x ≡ None → ⊥
not_bad p q = let z : ◌≡◌ {A = ℕ} 0 1 = cc in omega arith

-- ---- reading a word

module _ (w : List ℕ) where
  pub read-empty : length w ≡ 0 → Read w Wrong
  read-empty z = record {
    literal = λ l s e. absurd (omega (arith, z, ap length e, spelled-some l));
    zero = λ e. absurd (omega (arith, z, ap length e));
  }

  module _ (e : get_or w 0 0 ≡ 45) (x : Option ℕ) (q : x ≡ short_number (drop 1 w)) where
    minus_is : (l : Literal) → Small l → w ≡ spelled l → (x ≡ Some (variable l)) × (word_of l ≡ 2 * variable l + 1)
    minus_is l s p =
        let n = negative l s (ap (λ (y : List ℕ). get_or y 0 0) (sym p) ∙ e) in
        (q ∙ ap (λ (y : List ℕ). short_number (drop 1 y)) p ∙ n.0, n.1)

    no_zero : w ≡ 48 ∷ [] → ⊥
    no_zero p = omega (arith, e, ap (λ (y : List ℕ). get_or y 0 0) p)

    pub minus-bad : x ≡ None → Read w Wrong
    minus-bad b = record { literal = λ l s p. absurd (not_bad (minus_is l s p).0 b); zero = λ p. absurd (no_zero p) }

    pub minus-large : (v : ℕ) → x ≡ Some v → 1000000 < v → Read w Wrong
    minus-large v n h = record { literal = λ l s p. absurd (omega (arith, s.few, same_number (minus_is l s p).0 n)); zero = λ p. absurd (no_zero p) }

    pub minus-word : (v : ℕ) → x ≡ Some v → Read w (Word (2 * v + 1))
    minus-word v n = record {
      literal = λ l s p. ap Word (ap (λ (k : ℕ). 2 * k + 1) (sym (same_number (minus_is l s p).0 n)) ∙ sym (minus_is l s p).1);
      zero = λ p. absurd (no_zero p);
    }

  module _ (f : get_or w 0 0 ≡ 45 → ⊥) (x : Option ℕ) (q : x ≡ short_number w) where
    plain-is : (l : Literal) → Small l → w ≡ spelled l → (x ≡ Some (variable l)) × (word_of l ≡ 2 * variable l)
    plain-is l s p =
        let n = positive l s (λ z. f (ap (λ (y : List ℕ). get_or y 0 0) p ∙ z)) in
        (q ∙ ap short_number p ∙ n.0, n.1)

    is_zero : w ≡ 48 ∷ [] → x ≡ Some 0
    is_zero p = q ∙ ap short_number p ∙ zero_number

    pub plain-bad : x ≡ None → Read w Wrong
    plain-bad b = record { literal = λ l s p. absurd (not_bad (plain-is l s p).0 b); zero = λ p. absurd (not_bad (is_zero p) b) }

    pub plain-large : (v : ℕ) → x ≡ Some v → 1000000 < v → Read w Wrong
    plain-large v n h = record { literal = λ l s p. absurd (omega (arith, s.few, same_number (plain-is l s p).0 n)); zero = λ p. absurd (omega (arith, same_number (is_zero p) n)) }

    pub plain_end : (v : ℕ) → x ≡ Some v → v ≡ 0 → Read w End
    plain_end v n z = record { literal = λ l s p. absurd (omega (arith, s.some, same_number (plain-is l s p).0 n)); zero = λ p. refl }

    pub plain_word : (v : ℕ) → x ≡ Some v → (v ≡ 0 → ⊥) → Read w (Word (2 * v))
    plain_word v n z = record {
      literal = λ l s p. ap Word (ap (λ (k : ℕ). 2 * k) (sym (same_number (plain-is l s p).0 n)) ∙ sym (plain-is l s p).1);
      zero = λ p. absurd (z (sym (same_number (is_zero p) n)));
    }

-- a part that reaches the end
pub to_end : (s : List ℕ) (at : ℕ) → take (length s - at) (drop at s) ≡ drop at s
to_end s at = take_all (length s - at) (drop at s) (omega (arith, length-drop at s))
