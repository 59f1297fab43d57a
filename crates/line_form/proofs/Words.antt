-- The words of a line one by one: what stands from place `at` on, and what a word says. Assumes nothing.
use Prim.Native.Nat.{ℕ, suc, ◌+◌, ◌-◌, ◌≤◌, ◌<◌, min}
use mathlib.Core.Path.{◌≡◌, refl, ap, sym, ◌∙◌}
use mathlib.Core.Bool.{Bool, true, false, cond, ◌&&◌}
use mathlib.Core.List.{List, [], ◌∷◌}
use Rattle.std.specs.Prelude.{Option, None, Some}
use native.Mathlib.Numerals.{add-one}
use native.Mathlib.Decide.{dec_lt}
use native.Mathlib.Omega.{arith}
use borrow.Author.Tests.{eq-eqb, ne_eqb, eqb-true}
use lib.Dec.{leb, eqb}
use lib.ListN.{length, take, drop, get_or, length-take, length-drop}
use lib.Seq.{take_all, take-nil, drop-drop}
use Rattle.model.specs.declared.Literal.TheVariants.{Pos, Neg}
use Rattle.model.specs.declared.Word.{Word}
use Rattle.model.specs.declared.Word.TheVariants.{Closing, Malformed}
use Rattle.model.specs.Sheet.{on_first, number_of, if_none, or_zero}
use Rattle.model.specs.Assignment.{words_of, variable_in, as_literal, word_value, word_refusal, word_variable, word_says, has_minus, variable_said, signed, is_zero, word_closes}
use Rattle.model.proofs.Loops.{drop-next}
use Rattle.model.proofs.Flags.{same_test}
use Rattle.line_form.specs.Form.{word_length}

module _ (l : List ℕ) (i : ℕ) (h : i < length l) where
  pub word_more : (get_or l i 0 ≡ 32 → ⊥) → word_length (drop i l) ≡ suc (word_length (drop (i + 1) l))
  word_more e = rw (drop-next 0 l i h) (simp (ne_eqb _ _ e))

  pub word-stop : get_or l i 0 ≡ 32 → word_length (drop i l) ≡ 0
  word-stop e = rw (drop-next 0 l i h) (simp (eq-eqb _ _ e))

pub word-le : (l : List ℕ) → word_length l ≤ length l
word-le [] = omega arith
word-le (b ∷ bs) = go (eqb b 32) (word-le bs)
  where
    go : (t : Bool) → word_length bs ≤ length bs → cond t 0 (suc (word_length bs)) ≤ suc (length bs)
    go true h = omega arith
    go false h = omega arith

-- the last word, and a word before others
pub words_last : (l : List ℕ) → word_length l ≡ length l → words_of l ≡ l ∷ []
words_last [] h = refl
words_last (b ∷ bs) h = go (eqb b 32) refl (words_last bs) h
  where
    go : (t : Bool) → eqb b 32 ≡ t → (word_length bs ≡ length bs → words_of bs ≡ bs ∷ []) → cond t 0 (suc (word_length bs)) ≡ suc (length bs)
        → cond t ([] ∷ words_of bs) (on_first b (words_of bs)) ≡ (b ∷ bs) ∷ []
    go true e ih h = absurd (omega arith)
    go false e ih h = rw (ih (omega arith))

pub words_more : (l : List ℕ) → word_length l < length l → words_of l ≡ take (word_length l) l ∷ words_of (drop (word_length l + 1) l)
words_more [] h = absurd (omega arith)
words_more (b ∷ bs) h = go (eqb b 32) (words_more bs) h
  where
    go : (t : Bool) → (word_length bs < length bs → words_of bs ≡ take (word_length bs) bs ∷ words_of (drop (word_length bs + 1) bs))
        → cond t 0 (suc (word_length bs)) < suc (length bs)
        → cond t ([] ∷ words_of bs) (on_first b (words_of bs)) ≡ take (cond t 0 (suc (word_length bs))) (b ∷ bs) ∷ words_of (drop (cond t 0 (suc (word_length bs)) + 1) (b ∷ bs))
    go true ih h = refl
    go false ih h = rw (ih (omega arith), add-one (word_length bs), add-one (suc (word_length bs)))

-- ---- from place `at` on, where the code's parts are `rest` and its first k bytes

module _ (s : List ℕ) (at k : ℕ) (place : at ≤ length s) (e : k ≡ word_length (take (length s - at) (drop at s))) where
  pub rest-is : take (length s - at) (drop at s) ≡ drop at s
  rest-is = take_all (length s - at) (drop at s) (rw (length-drop at s) (omega arith))

  k-is : k ≡ word_length (drop at s)
  k-is = e ∙ ap word_length rest-is

  pub k-le : at + k ≤ length s
  k-le = omega (arith, k-is, word-le (drop at s), length-drop at s)

  abbrev word : List ℕ
  word = take k (take (length s - at) (drop at s))

  word-is : word ≡ take (word_length (drop at s)) (drop at s)
  word-is = rw (rest-is, k-is)

  pub word_size : k ≡ length word
  word_size = sym (length-take k (take (length s - at) (drop at s)) ∙ ap (min k) (ap length rest-is ∙ length-drop at s) ∙ omega (arith, k-le))

  pub is_last : at + k ≡ length s → words_of (drop at s) ≡ word ∷ []
  is_last h =
      let n : word_length (drop at s) ≡ length (drop at s) = omega (arith, k-is, length-drop at s) in
      words_last (drop at s) n ∙ ap (λ (w : List ℕ). w ∷ []) (sym (word-is ∙ take_all (word_length (drop at s)) (drop at s) (omega (arith, n))))

  pub is-more : at + k < length s → words_of (drop at s) ≡ word ∷ words_of (drop (at + k + 1) s)
  is-more h =
      let n : word_length (drop at s) < length (drop at s) = omega (arith, k-is, length-drop at s) in
      let j : at + (word_length (drop at s) + 1) ≡ at + k + 1 = omega (arith, k-is) in
      words_more (drop at s) n
      ∙ ap (λ (w : List ℕ). w ∷ words_of (drop (word_length (drop at s) + 1) (drop at s))) (sym word-is)
      ∙ ap (λ (l : List ℕ). word ∷ words_of l) (drop-drop (word_length (drop at s) + 1) at s ∙ ap (λ (n : ℕ). drop n s) j)

  pub is_some : (ws : List (List ℕ)) × (words_of (drop at s) ≡ word ∷ ws)
  is_some = go (dec_lt (at + k) (length s))
    where
      go : Dec (at + k < length s) → (ws : List (List ℕ)) × (words_of (drop at s) ≡ word ∷ ws)
      go (yes h) = (words_of (drop (at + k + 1) s), is-more h)
      go (no f) = ([], is_last (omega (arith, k-le)))

  -- the same of the first m words of s, of which `count` were gone through
  module _ (m count : ℕ) (more : count < m) where
    first_of : (ws : List (List ℕ)) → take (m - count) (word ∷ ws) ≡ word ∷ take (m - (count + 1)) ws
    first_of ws = let n : m - count ≡ suc (m - (count + 1)) = omega arith in ap (λ (i : ℕ). take i (word ∷ ws)) n

    pub first-last : at + k ≡ length s → take (m - count) (words_of (drop at s)) ≡ word ∷ []
    first-last h = ap (take (m - count)) (is_last h) ∙ first_of [] ∙ ap (λ (ws : List (List ℕ)). word ∷ ws) (take-nil (m - (count + 1)))

    pub first_more : at + k < length s → take (m - count) (words_of (drop at s)) ≡ word ∷ take (m - (count + 1)) (words_of (drop (at + k + 1) s))
    first_more h = ap (take (m - count)) (is-more h) ∙ first_of (words_of (drop (at + k + 1) s))

    pub first_some : (ws : List (List ℕ)) × (take (m - count) (words_of (drop at s)) ≡ word ∷ ws)
    first_some = let w = is_some in (take (m - (count + 1)) w.0, ap (take (m - count)) w.1 ∙ first_of w.0)

-- there is always a word
pub words-some : (l : List ℕ) → (v : List ℕ) × (vs : List (List ℕ)) × (words_of l ≡ v ∷ vs)
words-some [] = ([], [], refl)
words-some (b ∷ bs) = go (eqb b 32) (words-some bs)
  where
    go : (t : Bool) → (v : List ℕ) × (vs : List (List ℕ)) × (words_of bs ≡ v ∷ vs)
        → (v : List ℕ) × (vs : List (List ℕ)) × (cond t ([] ∷ words_of bs) (on_first b (words_of bs)) ≡ v ∷ vs)
    go true r = ([], words_of bs, refl)
    go false r = (b ∷ r.0, r.1, ap (on_first b) r.2)

-- ---- the number and the values of a word

-- by its sign, whether it is `0`, and the variable that its digits name with the sign and without it
says : (m z : Bool) (o p : Option ℕ) → (z ≡ true → m ≡ false) → (z ≡ true → p ≡ None)
    → ((word_refusal (cond m (as_literal Neg o) (cond z Closing (as_literal Pos p))) ≡ cond z 0 (if_none 10 (cond m o p))) × (word_closes (cond m (as_literal Neg o) (cond z Closing (as_literal Pos p))) ≡ z))
    × ((word_variable (cond m (as_literal Neg o) (cond z Closing (as_literal Pos p))) ≡ or_zero (cond m o p)) × (word_says (cond m (as_literal Neg o) (cond z Closing (as_literal Pos p))) ≡ signed m (cond m o p)))
says true true o p f g = let z : ◌≡◌ {A = ℕ} 0 1 = contradiction (f refl) in absurd (omega arith)
  where
    contradiction : true ≡ false → ◌≡◌ {A = ℕ} 0 1
    contradiction q = cc
says true false None p f g = ((refl, refl), (refl, refl))
says true false (Some v) p f g = ((refl, refl), (refl, refl))
says false true o None f g = ((refl, refl), (refl, refl))
says false true o (Some v) f g = let e = g refl in let z : ◌≡◌ {A = ℕ} 0 1 = cc in absurd (omega arith)
says false false o None f g = ((refl, refl), (refl, refl))
says false false o (Some v) f g = ((refl, refl), (refl, refl))

pub zero-names-none : (l : List ℕ) → eqb (get_or l 0 0) 48 ≡ true → variable_in l ≡ None
unfolding variable_in
zero-names-none l e = rw e (go (leb (length l) 9))
  where
    go : (b : Bool) → cond (b && false) (number_of l) None ≡ None
    go true = refl
    go false = refl

word-says-none : (r : Word) → r ≡ Malformed
    → ((word_refusal r ≡ cond (is_zero []) 0 (if_none 10 (variable_said []))) × (word_closes r ≡ is_zero []))
    × ((word_variable r ≡ or_zero (variable_said [])) × (word_says r ≡ signed (has_minus []) (variable_said [])))
unfolding is_zero variable_said has_minus variable_in number_of
word-says-none r e = ((ap word_refusal e, ap word_closes e), (ap word_variable e, ap word_says e))

pub word-says : (w : List ℕ) (r : Word) → r ≡ word_value w
    → (r ≡ word_value w)
    × (((word_refusal r ≡ cond (is_zero w) 0 (if_none 10 (variable_said w))) × (word_closes r ≡ is_zero w))
    × ((word_variable r ≡ or_zero (variable_said w)) × (word_says r ≡ signed (has_minus w) (variable_said w))))
unfolding word_value is_zero variable_said has_minus
word-says [] r e = (e, word-says-none r e)
word-says (b ∷ bs) r e =
    let x = says (eqb b 45) (eqb b 48 && eqb (length bs) 0) (variable_in bs) (variable_in (b ∷ bs)) (apart (eqb b 48) refl) (none_here (eqb b 48) refl) in
    let u = unsigned (eqb b 45) in
    let z = ap (λ (t : Bool). eqb b 48 && t) (same_test (length bs) 0 (suc (length bs)) 1 (λ q. omega arith) (λ q. omega arith)) in (
      e,
      (
        (
          ap word_refusal e ∙ x.0.0 ∙ ap (λ (o : Option ℕ). cond (eqb b 48 && eqb (length bs) 0) 0 (if_none 10 o)) u
              ∙ ap (λ (t : Bool). cond t 0 (if_none 10 (variable_in (cond (eqb b 45) bs (b ∷ bs))))) z,
          ap word_closes e ∙ x.0.1 ∙ z,
        ),
        (ap word_variable e ∙ x.1.0 ∙ ap or_zero u, ap word_says e ∙ x.1.1 ∙ ap (signed (eqb b 45)) u),
      ),
    )
  where
    contradiction : false ≡ true → ◌≡◌ {A = ℕ} 0 1
    contradiction q = cc

    unsigned : (m : Bool) → cond m (variable_in bs) (variable_in (b ∷ bs)) ≡ variable_in (cond m bs (b ∷ bs))
    unsigned true = refl
    unsigned false = refl

    apart : (t : Bool) → eqb b 48 ≡ t → (t && eqb (length bs) 0) ≡ true → eqb b 45 ≡ false
    apart true p q = ne_eqb b 45 (λ z. omega (arith, eqb-true b 48 p, z))
    apart false p q = let z = contradiction q in absurd (omega arith)

    none_here : (t : Bool) → eqb b 48 ≡ t → (t && eqb (length bs) 0) ≡ true → variable_in (b ∷ bs) ≡ None
    none_here true p q = zero-names-none (b ∷ bs) p
    none_here false p q = let z = contradiction q in absurd (omega arith)
