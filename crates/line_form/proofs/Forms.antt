-- The form of words and of a whole line. Assumes nothing.
use Prim.Native.Nat.{ℕ, suc, ◌+◌, ◌-◌, ◌<◌}
use mathlib.Core.Path.{◌≡◌, refl, ap, ◌∙◌}
use mathlib.Core.Bool.{Bool, true, false}
use mathlib.Core.List.{List, [], ◌∷◌}
use Rattle.std.specs.Prelude.{Option, None, Some}
use native.Mathlib.Omega.{arith}
use borrow.Author.Tests.{ne_eqb}
use lib.Dec.{eqb}
use lib.ListN.{length, take, drop, get_or}
use lib.Seq.{take_all}
use Rattle.model.specs.declared.Literal.{Literal}
use Rattle.model.specs.declared.Word.{Word}
use Rattle.model.specs.declared.Word.TheVariants.{Names, Closing, Malformed}
use Rattle.model.specs.Assignment.{words_of, word_value, word_closes, Said, nothing_said, with_literal, say_word, say_words, said_by, form_of}
use Rattle.line_form.specs.declared.Shape.{Shape}
use Rattle.line_form.specs.Form.{form_after, form_from, form_refusal, form_count, form_closes, unsaid}
use Rattle.line_form.proofs.Words.{words-some}

-- whether a word is a literal
abbrev pub is_names : Word → Bool
is_names (Names l) = true
is_names Closing = false
is_names Malformed = false

-- the else of `let Word::Names(l) = .. else`
pub not-names : (x : Word) → ((l : _) → x ≡ Names l → ⊥) → is_names x ≡ false
not-names (Names l) k = absurd (k l refl)
not-names Closing k = refl
not-names Malformed k = refl

-- ---- the form of words, after c literals

form-after : (c : ℕ) (l : Literal) (o : Option Said) → form_after c (with_literal l o) ≡ form_after (c + 1) o
form-after c l None = refl
form-after c l (Some s) = let n : c + suc (length s.literals) ≡ c + 1 + length s.literals = omega arith in ap (λ (n : ℕ). Some (record { count = n; closed = s.closed })) n

module _ (c : ℕ) (w : List ℕ) (ws : List (List ℕ)) where
  pub form-names : (l : Literal) → word_value w ≡ Names l → form_after c (say_words (w ∷ ws)) ≡ form_after (c + 1) (say_words ws)
  form-names l e = rw e (form-after c l (say_words ws))

  -- no literal, and no closing 0 either
  pub form-bad : is_names (word_value w) ≡ false → word_closes (word_value w) ≡ false → form_after c (say_words (w ∷ ws)) ≡ None
  form-bad e f = go (word_value w) e f
    where
      go : (x : Word) → is_names x ≡ false → word_closes x ≡ false → form_after c (say_word x ws (say_words ws)) ≡ None
      go (Names l) e f = let z : ◌≡◌ {A = ℕ} 0 1 = cc in absurd (omega arith)
      go Closing e f = let z : ◌≡◌ {A = ℕ} 0 1 = cc in absurd (omega arith)
      go Malformed e f = refl

  -- no literal, and words after it
  pub form-not-last : is_names (word_value w) ≡ false → (v : List ℕ) (vs : List (List ℕ)) → ws ≡ v ∷ vs → form_after c (say_words (w ∷ ws)) ≡ None
  form-not-last e v vs n = rw n (go (word_value w) e)
    where
      go : (x : Word) → is_names x ≡ false → form_after c (say_word x (v ∷ vs) (say_words (v ∷ vs))) ≡ None
      go (Names l) e = let z : ◌≡◌ {A = ℕ} 0 1 = cc in absurd (omega arith)
      go Closing e = refl
      go Malformed e = refl

pub form-closing : (c : ℕ) (w : List ℕ) → word_closes (word_value w) ≡ true → form_after c (say_words (w ∷ [])) ≡ Some (record { count = c; closed = true })
form-closing c w e = go (word_value w) e
  where
    go : (x : Word) → word_closes x ≡ true → form_after c (say_word x [] (say_words [])) ≡ Some (record { count = c; closed = true })
    go (Names l) e = let z : ◌≡◌ {A = ℕ} 0 1 = cc in absurd (omega arith)
    go Closing e = let n : c + 0 ≡ c = omega arith in ap (λ (n : ℕ). Some (record { count = n; closed = true })) n
    go Malformed e = let z : ◌≡◌ {A = ℕ} 0 1 = cc in absurd (omega arith)

pub form-none : (c : ℕ) → form_after c (say_words []) ≡ Some (record { count = c; closed = false })
unfolding nothing_said
form-none c = let n : c + 0 ≡ c = omega arith in ap (λ (n : ℕ). Some (record { count = n; closed = false })) n

-- the number and the values of a form
pub form-says : (o : Option Said) (r : Option Shape) → r ≡ form_from o
    → (r ≡ form_from o) × ((form_refusal r ≡ unsaid 10 o) × (form_count r ≡ length (said_by o).literals) × (form_closes r ≡ (said_by o).closed))
unfolding nothing_said
form-says None r e = (e, (ap form_refusal e, ap form_count e, ap form_closes e))
form-says (Some s) r e = (e, (ap form_refusal e, ap form_count e ∙ omega arith, ap form_closes e))

-- ---- the form of a line: a byte, then a space and words

pub empty : (l : List ℕ) → length l ≡ 0 → form_of l ≡ None
unfolding form_of
empty [] h = refl
empty (b ∷ bs) h = absurd (omega arith)

pub blank : (l : List ℕ) → 0 < length l → get_or l 0 0 ≡ 32 → form_of l ≡ None
unfolding form_of
blank [] h e = absurd (omega arith)
blank (b ∷ bs) h e = rw e

-- a byte alone says nothing
pub alone : (l : List ℕ) → (get_or l 0 0 ≡ 32 → ⊥) → length l ≡ 1 → form_of l ≡ Some nothing_said
unfolding form_of
alone [] e h = absurd (omega arith)
alone (b ∷ []) e h = rw (ne_eqb b 32 e)
alone (b ∷ c ∷ bs) e h = absurd (omega arith)

-- a byte and a space
pub spaced : (l : List ℕ) → (get_or l 0 0 ≡ 32 → ⊥) → (length l ≡ 1 → ⊥) → 0 < length l → get_or l 1 0 ≡ 32
    → form_of l ≡ say_words (words_of (take (length l - 2) (drop 2 l)))
unfolding form_of
spaced [] e f h g = absurd (omega arith)
spaced (b ∷ []) e f h g = absurd (f refl)
spaced (b ∷ c ∷ bs) e f h g =
    let t : take (length (b ∷ c ∷ bs) - 2) bs ≡ bs = take_all (length (b ∷ c ∷ bs) - 2) bs (omega arith) in
    rw (t, ne_eqb b 32 e, g)

-- a byte and another
pub joined : (l : List ℕ) → (get_or l 0 0 ≡ 32 → ⊥) → (length l ≡ 1 → ⊥) → 0 < length l → (get_or l 1 0 ≡ 32 → ⊥) → form_of l ≡ None
unfolding form_of
joined [] e f h g = absurd (omega arith)
joined (b ∷ []) e f h g = absurd (f refl)
joined (b ∷ c ∷ bs) e f h g =
    let w = words-some bs in
    let n : eqb (suc (suc (length w.0))) 1 ≡ false = ne_eqb (suc (suc (length w.0))) 1 (λ q. omega (arith, q)) in
    rw (ne_eqb b 32 e, ne_eqb c 32 g, w.2) (rw n)
