-- The words of a solver line: a literal names a variable from 1 on. Assumes nothing.
use mathlib.Core.Path.{◌≡◌, refl, subst}
use Prim.Native.Nat.{ℕ, ◌+◌, ◌-◌, ◌*◌, ◌≤◌, ◌<◌}
use native.Mathlib.Omega.{arith}
use mathlib.Core.Bool.{Bool, true, false, cond, not, ◌&&◌}
use mathlib.Core.List.{List, [], ◌∷◌}
use Rattle.std.specs.Prelude.{Option, None, Some}
use borrow.Author.Tests.{eqb-false}
use lib.Dec.{leb, ltb, eqb, leb→le}
use lib.ListN.{length, get_or}
use Rattle.model.specs.declared.Literal.{Literal}
use Rattle.model.specs.declared.Literal.TheVariants.{Pos, Neg}
use Rattle.model.specs.declared.Word.{Word}
use Rattle.model.specs.declared.Word.TheVariants.{Names, Closing, Malformed}
use Rattle.model.specs.Lists.{between}
use Rattle.model.specs.Sheet.{digits_after, number_of}
use Rattle.model.specs.Assignment.{words_of, variable_in, as_literal, word_value, Said, nothing_said, with_literal, say_word, say_words, after_v, form_of, variable}
use Rattle.model.proofs.Lists.{All, true-T, and_left}

abbrev pub Named : Literal → Type 0
Named l = 1 ≤ variable l

digits_grow : (v : ℕ) (ds : List ℕ) (w : ℕ) → digits_after v ds ≡ Some w → v ≤ w
digits_grow v [] w e = let q : v ≡ w = cc in omega arith
digits_grow v (d ∷ ds) w e = go (between 48 57 d) (digits_grow (v * 10 + (d - 48)) ds w) e
  where
    go : (b : Bool) → (digits_after (v * 10 + (d - 48)) ds ≡ Some w → v * 10 + (d - 48) ≤ w) → cond b (digits_after (v * 10 + (d - 48)) ds) None ≡ Some w → v ≤ w
    go true ih e = let h = ih e in omega arith
    go false ih e = let z : ◌≡◌ {A = ℕ} 0 1 = cc in absurd (omega arith)

first-digit : (ds : List ℕ) (w : ℕ) → (get_or ds 0 0 ≡ 48 → ⊥) → 0 < length ds → digits_after 0 ds ≡ Some w → 1 ≤ w
first-digit [] w f h e = absurd (omega arith)
first-digit (d ∷ ds) w f h e = go (between 48 57 d) refl e
  where
    go : (b : Bool) → between 48 57 d ≡ b → cond b (digits_after (0 * 10 + (d - 48)) ds) None ≡ Some w → 1 ≤ w
    go true p e =
        let l : 48 ≤ d = leb→le 48 d (and_left (leb 48 d) (leb d 57) (true-T (between 48 57 d) p)) in
        let g = digits_grow (0 * 10 + (d - 48)) ds w e in omega arith
    go false p e = let z : ◌≡◌ {A = ℕ} 0 1 = cc in absurd (omega arith)

number-named : (ds : List ℕ) (v : ℕ) → variable_in ds ≡ Some v → 1 ≤ v
unfolding variable_in number_of
number-named ds v e = go (leb (length ds) 9) (eqb (get_or ds 0 0) 48) refl (eqb (length ds) 0) refl e
  where
    rest : ℕ → Bool
    rest n = ltb 1 n && eqb (get_or ds 0 0) 48

    last : (b : Bool) → eqb (get_or ds 0 0) 48 ≡ false → eqb (length ds) 0 ≡ false → cond b None (digits_after 0 ds) ≡ Some v → 1 ≤ v
    last true f z e = let n : ◌≡◌ {A = ℕ} 0 1 = cc in absurd (omega arith)
    last false f z e = first-digit ds v (eqb-false (get_or ds 0 0) 48 f) (omega (arith, eqb-false (length ds) 0 z)) e

    go : (a b : Bool) → eqb (get_or ds 0 0) 48 ≡ b → (z : Bool) → eqb (length ds) 0 ≡ z
        → cond (a && not b) (cond z None (cond (ltb 1 (length ds) && eqb (get_or ds 0 0) 48) None (digits_after 0 ds))) None ≡ Some v → 1 ≤ v
    go false b f z q e = let n : ◌≡◌ {A = ℕ} 0 1 = cc in absurd (omega arith)
    go true true f z q e = let n : ◌≡◌ {A = ℕ} 0 1 = cc in absurd (omega arith)
    go true false f true q e = let n : ◌≡◌ {A = ℕ} 0 1 = cc in absurd (omega arith)
    go true false f false q e = last (ltb 1 (length ds) && eqb (get_or ds 0 0) 48) f q e

literal-named : (sign : ℕ → Literal) → ((v : ℕ) → variable (sign v) ≡ v) → (ds : List ℕ) (l : Literal) → as_literal sign (variable_in ds) ≡ Names l → Named l
literal-named sign is ds l e = go (variable_in ds) refl e
  where
    go : (o : Option ℕ) → variable_in ds ≡ o → as_literal sign o ≡ Names l → Named l
    go None q e = let n : ◌≡◌ {A = ℕ} 0 1 = cc in absurd (omega arith)
    go (Some v) q e = let r : sign v ≡ l = cc in subst Named r (rw (is v) (number-named ds v q))

pub word-named : (w : List ℕ) (l : Literal) → word_value w ≡ Names l → Named l
unfolding word_value
word-named [] l e = let n : ◌≡◌ {A = ℕ} 0 1 = cc in absurd (omega arith)
word-named (b ∷ bs) l e = go (eqb b 45) (eqb b 48 && eqb (length bs) 0) e
  where
    go : (x y : Bool) → cond x (as_literal Neg (variable_in bs)) (cond y Closing (as_literal Pos (variable_in (b ∷ bs)))) ≡ Names l → Named l
    go true y e = literal-named Neg (λ v. refl) bs l e
    go false true e = let n : ◌≡◌ {A = ℕ} 0 1 = cc in absurd (omega arith)
    go false false e = literal-named Pos (λ v. refl) (b ∷ bs) l e

words-named : (ws : List (List ℕ)) (s : Said) → say_words ws ≡ Some s → All Named s.literals
unfolding nothing_said
words-named [] s e = let q : record { literals = []; closed = false } ≡ s = cc in subst (λ (x : Said). All Named x.literals) q tt
words-named (w ∷ ws) s e = go (word_value w) refl (words-named ws) e
  where
    with-literal : (l : Literal) → Named l → (o : Option Said) → say_words ws ≡ o → ((s : Said) → say_words ws ≡ Some s → All Named s.literals)
        → with_literal l o ≡ Some s → All Named s.literals
    with-literal l h None q ih e = let n : ◌≡◌ {A = ℕ} 0 1 = cc in absurd (omega arith)
    with-literal l h (Some r) q ih e =
        let p : record { literals = l ∷ r.literals; closed = r.closed } ≡ s = cc in
        subst (λ (x : Said). All Named x.literals) p (h, ih r q)

    closed-here : (vs : List (List ℕ)) → say_word Closing vs (say_words ws) ≡ Some s → All Named s.literals
    closed-here [] e = let p : record { literals = []; closed = true } ≡ s = cc in subst (λ (x : Said). All Named x.literals) p tt
    closed-here (v ∷ vs) e = let n : ◌≡◌ {A = ℕ} 0 1 = cc in absurd (omega arith)

    go : (x : Word) → word_value w ≡ x → ((s : Said) → say_words ws ≡ Some s → All Named s.literals) → say_word x ws (say_words ws) ≡ Some s → All Named s.literals
    go Malformed q ih e = let n : ◌≡◌ {A = ℕ} 0 1 = cc in absurd (omega arith)
    go Closing q ih e = closed-here ws e
    go (Names l) q ih e = with-literal l (word-named w l q) (say_words ws) refl ih e

pub form-named : (line : List ℕ) (s : Said) → form_of line ≡ Some s → All Named s.literals
unfolding form_of
form-named line s e = go (words_of line) e
  where
    go : (ws : List (List ℕ)) → after_v ws ≡ Some s → All Named s.literals
    go [] e = let n : ◌≡◌ {A = ℕ} 0 1 = cc in absurd (omega arith)
    go (w ∷ ws) e = tail (eqb (length w) 1) e
      where
        tail : (b : Bool) → cond b (say_words ws) None ≡ Some s → All Named s.literals
        tail true e = words-named ws s e
        tail false e = let n : ◌≡◌ {A = ℕ} 0 1 = cc in absurd (omega arith)
