-- A whole `v` line: its form, what a refused one answers and what a taken one does. Assumes nothing.
use Prim.Native.Nat.{ℕ, ◌+◌, ◌-◌, ◌<◌}
use mathlib.Core.Path.{◌≡◌, refl, ap, sym, ◌∙◌}
use mathlib.Core.Bool.{Bool, true, false}
use mathlib.Core.List.{List, [], ◌∷◌}
use Rattle.std.specs.Prelude.{Option, None, Some}
use native.Mathlib.Decide.{ℕ_discrete}
use native.Mathlib.Omega.{arith}
use borrow.Author.Tests.{ne_eqb}
use lib.Dec.{eqb}
use lib.ListN.{length, get_or, take, drop}
use Rattle.model.specs.declared.Literal.{Literal}
use Rattle.model.specs.declared.Word.{Word}
use Rattle.model.specs.declared.Word.TheVariants.{Names, Closing, Malformed}
use Rattle.model.specs.declared.Reading.{Reading}
use Rattle.model.specs.Assignment.{words_of, word_value, Said, nothing_said, with_literal, say_word, say_words, form_of, literals_refusal, with_values, said_refusal, is_passed_over, call_refusal, is_taken, line_read, values_after}
use Rattle.line_form.specs.declared.Shape.{Shape}
use Rattle.line_form.specs.Form.{form_from, form_refusal, form_count, form_closes}
use Rattle.literals.specs.Line.{if_names, named, words_refusal, taken_by}
use Rattle.literals.proofs.Named.{first-named, words-counted}
use Rattle.line_form.proofs.Forms.{alone, spaced, joined}
use Rattle.literals.proofs.Taken.{taken-good, taken_none}

-- ---- the form

-- a good form says something: so many literals, closed or not
pub said_of : (o : Option Said) (f : Option Shape) (g : Shape) → f ≡ form_from o → f ≡ Some g → (s : Said) × (o ≡ Some s) × (s.closed ≡ g.closed) × (length s.literals ≡ g.count)
said_of None f g e w = let z : ◌≡◌ {A = ℕ} 10 0 = ap form_refusal (sym e ∙ w) in absurd (omega arith)
said_of (Some s) f g e w =
    let q = sym e ∙ w in
    let n : 0 + length s.literals ≡ g.count = ap form_count q in
    (s, refl, ap form_closes q, omega (arith, n))

pub wrong_of : (o : Option Said) (f : Option Shape) → f ≡ form_from o → f ≡ None → o ≡ None
wrong_of None f e w = refl
wrong_of (Some s) f e w = let z : ◌≡◌ {A = ℕ} 0 10 = ap form_refusal (sym e ∙ w) in absurd (omega arith)

unspaced : (l : List ℕ) → get_or l 0 0 ≡ 118 → get_or l 0 0 ≡ 32 → ⊥
unspaced l e q = omega arith

-- a line longer than `v`, of good form, is `v`, a space and words
pub is-spaced : (l : List ℕ) → get_or l 0 0 ≡ 118 → (length l ≡ 1 → ⊥) → 0 < length l → (s : Said) → form_of l ≡ Some s
    → say_words (words_of (take (length l - 2) (drop 2 l))) ≡ Some s
is-spaced l e f h s q = go (ℕ_discrete (get_or l 1 0) 32)
  where
    go : Dec (get_or l 1 0 ≡ 32) → say_words (words_of (take (length l - 2) (drop 2 l))) ≡ Some s
    go (yes g) = sym (spaced l (unspaced l e) f h g) ∙ q
    go (no g) = let n = joined l (unspaced l e) f h g in let z : ◌≡◌ {A = ℕ} 0 1 = cc in absurd (omega arith)

-- the literals that words say are those that they name
pub say-named : (ws : List (List ℕ)) (s : Said) → say_words ws ≡ Some s → s.literals ≡ named ws
unfolding nothing_said
say-named [] s e = let q : record { literals = []; closed = false } ≡ s = cc in ap (λ (x : Said). x.literals) (sym q)
say-named (w ∷ ws) s e = go (word_value w) (say-named ws) e
  where
    with-literal : (l : Literal) (o : Option Said) → say_words ws ≡ o → ((s : Said) → say_words ws ≡ Some s → s.literals ≡ named ws)
        → with_literal l o ≡ Some s → s.literals ≡ l ∷ named ws
    with-literal l None q ih e = let n : ◌≡◌ {A = ℕ} 0 1 = cc in absurd (omega arith)
    with-literal l (Some r) q ih e =
        let p : record { literals = l ∷ r.literals; closed = r.closed } ≡ s = cc in
        ap (λ (x : Said). x.literals) (sym p) ∙ ap (λ (ls : List Literal). l ∷ ls) (ih r q)

    closed-here : (vs : List (List ℕ)) → say_word Closing vs (say_words ws) ≡ Some s → s.literals ≡ []
    closed-here [] e = let p : record { literals = []; closed = true } ≡ s = cc in ap (λ (x : Said). x.literals) (sym p)
    closed-here (v ∷ vs) e = let n : ◌≡◌ {A = ℕ} 0 1 = cc in absurd (omega arith)

    go : (x : Word) → ((s : Said) → say_words ws ≡ Some s → s.literals ≡ named ws) → say_word x ws (say_words ws) ≡ Some s → s.literals ≡ if_names x (named ws)
    go Malformed ih e = let n : ◌≡◌ {A = ℕ} 0 1 = cc in absurd (omega arith)
    go Closing ih e = closed-here ws e
    go (Names l) ih e = with-literal l (say_words ws) refl ih e

-- ---- the call

module _ (r : Reading) (line values : List ℕ) (first : get_or line 0 0 ≡ 118) (ready : r.closed ≡ false) where
  passed : is_passed_over line ≡ false
  unfolding is_passed_over
  passed = rw first

  chain : call_refusal r line values ≡ said_refusal (form_of line) values
  unfolding call_refusal
  chain = rw (passed, first, ready)

  taken : is_taken r line values ≡ eqb (said_refusal (form_of line) values) 0
  unfolding is_taken
  taken = rw (passed, chain)

  pub refused-line : (x : ℕ) → said_refusal (form_of line) values ≡ x → (x ≡ 0 → ⊥)
      → (record { refusal = x; reading = r } ≡ line_read r line values) × (values ≡ values_after r line values)
  unfolding line_read values_after
  refused-line x e f =
      let t : is_taken r line values ≡ false = taken ∙ ap (λ (y : ℕ). eqb y 0) e ∙ ne_eqb x 0 f in
      (rw (t, chain, e), rw t)

  pub taken-line : (s : Said) → form_of line ≡ Some s → literals_refusal s.literals values ≡ 0
      → (record { refusal = 0; reading = record { closed = s.closed } } ≡ line_read r line values) × (with_values s.literals values ≡ values_after r line values)
  unfolding line_read values_after
  taken-line s e z =
      let q : said_refusal (form_of line) values ≡ 0 = rw e z in
      let t : is_taken r line values ≡ true = taken ∙ ap (λ (y : ℕ). eqb y 0) q in
      (rw (t, chain, q, e), rw (t, e))

-- ---- each way out of the call

module _ (r : Reading) (line values : List ℕ) (first : get_or line 0 0 ≡ 118) (ready : r.closed ≡ false) (some_byte : 0 < length line)
    (f : Option Shape) (ef : f ≡ form_from (form_of line)) where
  abbrev part : List ℕ
  part = take (length line - 2) (drop 2 line)

  pub out-wrong : f ≡ None → (record { refusal = 10; reading = r } ≡ line_read r line values) × (values ≡ values_after r line values)
  out-wrong w = refused-line r line values first ready 10 (ap (λ (o : Option Said). said_refusal o values) (wrong_of (form_of line) f ef w)) (λ z. omega (arith, z))

  module _ (g : Shape) (eg : f ≡ Some g) where
    said : (s : Said) × (form_of line ≡ Some s) × (s.closed ≡ g.closed) × (length s.literals ≡ g.count)
    said = said_of (form_of line) f g ef eg

    pub out-alone : length line ≡ 1 → (record { refusal = 0; reading = record { closed = g.closed } } ≡ line_read r line values) × (values ≡ values_after r line values)
    unfolding nothing_said
    out-alone h =
        let e : nothing_said ≡ said.0 = same (sym (alone line (unspaced line first) h) ∙ said.1) in
        let n : said.0.literals ≡ [] = ap (λ (x : Said). x.literals) (sym e) in
        let t = taken-line r line values first ready said.0 said.1 (rw n) in
        (ap (λ (b : Bool). record { refusal = 0; reading = record { closed = b } }) (sym said.2) ∙ t.0, ap (λ (ls : List Literal). with_values ls values) (sym n) ∙ t.1)
      where
        same : {x y : Said} → Some x ≡ Some y → x ≡ y
        same q = cc

    module _ (long : length line ≡ 1 → ⊥) (bad : ℕ) (eb : bad ≡ words_refusal (take g.count (words_of (take (length line - 2) (drop 2 line)))) values) where
      literals-are : said.0.literals ≡ named (words_of (take (length line - 2) (drop 2 line)))
      literals-are = say-named (words_of part) said.0 (is-spaced line first long some_byte said.0 said.1)

      count-is : length (named (words_of (take (length line - 2) (drop 2 line)))) ≡ g.count
      count-is = ap length (sym literals-are) ∙ said.3

      bad-is : literals_refusal said.0.literals values ≡ bad
      bad-is =
          ap (λ (ls : List Literal). literals_refusal ls values) literals-are ∙ sym (words-counted (words_of part) values)
          ∙ ap (λ (n : ℕ). words_refusal (take n (words_of part)) values) count-is ∙ sym eb

      named-is : named (take g.count (words_of (take (length line - 2) (drop 2 line)))) ≡ said.0.literals
      named-is = ap (λ (n : ℕ). named (take n (words_of part))) (sym count-is) ∙ (first-named (words_of part)).0 ∙ sym literals-are

      module _ (after : List ℕ) (ea : after ≡ taken_by (take g.count (words_of (take (length line - 2) (drop 2 line)))) values) where
        pub out-refused : (bad ≡ 0 → ⊥) → (record { refusal = bad; reading = r } ≡ line_read r line values) × (after ≡ values_after r line values)
        out-refused x =
            let t = refused-line r line values first ready bad (ap (λ (o : Option Said). said_refusal o values) said.1 ∙ bad-is) x in
            (t.0, ea ∙ sym (taken_none (take g.count (words_of part)) values bad eb x) ∙ t.1)

        pub out-taken : bad ≡ 0 → (record { refusal = 0; reading = record { closed = g.closed } } ≡ line_read r line values) × (after ≡ values_after r line values)
        out-taken z =
            let t = taken-line r line values first ready said.0 said.1 (bad-is ∙ z) in (
              ap (λ (b : Bool). record { refusal = 0; reading = record { closed = b } }) (sym said.2) ∙ t.0,
              ea ∙ sym (taken-good (take g.count (words_of part)) values (sym eb ∙ z)) ∙ ap (λ (ls : List Literal). with_values ls values) named-is ∙ t.1,
            )
