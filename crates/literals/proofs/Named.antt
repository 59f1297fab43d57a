-- The literals of a line's words: their refusal, their places, and the loops over them. Assumes nothing.
use Prim.Native.Nat.{ℕ, zero, suc, ◌+◌, ◌-◌, ◌/◌, ◌%◌, ◌^◌, ◌≤◌, ◌<◌}
use mathlib.Core.Path.{◌≡◌, refl, ap, sym, ◌∙◌, subst}
use mathlib.Core.Bool.{Bool, true, false, cond, ◌&&◌, ◌||◌}
use mathlib.Core.List.{List, [], ◌∷◌, ◌++◌}
use native.Mathlib.Omega.{arith}
use borrow.Author.Tests.{eq-eqb, ne_eqb, ltb-true, ltb-false}
use Rattle.model.proofs.Solver.{word-named}
use lib.Bits.{bit_or}
use lib.Dec.{ltb, eqb}
use lib.ListN.{length, take, drop, get_or, set, replicate, length-set, length-replicate, get_or-replicate}
use lib.Seq.{take-nil}
use Rattle.model.specs.declared.Literal.{Literal}
use Rattle.model.specs.declared.Word.{Word}
use Rattle.model.specs.declared.Word.TheVariants.{Names, Closing, Malformed}
use Rattle.model.specs.Lists.{stop}
use Rattle.model.specs.Words.{has}
use Rattle.model.specs.Assignment.{words_of, word_value, is_said, variable, value_for, with_value, literals_refusal, with_values}
use Rattle.model.proofs.Lists.{or-false, any_append}
use Rattle.model.proofs.Words.{has-zero}
use Rattle.model.proofs.Flags.{same_test, flag-set}
use Rattle.std.specs.Prelude.{Result, Ok, Err}
use Rattle.literals.specs.declared.Refusal.{Refusal}
use Rattle.literals.specs.declared.Refusal.TheVariants.{NoLiteral, Above, Taken}
use Rattle.line_form.proofs.Words.{k-le, word_size, is_last, is-more, is_some, first-last, first_more, first_some}
use Rattle.line_form.proofs.Forms.{is_names}
use Rattle.line_form.specs.Form.{word_length}
use Rattle.literals.specs.Line.{refusal_number, if_names, named, word_then, words_refusal, refusal_of, names?, Noted, with_flag, noted_with}

-- ---- the literals of words

module _ (w : List ℕ) (ws : List (List ℕ)) where
  pub named-names : (l : Literal) → word_value w ≡ Names l → named (w ∷ ws) ≡ l ∷ named ws
  named-names l e = rw e

-- a word that is no literal ends them
pub named_end : (w : List ℕ) (ws : List (List ℕ)) → is_names (word_value w) ≡ false → named (w ∷ ws) ≡ []
named_end w ws e = go (word_value w) e
  where
    go : (x : Word) → is_names x ≡ false → if_names x (named ws) ≡ []
    go (Names l) e = let z : ◌≡◌ {A = ℕ} 0 1 = cc in absurd (omega arith)
    go Closing e = refl
    go Malformed e = refl

-- ---- the refusal of words: that of their literals up to the first word that is none, then 10 at this word

abbrev pub all_named : List (List ℕ) → Bool
all_named [] = true
all_named (w ∷ ws) = is_names (word_value w) && all_named ws

module _ (w : List ℕ) (ws : List (List ℕ)) where
  pub all-names : (l : Literal) → word_value w ≡ Names l → all_named (w ∷ ws) ≡ all_named ws
  all-names l e = rw e

  pub all_end : is_names (word_value w) ≡ false → all_named (w ∷ ws) ≡ false
  all_end e = rw e

abbrev ended : Bool → ℕ → ℕ
ended all x = cond (eqb x 0) (cond all 0 10) x

words-refusal : (ws : List (List ℕ)) (values : List ℕ) → words_refusal ws values ≡ ended (all_named ws) (literals_refusal (named ws) values)
words-refusal [] values = refl
words-refusal (w ∷ ws) values = go (words-refusal ws) (word_value w)
  where
    step : (l : Literal) → ((vs : List ℕ) → words_refusal ws vs ≡ ended (all_named ws) (literals_refusal (named ws) vs)) → (a b : Bool)
        → stop a 11 (stop b 12 (words_refusal ws (with_value l values))) ≡ ended (all_named ws) (stop a 11 (stop b 12 (literals_refusal (named ws) (with_value l values))))
    step l ih true b = refl
    step l ih false true = refl
    step l ih false false = ih (with_value l values)

    go : ((vs : List ℕ) → words_refusal ws vs ≡ ended (all_named ws) (literals_refusal (named ws) vs)) → (x : Word)
        → word_then x values (words_refusal ws) ≡ ended (is_names x && all_named ws) (literals_refusal (if_names x (named ws)) values)
    go ih (Names l) = step l ih (ltb (length values) (variable l)) (is_said (get_or values (variable l - 1) 0))
    go ih Closing = refl
    go ih Malformed = refl

module _ (ws : List (List ℕ)) (values : List ℕ) where
  pub words-bad : (x : ℕ) → literals_refusal (named ws) values ≡ x → (x ≡ 0 → ⊥) → words_refusal ws values ≡ x
  words-bad x e f = words-refusal ws values ∙ rw (e, ne_eqb x 0 f)

  pub words-end : literals_refusal (named ws) values ≡ 0 → all_named ws ≡ false → words_refusal ws values ≡ 10
  words-end e f = words-refusal ws values ∙ rw (e, f)

  pub words-good : literals_refusal (named ws) values ≡ 0 → all_named ws ≡ true → words_refusal ws values ≡ 0
  words-good e f = words-refusal ws values ∙ rw (e, f)

  pub words-zero : words_refusal ws values ≡ 0 → literals_refusal (named ws) values ≡ 0
  words-zero z = go (all_named ws) (literals_refusal (named ws) values) (sym (words-refusal ws values) ∙ z)
    where
      go : (all : Bool) (x : ℕ) → ended all x ≡ 0 → x ≡ 0
      go all zero q = refl
      go all (suc x) q = rw (ne_eqb (suc x) 0 (λ z. omega (arith, z))) at q

-- as many words as literals are the literals
pub first-named : (ws : List (List ℕ)) → (named (take (length (named ws)) ws) ≡ named ws) × (all_named (take (length (named ws)) ws) ≡ true)
first-named [] = (refl, refl)
first-named (w ∷ ws) = go (word_value w) refl (first-named ws)
  where
    go : (x : Word) → word_value w ≡ x → (named (take (length (named ws)) ws) ≡ named ws) × (all_named (take (length (named ws)) ws) ≡ true)
        → (named (take (length (if_names x (named ws))) (w ∷ ws)) ≡ if_names x (named ws)) × (all_named (take (length (if_names x (named ws))) (w ∷ ws)) ≡ true)
    go (Names l) e ih =
        (named-names w (take (length (named ws)) ws) l e ∙ ap (λ (ls : List Literal). l ∷ ls) ih.0, all-names w (take (length (named ws)) ws) l e ∙ ih.1)
    go Closing e ih = (refl, refl)
    go Malformed e ih = (refl, refl)

pub words-counted : (ws : List (List ℕ)) (values : List ℕ) → words_refusal (take (length (named ws)) ws) values ≡ literals_refusal (named ws) values
words-counted ws values =
    let n = first-named ws in
    words-refusal (take (length (named ws)) ws) values ∙ rw (n.0, n.1) (go (literals_refusal (named ws) values))
  where
    go : (x : ℕ) → cond (eqb x 0) 0 x ≡ x
    go zero = refl
    go (suc x) = rw (ne_eqb (suc x) 0 (λ z. omega (arith, z)))

-- ---- places

-- a refusal has a number
pub refuses : (r : Refusal) → refusal_number r ≡ 0 → ⊥
refuses NoLiteral z = omega (arith, z)
refuses Above z = omega (arith, z)
refuses Taken z = omega (arith, z)

abbrev pub is_free : Result ℕ Refusal → Bool
is_free (Ok i) = true
is_free (Err r) = false

pub place_bad : (p : Result ℕ Refusal) (i x : ℕ) (a b c : Bool) → p ≡ cond a (Err Above) (cond b (Err Taken) (cond c (Err Taken) (Ok i))) → is_free p ≡ false
    → (stop a 11 (stop b 12 (stop c 12 x)) ≡ refusal_of p) × (refusal_of p ≡ 0 → ⊥)
place_bad p i x true b c e f = let q = ap refusal_of e in (sym q, λ z. omega (arith, q, z))
place_bad p i x false true c e f = let q = ap refusal_of e in (sym q, λ z. omega (arith, q, z))
place_bad p i x false false true e f = let q = ap refusal_of e in (sym q, λ z. omega (arith, q, z))
place_bad p i x false false false e f = let z : ◌≡◌ {A = ℕ} 0 1 = contradiction (sym (ap is_free e) ∙ f) in absurd (omega arith)
  where
    contradiction : true ≡ false → ◌≡◌ {A = ℕ} 0 1
    contradiction q = cc

pub place-free : (i j : ℕ) (a b c : Bool) → Ok i ≡ cond a (Err Above) (cond b (Err Taken) (cond c (Err Taken) (Ok j))) → (a ≡ false) × (b ≡ false) × (c ≡ false) × (i ≡ j)
place-free i j true b c e = let q : ◌≡◌ {A = ℕ} 0 11 = ap refusal_of e in absurd (omega arith)
place-free i j false true c e = let q : ◌≡◌ {A = ℕ} 0 12 = ap refusal_of e in absurd (omega arith)
place-free i j false false true e = let q : ◌≡◌ {A = ℕ} 0 12 = ap refusal_of e in absurd (omega arith)
place-free i j false false false e = let q : i ≡ j = cc in (refl, refl, refl, q)

-- ---- the first of literals that bring no refusal

pub literal-good : (l : Literal) (ls : List Literal) (values : List ℕ) → literals_refusal (l ∷ ls) values ≡ 0
    → (variable l ≤ length values) × (literals_refusal ls (with_value l values) ≡ 0)
literal-good l ls values e = go (ltb (length values) (variable l)) refl (is_said (get_or values (variable l - 1) 0)) e
  where
    go : (a : Bool) → ltb (length values) (variable l) ≡ a → (b : Bool) → stop a 11 (stop b 12 (literals_refusal ls (with_value l values))) ≡ 0
        → (variable l ≤ length values) × (literals_refusal ls (with_value l values) ≡ 0)
    go true p b e = absurd (omega arith)
    go false p true e = absurd (omega arith)
    go false p false e = (ltb-false (length values) (variable l) p, e)

-- ---- the loop that writes the first m words: `count` literals are written, the rest stands from place `at` on and is good

pub record Writing (s start values : List ℕ) (m at count : ℕ) : Type 0 where
  pub place : at ≤ length s
  pub few : count ≤ at
  pub size : length values ≡ length start
  pub wrote : with_values (named (take m (words_of s))) start ≡ with_values (named (take (m - count) (words_of (drop at s)))) values
  pub good : literals_refusal (named (take (m - count) (words_of (drop at s)))) values ≡ 0

pub write-start : (s start : List ℕ) (m : ℕ) → words_refusal (take m (words_of s)) start ≡ 0 → Writing s start start m 0 0
write-start s start m e =
    let z : m ≡ m - 0 = omega arith in
    record {
      place = omega arith;
      few = omega arith;
      size = refl;
      wrote = ap (λ (i : ℕ). with_values (named (take i (words_of s))) start) z;
      good = ap (λ (i : ℕ). literals_refusal (named (take i (words_of s))) start) (sym z) ∙ words-zero (take m (words_of s)) start e;
    }

module _ {s start values : List ℕ} {m at count : ℕ} (h : Writing s start values m at count) where
  pub write_done : m ≤ count → values ≡ with_values (named (take m (words_of s))) start
  write_done d =
      let z : m - count ≡ 0 = omega arith in
      sym (h.wrote ∙ ap (λ (i : ℕ). with_values (named (take i (words_of (drop at s)))) values) z)

  module _ (left : count < m) {k : ℕ} (e : k ≡ word_length (take (length s - at) (drop at s))) where
    abbrev here : List ℕ
    here = take k (take (length s - at) (drop at s))

    pub write-le : at + k ≤ length s
    write-le = k-le s at k h.place e

    pub write-size : k ≡ length (take k (take (length s - at) (drop at s)))
    write-size = word_size s at k h.place e

    pub write-end : is_names (word_value (take k (take (length s - at) (drop at s)))) ≡ false → values ≡ with_values (named (take m (words_of s))) start
    write-end f =
        let w = first_some s at k h.place e m count left in
        sym (h.wrote ∙ ap (λ (ls : List Literal). with_values ls values) (ap named w.1 ∙ named_end here w.0 f))

    module _ {l : Literal} (is : word_value (take k (take (length s - at) (drop at s))) ≡ Names l) {v : ℕ} (p : v ≡ variable l) where
      pub write-named : 1 ≤ v
      write-named = rw p (word-named here l is)

      named_here : (ws : List (List ℕ)) → take (m - count) (words_of (drop at s)) ≡ here ∷ ws → named (take (m - count) (words_of (drop at s))) ≡ l ∷ named ws
      named_here ws q = ap named q ∙ named-names here ws l is

      pub write-fits : v ≤ length values
      write-fits =
          let w = first_some s at k h.place e m count left in
          rw p (literal-good l (named w.0) values (subst (λ (ls : List Literal). literals_refusal ls values ≡ 0) (named_here w.0 w.1) h.good)).0

      module _ {x : ℕ} (q : x ≡ value_for l) where
        stored : with_value l values ≡ set values (v - 1) x
        unfolding with_value
        stored = rw (p, q)

        pub write-last : at + k ≡ length s → set values (v - 1) x ≡ with_values (named (take m (words_of s))) start
        write-last r =
            sym (h.wrote ∙ ap (λ (ls : List Literal). with_values ls values) (named_here [] (first-last s at k h.place e m count left r)) ∙ stored)

        pub write-more : at + k < length s → Writing s start (set values (v - 1) x) m (at + k + 1) (count + 1)
        write-more r =
            let ws = take (m - (count + 1)) (words_of (drop (at + k + 1) s)) in
            let n = named_here ws (first_more s at k h.place e m count left r) in
            record {
              place = omega arith;
              few = omega (arith, h.few);
              size = length-set values (v - 1) x ∙ h.size;
              wrote = h.wrote ∙ ap (λ (ls : List Literal). with_values ls values) n ∙ ap (with_values (named ws)) stored;
              good = subst (λ (vs : List ℕ). literals_refusal (named ws) vs ≡ 0) stored
                  (literal-good l (named ws) values (subst (λ (ls : List Literal). literals_refusal ls values ≡ 0) n h.good)).1;
            }

-- ---- looking for a variable among the first literals

module _ (s : List ℕ) (v at k : ℕ) (place : at ≤ length s) (e : k ≡ word_length (take (length s - at) (drop at s))) (count i : ℕ) (more : i < count) (b : Bool)
    (inv : b ≡ names? v (take (count - i) (named (words_of (drop at s))))) where
  next-count : count - i ≡ suc (count - (i + 1))
  next-count = omega arith

  pub look-end : is_names (word_value (take k (take (length s - at) (drop at s)))) ≡ false → b ≡ false
  look-end f =
      let w = is_some s at k place e in
      inv ∙ ap (λ (ls : List Literal). names? v (take (count - i) ls)) (ap named w.1 ∙ named_end (take k (take (length s - at) (drop at s))) w.0 f)
      ∙ ap (names? v) (take-nil (count - i))

  module _ (l : Literal) (is : word_value (take k (take (length s - at) (drop at s))) ≡ Names l) where
    look-first : (ws : List (List ℕ)) → words_of (drop at s) ≡ take k (take (length s - at) (drop at s)) ∷ ws
        → b ≡ (eqb (variable l) v || names? v (take (count - (i + 1)) (named ws)))
    look-first ws q =
        inv ∙ ap (λ (ls : List Literal). names? v (take (count - i) ls)) (ap named q ∙ named-names (take k (take (length s - at) (drop at s))) ws l is)
        ∙ ap (λ (n : ℕ). names? v (take n (l ∷ named ws))) next-count

    pub look-found : (x : ℕ) → x ≡ variable l → x ≡ v → b ≡ true
    look-found x p q = let w = is_some s at k place e in look-first w.0 w.1 ∙ rw (eq-eqb (variable l) v (sym p ∙ q))

    pub look-last : (x : ℕ) → x ≡ variable l → (x ≡ v → ⊥) → at + k ≡ length s → b ≡ false
    look-last x p f h =
        look-first [] (is_last s at k place e h) ∙ rw (ne_eqb (variable l) v (λ q. f (p ∙ q))) (ap (names? v) (take-nil (count - (i + 1))))

    pub look-more : (x : ℕ) → x ≡ variable l → (x ≡ v → ⊥) → at + k < length s → b ≡ names? v (take (count - (i + 1)) (named (words_of (drop (at + k + 1) s))))
    look-more x p f h = look-first (words_of (drop (at + k + 1) s)) (is-more s at k place e h) ∙ rw (ne_eqb (variable l) v (λ q. f (p ∙ q)))

-- ---- flags

-- flag j after flag i is set
flag_after : (flags : List ℕ) (i j : ℕ) → i / 64 < length flags
    → has (get_or (with_flag i flags) (j / 64) 0) (j % 64) ≡ (has (get_or flags (j / 64) 0) (j % 64) || eqb i j)
unfolding with_flag
flag_after flags i j h = flag-set flags i h j

pub noted-next : (flags : List ℕ) (seen : List Literal) (l : Literal) (v : ℕ) → v ≡ variable l → 1 ≤ v → Noted flags seen → Noted (noted_with v flags) (seen ++ (l ∷ []))
unfolding noted_with
noted-next flags seen l v p h n = go (ltb (v - 1) 65536) refl
  where
    named_more : (i : ℕ) → names? (suc i) (seen ++ (l ∷ [])) ≡ (names? (suc i) seen || eqb (variable l) (suc i))
    named_more i = any_append (λ k. eqb (variable k) (suc i)) seen (l ∷ []) ∙ ap (λ (b : Bool). names? (suc i) seen || b) (or-false (eqb (variable l) (suc i)))

    past : ltb (v - 1) 65536 ≡ false → (i : ℕ) → i < 65536 → has (get_or flags (i / 64) 0) (i % 64) ≡ names? (suc i) (seen ++ (l ∷ []))
    past q i r =
        let b = ltb-false (v - 1) 65536 q in
        n.at i r
        ∙ sym (named_more i ∙ ap (λ (b : Bool). names? (suc i) seen || b) (ne_eqb (variable l) (suc i) (λ z. omega (arith, p, z, b, r))) ∙ or-false (names? (suc i) seen))

    go : (b : Bool) → ltb (v - 1) 65536 ≡ b → Noted (cond b (with_flag (v - 1) flags) flags) (seen ++ (l ∷ []))
    go true q = record {
      size = unfold with_flag in length-set flags ((v - 1) / 64) (bit_or (get_or flags ((v - 1) / 64) 0) (2 ^ ((v - 1) % 64))) ∙ n.size;
      at = λ i r. flag_after flags (v - 1) i (omega (arith, n.size, ltb-true (v - 1) 65536 q))
          ∙ ap (λ (b : Bool). b || eqb (v - 1) i) (n.at i r)
          ∙ ap (λ (b : Bool). names? (suc i) seen || b) (same_test (v - 1) i (variable l) (suc i) (λ q. omega (arith, p)) (λ q. omega (arith, p)))
          ∙ sym (named_more i);
    }
    go false q = record { size = n.size; at = past q }

pub noted-none : Noted (replicate 1024 0) []
noted-none = record {
  size = length-replicate {A = ℕ} 1024 0;
  at = λ i r. ap (λ (w : ℕ). has w (i % 64)) (get_or-replicate 1024 (i / 64) 0 0 (omega arith)) ∙ has-zero (i % 64);
}
