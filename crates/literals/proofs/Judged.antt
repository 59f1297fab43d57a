-- Judging a line's literals against the values as they came and the literals before them is judging them against the values as they would become.
-- Assumes nothing.
use Prim.Native.Nat.{ℕ, suc, ◌+◌, ◌-◌, ◌≤◌, ◌<◌}
use mathlib.Core.Path.{◌≡◌, refl, ap, sym, ◌∙◌, subst}
use mathlib.Core.Bool.{Bool, true, false, cond, ◌||◌}
use mathlib.Core.List.{List, [], ◌∷◌, ◌++◌, append_assoc}
use native.Mathlib.Decide.{ℕ_discrete}
use native.Mathlib.Omega.{arith}
use borrow.Author.Tests.{eq-eqb, ne_eqb, ltb-false}
use lib.Dec.{ltb, eqb}
use lib.ListN.{length, get_or, set, take, drop, length-set, length-append}
use lib.Seq.{get_or-set_same, get_or-set_other, take_at}
use Rattle.model.specs.declared.Literal.{Literal}
use Rattle.model.specs.declared.Literal.TheVariants.{Pos, Neg}
use Rattle.model.specs.declared.Word.{Word}
use Rattle.model.specs.declared.Word.TheVariants.{Names, Closing, Malformed}
use Rattle.model.specs.Lists.{stop}
use Rattle.model.specs.Assignment.{words_of, word_value, is_said, variable, value_for, with_value, literals_refusal, with_values}
use Rattle.model.proofs.Lists.{or-false, All, all_append, or_assoc}
use Rattle.model.proofs.Solver.{Named, word-named}
use Rattle.std.specs.Prelude.{Result, Ok, Err}
use Rattle.literals.specs.declared.Refusal.{Refusal}
use Rattle.literals.specs.declared.Refusal.TheVariants.{Above, Taken}
use Rattle.line_form.specs.Form.{word_length}
use Rattle.literals.specs.Line.{if_names, named, words_refusal, names?, judged, new_place, refusal_of, Noted, noted_with}
use Rattle.line_form.proofs.Words.{k-le, word_size, is-more, first-last, first_more, first_some}
use Rattle.line_form.proofs.Forms.{is_names}
use Rattle.literals.proofs.Named.{named-names, named_end, all_named, all-names, all_end, words-bad, words-end, words-good, is_free, place_bad, place-free, noted-next}

pub named-all : (ws : List (List ℕ)) → All Named (named ws)
named-all [] = tt
named-all (w ∷ ws) = go (word_value w) refl (named-all ws)
  where
    go : (x : Word) → word_value w ≡ x → All Named (named ws) → All Named (if_names x (named ws))
    go (Names l) e h = (word-named w l e, h)
    go Closing e h = tt
    go Malformed e h = tt

-- ---- the values with literals written

with_length : (ls : List Literal) (values : List ℕ) → length (with_values ls values) ≡ length values
unfolding with_value
with_length [] values = refl
with_length (l ∷ ls) values = with_length ls (with_value l values) ∙ length-set values (variable l - 1) (value_for l)

with_last : (ls : List Literal) (l : Literal) (values : List ℕ) → with_values (ls ++ (l ∷ [])) values ≡ with_value l (with_values ls values)
with_last [] l values = refl
with_last (k ∷ ks) l values = with_last ks l (with_value k values)

value-said : (l : Literal) → is_said (value_for l) ≡ true
unfolding is_said
value-said (Pos v) = refl
value-said (Neg v) = refl

one-said : (l : Literal) → Named l → (values : List ℕ) (i : ℕ) → i < length values
    → is_said (get_or (with_value l values) i 0) ≡ (is_said (get_or values i 0) || eqb (variable l) (suc i))
unfolding with_value
one-said l n values i h = go (ℕ_discrete i (variable l - 1))
  where
    or-true : (a : Bool) → (a || true) ≡ true
    or-true true = refl
    or-true false = refl

    go : Dec (i ≡ variable l - 1) → is_said (get_or (set values (variable l - 1) (value_for l)) i 0) ≡ (is_said (get_or values i 0) || eqb (variable l) (suc i))
    go (yes q) =
        rw (eq-eqb (variable l) (suc i) (omega (arith, q, n)))
        (ap (λ (j : ℕ). is_said (get_or (set values (variable l - 1) (value_for l)) j 0)) q
        ∙ ap is_said (get_or-set_same values (variable l - 1) (value_for l) 0 (omega (arith, q, h)))
        ∙ value-said l ∙ sym (or-true (is_said (get_or values i 0))))
    go (no f) =
        rw (ne_eqb (variable l) (suc i) (λ z. f (omega (arith, z))), get_or-set_other values (variable l - 1) i (value_for l) 0 f)
        (sym (or-false (is_said (get_or values i 0))))

said-after : (ls : List Literal) → All Named ls → (values : List ℕ) (i : ℕ) → i < length values
    → is_said (get_or (with_values ls values) i 0) ≡ (is_said (get_or values i 0) || names? (suc i) ls)
said-after [] n values i h = sym (or-false (is_said (get_or values i 0)))
said-after (l ∷ ls) n values i h =
    said-after ls n.1 (with_value l values) i (subst (λ (k : ℕ). i < k) (sym (with_length (l ∷ []) values)) h)
    ∙ ap (λ (b : Bool). b || names? (suc i) ls) (one-said l n.0 values i h)
    ∙ or_assoc (is_said (get_or values i 0)) (eqb (variable l) (suc i)) (names? (suc i) ls)

stop-or : (a b : Bool) (r x : ℕ) → stop (a || b) r x ≡ stop a r (stop b r x)
stop-or true b r x = refl
stop-or false b r x = refl

pub judged-is : (ls seen : List Literal) (values : List ℕ) → All Named seen → All Named ls → literals_refusal ls (with_values seen values) ≡ judged seen ls values
judged-is [] seen values n m = refl
judged-is (l ∷ ls) seen values n m =
    rw (with_length seen values)
    (go
    (ap (literals_refusal ls) (sym (with_last seen l values)) ∙ judged-is ls (seen ++ (l ∷ [])) values (all_append Named seen (l ∷ []) n (m.0, tt)) m.1)
    (ltb (length values) (variable l)) refl)
  where
    go : literals_refusal ls (with_value l (with_values seen values)) ≡ judged (seen ++ (l ∷ [])) ls values → (a : Bool) → ltb (length values) (variable l) ≡ a
        → stop a 11 (stop (is_said (get_or (with_values seen values) (variable l - 1) 0)) 12 (literals_refusal ls (with_value l (with_values seen values))))
        ≡ stop a 11 (stop (is_said (get_or values (variable l - 1) 0)) 12 (stop (names? (variable l) seen) 12 (judged (seen ++ (l ∷ [])) ls values)))
    go ih true p = refl
    go ih false p =
        let i : suc (variable l - 1) ≡ variable l = omega (arith, m.0) in
        let s = said-after seen n values (variable l - 1) (omega (arith, ltb-false (length values) (variable l) p, m.0)) in
        let t = ap (λ (x : ℕ). is_said (get_or values (variable l - 1) 0) || names? x seen) i in
        rw (s ∙ t, ih) (stop-or (is_said (get_or values (variable l - 1) 0)) (names? (variable l) seen) 12 (judged (seen ++ (l ∷ [])) ls values))

-- ---- the loop over a line's first m words: `count` literals were looked at and are noted, the rest stands from place `at` on

pub record Looking (s values flags : List ℕ) (m at count : ℕ) : Type 0 where
  pub place : at ≤ length s
  pub few : count ≤ at
  pub parts : named (words_of s) ≡ take count (named (words_of s)) ++ named (words_of (drop at s))
  pub long : length (take count (named (words_of s))) ≡ count
  pub noted : Noted flags (take count (named (words_of s)))
  pub same : literals_refusal (named (take m (words_of s))) values ≡ judged (take count (named (words_of s))) (named (take (m - count) (words_of (drop at s)))) values
  pub whole : all_named (take m (words_of s)) ≡ all_named (take (m - count) (words_of (drop at s)))

pub look_start : (s values flags : List ℕ) (m : ℕ) → Noted flags [] → Looking s values flags m 0 0
look_start s values flags m n =
    let z : m ≡ m - 0 = omega arith in
    record {
      place = omega arith;
      few = omega arith;
      parts = refl;
      long = refl;
      noted = n;
      same = judged-is (named (take m (words_of s))) [] values tt (named-all (take m (words_of s))) ∙ ap (λ (i : ℕ). judged [] (named (take i (words_of s))) values) z;
      whole = ap (λ (i : ℕ). all_named (take i (words_of s))) z;
    }

-- m words were looked at
pub judge-done : (s values flags : List ℕ) (m at count : ℕ) → Looking s values flags m at count → m ≤ count → 0 ≡ words_refusal (take m (words_of s)) values
judge-done s values flags m at count h d =
    let z : m - count ≡ 0 = omega arith in
    sym (words-good (take m (words_of s)) values
    (h.same ∙ ap (λ (i : ℕ). judged (take count (named (words_of s))) (named (take i (words_of (drop at s)))) values) z)
    (h.whole ∙ ap (λ (i : ℕ). all_named (take i (words_of (drop at s)))) z))

module _ {s values flags : List ℕ} {m at count : ℕ} (h : Looking s values flags m at count) (left : count < m) {k : ℕ} (e : k ≡ word_length (take (length s - at) (drop at s))) where
  abbrev word : List ℕ
  word = take k (take (length s - at) (drop at s))

  abbrev all : List Literal
  all = named (words_of s)

  pub judge-le : at + k ≤ length s
  judge-le = k-le s at k h.place e

  pub judge-size : k ≡ length (take k (take (length s - at) (drop at s)))
  judge-size = word_size s at k h.place e

  pub judge-end : is_names (word_value (take k (take (length s - at) (drop at s)))) ≡ false → 10 ≡ words_refusal (take m (words_of s)) values
  judge-end f =
      let w = first_some s at k h.place e m count left in
      sym (words-end (take m (words_of s)) values
      (h.same ∙ ap (λ (ls : List Literal). judged (take count all) ls values) (ap named w.1 ∙ named_end word w.0 f))
      (h.whole ∙ ap all_named w.1 ∙ all_end word w.0 f))

  module _ {l : Literal} (is : word_value (take k (take (length s - at) (drop at s))) ≡ Names l) {v : ℕ} (p : v ≡ variable l) where
    pub judge-named : 1 ≤ v
    judge-named = rw p (word-named word l is)

    step : (ws : List (List ℕ)) → take (m - count) (words_of (drop at s)) ≡ word ∷ ws
        → literals_refusal (named (take m (words_of s))) values ≡ judged (take count all) (l ∷ named ws) values
    step ws q = h.same ∙ ap (λ (ls : List Literal). judged (take count all) ls values) (ap named q ∙ named-names word ws l is)

    module _ {place : Result ℕ Refusal} (new : place ≡ new_place (take count (named (words_of s))) v values) where
      new_is : place
          ≡ cond (ltb (length values) (variable l)) (Err Above)
          (cond (is_said (get_or values (variable l - 1) 0)) (Err Taken)
          (cond (names? (variable l) (take count all)) (Err Taken) (Ok (variable l - 1))))
      unfolding new_place
      new_is = new ∙ rw p

      pub judge-bad : is_free place ≡ false → refusal_of place ≡ words_refusal (take m (words_of s)) values
      judge-bad f =
          let w = first_some s at k h.place e m count left in
          let x = judged (take count all ++ (l ∷ [])) (named w.0) values in
          let b = place_bad place (variable l - 1) x (ltb (length values) (variable l)) (is_said (get_or values (variable l - 1) 0)) (names? (variable l) (take count all)) new_is f in
          sym (words-bad (take m (words_of s)) values (refusal_of place) (step w.0 w.1 ∙ b.0) b.1)

      module _ {i : ℕ} (free : place ≡ Ok i) where
        good : (ws : List (List ℕ)) → take (m - count) (words_of (drop at s)) ≡ word ∷ ws
            → literals_refusal (named (take m (words_of s))) values ≡ judged (take count all ++ (l ∷ [])) (named ws) values
        good ws q =
            let b = place-free i (variable l - 1) (ltb (length values) (variable l)) (is_said (get_or values (variable l - 1) 0)) (names? (variable l) (take count all)) (sym free ∙ new_is) in
            step ws q ∙ rw (b.0, b.1, b.2)

        whole_here : (ws : List (List ℕ)) → take (m - count) (words_of (drop at s)) ≡ word ∷ ws → all_named (take m (words_of s)) ≡ all_named ws
        whole_here ws q = h.whole ∙ ap all_named q ∙ all-names word ws l is

        pub judge-last : at + k ≡ length s → 0 ≡ words_refusal (take m (words_of s)) values
        judge-last x = let q = first-last s at k h.place e m count left x in sym (words-good (take m (words_of s)) values (good [] q) (whole_here [] q))

        pub judge-more : at + k < length s → Looking s values (noted_with v flags) m (at + k + 1) (count + 1)
        judge-more x =
            let q = first_more s at k h.place e m count left x in
            record {
              place = omega arith;
              few = omega (arith, h.few);
              parts = split ∙ ap (λ (ls : List Literal). ls ++ rest) (sym taken);
              long = ap length taken ∙ size;
              noted = subst (λ (ls : List Literal). Noted (noted_with v flags) ls) (sym taken) (noted-next flags (take count all) l v p judge-named h.noted);
              same = good ahead q ∙ ap (λ (ls : List Literal). judged ls (named ahead) values) (sym taken);
              whole = whole_here ahead q;
            }
          where
            ahead : List (List ℕ)
            ahead = take (m - (count + 1)) (words_of (drop (at + k + 1) s))

            rest : List Literal
            rest = named (words_of (drop (at + k + 1) s))

            split : all ≡ (take count all ++ (l ∷ [])) ++ rest
            split =
                h.parts
                ∙ ap (λ (ls : List Literal). take count all ++ ls)
                (ap named (is-more s at k h.place e x) ∙ named-names word (words_of (drop (at + k + 1) s)) l is)
                ∙ sym (append_assoc (take count all) (l ∷ []) rest)

            size : length (take count all ++ (l ∷ [])) ≡ count + 1
            size = length-append (take count all) (l ∷ []) ∙ ap (λ (n : ℕ). n + 1) h.long

            taken : take (count + 1) all ≡ take count all ++ (l ∷ [])
            taken = ap (take (count + 1)) split ∙ take_at (take count all ++ (l ∷ [])) rest (count + 1) size
