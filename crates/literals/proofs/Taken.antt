-- A short line's literals, judged against the values as they become: what was written can be put back. Assumes nothing.
use Prim.Native.Nat.{ℕ, zero, suc, ◌+◌, ◌-◌, ◌≤◌, ◌<◌}
use mathlib.Core.Path.{◌≡◌, refl, ap, sym, ◌∙◌}
use mathlib.Core.Bool.{true, false, cond}
use mathlib.Core.List.{List, [], ◌∷◌}
use native.Mathlib.Decide.{ℕ_discrete}
use native.Mathlib.Numerals.{add-one}
use native.Mathlib.Omega.{arith}
use lib.Dec.{ltb}
use borrow.Author.Tests.{ne_eqb, ltb-false}
use lib.ListN.{length, get_or, set, take, drop, replicate, length-set, length-replicate}
use lib.Seq.{get_or-set_same, get_or-set_other, set-set, set-get_or}
use Rattle.model.specs.declared.Literal.{Literal}
use Rattle.model.specs.declared.Word.TheVariants.{Names}
use Rattle.model.specs.Assignment.{words_of, word_value, is_said, variable, value_for, with_value, literals_refusal, with_values}
use Rattle.model.proofs.Solver.{word-named}
use Rattle.std.specs.Prelude.{Result, Ok, Err}
use Rattle.literals.specs.declared.Refusal.{Refusal}
use Rattle.literals.specs.declared.Refusal.TheVariants.{Above, Taken}
use Rattle.line_form.specs.Form.{word_length}
use Rattle.literals.specs.Line.{named, words_refusal, place_of, refusal_of, PlacesBelow, put_back, taken_by}
use Rattle.line_form.proofs.Words.{k-le, word_size, first-last, first_more, first_some}
use Rattle.line_form.proofs.Forms.{is_names}
use Rattle.literals.proofs.Named.{named-names, named_end, all_named, all-names, all_end, words-bad, words-end, words-good, is_free, place_bad, place-free}

-- ---- after literals that are all good, and after a refusal

module _ (ws : List (List ℕ)) (values : List ℕ) where
  pub taken-good : words_refusal ws values ≡ 0 → with_values (named ws) values ≡ taken_by ws values
  unfolding taken_by
  taken-good e = rw e

  pub taken_none : (x : ℕ) → x ≡ words_refusal ws values → (x ≡ 0 → ⊥) → values ≡ taken_by ws values
  unfolding taken_by
  taken_none x e f = rw (ne_eqb (words_refusal ws values) 0 (λ q. f (e ∙ q)))

-- ---- one place more

back-other : (n : ℕ) (places bytes values : List ℕ) (j p b : ℕ) → n ≤ j → put_back n (set places j p) (set bytes j b) values ≡ put_back n places bytes values
back-other zero places bytes values j p b h = refl
back-other (suc n) places bytes values j p b h =
    rw (get_or-set_other places j n p 0 (λ e. omega (arith, e)), get_or-set_other bytes j n b 0 (λ e. omega (arith, e)))
    (back-other n places bytes (set values (get_or places n 0) (get_or bytes n 0)) j p b (omega arith))

module _ (places bytes values : List ℕ) (n p x : ℕ) (in-places : n < length places) (in_bytes : n < length bytes) where
  back-next : put_back (suc n) (set places n p) (set bytes n (get_or values p 0)) (set values p x) ≡ put_back n places bytes values
  back-next =
      rw (get_or-set_same places n p 0 in-places, get_or-set_same bytes n (get_or values p 0) 0 in_bytes, set-set values p x (get_or values p 0), set-get_or values p 0)
      (back-other n places bytes values n p (get_or values p 0) (omega arith))

  places-next : p < length values → PlacesBelow places n (length values) → PlacesBelow (set places n p) (suc n) (length values)
  places-next h w = record { at = λ i l. go i l (ℕ_discrete i n) }
    where
      go : (i : ℕ) → i < suc n → Dec (i ≡ n) → get_or (set places n p) i 0 < length values
      go i l (yes q) = rw (q, get_or-set_same places n p 0 in-places) h
      go i l (no f) = rw (get_or-set_other places n i p 0 f) (w.at i (omega arith))

-- ---- the loop over a short line's first m words: `count` literals are written, the rest stands from place `at` on

pub record Taking (s start values places bytes : List ℕ) (m at count : ℕ) : Type 0 where
  pub place : at ≤ length s
  pub few : count + count ≤ at
  pub size : length values ≡ length start
  pub same : literals_refusal (named (take m (words_of s))) start ≡ literals_refusal (named (take (m - count) (words_of (drop at s)))) values
  pub whole : all_named (take m (words_of s)) ≡ all_named (take (m - count) (words_of (drop at s)))
  pub wrote : with_values (named (take m (words_of s))) start ≡ with_values (named (take (m - count) (words_of (drop at s)))) values
  pub back : put_back count places bytes values ≡ start
  pub within : PlacesBelow places count (length values)
  pub in-places : length places ≡ 64
  pub in_bytes : length bytes ≡ 64

pub take-start : (s start : List ℕ) (m : ℕ) → Taking s start start (replicate 64 0) (replicate 64 0) m 0 0
take-start s start m =
    let z : m ≡ m - 0 = omega arith in
    record {
      place = omega arith;
      few = omega arith;
      size = refl;
      same = ap (λ (i : ℕ). literals_refusal (named (take i (words_of s))) start) z;
      whole = ap (λ (i : ℕ). all_named (take i (words_of s))) z;
      wrote = ap (λ (i : ℕ). with_values (named (take i (words_of s))) start) z;
      back = refl;
      within = record { at = λ i l. absurd (omega arith) };
      in-places = length-replicate {A = ℕ} 64 0;
      in_bytes = length-replicate {A = ℕ} 64 0;
    }

module _ {s start values places bytes : List ℕ} {m at count : ℕ} (h : Taking s start values places bytes m at count) where
  -- the answer of the first m words
  abbrev Answer : ℕ → List ℕ → Type 0
  Answer x after = (x ≡ words_refusal (take m (words_of s)) start) × (after ≡ taken_by (take m (words_of s)) start)

  -- every literal is written
  done : (after : List ℕ) → literals_refusal (named (take m (words_of s))) start ≡ 0 → all_named (take m (words_of s)) ≡ true
      → with_values (named (take m (words_of s))) start ≡ after → Answer 0 after
  done after z a w = let g = words-good (take m (words_of s)) start z a in (sym g, sym w ∙ taken-good (take m (words_of s)) start g)

  pub take_done : m ≤ count → (0 ≡ words_refusal (take m (words_of s)) start) × (values ≡ taken_by (take m (words_of s)) start)
  take_done d =
      let z : m - count ≡ 0 = omega arith in
      done values (h.same ∙ ap (λ (i : ℕ). literals_refusal (named (take i (words_of (drop at s)))) values) z)
      (h.whole ∙ ap (λ (i : ℕ). all_named (take i (words_of (drop at s)))) z)
      (h.wrote ∙ ap (λ (i : ℕ). with_values (named (take i (words_of (drop at s)))) values) z)

  -- a refusal: what was written is put back
  refused : (x : ℕ) → words_refusal (take m (words_of s)) start ≡ x → (x ≡ 0 → ⊥) → (after : List ℕ) → after ≡ put_back count places bytes values → Answer x after
  refused x q f after b = (sym q, b ∙ h.back ∙ taken_none (take m (words_of s)) start x (sym q) f)

  module _ (left : count < m) {k : ℕ} (e : k ≡ word_length (take (length s - at) (drop at s))) where
    abbrev word : List ℕ
    word = take k (take (length s - at) (drop at s))

    pub take-le : at + k ≤ length s
    take-le = k-le s at k h.place e

    pub take-size : k ≡ length (take k (take (length s - at) (drop at s)))
    take-size = word_size s at k h.place e

    pub take-end : is_names (word_value (take k (take (length s - at) (drop at s)))) ≡ false → (after : List ℕ) → after ≡ put_back count places bytes values
        → (10 ≡ words_refusal (take m (words_of s)) start) × (after ≡ taken_by (take m (words_of s)) start)
    take-end f =
        let w = first_some s at k h.place e m count left in
        let n : named (take (m - count) (words_of (drop at s))) ≡ [] = ap named w.1 ∙ named_end word w.0 f in
        refused 10
        (words-end (take m (words_of s)) start (h.same ∙ ap (λ (ls : List Literal). literals_refusal ls values) n) (h.whole ∙ ap all_named w.1 ∙ all_end word w.0 f))
        (λ z. omega (arith, z))

    module _ {l : Literal} (is : word_value (take k (take (length s - at) (drop at s))) ≡ Names l) {v : ℕ} (p : v ≡ variable l) where
      pub take-named : 1 ≤ v
      take-named = rw p (word-named word l is)

      -- a literal has a byte
      take-byte : 1 ≤ k
      unfolding word_value
      take-byte = go k is
        where
          go : (n : ℕ) → word_value (take n (take (length s - at) (drop at s))) ≡ Names l → 1 ≤ n
          go zero q = let z : ◌≡◌ {A = ℕ} 0 1 = cc in absurd (omega arith)
          go (suc n) q = omega arith

      pub take-room : length s ≤ 128 → count < 64
      take-room b = omega (arith, h.few, take-byte, take-le)

      here : (ws : List (List ℕ)) → take (m - count) (words_of (drop at s)) ≡ word ∷ ws → named (take (m - count) (words_of (drop at s))) ≡ l ∷ named ws
      here ws q = ap named q ∙ named-names word ws l is

      step : (ws : List (List ℕ)) → take (m - count) (words_of (drop at s)) ≡ word ∷ ws
          → literals_refusal (named (take m (words_of s))) start ≡ literals_refusal (l ∷ named ws) values
      step ws q = h.same ∙ ap (λ (ls : List Literal). literals_refusal ls values) (here ws q)

      module _ {place : Result ℕ Refusal} (new : place ≡ place_of v values) where
        new_is : place ≡ cond (ltb (length values) (variable l)) (Err Above) (cond (is_said (get_or values (variable l - 1) 0)) (Err Taken) (Ok (variable l - 1)))
        unfolding place_of
        new_is = new ∙ rw p

        pub take-bad : is_free place ≡ false → (x : ℕ) → x ≡ refusal_of place → (after : List ℕ) → after ≡ put_back count places bytes values
            → (x ≡ words_refusal (take m (words_of s)) start) × (after ≡ taken_by (take m (words_of s)) start)
        take-bad f x q after r =
            let w = first_some s at k h.place e m count left in
            let b = place_bad place (variable l - 1) (literals_refusal (named w.0) (with_value l values)) (ltb (length values) (variable l)) (is_said (get_or values (variable l - 1) 0)) false new_is f in
            let a = refused (refusal_of place) (words-bad (take m (words_of s)) start (refusal_of place) (step w.0 w.1 ∙ b.0) b.1) b.1 after r in
            (q ∙ a.0, a.1)

        module _ {i : ℕ} (free : place ≡ Ok i) where
          facts : (ltb (length values) (variable l) ≡ false) × (is_said (get_or values (variable l - 1) 0) ≡ false) × (false ≡ false) × (i ≡ variable l - 1)
          facts = place-free i (variable l - 1) (ltb (length values) (variable l)) (is_said (get_or values (variable l - 1) 0)) false (sym free ∙ new_is)

          pub take-place : i ≡ v - 1
          take-place = facts.3 ∙ ap (λ (n : ℕ). n - 1) (sym p)

          pub take_within : i < length values
          take_within = omega (arith, facts.3, ltb-false (length values) (variable l) facts.0, p, take-named)

          module _ {x : ℕ} (q : x ≡ value_for l) where
            stored : with_value l values ≡ set values i x
            unfolding with_value
            stored = rw (facts.3, q)

            judged : (ws : List (List ℕ)) → take (m - count) (words_of (drop at s)) ≡ word ∷ ws
                → literals_refusal (named (take m (words_of s))) start ≡ literals_refusal (named ws) (set values i x)
            judged ws r = step ws r ∙ rw (facts.0, facts.1) (ap (literals_refusal (named ws)) stored)

            written : (ws : List (List ℕ)) → take (m - count) (words_of (drop at s)) ≡ word ∷ ws
                → with_values (named (take m (words_of s))) start ≡ with_values (named ws) (set values i x)
            written ws r = h.wrote ∙ ap (λ (ls : List Literal). with_values ls values) (here ws r) ∙ ap (with_values (named ws)) stored

            whole_here : (ws : List (List ℕ)) → take (m - count) (words_of (drop at s)) ≡ word ∷ ws → all_named (take m (words_of s)) ≡ all_named ws
            whole_here ws r = h.whole ∙ ap all_named r ∙ all-names word ws l is

            pub take_last : at + k ≡ length s → (0 ≡ words_refusal (take m (words_of s)) start) × (set values i x ≡ taken_by (take m (words_of s)) start)
            take_last r = let w = first-last s at k h.place e m count left r in done (set values i x) (judged [] w) (whole_here [] w) (written [] w)

            pub take_more : at + k < length s → length s ≤ 128
                → Taking s start (set values i x) (set places count (v - 1)) (set bytes count (get_or values i 0)) m (at + k + 1) (count + 1)
            take_more r b =
                let ahead = take (m - (count + 1)) (words_of (drop (at + k + 1) s)) in
                let w = first_more s at k h.place e m count left r in
                let n = length-set values i x in
                let a : count < length places = omega (arith, h.in-places, take-room b) in
                let c : count < length bytes = omega (arith, h.in_bytes, take-room b) in
                record {
                  place = omega arith;
                  few = omega (arith, h.few, take-byte);
                  size = n ∙ h.size;
                  same = judged ahead w;
                  whole = whole_here ahead w;
                  wrote = written ahead w;
                  back = rw (add-one count, ← take-place) (back-next places bytes values count i x a c ∙ h.back);
                  within = rw (add-one count, n, ← take-place) (places-next places bytes values count i x a c take_within h.within);
                  in-places = length-set places count (v - 1) ∙ h.in-places;
                  in_bytes = length-set bytes count (get_or values i 0) ∙ h.in_bytes;
                }
