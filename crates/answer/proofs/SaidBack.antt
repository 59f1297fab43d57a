-- A written assignment is read back: the lines of its text say each of its literals, and a closing 0. Assumes nothing.
use Prim.Native.Nat.{ℕ, zero, suc, ◌+◌, ◌-◌, ◌≤◌, ◌<◌}
use mathlib.Core.Path.{◌≡◌, refl, sym, ap, ◌∙◌, subst}
use mathlib.Core.Logic.{◌⊎◌, inl, inr}
use mathlib.Core.Bool.{Bool, true, false, cond, ◌&&◌, ◌||◌}
use mathlib.Core.List.{List, [], ◌∷◌, ◌++◌, append_assoc, append-nil}
use Rattle.std.specs.Prelude.{Some}
use native.Mathlib.Decide.{dec_le}
use native.Mathlib.Omega.{arith}
use borrow.Author.Tests.{eq-eqb, ne_eqb, le-leb, le-ltb}
use lib.Dec.{T, ltb, leb, eqb}
use lib.ListN.{length, get_or, length-append}
use Rattle.model.specs.declared.Literal.{Literal}
use Rattle.model.specs.declared.Literal.TheVariants.{Pos, Neg}
use Rattle.model.specs.declared.Word.TheVariants.{Names}
use Rattle.std.specs.List.{list_any, list_all}
use Rattle.model.specs.Lists.{range}
use Rattle.model.specs.Sheet.{lines_of}
use Rattle.model.specs.Text.{decimal}
use Rattle.model.specs.Assignment.{words_of, variable_in, word_value, Said, nothing_said, say_words, form_of, is_passed_over, variable}
use Rattle.model.specs.Close.{truth, literal_true}
use Rattle.model.specs.Fill.{value_of, values_of}
use Rattle.model.specs.Demand.{names, offence, refusal_after, say_line, say_lines, says}
use Rattle.model.proofs.Lists.{All, all-imp, all_append, any_none, and_both, true-T, range-every}
use Rattle.encoding_laws.proofs.Decimal.{decimal-digits, decimal-first, decimal-number, decimal-bound}
use Rattle.answer.specs.Values.{value_text}
use Rattle.answer.specs.Assignment.{words_from, word_text, column_after, wrapped, assignment_text}
use Rattle.answer.proofs.Assignment.{word_fits, word-breaks, Plain, in_front, decimal-plain}
use Rattle.answer.proofs.RoundTrip.{Spaceless, in_first, decimal_spaceless}

-- ---- the literals of an assignment, from variable v on, and their words

abbrev pub literal_of : Bool → ℕ → Literal
literal_of b v = cond b (Pos v) (Neg v)

abbrev pub literals_from : ℕ → List Bool → List Literal
literals_from v [] = []
literals_from v (b ∷ bs) = literal_of b v ∷ literals_from (suc v) bs

abbrev word_of : Bool → ℕ → List ℕ
word_of b v = cond b (decimal v) (45 ∷ decimal v)

-- each after a space
abbrev spaced : ℕ → List Bool → List ℕ
spaced v [] = []
spaced v (b ∷ bs) = 32 ∷ word_of b v ++ spaced (suc v) bs

abbrev word_list : ℕ → List Bool → List (List ℕ)
word_list v [] = []
word_list v (b ∷ bs) = word_of b v ∷ word_list (suc v) bs

variable-is : (b : Bool) (v : ℕ) → variable (literal_of b v) ≡ v
variable-is true v = refl
variable-is false v = refl

value-is : (b : Bool) (v : ℕ) → value_text (value_of b) v ≡ 32 ∷ word_of b v
unfolding value_text
value-is true v = refl
value-is false v = refl

word_spaceless : (b : Bool) (v : ℕ) → Spaceless (word_of b v)
word_spaceless true v = decimal_spaceless v
word_spaceless false v = ((λ q. omega (arith, q)), decimal_spaceless v)

word-plain : (b : Bool) (v : ℕ) → Plain (word_of b v)
word-plain true v = decimal-plain v
word-plain false v = ((λ q. omega (arith, q)), decimal-plain v)

spaced-plain : (v : ℕ) (c : List Bool) → Plain (spaced v c)
spaced-plain v [] = tt
spaced-plain v (b ∷ bs) = ((λ q. omega (arith, q)), all_append _ (word_of b v) (spaced (suc v) bs) (word-plain b v) (spaced-plain (suc v) bs))

-- one more at the end
spaced-last : (c : List Bool) (v : ℕ) (b : Bool) {w : ℕ} → w ≡ v + length c → spaced v (c ++ (b ∷ [])) ≡ spaced v c ++ (32 ∷ word_of b w)
spaced-last [] v b {w} e = let k : w ≡ v = omega (arith, e) in rw (append-nil (word_of b v), k)
spaced-last (x ∷ c) v b {w} e =
    let k : w ≡ suc v + length c = omega (arith, e) in
    ap (λ (l : List ℕ). 32 ∷ l) (ap (λ (l : List ℕ). word_of x v ++ l) (spaced-last c (suc v) b k) ∙ sym (append_assoc (word_of x v) (spaced (suc v) c) (32 ∷ word_of b w)))

one_word : (b : Bool) (k : ℕ) {v : ℕ} → v ≡ suc k → value_text (value_of b) v ≡ spaced (suc k) (b ∷ [])
one_word b k {v} e = value-is b v ∙ ap (λ (w : ℕ). 32 ∷ word_of b w) e ∙ ap (λ (l : List ℕ). 32 ∷ l) (sym (append-nil (word_of b (suc k))))

literals-last : (c : List Bool) (v : ℕ) (b : Bool) {w : ℕ} → w ≡ v + length c → literals_from v (c ++ (b ∷ [])) ≡ literals_from v c ++ (literal_of b w ∷ [])
literals-last [] v b {w} e = let k : w ≡ v = omega (arith, e) in rw k
literals-last (x ∷ c) v b {w} e = let k : w ≡ suc v + length c = omega (arith, e) in ap (λ (l : List Literal). literal_of x v ∷ l) (literals-last c (suc v) b k)

-- ---- the form of a line: `v`, the literals' words, and what stands after them

variable-back : (v : ℕ) → 1 ≤ v → v < 100000 → variable_in (decimal v) ≡ Some v
unfolding variable_in
variable-back v one h =
    let short : length (decimal v) ≤ 9 = omega (arith, decimal-bound 4 v (omega arith)) in
    rw (le-leb _ _ short, ne_eqb (get_or (decimal v) 0 0) 48 (λ q. omega (arith, q, decimal-first v one)), decimal-number v)

positive : (v : ℕ) (ds : List ℕ) → 49 ≤ get_or ds 0 0 → variable_in ds ≡ Some v → word_value ds ≡ Names (Pos v)
unfolding word_value
positive v [] h e = absurd (omega arith)
positive v (d ∷ ds) h e = rw (ne_eqb d 45 (λ q. omega (arith, q)), ne_eqb d 48 (λ q. omega (arith, q)), e)

word_value_lem : (b : Bool) (v : ℕ) → 1 ≤ v → v < 100000 → word_value (word_of b v) ≡ Names (literal_of b v)
unfolding word_value
word_value_lem true v one h = positive v (decimal v) (decimal-first v one) (variable-back v one h)
word_value_lem false v one h = rw (variable-back v one h)

words-is : (t : List ℕ) (ws : List (List ℕ)) → words_of t ≡ [] ∷ ws → (v : ℕ) (c : List Bool) → words_of (spaced v c ++ t) ≡ [] ∷ (word_list v c ++ ws)
words-is t ws e v [] = e
words-is t ws e v (b ∷ bs) =
    ap (λ (l : List (List ℕ)). [] ∷ l)
    (ap words_of (append_assoc (word_of b v) (spaced (suc v) bs) t)
    ∙ in_first (word_of b v) (spaced (suc v) bs ++ t) [] (word_list (suc v) bs ++ ws) (word_spaceless b v) (words-is t ws e (suc v) bs)
    ∙ rw (append-nil (word_of b v)))

-- nothing, or a closing 0, after the literals
record Tail (t : List ℕ) (closed : Bool) : Type 0 where
  words : List (List ℕ)
  split : words_of t ≡ [] ∷ words
  said : say_words words ≡ Some (record { literals = []; closed = closed })

no-tail : Tail [] false
unfolding nothing_said
no-tail = record { words = []; split = refl; said = refl }

zero-tail : Tail (32 ∷ 48 ∷ []) true
unfolding word_value
zero-tail = record { words = (48 ∷ []) ∷ []; split = refl; said = refl }

module _ {t : List ℕ} {closed : Bool} (tail : Tail t closed) where
  words-say : (v : ℕ) (c : List Bool) → 1 ≤ v → v + length c ≤ 100000
      → say_words (word_list v c ++ tail.words) ≡ Some (record { literals = literals_from v c; closed = closed })
  words-say v [] one few = tail.said
  words-say v (b ∷ bs) one few = rw (word_value_lem b v one (omega arith), words-say (suc v) bs (omega arith) (omega arith))

  form-is : (v : ℕ) (c : List Bool) → 1 ≤ v → v + length c ≤ 100000
      → form_of (118 ∷ spaced v c ++ t) ≡ Some (record { literals = literals_from v c; closed = closed })
  unfolding form_of
  form-is v c one few = rw (words-is t tail.words tail.split v c) (words-say v c one few)

-- ---- a line: its literals name variables that no earlier one named

abbrev Below : ℕ → List Literal → Type 0
Below k said = All (λ l. variable l ≤ k) said

literals-below : (v : ℕ) (c : List Bool) (k : ℕ) → v + length c ≤ suc k → Below k (literals_from v c)
literals-below v [] k h = tt
literals-below v (b ∷ bs) k h = (omega (arith, variable-is b v), literals-below (suc v) bs k (omega arith))

no-offence : (most k : ℕ) (said : List Literal) (c : List Bool) → Below k said → k + length c ≤ most → offence most said (literals_from (suc k) c) ≡ 0
unfolding names
no-offence most k said [] low h = refl
no-offence most k said (b ∷ bs) low h =
    rw (in_reach, new)
    (no-offence most (suc k) (said ++ (l ∷ [])) bs (all_append _ said (l ∷ []) (all-imp _ _ (λ x q. omega (arith, q)) said low) (omega (arith, at), tt)) (omega arith))
  where
    l : Literal
    l = literal_of b (suc k)

    at : variable (literal_of b (suc k)) ≡ suc k
    at = variable-is b (suc k)

    in_reach : ltb most (variable (literal_of b (suc k))) ≡ false
    in_reach = le-ltb most (variable (literal_of b (suc k))) (omega (arith, at))

    new : list_any (names (literal_of b (suc k))) said ≡ false
    new = any_none (names (literal_of b (suc k))) said (all-imp _ _ (λ x q. ne_eqb (variable x) (variable (literal_of b (suc k))) (λ z. omega (arith, z, q, at))) said low)

module _ (most : ℕ) (few : most < 100000) where
  line-says : {t : List ℕ} {closed : Bool} (tail : Tail t closed) (k : ℕ) (said : List Literal) (c : List Bool) → Below k said → k + length c ≤ most
      → say_line most (record { literals = said; closed = false }) (118 ∷ spaced (suc k) c ++ t) ≡ record { literals = said ++ literals_from (suc k) c; closed = closed }
  unfolding say_line refusal_after is_passed_over
  line-says tail k said c low h = rw (form-is tail (suc k) c (omega arith) (omega arith), no-offence most k said c low h)

  -- ---- line after line

  ended : (w t : List ℕ) → Plain w → lines_of (w ++ (10 ∷ t)) ≡ w ∷ lines_of t
  ended w t p = in_front w (10 ∷ t) [] (lines_of t) p refl ∙ rw (append-nil w)

  abbrev front : ℕ → List Bool → List ℕ
  front k c = 118 ∷ spaced (suc k) c

  front-plain : (k : ℕ) (c : List Bool) → Plain (front k c)
  front-plain k c = ((λ q. omega (arith, q)), spaced-plain (suc k) c)

  abbrev after : List Literal → List ℕ → Said
  after said text = say_lines most (record { literals = said; closed = false }) (lines_of text)

  -- a line that ends here says its literals
  broken : (k : ℕ) (said : List Literal) (c : List Bool) (t : List ℕ) → Below k said → k + length c ≤ most
      → after said (front k c ++ (10 ∷ t)) ≡ after (said ++ literals_from (suc k) c) t
  broken k said c t low h =
      ap (say_lines most (record { literals = said; closed = false })) (ended (front k c) t (front-plain k c))
      ∙ ap (λ (s : Said). say_lines most s (lines_of t))
      (ap (λ (l : List ℕ). say_line most (record { literals = said; closed = false }) (118 ∷ l)) (sym (append-nil (spaced (suc k) c))) ∙ line-says no-tail k said c low h)

  -- one that ends in a closing 0 closes
  closing : (k : ℕ) (said : List Literal) (c : List Bool) → Below k said → k + length c ≤ most
      → after said (front k c ++ (32 ∷ 48 ∷ 10 ∷ [])) ≡ record { literals = said ++ literals_from (suc k) c; closed = true }
  closing k said c low h =
      ap (after said) (sym (append_assoc (front k c) (32 ∷ 48 ∷ []) (10 ∷ [])))
      ∙ ap (say_lines most (record { literals = said; closed = false }))
      (ended (front k c ++ (32 ∷ 48 ∷ [])) [] (all_append _ (front k c) (32 ∷ 48 ∷ []) (front-plain k c) ((λ q. omega (arith, q)), ((λ q. omega (arith, q)), tt))))
      ∙ line-says zero-tail k said c low h

  said_more : (k : ℕ) (said : List Literal) (c : List Bool) → Below k said → Below (k + length c) (said ++ literals_from (suc k) c)
  said_more k said c low =
      all_append _ said (literals_from (suc k) c) (all-imp _ _ (λ x q. omega (arith, q)) said low) (literals-below (suc k) c (k + length c) (omega arith))

  lines-say : (a c : List Bool) (column k v : ℕ) (said : List Literal) → v ≡ suc (k + length c) → Below k said → k + length c + length a ≤ most
      → after said (front k c ++ wrapped column (words_from v (values_of a))) ≡ record { literals = said ++ (literals_from (suc k) c ++ literals_from v a); closed = true }
  unfolding values_of
  lines-say [] c column k v said e low h = elim (dec_le (column + 2) 78) [
    | yes y ↦
        ap (λ (w : List ℕ). after said (front k c ++ (w ++ (10 ∷ [])))) (word_fits column (32 ∷ 48 ∷ []) y).0
        ∙ closing k said c low (omega arith)
        ∙ ap (λ (l : List Literal). record { literals = said ++ l; closed = true }) (sym (append-nil (literals_from (suc k) c)))
    | no n ↦
        ap (λ (w : List ℕ). after said (front k c ++ (w ++ (10 ∷ [])))) (word-breaks column (32 ∷ 48 ∷ []) (omega arith)).0
        ∙ broken k said c (118 ∷ 32 ∷ 48 ∷ 10 ∷ []) low (omega arith)
        ∙ closing (k + length c) (said ++ literals_from (suc k) c) [] (said_more k said c low) (omega arith)
        ∙ ap (λ (l : List Literal). record { literals = l; closed = true }) (append_assoc said (literals_from (suc k) c) [])
  ]
  lines-say (x ∷ a) c column k v said e low h =
      let word = value_text (value_of x) v in
      let rest = wrapped (column_after column word) (words_from (suc v) (values_of a)) in
      let at : v ≡ suc k + length c = omega (arith, e) in
      elim (dec_le (column + length word) 78) [
        | yes y ↦
            ap (λ (w : List ℕ). after said (front k c ++ (w ++ rest))) ((word_fits column word y).0 ∙ value-is x v)
            ∙ ap (after said) (sym (append_assoc (front k c) (32 ∷ word_of x v) rest) ∙ ap (λ (l : List ℕ). 118 ∷ (l ++ rest)) (sym (spaced-last c (suc k) x at)))
            ∙ lines-say a (c ++ (x ∷ [])) (column_after column word) k (suc v) said (omega (arith, length-append c (x ∷ []))) low (omega (arith, length-append c (x ∷ [])))
            ∙ ap (λ (l : List Literal). record { literals = said ++ l; closed = true })
            (ap (λ (l : List Literal). l ++ literals_from (suc v) a) (literals-last c (suc k) x at) ∙ append_assoc (literals_from (suc k) c) (literal_of x v ∷ []) (literals_from (suc v) a))
        | no n ↦
            ap (λ (w : List ℕ). after said (front k c ++ (w ++ rest))) (word-breaks column word (omega arith)).0
            ∙ broken k said c (118 ∷ word ++ rest) low (omega arith)
            ∙ ap (λ (l : List ℕ). after (said ++ literals_from (suc k) c) (118 ∷ l ++ rest)) (one_word x (k + length c) e)
            ∙ lines-say a (x ∷ []) (column_after column word) (k + length c) (suc v) (said ++ literals_from (suc k) c) (omega (arith, e)) (said_more k said c low) (omega arith)
            ∙ ap (λ (l : List Literal). record { literals = l; closed = true })
            (append_assoc said (literals_from (suc k) c) (literal_of x (suc (k + length c)) ∷ literals_from (suc v) a)
            ∙ ap (λ (w : ℕ). said ++ (literals_from (suc k) c ++ (literal_of x w ∷ literals_from (suc v) a))) (sym e))
      ]

-- ---- the whole text

pub text_says : (a : List Bool) → length a < 100000
    → say_lines (length a) nothing_said (lines_of (assignment_text (values_of a))) ≡ record { literals = literals_from 1 a; closed = true }
unfolding assignment_text nothing_said
text_says a few = lines-say (length a) few a [] 1 0 1 [] (omega arith) tt (omega arith)

-- its literals say the assignment
literal-true : (f : List Bool) (b : Bool) (v : ℕ) → truth f v ≡ b → T (literal_true f (literal_of b v))
literal-true f true v e = rw e tt
literal-true f false v e = rw e tt

either : (x y : Bool) → T x ⊎ T y → T (x || y)
either true y t = tt
either false y (inl t) = absurd t
either false y (inr t) = t

literals-true : (f c : List Bool) (k : ℕ) → ((j : ℕ) → j < length c → truth f (suc k + j) ≡ get_or c j false) → (i : ℕ) → i < length c
    → T (list_any (λ l. eqb (variable l) (suc k + i) && literal_true f l) (literals_from (suc k) c))
literals-true f [] k h i r = absurd (omega arith)
literals-true f (b ∷ bs) k h zero r =
    let e : suc k ≡ suc k + 0 = omega arith in
    either (eqb (variable (literal_of b (suc k))) (suc k + 0) && literal_true f (literal_of b (suc k))) _
    (inl (and_both (eqb (variable (literal_of b (suc k))) (suc k + 0)) (literal_true f (literal_of b (suc k)))
    (true-T _ (eq-eqb _ _ (variable-is b (suc k) ∙ e))) (literal-true f b (suc k) (ap (truth f) e ∙ h 0 (omega arith)))))
literals-true f (b ∷ bs) k h (suc i) r =
    let e : suc (suc k) + i ≡ suc k + suc i = omega arith in
    either (eqb (variable (literal_of b (suc k))) (suc k + suc i) && literal_true f (literal_of b (suc k))) _
    (inr (subst (λ (x : ℕ). T (list_any (λ l. eqb (variable l) x && literal_true f l) (literals_from (suc (suc k)) bs))) e
    (literals-true f bs (suc k) (λ j q. let d : suc (suc k) + j ≡ suc k + suc j = omega arith in ap (truth f) d ∙ h (suc j) (omega arith)) i (omega arith))))

pub text_assigns : (a : List Bool) → T (says (length a) (literals_from 1 a) a)
unfolding says
text_assigns a =
    and_both (eqb (length a) (length a)) (list_all (λ x. list_any (λ l. eqb (variable l) x && literal_true a l) (literals_from 1 a)) (range 1 (length a)))
    (true-T (eqb (length a) (length a)) (eq-eqb (length a) (length a) refl))
    (range-every (λ x. list_any (λ l. eqb (variable l) x && literal_true a l) (literals_from 1 a)) 1 (length a) at)
  where
    at : (x : ℕ) → 1 ≤ x → x < 1 + length a → T (list_any (λ l. eqb (variable l) x && literal_true a l) (literals_from 1 a))
    at x l u =
        let e : 1 + (x - 1) ≡ x = omega arith in
        subst (λ (y : ℕ). T (list_any (λ l. eqb (variable l) y && literal_true a l) (literals_from 1 a))) e (literals-true a a 0 (λ j q. let d : 1 + j ≡ suc j = omega arith in ap (truth a) d) (x - 1) (omega arith))

-- ---- it is bytes

abbrev Bytes : List ℕ → Type 0
Bytes l = All (λ b. b < 256) l

word_bytes : (b : Bool) (v : ℕ) → Bytes (word_of b v)
word_bytes true v = all-imp _ _ (λ x d. omega (arith, d.1)) (decimal v) (decimal-digits v)
word_bytes false v = (omega arith, all-imp _ _ (λ x d. omega (arith, d.1)) (decimal v) (decimal-digits v))

placed-bytes : (column : ℕ) (w : List ℕ) → Bytes w → Bytes (word_text column w)
unfolding word_text
placed-bytes column w h = go (leb (column + length w) 78)
  where
    go : (t : Bool) → Bytes (cond t w ((10 ∷ 118 ∷ []) ++ w))
    go true = h
    go false = (omega arith, (omega arith, h))

wrapped-bytes : (column v : ℕ) (a : List Bool) → Bytes (wrapped column (words_from v (values_of a)))
unfolding values_of
wrapped-bytes column v [] = all_append _ (word_text column (32 ∷ 48 ∷ [])) (10 ∷ []) (placed-bytes column (32 ∷ 48 ∷ []) (omega arith, (omega arith, tt))) (omega arith, tt)
wrapped-bytes column v (b ∷ a) =
    all_append _ (word_text column (value_text (value_of b) v)) _
    (placed-bytes column (value_text (value_of b) v) (rw (value-is b v) (omega arith, word_bytes b v))) (wrapped-bytes (column_after column (value_text (value_of b) v)) (suc v) a)

pub text-bytes : (a : List Bool) → All (λ b. b < 256) (assignment_text (values_of a))
unfolding assignment_text
text-bytes a = (omega arith, wrapped-bytes 1 1 a)
