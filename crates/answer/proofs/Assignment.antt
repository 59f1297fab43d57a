-- Writes of an assignment's text, its length, and the lengths of its lines. Assumes nothing.
use Prim.Native.Nat.{ℕ, suc, ◌+◌, ◌*◌, ◌≤◌, ◌<◌}
use mathlib.Core.Path.{◌≡◌, refl, sym, ap, ◌∙◌}
use mathlib.Core.Bool.{Bool, true, false, cond}
use mathlib.Core.List.{List, [], ◌∷◌, ◌++◌, append_assoc}
use native.Mathlib.Omega.{arith}
use native.Mathlib.Numerals.{add-one}
use native.Mathlib.Decide.{dec_le}
use borrow.Author.Tests.{ne_eqb, le-leb, lt-leb}
use lib.Dec.{eqb}
use lib.ListN.{length, get_or, drop, length-append, drop_of_length-le}
use Rattle.model.specs.Limits.{limits}
use Rattle.model.specs.Sheet.{lines_of}
use Rattle.model.specs.Text.{decimal}
use Rattle.model.proofs.Lists.{All, all-imp}
use Rattle.model.proofs.Loops.{drop-next}
use Rattle.encoding_laws.proofs.Decimal.{decimal-digits}
use Rattle.text.specs.Put.{Wrote, placed, place_after}
use Rattle.text.proofs.Writes.{wrote, done, then, same_text, kept}
use Rattle.answer.specs.Values.{value_text}
use Rattle.answer.specs.Assignment.{words_from, word_text, column_after, wrapped, assignment_text}
use Rattle.answer.proofs.Writing.{then-put}
use Rattle.answer.proofs.Values.{value-length}

-- ---- a word

module _ (column : ℕ) (word : List ℕ) where
  pub word_fits : column + length word ≤ 78 → (word_text column word ≡ word) × (column_after column word ≡ column + length word)
  unfolding word_text column_after
  word_fits h = (rw (le-leb _ _ h), rw (le-leb _ _ h))

  pub word-breaks : 78 < column + length word → (word_text column word ≡ (10 ∷ 118 ∷ []) ++ word) × (column_after column word ≡ 1 + length word)
  unfolding word_text column_after
  word-breaks h = (rw (lt-leb _ _ h), rw (lt-leb _ _ h))

  word-length : length (word_text column word) ≤ 2 + length word
  word-length = elim (dec_le (column + length word) 78) [ yes h ↦ omega (arith, ap length (word_fits h).0) | no h ↦ omega (arith, ap length (word-breaks (omega arith)).0) ]

  column-narrow : length word ≤ 77 → column_after column word ≤ 78
  column-narrow s = elim (dec_le (column + length word) 78) [ yes h ↦ omega (arith, (word_fits h).1) | no h ↦ omega (arith, (word-breaks (omega arith)).1) ]

-- ---- the text's length

wrapped-length : (column v : ℕ) (values : List ℕ) → v + length values ≤ limits.variables + 1 → length (wrapped column (words_from v values)) ≤ 9 * length values + 5
wrapped-length column v [] h = rw (length-append (word_text column (32 ∷ 48 ∷ [])) (10 ∷ [])) (omega (arith, word-length column (32 ∷ 48 ∷ [])))
wrapped-length column v (x ∷ values) h =
    rw (length-append (word_text column (value_text x v)) _)
    (omega (arith, word-length column (value_text x v), value-length x v (omega arith), wrapped-length (column_after column (value_text x v)) (suc v) values (omega arith)))

pub assignment-length : (values : List ℕ) → length values ≤ limits.variables → length (assignment_text values) ≤ 9 * limits.variables + 6
unfolding assignment_text
assignment-length values h = omega (arith, wrapped-length 1 1 values (omega arith))

-- ---- word after word from place `start` on: the first i values are written, and the rest of the text is that of the others

pub record Halfway (values : List ℕ) (start : ℕ) (before after : List ℕ) (n column i : ℕ) : Type 0 where
  pub text : List ℕ
  pub written : Wrote text start before after n
  pub rest : wrapped 1 (words_from 1 values) ≡ text ++ wrapped column (words_from (i + 1) (drop i values))
  pub inside : i ≤ length values
  pub narrow : column ≤ 78

pub letter : (values : List ℕ) {xs ys : List ℕ} {start : ℕ} → length (assignment_text values) ≤ length xs
    → start ≡ place_after (118 ∷ []) 0 (length xs) → ys ≡ placed (118 ∷ []) 0 xs → Wrote (118 ∷ []) 0 xs ys start
unfolding assignment_text
letter values room p q = wrote p q (omega (arith, room))

pub at-start : (values : List ℕ) {xs ys : List ℕ} {start : ℕ} → Wrote (118 ∷ []) 0 xs ys start → Halfway values start ys ys start 1 0
at-start values {start = start} v = record { text = []; written = done start _ (omega (arith, v.inside, kept v)); rest = refl; inside = omega arith; narrow = omega arith }

module _ {values xs ys zs : List ℕ} {start n column i : ℕ} (room : length (assignment_text values) ≤ length xs) (v : Wrote (118 ∷ []) 0 xs ys start)
    (h : Halfway values start ys zs n column i) where
  -- a text that comes next has room
  part_room : (t u : List ℕ) → wrapped 1 (words_from 1 values) ≡ h.text ++ (t ++ u) → n + length t ≤ length zs
  unfolding assignment_text
  part_room t u e =
      omega (arith, room, v.next, kept v, kept h.written, h.written.next, ap length e, length-append h.text (t ++ u), length-append t u)

  module _ (few : length values ≤ limits.variables) (more : i < length values) where
    abbrev word : List ℕ
    word = value_text (get_or values i 0) (i + 1)

    abbrev others : List ℕ
    others = wrapped (column_after column word) (words_from (i + 1 + 1) (drop (i + 1) values))

    here : wrapped 1 (words_from 1 values) ≡ h.text ++ (word_text column word ++ others)
    here = h.rest ∙ rw (drop-next 0 values i more, add-one (i + 1))

    pub value_room : n + length (word_text column word) ≤ length zs
    value_room = part_room (word_text column word) others here

    pub value-next : {us : List ℕ} {m after : ℕ} → Wrote (word_text column word) n zs us m → after ≡ column_after column word → Halfway values start ys us m after (i + 1)
    value-next w e = record {
      text = h.text ++ word_text column word;
      written = then h.written w;
      rest = here ∙ rw (e, append_assoc h.text (word_text column word) others);
      inside = omega arith;
      narrow = rw e (column-narrow column word (omega (arith, value-length (get_or values i 0) (i + 1) (omega arith))));
    }

  module _ (last : length values ≤ i) where
    abbrev zero : List ℕ
    zero = 32 ∷ 48 ∷ []

    ending : wrapped 1 (words_from 1 values) ≡ h.text ++ (word_text column zero ++ (10 ∷ []))
    ending = h.rest ∙ rw (drop_of_length-le values last)

    pub closing-room : n + length (word_text column zero) ≤ length zs
    closing-room = part_room (word_text column zero) (10 ∷ []) ending

    pub all-written : {us vs : List ℕ} {m k : ℕ} → Wrote (word_text column zero) n zs us m → k ≡ place_after (10 ∷ []) m (length us) → vs ≡ placed (10 ∷ []) m us
        → Wrote (assignment_text values) 0 xs vs k
    unfolding assignment_text
    all-written w f g =
        let e = ending ∙ sym (append_assoc h.text (word_text column zero) (10 ∷ [])) in
        let body = then v (then h.written w) in
        same_text (ap (λ (t : List ℕ). 118 ∷ t) (sym e)) (then-put (10 ∷ []) body f g (omega (arith, room, ap length e)))

-- ---- no line is longer than 78 columns

abbrev pub Plain : List ℕ → Type 0
Plain w = All (λ b. b ≡ 10 → ⊥) w

-- bytes other than 10 stand in front of the first line
pub in_front : (w t l : List ℕ) (ls : List (List ℕ)) → Plain w → lines_of t ≡ l ∷ ls → lines_of (w ++ t) ≡ (w ++ l) ∷ ls
in_front [] t l ls p e = e
in_front (b ∷ w) t l ls p e = rw (ne_eqb b 10 p.0, in_front w t l ls p.1 e)

-- the lines of a text that stands after `column` columns
record Lined (column : ℕ) (t : List ℕ) : Type 0 where
  first : List ℕ
  others : List (List ℕ)
  lines : lines_of t ≡ first ∷ others
  narrow : column + length first ≤ 78
  short : All (λ l. length l ≤ 78) others

word_lined : (column : ℕ) (w t : List ℕ) → column ≤ 78 → Plain w → Lined (column_after column w) t → Lined column (word_text column w ++ t)
word_lined column w t h p r = go (dec_le (column + length w) 78)
  where
    go : Dec (column + length w ≤ 78) → Lined column (word_text column w ++ t)
    go (yes k) = rw (word_fits column w k).0 (record {
      first = w ++ r.first;
      others = r.others;
      lines = in_front w t r.first r.others p r.lines;
      narrow = rw (length-append w r.first) (omega (arith, r.narrow, (word_fits column w k).1));
      short = r.short;
    })
    go (no f) = rw (word-breaks column w (omega arith)).0 (record {
      first = [];
      others = (118 ∷ w ++ r.first) ∷ r.others;
      lines = rw (in_front w t r.first r.others p r.lines);
      narrow = omega arith;
      short = (rw (length-append w r.first) (omega (arith, r.narrow, (word-breaks column w (omega arith)).1)), r.short);
    })

pub decimal-plain : (v : ℕ) → Plain (decimal v)
decimal-plain v = all-imp _ _ (λ b d q. omega (arith, d.0, q)) (decimal v) (decimal-digits v)

value-plain : (x v : ℕ) → Plain (value_text x v)
unfolding value_text
value-plain x v = go (eqb x 1) (eqb x 2)
  where
    go : (a b : Bool) → Plain (cond a ((32 ∷ []) ++ decimal v) (cond b ((32 ∷ 45 ∷ []) ++ decimal v) []))
    go true b = ((λ q. omega (arith, q)), decimal-plain v)
    go false true = ((λ q. omega (arith, q)), ((λ q. omega (arith, q)), decimal-plain v))
    go false false = tt

values_lined : (column v : ℕ) (values : List ℕ) → column ≤ 78 → v + length values ≤ limits.variables + 1 → Lined column (wrapped column (words_from v values))
values_lined column v [] h few =
    word_lined column (32 ∷ 48 ∷ []) (10 ∷ []) h ((λ q. omega (arith, q)), ((λ q. omega (arith, q)), tt))
    (record { first = []; others = []; lines = refl; narrow = omega (arith, column-narrow column (32 ∷ 48 ∷ []) (omega arith)); short = tt })
values_lined column v (x ∷ values) h few =
    let short : column_after column (value_text x v) ≤ 78 = column-narrow column (value_text x v) (omega (arith, value-length x v (omega arith))) in
    word_lined column (value_text x v) _ h (value-plain x v) (values_lined (column_after column (value_text x v)) (suc v) values short (omega arith))

pub lines-short : (values : List ℕ) → length values ≤ limits.variables → All (λ l. length l ≤ 78) (lines_of (assignment_text values))
unfolding assignment_text
lines-short values few =
    let r = values_lined 1 1 values (omega arith) (omega arith) in
    rw (in_front (118 ∷ []) (wrapped 1 (words_from 1 values)) r.first r.others ((λ q. omega (arith, q)), tt) r.lines) (omega (arith, r.narrow), r.short)
