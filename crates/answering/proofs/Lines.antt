-- The output line by line: what the lines from place `at` on leave of the reading and of the values. Assumes nothing.
use Prim.Native.Nat.{ℕ, ◌+◌, ◌-◌, ◌≤◌, ◌<◌, min}
use mathlib.Core.Path.{◌≡◌, refl, sym, ap, ◌∙◌}
use mathlib.Core.Bool.{false}
use mathlib.Core.List.{List, ◌∷◌}
use native.Mathlib.Omega.{arith}
use lib.ListN.{length, take, drop, length-take, length-drop, drop_of_length-le}
use Rattle.model.specs.declared.Reading.{Reading}
use Rattle.model.specs.declared.LineRead.{LineRead}
use Rattle.model.specs.Sheet.{lines_of}
use Rattle.model.specs.Assignment.{line_read, values_after}
use Rattle.model.specs.Demand.{fresh_reading, reading_after, values_after_all}
use Rattle.sheet.specs.Line.{line_length}
use Rattle.sheet.proofs.Laws.{rest}
use Rattle.sheet.proofs.Reading.{rest-next, line-inside, drop_min}

pub record Halfway (text first : List ℕ) (reading : Reading) (values : List ℕ) (at : ℕ) : Type 0 where
  pub place : at ≤ length text
  pub reads : reading_after (lines_of text) fresh_reading first ≡ reading_after (lines_of (drop at text)) reading values
  pub keeps : values_after_all (lines_of text) fresh_reading first ≡ values_after_all (lines_of (drop at text)) reading values

pub at-start : (text first : List ℕ) → Halfway text first (record { closed = false }) first 0
unfolding fresh_reading
at-start text first = record { place = omega arith; reads = refl; keeps = refl }

module _ {text first : List ℕ} {reading : Reading} {values : List ℕ} {at : ℕ} (h : Halfway text first reading values at) where
  module _ (inside : at < length text) (len : ℕ) (el : len ≡ line_length (take (length text - at) (drop at text))) where
    abbrev line : List ℕ
    line = take len (take (length text - at) (drop at text))

    len_is : len ≡ line_length (drop at text)
    len_is = el ∙ ap line_length (rest text at)

    pub line-end : at + len ≤ length text
    line-end = omega (arith, len_is, line-inside (drop at text), length-drop at text)

    pub line-size : len ≡ length line
    line-size = sym (length-take len (take (length text - at) (drop at text)) ∙ ap (min len) (ap length (rest text at) ∙ length-drop at text) ∙ omega (arith, line-end))

    lines : lines_of (drop at text) ≡ line ∷ lines_of (drop (at + len + 1) text)
    lines = rest-next text at inside ∙ rw (len_is, rest text at)

    pub goes : (r : LineRead) → r ≡ line_read reading line values → (v : List ℕ) → v ≡ values_after reading line values
        → {m : ℕ} → m ≡ min (at + len + 1) (length text) → Halfway text first r.reading v m
    unfolding reading_after values_after_all
    goes r er v ev {m} e =
        let d : drop m text ≡ drop (at + len + 1) text = ap (λ (j : ℕ). drop j text) e ∙ drop_min text (at + len + 1) in
        record {
          place = omega arith;
          reads = h.reads ∙ ap (λ (ls : List (List ℕ)). reading_after ls reading values) lines ∙ rw (er, ev, d);
          keeps = h.keeps ∙ ap (λ (ls : List (List ℕ)). values_after_all ls reading values) lines ∙ rw (er, ev, d);
        }

  module _ (last : length text ≤ at) where
    pub all_read : (reading ≡ reading_after (lines_of text) fresh_reading first) × (values ≡ values_after_all (lines_of text) fresh_reading first)
    unfolding reading_after values_after_all
    all_read = (
      sym (h.reads ∙ ap (λ (l : List ℕ). reading_after (lines_of l) reading values) (drop_of_length-le text last)),
      sym (h.keeps ∙ ap (λ (l : List ℕ). values_after_all (lines_of l) reading values) (drop_of_length-le text last)),
    )
