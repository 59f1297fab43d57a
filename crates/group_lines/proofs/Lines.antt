-- The text line by line: what a line's first word gives, and what the lines from place `at` on give. Assumes nothing.
use Prim.Native.Nat.{ℕ, ◌+◌, ◌-◌, ◌≤◌, ◌<◌, min}
use mathlib.Core.Path.{◌≡◌, refl, sym, ap, ◌∙◌}
use mathlib.Core.Bool.{Bool, true, false, cond}
use mathlib.Core.List.{List, [], ◌∷◌}
use native.Mathlib.Omega.{arith}
use borrow.Author.Tests.{eq-eqb, ne_eqb, lt-ltb, le-ltb, ltb-false}
use lib.Dec.{ltb, eqb}
use lib.ListN.{length, take, drop, set, replicate, length-take, length-drop, drop_of_length-le}
use Rattle.model.specs.Limits.{limits}
use Rattle.model.specs.Sheet.{lines_of}
use Rattle.line_form.specs.Form.{word_length}
use Rattle.sheet.specs.Line.{line_length}
use Rattle.sheet.proofs.Laws.{rest}
use Rattle.sheet.proofs.Reading.{rest-next, line-inside, drop_min}
use Rattle.std.specs.Prelude.{Result, Ok, Err}
use Rattle.group_lines.specs.declared.Fault.{Fault}
use Rattle.group_lines.specs.declared.Fault.TheVariants.{BadForm, NoSuchGroup, GroupTwice, GroupMissing}
use Rattle.group_lines.specs.declared.WrongLine.{WrongLine}
use Rattle.group_lines.specs.Words.{after_space}
use Rattle.group_lines.specs.Lines.{group_in, of_group, entrants_line, words_line, line_read, wrong, after, groups_from, groups_read}
use Rattle.group_lines.proofs.Entrants.{words-split}

-- ---- the word of a group

module _ (n s next : ℕ) (line : List ℕ) (k : ℕ) (ek : k ≡ word_length line) (g : ℕ) (eg : g ≡ group_in (take k line)) where
  abbrev entrants : Result ℕ Fault
  entrants = entrants_line n 0 (after_space (drop k line))

  here : line_read n s next line ≡ of_group s next g entrants
  unfolding line_read
  here = ap (words_line n s next) (words-split line) ∙ rw (sym ek, sym eg)

  pub no_number : g ≡ 0 → Err BadForm ≡ line_read n s next line
  unfolding of_group
  no_number z = sym (here ∙ rw (eq-eqb g 0 z))

  module _ (some : g ≡ 0 → ⊥) where
    pub no-group : s < g → Err (NoSuchGroup g) ≡ line_read n s next line
    unfolding of_group
    no-group h = sym (here ∙ rw (ne_eqb g 0 some, lt-ltb s g h))

    module _ (known : g ≤ s) where
      pub before : g < next → Err (GroupTwice g) ≡ line_read n s next line
      unfolding of_group
      before h = sym (here ∙ rw (ne_eqb g 0 some, le-ltb s g known, lt-ltb g next h))

      pub skipped : next ≤ g → next < g → Err (GroupMissing next) ≡ line_read n s next line
      unfolding of_group
      skipped o h = sym (here ∙ rw (ne_eqb g 0 some, le-ltb s g known, le-ltb g next o, lt-ltb next g h))

      pub due : next ≤ g → g ≤ next → entrants ≡ line_read n s next line
      unfolding of_group
      due o h = sym (here ∙ rw (ne_eqb g 0 some, le-ltb s g known, le-ltb g next o, le-ltb next g h))

-- a line without fault is that of a group
due_below : (s next g word : ℕ) (entrants : Result ℕ Fault) → of_group s next g entrants ≡ Ok word → next ≤ s
unfolding of_group
due_below s next g word entrants = go (eqb g 0) (ltb s g) (ltb g next) (ltb next g) refl refl
  where
    no : {f : Fault} → ◌≡◌ {A = Result ℕ Fault} (Err f) (Ok word) → ⊥
    no e = let z : ◌≡◌ {A = ℕ} 0 1 = cc in omega arith

    go : (a b c d : Bool) → ltb s g ≡ b → ltb g next ≡ c
        → cond a (Err BadForm) (cond b (Err (NoSuchGroup g)) (cond c (Err (GroupTwice g)) (cond d (Err (GroupMissing next)) entrants))) ≡ Ok word → next ≤ s
    go true b c d p q e = absurd (no e)
    go false true c d p q e = absurd (no e)
    go false false true d p q e = absurd (no e)
    go false false false true p q e = absurd (no e)
    go false false false false p q e = omega (arith, ltb-false s g p, ltb-false g next q)

line-below : (n s next word : ℕ) (line : List ℕ) → line_read n s next line ≡ Ok word → next ≤ s
line-below n s next word line e =
    due_below s next (group_in (take (word_length line) line)) word _ (sym (here n s next line (word_length line) refl _ refl) ∙ e)

-- ---- what the loop keeps: the whole text gives what its rest from `at` on gives after `done` groups

pub record Halfway (text : List ℕ) (n s : ℕ) (groups : List ℕ) (done at : ℕ) : Type 0 where
  pub place : at ≤ length text
  pub few : done ≤ s
  pub rest : groups_from n s (lines_of text) 0 (replicate 256 0) ≡ groups_from n s (lines_of (drop at text)) done groups

module _ {text : List ℕ} {n s : ℕ} {groups : List ℕ} {done at : ℕ} (h : Halfway text n s groups done at) where
  module _ (inside : at < length text) (len : ℕ) (el : len ≡ line_length (take (length text - at) (drop at text))) where
    abbrev line : List ℕ
    line = take len (take (length text - at) (drop at text))

    len_is : len ≡ line_length (drop at text)
    len_is = el ∙ ap line_length (rest text at)

    pub line-end : at + len ≤ length text
    line-end = omega (arith, len_is, line-inside (drop at text), length-drop at text)

    pub line-size : len ≡ length line
    line-size = sym (length-take len (take (length text - at) (drop at text)) ∙ ap (min len) (ap length (rest text at) ∙ length-drop at text) ∙ omega (arith, line-end))

    lines : lines_of (drop at text) ≡ line ∷ lines_of (drop (at + len + 1) text)
    lines = rest-next text at inside ∙ rw (len_is, rest text at)

    step : groups_from n s (lines_of text) 0 (replicate 256 0)
        ≡ after (line_read n s (done + 1) line) (λ word. groups_from n s (lines_of (drop (at + len + 1) text)) (done + 1) (set groups done word)) (λ fault. wrong fault (done + 1))
    step = h.rest ∙ ap (λ (ls : List (List ℕ)). groups_from n s ls done groups) lines

    pub stops : (fault : Fault) → Err fault ≡ line_read n s (done + 1) line → wrong fault (done + 1) ≡ groups_from n s (lines_of text) 0 (replicate 256 0)
    stops fault e = sym (step ∙ rw (sym e))

    module _ (word : ℕ) (e : Ok word ≡ line_read n s (done + 1) line) where
      pub one_more : done + 1 ≤ s
      one_more = line-below n s (done + 1) word line (sym e)

      pub goes : {m : ℕ} → m ≡ min (at + len + 1) (length text) → Halfway text n s (set groups done word) (done + 1) m
      goes {m} q = record {
        place = omega arith;
        few = one_more;
        rest = step ∙ rw (sym e) (ap (λ (l : List ℕ). groups_from n s (lines_of l) (done + 1) (set groups done word)) (sym (ap (λ (j : ℕ). drop j text) q ∙ drop_min text (at + len + 1))));
      }

  module _ (last : length text ≤ at) where
    end : groups_from n s (lines_of text) 0 (replicate 256 0) ≡ groups_from n s [] done groups
    end = h.rest ∙ ap (λ (l : List ℕ). groups_from n s (lines_of l) done groups) (drop_of_length-le text last)

    pub too_few : done < s → wrong (GroupMissing (done + 1)) (done + 1) ≡ groups_from n s (lines_of text) 0 (replicate 256 0)
    too_few f = sym (end ∙ rw (lt-ltb done s f))

    pub all_read : s ≤ done → Ok groups ≡ groups_from n s (lines_of text) 0 (replicate 256 0)
    all_read f = sym (end ∙ rw (le-ltb done s f))

pub at-start : (text : List ℕ) (n s : ℕ) → Halfway text n s (replicate 256 0) 0 0
at-start text n s = record { place = omega arith; few = omega arith; rest = refl }

pub of_limits : (text : List ℕ) (n s : ℕ) {m t : ℕ} → m ≡ min n limits.word → t ≡ min s limits.groups → {r : Result (List ℕ) WrongLine}
    → r ≡ groups_from m t (lines_of text) 0 (replicate 256 0) → r ≡ groups_read text n s
unfolding groups_read
of_limits text n s p q e = rw (sym p, sym q) e
