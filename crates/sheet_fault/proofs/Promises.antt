-- The line found is the one that the reader refused, so the field named for 4 and for 7 is the first that it refused there. Assumes nothing.
use Prim.Native.Nat.{ℕ, zero, suc, ◌+◌, ◌-◌, ◌/◌, ◌≤◌, ◌<◌}
use mathlib.Core.Path.{◌≡◌, refl, sym, ap, ◌∙◌}
use mathlib.Core.Bool.{Bool, true, false, cond}
use mathlib.Core.List.{List, [], ◌∷◌}
use native.Mathlib.Omega.{arith}
use borrow.Author.Tests.{eqb-true, ne_eqb, ltb-false, le-ltb}
use lib.Dec.{leb, ltb, eqb}
use lib.ListN.{length, get_or}
use Rattle.model.specs.declared.Model.{Model}
use Rattle.model.specs.declared.SheetRead.{SheetRead}
use Rattle.model.specs.Limits.{limits}
use Rattle.model.specs.Model.{zero_model}
use Rattle.model.specs.Sheet.{on_first, lines_of, good_field, head_refusal, with_head, with_group, with_constraint, line_refusal, with_line, refused_sheet, after_last, read_lines, read_sheet}
use Rattle.sheet.proofs.Reading.{form-passed}
use Rattle.line_fault.specs.declared.Head.{Head}
use Rattle.line_fault.specs.Fault.{bad_field, unread_fault, form_fault, first_judged, in_range, out_field, out_fault, line_fault}
use Rattle.sheet_fault.proofs.First.{First, first-unread, first-outside}
use Rattle.sheet_fault.specs.Fault.{line_at, head_of, sheet_fault}

-- after the head, n, s and c stay
abbrev sizes : Model → Head
sizes m = record { n = m.n; s = m.s; c = m.c }

stay : (done : ℕ) (m : Model) (l : List ℕ) → (done ≡ 0 → ⊥) → sizes (with_line done m l) ≡ sizes m
unfolding with_line with_group with_constraint
stay done m l z = rw (ne_eqb done 0 z) (go (leb done m.s))
  where
    go : (b : Bool) → sizes (cond b (with_group done l m) (with_constraint (done - m.s) l m)) ≡ sizes m
    go true = refl
    go false = refl

-- a refusal of one of the lines
abbrev OfLine : ℕ → Type 0
OfLine r = (r ≡ 0 → ⊥) × ((r ≡ 5 → ⊥) × ((r ≡ 1 → ⊥) × (r ≡ 2 → ⊥)))

end-not : (done : ℕ) (m : Model) (r : ℕ) → OfLine r → (after_last done m).refusal ≡ r → ⊥
unfolding after_last refused_sheet
end-not done m r o e = go (leb done (m.s + m.c)) e
  where
    go : (b : Bool) → (cond b (refused_sheet 5 (done + 1)) (record { refusal = 0; line = 0; model = m })).refusal ≡ r → ⊥
    go true e = o.1.0 (sym e)
    go false e = o.0 (sym e)

-- reading from line `done` on, after the head
there : (ls : List (List ℕ)) (done : ℕ) (m : Model) (h : Head) (r : ℕ) → sizes m ≡ h → OfLine r → (done ≡ 0 → ⊥) → (read_lines ls done m).refusal ≡ r
    → (done < (read_lines ls done m).line)
    × (line_refusal h.n h.s h.c ((read_lines ls done m).line - 1) (get_or ls ((read_lines ls done m).line - 1 - done) []) ≡ r)
there [] done m h r q o z e = absurd (end-not done m r o e)
there (l ∷ ls) done m h r q o z e =
    go (eqb (line_refusal m.n m.s m.c done l) 0) refl (there ls (done + 1) (with_line done m l) h r (stay done m l z ∙ q) o (λ x. omega arith)) e
  where
    rest : SheetRead
    rest = read_lines ls (done + 1) (with_line done m l)

    here : ℕ
    here = line_refusal m.n m.s m.c done l

    go : (b : Bool) → eqb here 0 ≡ b
        → (rest.refusal ≡ r → (done + 1 < rest.line) × (line_refusal h.n h.s h.c (rest.line - 1) (get_or ls (rest.line - 1 - (done + 1)) []) ≡ r))
        → (cond b rest (refused_sheet here (done + 1))).refusal ≡ r
        → (done < (cond b rest (refused_sheet here (done + 1))).line)
        × (line_refusal h.n h.s h.c ((cond b rest (refused_sheet here (done + 1))).line - 1)
        (get_or (l ∷ ls) ((cond b rest (refused_sheet here (done + 1))).line - 1 - done) []) ≡ r)
    go true p later e =
        let x = later e in
        let next : rest.line - 1 - done ≡ suc (rest.line - 1 - (done + 1)) = omega (arith, x.0) in
        (omega (arith, x.0), rw next x.1)
    go false p later e = unfold refused_sheet in
        let one : done + 1 - 1 ≡ done = omega arith in
        let none : done - done ≡ 0 = omega arith in
        (omega arith, rw (one, none) (rw (sym q) e))

-- a refusal of a line is one of reading the lines
of_lines : (b : List ℕ) (r : ℕ) → OfLine r → (read_sheet b).refusal ≡ r → read_sheet b ≡ read_lines (lines_of b) 0 zero_model
unfolding read_sheet refused_sheet
of_lines b r o e = go (ltb limits.sheet (length b)) (eqb (length b) 0) (eqb (get_or b (length b - 1) 0) 10) e
  where
    read : SheetRead
    read = read_lines (lines_of b) 0 zero_model

    go : (x y z : Bool) → (cond x (refused_sheet 1 0) (cond y (refused_sheet 2 0) (cond z read (refused_sheet 2 0)))).refusal ≡ r
        → cond x (refused_sheet 1 0) (cond y (refused_sheet 2 0) (cond z read (refused_sheet 2 0))) ≡ read
    go true y z e = absurd (o.1.1.0 (sym e))
    go false true z e = absurd (o.1.1.1 (sym e))
    go false false true e = refl
    go false false false e = absurd (o.1.1.1 (sym e))

-- the line judged after `done` lines, of which the head says h
abbrev JudgedAt : List (List ℕ) → SheetRead → ℕ → Type 0
JudgedAt ls read r =
    let h = head_of (get_or ls 0 []) in
    line_refusal h.n h.s h.c (read.line - 1) (get_or ls (read.line - 1) []) ≡ r

judged : (ls : List (List ℕ)) (r : ℕ) → OfLine r → (read_lines ls 0 zero_model).refusal ≡ r → JudgedAt ls (read_lines ls 0 zero_model) r
judged [] r o e = absurd (end-not 0 zero_model r o e)
judged (l ∷ ls) r o e = go (eqb first 0) refl e
  where
    first : ℕ
    first = line_refusal zero_model.n zero_model.s zero_model.c 0 l

    rest : SheetRead
    rest = read_lines ls (0 + 1) (with_line 0 zero_model l)

    said : head_refusal l ≡ 0 → sizes (with_line 0 zero_model l) ≡ head_of l
    said z = unfold with_line with_head head_of in rw z

    go : (b : Bool) → eqb first 0 ≡ b → (cond b rest (refused_sheet first (0 + 1))).refusal ≡ r → JudgedAt (l ∷ ls) (cond b rest (refused_sheet first (0 + 1))) r
    go true p e =
        let good : head_refusal l ≡ 0 = unfold line_refusal in form-passed l _ (eqb-true first 0 p) in
        let x = there ls (0 + 1) (with_line 0 zero_model l) (head_of l) r (said good) o (λ y. omega arith) e in
        let next : rest.line - 1 ≡ suc (rest.line - 1 - (0 + 1)) = omega (arith, x.0) in
        ap (λ (k : ℕ). line_refusal (head_of l).n (head_of l).s (head_of l).c (rest.line - 1) (get_or (l ∷ ls) k [])) next ∙ x.1
    go false p e = unfold refused_sheet line_refusal in e

pub refused-there : (b : List ℕ) (r : ℕ) → OfLine r → (read_sheet b).refusal ≡ r
    → let h = head_of (line_at b 0) in
    line_refusal h.n h.s h.c ((read_sheet b).line - 1) (line_at b ((read_sheet b).line - 1)) ≡ r
unfolding line_at
refused-there b r o e =
    let q = of_lines b r o e in
    rw q (judged (lines_of b) r o (sym (ap (λ (x : SheetRead). x.refusal) q) ∙ e))

four_of_line : OfLine 4
four_of_line = (λ x. omega arith, (λ x. omega arith, (λ x. omega arith, λ x. omega arith)))

seven_of_line : OfLine 7
seven_of_line = (λ x. omega arith, (λ x. omega arith, (λ x. omega arith, λ x. omega arith)))

-- a line is no longer than its sheet
line-short : (b : List ℕ) (k : ℕ) → length (get_or (lines_of b) k []) ≤ length b
line-short [] k = omega arith
line-short (x ∷ bs) k = go (eqb x 10) (lines_of bs) k (line-short bs)
  where
    go : (t : Bool) (ls : List (List ℕ)) (k : ℕ) → ((k : ℕ) → length (get_or ls k []) ≤ length bs)
        → length (get_or (cond t ([] ∷ ls) (on_first x ls)) k []) ≤ suc (length bs)
    go true ls zero h = omega arith
    go true ls (suc k) h = omega (arith, h k)
    go false [] zero h = omega arith
    go false [] (suc k) h = omega arith
    go false (l ∷ ls) zero h = omega (arith, h 0)
    go false (l ∷ ls) (suc k) h = omega (arith, h (suc k))

sheet_short : (b : List ℕ) (r : ℕ) → OfLine r → (read_sheet b).refusal ≡ r → length b ≤ limits.sheet
unfolding read_sheet refused_sheet
sheet_short b r o e = go (ltb limits.sheet (length b)) refl e
  where
    rest : SheetRead
    rest = cond (eqb (length b) 0) (refused_sheet 2 0) (cond (eqb (get_or b (length b - 1) 0) 10) (read_lines (lines_of b) 0 zero_model) (refused_sheet 2 0))

    go : (x : Bool) → ltb limits.sheet (length b) ≡ x → (cond x (refused_sheet 1 0) rest).refusal ≡ r → length b ≤ limits.sheet
    go true q e = absurd (o.1.1.0 (sym e))
    go false q e = ltb-false limits.sheet (length b) q

-- ---- a sheet that the reader refuses: what the head says, the line refused, the field named

module _ (b : List ℕ) where
  abbrev said : Head
  said = head_of (line_at b 0)

  abbrev done : ℕ
  done = (read_sheet b).line - 1

  abbrev line : List ℕ
  line = line_at b done

  -- 4: the bytes of a field are named, or a stray byte before it; the field is the first that has not the right form
  pub unread-named : (read_sheet b).refusal ≡ 4 → sheet_fault b 4 (read_sheet b).line ≡ form_fault done line (unread_fault line)
  unfolding sheet_fault line_fault
  unread-named e =
      let short = sheet_short b 4 four_of_line e in
      let inside : length line ≤ limits.sheet = unfold line_at in omega (arith, short, line-short b done) in
      rw (le-ltb limits.sheet (length b) short, le-ltb limits.sheet (length line) inside)

  pub unread-first : (read_sheet b).refusal ≡ 4 → First (good_field line) 0 (length line / 4) (bad_field line)
  unread-first e = first-unread said done line (refused-there b 4 four_of_line e)

  -- 7: a field, its number and its range are named; it is the first field judged whose number is out of its range
  pub outside-named : (read_sheet b).refusal ≡ 7 → sheet_fault b 7 (read_sheet b).line ≡ out_fault said done line
  unfolding sheet_fault line_fault
  outside-named e =
      let short = sheet_short b 7 seven_of_line e in
      let inside : length line ≤ limits.sheet = unfold line_at in omega (arith, short, line-short b done) in
      rw (le-ltb limits.sheet (length b) short, le-ltb limits.sheet (length line) inside)

  pub outside-first : (read_sheet b).refusal ≡ 7 → First (in_range said done line) (first_judged said done line) (length line / 4) (out_field said done line)
  outside-first e = first-outside said done line (refused-there b 7 seven_of_line e)
