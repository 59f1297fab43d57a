-- Reading line by line: what a line that is not refused tells, and what the loop keeps. Assumes nothing.
use mathlib.Core.Path.{◌≡◌, refl, sym, ap, ap₂, ◌∙◌, subst}
use Prim.Native.Nat.{ℕ, suc, ◌+◌, ◌-◌, ◌/◌, ◌≤◌, ◌<◌, min}
use native.Mathlib.Nat.{le_trans}
use native.Mathlib.Decide.{dec_le}
use native.Mathlib.Omega.{arith}
use native.Mathlib.Numerals.{add-one}
use mathlib.Core.Bool.{Bool, true, false, cond, not}
use mathlib.Core.List.{List, [], ◌∷◌}
use borrow.Author.Tests.{eqb-true, eqb-false, eq-eqb, ne_eqb, leb-true, le-leb, lt-leb}
use lib.Dec.{leb, eqb}
use lib.ListN.{length, get_or, take, drop, set, length-take, length-drop, drop_of_length-le}
use lib.Seq.{get_or-drop, drop-drop}
use Rattle.model.specs.declared.Group.{Group}
use Rattle.model.specs.declared.Constraint.{Constraint}
use Rattle.model.specs.declared.Model.{Model}
use Rattle.std.specs.List.{list_all}
use Rattle.model.specs.Lists.{range, stop, between}
use Rattle.model.specs.Limits.{limits, groups_for}
use Rattle.model.specs.Model.{zero_model, code_in_range}
use Rattle.model.specs.Sheet.{on_first, lines_of, value_at, form_refusal, head_refusal, with_head, group_refusal, group_from, with_group, first_group, count_from, group_count, constraint_from, constraint_refusal, with_constraint, line_refusal, with_line, refused_sheet, after_last, read_lines}
use Rattle.model.proofs.Lists.{between_le, true-T}
use Rattle.model.proofs.Width.{groups_for_lem}
use Rattle.model.proofs.Codes.{member-bound}
use Rattle.sheet.specs.Line.{line_length, good_mark, GroupLine, ConstraintLine}
use Rattle.sheet.proofs.Laws.{rest}

-- ---- the first line of bytes that end in byte 10

pub line-ends : (l : List ℕ) → 0 < length l → get_or l (length l - 1) 0 ≡ 10 → line_length l < length l
line-ends [] h e = h
line-ends (b ∷ []) h e = rw (eq-eqb b 10 e) (omega arith)
line-ends (b ∷ c ∷ bs) h e = go (eqb b 10) (line-ends (c ∷ bs) (omega arith) (ap (λ (n : ℕ). get_or (b ∷ c ∷ bs) n 0) last ∙ e))
  where
    last : suc (length (c ∷ bs) - 1) ≡ length (b ∷ c ∷ bs) - 1
    last = omega arith

    go : (t : Bool) → line_length (c ∷ bs) < length (c ∷ bs) → cond t 0 (suc (line_length (c ∷ bs))) < length (b ∷ c ∷ bs)
    go true ih = omega arith
    go false ih = omega arith

-- the same from place i on
pub rest-ends : (l : List ℕ) (i : ℕ) → i < length l → get_or l (length l - 1) 0 ≡ 10 → line_length (drop i l) < length l - i
rest-ends l i h e = rw (sym (length-drop i l)) (line-ends (drop i l) (rw (length-drop i l) (omega arith)) (at_last ∙ e))
  where
    at_last : get_or (drop i l) (length (drop i l) - 1) 0 ≡ get_or l (length l - 1) 0
    at_last =
        let n : i + (length l - i - 1) ≡ length l - 1 = omega arith in
        rw (length-drop i l, get_or-drop i l (length l - i - 1) 0, n)

-- the line and the lines after it; the last may lack its byte 10
pub lines_next : (l : List ℕ) → 0 < length l → lines_of l ≡ take (line_length l) l ∷ lines_of (drop (line_length l + 1) l)
lines_next [] h = absurd (omega arith)
lines_next (b ∷ []) h = go (eqb b 10)
  where
    go : (t : Bool) → cond t ([] ∷ []) ((b ∷ []) ∷ []) ≡ take (cond t 0 1) (b ∷ []) ∷ lines_of (drop (cond t 0 1 + 1) (b ∷ []))
    go true = refl
    go false = refl
lines_next (b ∷ c ∷ bs) h = go (eqb b 10) (lines_next (c ∷ bs) (omega arith))
  where
    k : ℕ
    k = line_length (c ∷ bs)

    go : (t : Bool) → lines_of (c ∷ bs) ≡ take k (c ∷ bs) ∷ lines_of (drop (k + 1) (c ∷ bs))
        → cond t ([] ∷ lines_of (c ∷ bs)) (on_first b (lines_of (c ∷ bs))) ≡ take (cond t 0 (suc k)) (b ∷ c ∷ bs) ∷ lines_of (drop (cond t 0 (suc k) + 1) (b ∷ c ∷ bs))
    go true ih = refl
    go false ih = rw (ih, add-one k, add-one (suc k))

pub rest-next : (l : List ℕ) (i : ℕ) → i < length l
    → lines_of (drop i l) ≡ take (line_length (drop i l)) (drop i l) ∷ lines_of (drop (i + line_length (drop i l) + 1) l)
rest-next l i h =
    let n : i + (line_length (drop i l) + 1) ≡ i + line_length (drop i l) + 1 = omega arith in
    lines_next (drop i l) (rw (length-drop i l) (omega arith))
    ∙ rw (drop-drop (line_length (drop i l) + 1) i l, n)

pub line-inside : (l : List ℕ) → line_length l ≤ length l
line-inside [] = omega arith
line-inside (b ∷ bs) = go (eqb b 10) (line-inside bs)
  where
    go : (t : Bool) → line_length bs ≤ length bs → cond t 0 (suc (line_length bs)) ≤ suc (length bs)
    go true h = omega arith
    go false h = omega arith

-- past the end nothing is left
pub drop_min : (l : List ℕ) (k : ℕ) → drop (min k (length l)) l ≡ drop k l
drop_min l k = go (dec_le k (length l))
  where
    go : Dec (k ≤ length l) → drop (min k (length l)) l ≡ drop k l
    go (yes h) = let e : min k (length l) ≡ k = omega arith in rw e
    go (no f) = drop_of_length-le l {i = min k (length l)} (omega arith) ∙ sym (drop_of_length-le l {i = k} (omega arith))

-- ---- reading on

module _ (l : List ℕ) (ls : List (List ℕ)) (done : ℕ) (m : Model) where
  pub read-on : line_refusal m.n m.s m.c done l ≡ 0 → read_lines (l ∷ ls) done m ≡ read_lines ls (done + 1) (with_line done m l)
  read-on e = rw e

  pub read-refused : (line_refusal m.n m.s m.c done l ≡ 0 → ⊥)
      → read_lines (l ∷ ls) done m ≡ refused_sheet (line_refusal m.n m.s m.c done l) (done + 1)
  read-refused f = rw (ne_eqb (line_refusal m.n m.s m.c done l) 0 f)

-- ---- what a line that is not refused tells

-- a test of a chain that ends in 0 is passed, and the rest of the chain is 0
passed : (b : Bool) (r rest : ℕ) → stop (not b) (suc r) rest ≡ 0 → (b ≡ true) × (rest ≡ 0)
passed true r rest e = (refl, e)
passed false r rest e = absurd (omega arith)

form-good : (l : List ℕ) (rest : ℕ) → stop (not (eqb (form_refusal l) 0)) (form_refusal l) rest ≡ 0 → form_refusal l ≡ 0
form-good l rest = go (eqb (form_refusal l) 0) refl
  where
    go : (b : Bool) → eqb (form_refusal l) 0 ≡ b → stop (not b) (form_refusal l) rest ≡ 0 → form_refusal l ≡ 0
    go true p e = eqb-true (form_refusal l) 0 p
    go false p e = e

-- the number of refusal is not 0
pub form-passed : (l : List ℕ) (rest : ℕ) → stop (not (eqb (form_refusal l) 0)) (form_refusal l) rest ≡ 0 → rest ≡ 0
form-passed l rest = go (eqb (form_refusal l) 0) refl
  where
    go : (b : Bool) → eqb (form_refusal l) 0 ≡ b → stop (not b) (form_refusal l) rest ≡ 0 → rest ≡ 0
    go true p e = e
    go false p e = absurd (eqb-false (form_refusal l) 0 p e)

pub head_good : (l : List ℕ) → head_refusal l ≡ 0 → (value_at l 1 ≤ limits.entrants) × ((value_at l 2 ≤ limits.groups) × (value_at l 3 ≤ limits.constraints))
unfolding head_refusal
head_good l e =
    let a = passed (eqb (value_at l 0) 1) 4 _ e in
    let b = passed (eqb (length l / 4) 4) 5 _ a.1 in
    let d = passed (between 1 limits.entrants (value_at l 1)) 6 _ b.1 in
    let f = passed (between 1 (groups_for (value_at l 1)) (value_at l 2)) 6 _ d.1 in
    let g = passed (leb (value_at l 3) limits.constraints) 6 _ f.1 in (
      (between_le 1 limits.entrants (value_at l 1) (true-T _ d.0)).1,
      (le_trans (between_le 1 (groups_for (value_at l 1)) (value_at l 2) (true-T _ f.0)).1 (groups_for_lem (value_at l 1)), leb-true (value_at l 3) limits.constraints g.0),
    )

module _ (n s c : ℕ) (l : List ℕ) where
  head-told : line_refusal n s c 0 l ≡ 0 → head_refusal l ≡ 0
  unfolding line_refusal
  head-told e = form-passed l (head_refusal l) e

  pub head-ranges : line_refusal n s c 0 l ≡ 0 → (value_at l 1 ≤ limits.entrants) × ((value_at l 2 ≤ limits.groups) × (value_at l 3 ≤ limits.constraints))
  head-ranges e = head_good l (head-told e)

  -- a group line
  pub group-line : (done : ℕ) → line_refusal n s c done l ≡ 0 → (done ≡ 0 → ⊥) → done ≤ s → GroupLine n l × (list_all (good_mark l) (range 0 n) ≡ true)
  unfolding line_refusal group_refusal
  group-line done e z h =
      let g : group_refusal n done l ≡ 0 = rw (ne_eqb done 0 z, le-leb done s h) at (form-passed l _ e) in
      let a = passed (eqb (value_at l 0) 2) 4 _ g in
      let b = passed (eqb (length l / 4) (4 + n)) 5 _ a.1 in
      let d = passed (leb (value_at l 2) (value_at l 3)) 6 _ b.1 in
      let f = passed (leb (value_at l 3) n) 6 _ d.1 in
      let k = passed (list_all (good_mark l) (range 0 n)) 6 _ f.1 in
      ((form-good l _ e, eqb-true (value_at l 0) 2 a.0, eqb-true (length l / 4) (4 + n) b.0), k.0)

  -- a constraint line
  constraint-told : (done : ℕ) → line_refusal n s c done l ≡ 0 → (done ≡ 0 → ⊥) → s < done → (done ≤ s + c) × (constraint_refusal s l ≡ 0)
  unfolding line_refusal
  constraint-told done e z h = go (leb done (s + c)) refl (rw (ne_eqb done 0 z, lt-leb done s h) at (form-passed l _ e))
    where
      go : (b : Bool) → leb done (s + c) ≡ b → cond b (constraint_refusal s l) 5 ≡ 0 → (done ≤ s + c) × (constraint_refusal s l ≡ 0)
      go true p r = (leb-true done (s + c) p, r)
      go false p r = absurd (omega arith)

  pub constraint-place : (done : ℕ) → line_refusal n s c done l ≡ 0 → (done ≡ 0 → ⊥) → s < done → done ≤ s + c
  constraint-place done e z h = (constraint-told done e z h).0

  pub constraint-small : (done : ℕ) → line_refusal n s c done l ≡ 0 → (done ≡ 0 → ⊥) → s < done → group_count l ≤ limits.members
  unfolding constraint_refusal group_count
  constraint-small done e z h =
      let a = passed (eqb (value_at l 0) 3) 4 _ (constraint-told done e z h).1 in
      let b = passed (code_in_range (value_at l 1) (count_from l)) 5 _ a.1 in
      member-bound (value_at l 1) (count_from l) (true-T (code_in_range (value_at l 1) (count_from l)) b.0)

  pub constraint-line : (done : ℕ) → line_refusal n s c done l ≡ 0 → (done ≡ 0 → ⊥) → s < done → ConstraintLine l
  unfolding line_refusal constraint_refusal
  constraint-line done e z h =
      let a = passed (eqb (value_at l 0) 3) 4 _ (constraint-told done e z h).1 in
      let b = passed (code_in_range (value_at l 1) (count_from l)) 5 _ a.1 in
      let d = passed (eqb (length l / 4) (first_group l + group_count l)) 5 _ b.1 in
      (form-good l _ e, eqb-true (value_at l 0) 3 a.0, eqb-true (length l / 4) (first_group l + group_count l) d.0)

-- ---- the model after a line

module _ (m : Model) (l : List ℕ) where
  pub with-head : (done : ℕ) → done ≡ 0 → with_line done m l ≡ with_head l m
  unfolding with_line
  with-head done e = rw (eq-eqb done 0 e)

  pub with_group_lem : (done : ℕ) → (done ≡ 0 → ⊥) → done ≤ m.s → with_line done m l ≡ with_group done l m
  unfolding with_line
  with_group_lem done z h = rw (ne_eqb done 0 z, le-leb done m.s h)

  pub with-constraint : (done : ℕ) → (done ≡ 0 → ⊥) → m.s < done → with_line done m l ≡ with_constraint (done - m.s) l m
  unfolding with_line
  with-constraint done z h = rw (ne_eqb done 0 z, lt-leb done m.s h)

-- what the loop keeps: done lines were read into m, and the rest of the sheet stands from place `at` on
pub record Halfway (sheet : List ℕ) (m : Model) (done at : ℕ) : Type 0 where
  pub place : at ≤ length sheet
  pub few : done ≤ at
  pub entrants : m.n ≤ limits.entrants
  pub groups : m.s ≤ limits.groups
  pub constraints : m.c ≤ limits.constraints
  pub rest : read_lines (lines_of sheet) 0 zero_model ≡ read_lines (lines_of (drop at sheet)) done m

pub at-start : (sheet : List ℕ) (m : Model) → m ≡ zero_model → Halfway sheet m 0 0
unfolding zero_model
at-start sheet m e =
    subst (λ (x : Model). Halfway sheet x 0 0) (sym e)
    (record { place = omega arith; few = omega arith; entrants = omega arith; groups = omega arith; constraints = omega arith; rest = refl })

module _ (sheet : List ℕ) (m : Model) (done at : ℕ) (h : Halfway sheet m done at) (inside : at < length sheet)
    (ends : get_or sheet (length sheet - 1) 0 ≡ 10) where
  abbrev line : List ℕ
  line = take (line_length (drop at sheet)) (drop at sheet)

  here : read_lines (lines_of sheet) 0 zero_model ≡ read_lines (line ∷ lines_of (drop (at + line_length (drop at sheet) + 1) sheet)) done m
  here = h.rest ∙ ap (λ (ls : List (List ℕ)). read_lines ls done m) (rest-next sheet at inside)

  pub stops-here : (line_refusal m.n m.s m.c done line ≡ 0 → ⊥)
      → read_lines (lines_of sheet) 0 zero_model ≡ refused_sheet (line_refusal m.n m.s m.c done line) (done + 1)
  stops-here f = here ∙ read-refused line (lines_of (drop (at + line_length (drop at sheet) + 1) sheet)) done m f

  ranges : line_refusal m.n m.s m.c done line ≡ 0
      → ((with_line done m line).n ≤ limits.entrants) × (((with_line done m line).s ≤ limits.groups) × ((with_line done m line).c ≤ limits.constraints))
  unfolding with_line with_head with_group with_constraint
  ranges e = go (eqb done 0) refl (leb done m.s)
    where
      after : Bool → Bool → Model
      after a b = cond a (with_head line m) (cond b (with_group done line m) (with_constraint (done - m.s) line m))

      go : (a : Bool) → eqb done 0 ≡ a → (b : Bool)
          → ((after a b).n ≤ limits.entrants) × (((after a b).s ≤ limits.groups) × ((after a b).c ≤ limits.constraints))
      go true p b = head-ranges m.n m.s m.c line (subst (λ (x : ℕ). line_refusal m.n m.s m.c x line ≡ 0) (eqb-true done 0 p) e)
      go false p true = (h.entrants, (h.groups, h.constraints))
      go false p false = (h.entrants, (h.groups, h.constraints))

  pub goes_on : line_refusal m.n m.s m.c done line ≡ 0 → (p : Model) → p ≡ with_line done m line
      → Halfway sheet p (done + 1) (at + line_length (drop at sheet) + 1)
  goes_on e p q =
      let r = ranges e in
      subst (λ (x : Model). Halfway sheet x (done + 1) (at + line_length (drop at sheet) + 1)) (sym q)
      (record {
        place = omega (arith, rest-ends sheet at inside ends);
        few = omega (arith, h.few);
        entrants = r.0;
        groups = r.1.0;
        constraints = r.1.1;
        rest = here ∙ read-on line (lines_of (drop (at + line_length (drop at sheet) + 1) sheet)) done m e;
      })

-- after the last line
pub at-end : (sheet : List ℕ) (m : Model) (done at : ℕ) → Halfway sheet m done at → length sheet ≤ at
    → read_lines (lines_of sheet) 0 zero_model ≡ after_last done m
at-end sheet m done at h past = h.rest ∙ ap (λ (l : List ℕ). read_lines (lines_of l) done m) (drop_of_length-le sheet past)

-- ---- the same for the code's parts: `rest` is the part from `at` on, and the line its first `len` bytes

module _ (sheet : List ℕ) (m : Model) (done at : ℕ) (h : Halfway sheet m done at) (inside : at < length sheet)
    (ends : get_or sheet (length sheet - 1) 0 ≡ 10) (len : ℕ) (el : len ≡ line_length (take (length sheet - at) (drop at sheet))) where
  abbrev part : List ℕ
  part = take len (take (length sheet - at) (drop at sheet))

  len_is : len ≡ line_length (drop at sheet)
  len_is = el ∙ ap line_length (rest sheet at)

  part-is : part ≡ take (line_length (drop at sheet)) (drop at sheet)
  part-is = ap₂ (λ (k : ℕ) (l : List ℕ). take k l) len_is (rest sheet at)

  pub part-fits : at + len + 1 ≤ length sheet
  part-fits = omega (arith, len_is, rest-ends sheet at inside ends)

  pub part_length : len ≡ length part
  part_length = sym (length-take len (take (length sheet - at) (drop at sheet)) ∙ ap (min len) (ap length (rest sheet at) ∙ length-drop at sheet) ∙ omega (arith, part-fits))

  pub part-stops : (bad : ℕ) → bad ≡ line_refusal m.n m.s m.c done part → (bad ≡ 0 → ⊥)
      → refused_sheet bad (done + 1) ≡ read_lines (lines_of sheet) 0 zero_model
  part-stops bad e f =
      let e' : bad ≡ line_refusal m.n m.s m.c done (take (line_length (drop at sheet)) (drop at sheet)) =
      e ∙ ap (line_refusal m.n m.s m.c done) part-is in
      ap (λ (r : ℕ). refused_sheet r (done + 1)) e' ∙ sym (stops-here sheet m done at h inside ends (λ z. f (e' ∙ z)))

  pub part-goes : (bad : ℕ) → bad ≡ line_refusal m.n m.s m.c done part → bad ≡ 0 → (p : Model) → p ≡ with_line done m part
      → Halfway sheet p (done + 1) (at + len + 1)
  part-goes bad e z p q =
      subst (λ (k : ℕ). Halfway sheet p (done + 1) (at + k + 1)) (sym len_is)
      (goes_on sheet m done at h inside ends
      (sym (e ∙ ap (line_refusal m.n m.s m.c done) part-is) ∙ z) p (q ∙ ap (with_line done m) part-is))

-- ---- the model that the code makes of a line

module _ (m : Model) (l : List ℕ) (done : ℕ) where
  pub head-made : done ≡ 0 → (a b c : ℕ) → a ≡ value_at l 1 → b ≡ value_at l 2 → c ≡ value_at l 3
      → record { n = a; s = b; c = c; groups = m.groups; constraints = m.constraints } ≡ with_line done m l
  unfolding with_head
  head-made z a b c p q r = rw (with-head m l done z, p, q, r)

  pub group-made : (done ≡ 0 → ⊥) → done ≤ m.s → (g : Group) → g ≡ group_from m.n l
      → record { n = m.n; s = m.s; c = m.c; groups = set m.groups (done - 1) g; constraints = m.constraints } ≡ with_line done m l
  unfolding with_group
  group-made z h g e = rw (with_group_lem m l done z h, e)

  pub constraint_made : (done ≡ 0 → ⊥) → m.s < done → (k : Constraint) → k ≡ constraint_from l
      → record { n = m.n; s = m.s; c = m.c; groups = m.groups; constraints = set m.constraints (done - m.s - 1) k } ≡ with_line done m l
  unfolding with_constraint
  constraint_made z h k e = rw (with-constraint m l done z h, e)
