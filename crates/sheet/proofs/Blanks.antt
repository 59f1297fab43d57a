-- Sheets that differ only in mark columns, blank in one and a written 1 in the other, are read alike: refusal, line and model. Assumes nothing.
use mathlib.Core.Path.{◌≡◌, refl, sym, ap, ap₂, ◌∙◌}
use Prim.Native.Nat.{ℕ, suc, ◌+◌, ◌-◌, ◌/◌, ◌≤◌, ◌<◌}
use native.Mathlib.Omega.{arith}
use native.Mathlib.Decide.{dec_lt}
use mathlib.Core.Logic.{◌⊎◌, inl, inr}
use mathlib.Core.Bool.{Bool, true, false, cond, not, ◌&&◌, ◌||◌}
use mathlib.Core.List.{List, [], ◌∷◌}
use borrow.Author.Tests.{eqb-true, le-ltb, le-leb, lt-leb}
use lib.Dec.{T, leb, eqb}
use lib.ListN.{length, get_or}
use Rattle.model.specs.declared.Model.{Model}
use Rattle.model.specs.declared.SheetRead.{SheetRead}
use Rattle.std.specs.List.{list_all}
use Rattle.model.specs.Lists.{pairwise, range, total}
use Rattle.model.specs.Model.{zero_model}
use Rattle.model.specs.Sheet.{on_first, lines_of, field_at, number_of, field_value, field_refusal, field_number, value_at, is_mark_column, good_field, form_refusal, head_refusal, with_head, mark_at, group_refusal, group_from, with_group, constraint_refusal, with_constraint, line_refusal, with_line, read_lines, read_sheet}
use Rattle.model.proofs.Lists.{T_true, and_left, and_right, every-range, every-range_ext}
use Rattle.model.proofs.Words.{word_ext}
use Rattle.propagation_laws.proofs.Sheets.{accepted_of, order-accepted}
use Rattle.sheet.specs.Orders.{Orders}
use Rattle.sheet.specs.Blanks.{same_bytes, blank_and_one, same_field, same_line, same_but_blanks}
use Rattle.sheet.proofs.Reading.{lines_next, form-passed}

or_case : {P : Type 0} (a b : Bool) → (T a → P) → (T b → P) → T (a || b) → P
or_case true b f g t = f tt
or_case false b f g t = g t

same_bytes_lem : (a b : List ℕ) → T (same_bytes a b) → a ≡ b
same_bytes_lem [] [] t = refl
same_bytes_lem [] (y ∷ ys) t = absurd t
same_bytes_lem (x ∷ xs) [] t = absurd t
same_bytes_lem (x ∷ xs) (y ∷ ys) t =
    ap₂ {C = List ℕ} (λ z zs. z ∷ zs) (eqb-true x y (T_true (eqb x y) (and_left (eqb x y) (same_bytes xs ys) t)))
    (same_bytes_lem xs ys (and_right (eqb x y) (same_bytes xs ys) t))

-- ---- a field

-- two fields that say the same in a column, a mark column or not
record Said (f g : List ℕ) (mark : Bool) : Type 0 where
  number : field_number (field_value f) mark ≡ field_number (field_value g) mark
  refusal : field_refusal (field_value f) mark ≡ field_refusal (field_value g) mark

said_same : (f g : List ℕ) (mark : Bool) → f ≡ g → Said f g mark
said_same f g mark e =
    record { number = ap (λ (x : List ℕ). field_number (field_value x) mark) e; refusal = ap (λ (x : List ℕ). field_refusal (field_value x) mark) e }

said-back : {f g : List ℕ} {mark : Bool} → Said f g mark → Said g f mark
said-back s = record { number = sym s.number; refusal = sym s.refusal }

said-blank : (f g : List ℕ) → T (blank_and_one f g) → Said f g true
unfolding field_value number_of
said-blank f g t =
    let spaces : List ℕ = 32 ∷ 32 ∷ 32 ∷ 32 ∷ [] in
    let one : List ℕ = 32 ∷ 32 ∷ 32 ∷ 49 ∷ [] in
    let e = same_bytes_lem f spaces (and_left (same_bytes f spaces) (same_bytes g one) t) in
    let d = same_bytes_lem g one (and_right (same_bytes f spaces) (same_bytes g one) t) in
    rw (e, d) (record { number = refl; refusal = refl })

-- ---- two lines that say the same: as long as each other, of kind 2, with the same numbers, marks and refusal 4

record Alike (k l : List ℕ) : Type 0 where
  long : length k ≡ length l
  first : value_at k 0 ≡ 2
  first' : value_at l 0 ≡ 2
  value : (i : ℕ) → i < 4 → value_at k i ≡ value_at l i
  mark : (e : ℕ) → mark_at k e ≡ mark_at l e
  good : (i : ℕ) → good_field k i ≡ good_field l i

-- the mark columns of a line of kind 2
marks-from_fifth : (l : List ℕ) → value_at l 0 ≡ 2 → (i : ℕ) → is_mark_column l i ≡ leb 4 i
unfolding is_mark_column
marks-from_fifth l e i = rw e (go (leb 4 i))
  where
    go : (b : Bool) → (b && true) ≡ b
    go true = refl
    go false = refl

module _ (k l : List ℕ) (long : length k ≡ length l) (first : value_at k 0 ≡ 2) (first' : value_at l 0 ≡ 2)
    (fields : T (list_all (same_field k l) (range 0 (length k / 4)))) where
  said_at : (i : ℕ) → Said (field_at k i) (field_at l i) (leb 4 i)
  said_at i = go (dec_lt i (length k / 4))
    where
      blank : (b : Bool) → T (b && (blank_and_one (field_at k i) (field_at l i) || blank_and_one (field_at l i) (field_at k i)))
          → Said (field_at k i) (field_at l i) b
      blank true t =
          or_case (blank_and_one (field_at k i) (field_at l i)) (blank_and_one (field_at l i) (field_at k i))
          (said-blank (field_at k i) (field_at l i)) (λ u. said-back (said-blank (field_at l i) (field_at k i) u)) t
      blank false t = absurd t

      none : (x : List ℕ) → length x / 4 ≤ i → field_at x i ≡ []
      none x h = unfold field_at in rw (le-ltb i (length x / 4) h)

      go : Dec (i < length k / 4) → Said (field_at k i) (field_at l i) (leb 4 i)
      go (yes h) =
          or_case (same_bytes (field_at k i) (field_at l i))
          (leb 4 i && (blank_and_one (field_at k i) (field_at l i) || blank_and_one (field_at l i) (field_at k i)))
          (λ t. said_same (field_at k i) (field_at l i) (leb 4 i) (same_bytes_lem (field_at k i) (field_at l i) t)) (blank (leb 4 i))
          (every-range (same_field k l) 0 (length k / 4) fields i (omega arith) (omega arith))
      go (no h) = said_same (field_at k i) (field_at l i) (leb 4 i) (none k (omega arith) ∙ sym (none l (omega (arith, long))))

  alike-marks : Alike k l
  unfolding value_at mark_at good_field
  alike-marks = record {
    long = long;
    first = first;
    first' = first';
    value = λ i h. rw (lt-leb 4 i h) at (said_at i).number;
    mark = λ e. rw (le-leb 4 (4 + e) (omega arith)) at (said_at (4 + e)).number;
    good = λ i. rw (marks-from_fifth k first i, marks-from_fifth l first' i) (ap (λ (r : ℕ). eqb r 0) (said_at i).refusal);
  }

same-or-alike : (k l : List ℕ) → T (same_line k l) → (k ≡ l) ⊎ Alike k l
same-or-alike k l =
    let a : Bool = eqb (length k) (length l) in
    let b : Bool = eqb (value_at k 0) 2 in
    let c : Bool = eqb (value_at l 0) 2 in
    let d : Bool = list_all (same_field k l) (range 0 (length k / 4)) in
    or_case (same_bytes k l) (a && b && c && d) (λ t. inl (same_bytes_lem k l t))
    (λ t.
    let abc = and_left (a && b && c) d t in
    let ab = and_left (a && b) c abc in
    inr
    (alike-marks k l
    (eqb-true (length k) (length l) (T_true a (and_left a b ab)))
    (eqb-true (value_at k 0) 2 (T_true b (and_right a b ab)))
    (eqb-true (value_at l 0) 2 (T_true c (and_right (a && b) c abc)))
    (and_right (a && b && c) d t)))

-- ---- they are refused alike, and tell the same where they are not

-- a line of kind 2 is neither a head nor a constraint's
no_head : (l : List ℕ) → value_at l 0 ≡ 2 → head_refusal l ≡ 5
unfolding head_refusal
no_head l e = rw e

no_constraint : (l : List ℕ) → value_at l 0 ≡ 2 → (s : ℕ) → constraint_refusal s l ≡ 5
unfolding constraint_refusal
no_constraint l e s = rw e

module _ (k l : List ℕ) (a : Alike k l) where
  form-alike : form_refusal k ≡ form_refusal l
  unfolding form_refusal
  form-alike = rw (a.long, every-range_ext (good_field k) (good_field l) 0 (length l / 4) (λ i _ _. a.good i))

  group-alike : (n g : ℕ) → group_refusal n g k ≡ group_refusal n g l
  unfolding group_refusal
  group-alike n g =
      let marks = every-range_ext (λ e. leb (mark_at k e) 2) (λ e. leb (mark_at l e) 2) 0 n (λ e _ _. ap (λ (v : ℕ). leb v 2) (a.mark e)) in
      rw (a.long, a.value 0 (omega arith), a.value 1 (omega arith), a.value 2 (omega arith), a.value 3 (omega arith), marks)

  group-told : (n : ℕ) → group_from n k ≡ group_from n l
  unfolding group_from
  group-told n =
      let fixed = word_ext (λ e. eqb (mark_at k e) 2) (λ e. eqb (mark_at l e) 2) n (λ e _. ap (λ (v : ℕ). eqb v 2) (a.mark e)) in
      let possible = word_ext (λ e. not (eqb (mark_at k e) 0)) (λ e. not (eqb (mark_at l e) 0)) n (λ e _. ap (λ (v : ℕ). not (eqb v 0)) (a.mark e)) in
      rw (a.value 2 (omega arith), a.value 3 (omega arith), fixed, possible)

  line-alike : (n s c done : ℕ) → line_refusal n s c done k ≡ line_refusal n s c done l
  unfolding line_refusal
  line-alike n s c done =
      rw (
        form-alike,
        no_head k a.first,
        no_head l a.first',
        group-alike n done,
        no_constraint k a.first s,
        no_constraint l a.first' s,
      )

  made_alike : (done : ℕ) (m : Model) → line_refusal m.n m.s m.c done l ≡ 0 → with_line done m k ≡ with_line done m l
  unfolding line_refusal with_line with_group
  made_alike done m e = go (eqb done 0) (leb done m.s) (leb done (m.s + m.c)) (form-passed l _ e)
    where
      made : List ℕ → Bool → Bool → Model
      made x head group = cond head (with_head x m) (cond group (with_group done x m) (with_constraint (done - m.s) x m))

      go : (head group constraint : Bool)
          → cond head (head_refusal l) (cond group (group_refusal m.n done l) (cond constraint (constraint_refusal m.s l) 5)) ≡ 0
          → made k head group ≡ made l head group
      go true group constraint r = absurd (omega (arith, r, no_head l a.first'))
      go false true constraint r = rw (group-told m.n)
      go false false true r = absurd (omega (arith, r, no_constraint l a.first' m.s))
      go false false false r = absurd (omega arith)

-- ---- line after line

lines-alike : (ks ls : List (List ℕ)) → T (pairwise same_line ks ls) → (done : ℕ) (m : Model) → read_lines ks done m ≡ read_lines ls done m
lines-alike [] [] t done m = refl
lines-alike [] (l ∷ ls) t done m = absurd t
lines-alike (k ∷ ks) [] t done m = absurd t
lines-alike (k ∷ ks) (l ∷ ls) t done m =
    go (same-or-alike k l (and_left (same_line k l) (pairwise same_line ks ls) t))
    (lines-alike ks ls (and_right (same_line k l) (pairwise same_line ks ls) t) (done + 1) (with_line done m l))
  where
    r : ℕ
    r = line_refusal m.n m.s m.c done l

    go : (k ≡ l) ⊎ Alike k l → read_lines ks (done + 1) (with_line done m l) ≡ read_lines ls (done + 1) (with_line done m l)
        → read_lines (k ∷ ks) done m ≡ read_lines (l ∷ ls) done m
    go (inl e) rest = rw (e, rest)
    go (inr a) rest = judged (eqb r 0) refl
      where
        judged : (b : Bool) → eqb r 0 ≡ b → read_lines (k ∷ ks) done m ≡ read_lines (l ∷ ls) done m
        judged true p = rw (line-alike k l a m.n m.s m.c done, p, made_alike k l a done m (eqb-true r 0 p), rest)
        judged false p = rw (line-alike k l a m.n m.s m.c done, p)

-- ---- the last byte: lines and length tell whether it is byte 10

abbrev size : List (List ℕ) → ℕ
size ls = total (λ l. suc (length l)) ls

sizes-alike : (ks ls : List (List ℕ)) → T (pairwise same_line ks ls) → size ks ≡ size ls
sizes-alike [] [] t = refl
sizes-alike [] (l ∷ ls) t = absurd t
sizes-alike (k ∷ ks) [] t = absurd t
sizes-alike (k ∷ ks) (l ∷ ls) t =
    omega (
      arith,
      long (same-or-alike k l (and_left (same_line k l) (pairwise same_line ks ls) t)),
      sizes-alike ks ls (and_right (same_line k l) (pairwise same_line ks ls) t),
    )
  where
    long : (k ≡ l) ⊎ Alike k l → length k ≡ length l
    long (inl e) = ap length e
    long (inr a) = a.long

abbrev ended : List ℕ → Bool
ended b = eqb (get_or b (length b - 1) 0) 10

size_is : (x : ℕ) (xs : List ℕ) → size (lines_of (x ∷ xs)) ≡ length (x ∷ xs) + cond (ended (x ∷ xs)) 0 1
size_is x [] = go (eqb x 10)
  where
    go : (t : Bool) → size (cond t ([] ∷ []) ((x ∷ []) ∷ [])) ≡ 1 + cond t 0 1
    go true = refl
    go false = refl
size_is x (y ∷ ys) =
    let last : ended (x ∷ y ∷ ys) ≡ ended (y ∷ ys) =
    ap (λ (i : ℕ). eqb (get_or (x ∷ y ∷ ys) i 0) 10) {x = length (x ∷ y ∷ ys) - 1} {y = suc (length (y ∷ ys) - 1)} (omega arith) in
    go (eqb x 10) (lines_of (y ∷ ys)) (lines_next (y ∷ ys) (omega arith)) (size_is y ys) ∙ rw last
  where
    go : (t : Bool) (ls : List (List ℕ)) {l : List ℕ} {rest : List (List ℕ)} → ls ≡ l ∷ rest → size ls ≡ length (y ∷ ys) + cond (ended (y ∷ ys)) 0 1
        → size (cond t ([] ∷ ls) (on_first x ls)) ≡ length (x ∷ y ∷ ys) + cond (ended (y ∷ ys)) 0 1
    go true ls e h = omega (arith, h)
    go false ls e h = rw e (omega (arith, rw e at h))

ended-alike : (a b : List ℕ) → 0 < length a → length a ≡ length b → size (lines_of a) ≡ size (lines_of b) → ended a ≡ ended b
ended-alike [] b h e s = absurd (omega arith)
ended-alike (x ∷ xs) [] h e s = absurd (omega arith)
ended-alike (x ∷ xs) (y ∷ ys) h e s = go (ended (x ∷ xs)) (ended (y ∷ ys)) (omega (arith, e, s, size_is x xs, size_is y ys))
  where
    go : (a b : Bool) → ◌≡◌ {A = ℕ} (cond a 0 1) (cond b 0 1) → a ≡ b
    go true true e = refl
    go true false e = absurd (omega arith)
    go false true e = absurd (omega arith)
    go false false e = refl

-- ---- the law

pub same_answer : (a b : List ℕ) → T (same_but_blanks a b) → read_sheet a ≡ read_sheet b
unfolding same_but_blanks read_sheet
same_answer a b t =
    let e = eqb-true (length a) (length b) (T_true _ (and_left (eqb (length a) (length b)) (pairwise same_line (lines_of a) (lines_of b)) t)) in
    let lines = and_right (eqb (length a) (length b)) (pairwise same_line (lines_of a) (lines_of b)) t in
    go a b e lines
  where
    go : (a b : List ℕ) → length a ≡ length b → T (pairwise same_line (lines_of a) (lines_of b)) → read_sheet a ≡ read_sheet b
    go [] [] e t = refl
    go [] (y ∷ ys) e t = absurd (omega arith)
    go (x ∷ xs) [] e t = absurd (omega arith)
    go (x ∷ xs) (y ∷ ys) e t =
        rw (
          ended-alike (x ∷ xs) (y ∷ ys) (omega arith) e (sizes-alike (lines_of (x ∷ xs)) (lines_of (y ∷ ys)) t),
          lines-alike (lines_of (x ∷ xs)) (lines_of (y ∷ ys)) t 0 zero_model,
          e,
        )

-- as the reader promises it
pub promised : (a : List ℕ) (r : SheetRead) → r ≡ read_sheet a → (r ≡ read_sheet a) × (((b : List ℕ) → T (same_but_blanks a b) → r ≡ read_sheet b) × Orders a r)
promised a r e = (e, ((λ b t. e ∙ same_answer a b t), record { accepted = accepted_of a r e; order = λ o h. order-accepted a o r.model h }))
