-- The reader accepts the sheet of every model in range, and gives back that model with zeros past s, c and a line's groups. Assumes nothing.
use mathlib.Core.Path.{◌≡◌, refl, sym, ap, ap₂, ◌∙◌, subst}
use Prim.Native.Nat.{ℕ, zero, suc, ◌+◌, ◌-◌, ◌≤◌, ◌<◌}
use native.Mathlib.Omega.{arith}
use native.Mathlib.Nat.{add-zero}
use native.Mathlib.Numerals.{add-one}
use mathlib.Core.List.{List, [], ◌∷◌, ◌++◌, map, append_assoc, map-append, map-map}
use borrow.Author.Tests.{le-leb}
use lib.Dec.{T, leb, leb→le, eqb-suc-zero}
use lib.ListN.{length, set, drop, replicate, length-append, length-take, length-replicate, length-map}
use lib.Seq.{sets, sets-eq}
use Rattle.model.specs.declared.Group.{Group}
use Rattle.model.specs.declared.Constraint.{Constraint}
use Rattle.model.specs.declared.Model.{Model}
use Rattle.std.specs.List.{flat_map}
use Rattle.model.specs.Lists.{range}
use Rattle.model.specs.Limits.{limits}
use Rattle.model.specs.Model.{zero_group, zero_constraint, zero_model, table_of, constraints_of, group_at, constraint_in_range}
use Rattle.model.specs.Sheet.{lines_of, form_refusal, group_refusal, group_from, constraint_from, line_refusal, with_line, read_lines}
use Rattle.model.specs.Demand.{Accepted, text_of}
use Rattle.model.specs.Text.{field_text}
use Rattle.model.specs.SheetText.{head_fields, constraint_fields, sheet_fields, line_text, sheet_text, clean_constraint, clean_model}
use Rattle.model.proofs.Lists.{every-all, All, all-zip, all-imp, all_map, values-make, places, each_map}
use Rattle.propagation_laws.proofs.Ranges.{InRange, in_range_lem}
use Rattle.propagation_laws.proofs.Lines.{ends, text-ends}
use Rattle.propagation_laws.proofs.Sheets.{Accurate, in_groups, read-cons, group-step, Good, constraint_back, from_bytes}
use Rattle.encoding_laws.proofs.Text.{line-cut}
use Rattle.sheet_writer.proofs.Fields.{Short, row-printed}
use Rattle.sheet_writer.proofs.Lengths.{group_row, group_at_lem, rows_short, sheet_bound}
use Rattle.sheet_writer.proofs.Rows.{head-form, head_good, head-tells, group-form, group-good, group-tells, constraint-form, constraint_good, constraint-tells}

-- ---- the lines of a text of rows

rows_lines : (rows : List (List ℕ)) → All (All Short) rows → lines_of (flat_map line_text rows) ≡ map (flat_map field_text) rows
unfolding line_text
rows_lines [] a = refl
rows_lines (fs ∷ rows) a =
    ap lines_of (append_assoc (flat_map field_text fs) (10 ∷ []) (flat_map line_text rows))
    ∙ line-cut (flat_map field_text fs) (flat_map line_text rows) (row-printed fs a.0)
    ∙ ap {B = List (List ℕ)} (λ ls. flat_map field_text fs ∷ ls) (rows_lines rows a.1)

-- ---- group lines, one after the other

module _ (f : ℕ → List ℕ) (rest : List (List ℕ)) where
  groups-read : (k j : ℕ) (q : Model) → j + k ≤ q.s
      → ((g : ℕ) → j < g → g ≤ j + k → (form_refusal (f g) ≡ 0) × (group_refusal q.n g (f g) ≡ 0))
      → read_lines (map f (range (suc j) k) ++ rest) (suc j) q
      ≡ read_lines rest (suc (j + k)) (in_groups q (sets q.groups j (map (λ g. group_from q.n (f g)) (range (suc j) k))))
  groups-read zero j q h good = ap (λ (i : ℕ). read_lines rest (suc i) q) (sym (add-zero j))
  groups-read (suc k) j q h good =
      let l = f (suc j) in
      let q' = in_groups q (set q.groups j (group_from q.n l)) in
      read-cons l (map f (range (suc (suc j)) k) ++ rest) (suc j) q accepts
      ∙ ap₂ (λ (i : ℕ) (z : Model). read_lines (map f (range (suc (suc j)) k) ++ rest) i z) (add-one (suc j)) (group-step j q l (omega arith))
      ∙ groups-read k (suc j) q' (omega arith) (λ g a b. good g (omega arith) (omega arith))
      ∙ ap (λ (i : ℕ). read_lines rest (suc i) (in_groups q (sets q'.groups (suc j) (map (λ g. group_from q.n (f g)) (range (suc (suc j)) k)))))
      {x = suc j + k} {y = j + suc k} (omega arith)
    where
      accepts : line_refusal q.n q.s q.c (suc j) (f (suc j)) ≡ 0
      accepts =
          let g = good (suc j) (omega arith) (omega arith) in
          unfold line_refusal in rw (g.0, eqb-suc-zero j, le-leb (suc j) q.s (omega arith)) g.1

-- ---- zeros after what is stored over zeros

drop-replicate : {A : Type 0} (n k : ℕ) (a : A) → drop k (replicate n a) ≡ replicate (n - k) a
drop-replicate n zero a = ap (λ (i : ℕ). replicate i a) {x = n} {y = n - 0} (omega arith)
drop-replicate zero (suc k) a = ap (λ (i : ℕ). replicate i a) {x = 0} {y = 0 - suc k} (omega arith)
drop-replicate (suc n) (suc k) a = drop-replicate n k a ∙ ap (λ (i : ℕ). replicate i a) {x = n - k} {y = suc n - suc k} (omega arith)

stored : {A : Type 0} (vs : List A) (n k : ℕ) (a : A) → length vs ≡ k → k ≤ n → sets (replicate n a) 0 vs ≡ vs ++ replicate (n - k) a
stored vs n k a e h =
    sets-eq vs (replicate n a) 0 (omega (arith, length-replicate n a))
    ∙ ap (λ l. vs ++ l) (drop-replicate n (0 + length vs) a ∙ ap (λ (i : ℕ). replicate (n - i) a) {x = 0 + length vs} {y = k} (omega arith))

-- ---- what the reader makes of the lines

module _ (m : Model) (w : Accurate m) where
  r : InRange m
  r = in_range_lem m w.in_range_lem

  groups-whole : length (table_of m) ≡ m.s
  unfolding table_of
  groups-whole = length-take m.s m.groups ∙ omega (arith, w.sized.groups)

  constraints-whole : length (constraints_of m) ≡ m.c
  unfolding constraints_of
  constraints-whole = length-take m.c m.constraints ∙ omega (arith, w.sized.constraints)

  -- in range, with room for as many groups as a constraint may have
  abbrev Whole : Constraint → Type 0
  Whole c = T (constraint_in_range m.s c) × T (leb limits.members (length c.groups))

  constraints-in : All Whole (constraints_of m)
  constraints-in =
      all-zip (λ c. T (constraint_in_range m.s c)) (λ c. T (leb limits.members (length c.groups))) (constraints_of m)
      (every-all (constraint_in_range m.s) (constraints_of m) r.constraints)
      (every-all (λ c. leb limits.members (length c.groups)) (constraints_of m) w.members)

  wide : (c : Constraint) → Whole c → limits.members ≤ length c.groups
  wide c h = leb→le limits.members (length c.groups) h.1

  -- lines as the reader has them, without byte 10
  abbrev group_line : ℕ → List ℕ
  group_line g = flat_map field_text (group_row m g)

  abbrev constraint_line : Constraint → List ℕ
  constraint_line c = flat_map field_text (constraint_fields c)

  text-lines : lines_of (sheet_text m)
      ≡ flat_map field_text (head_fields m) ∷ map group_line (range 1 m.s) ++ map constraint_line (constraints_of m)
  unfolding sheet_text sheet_fields
  text-lines =
      rows_lines (sheet_fields m) (rows_short m r)
      ∙ ap {B = List (List ℕ)} (λ ls. flat_map field_text (head_fields m) ∷ ls)
      (map-append (flat_map field_text) (map (group_row m) (range 1 m.s)) (map constraint_fields (constraints_of m))
      ∙ ap₂ (λ (a b : List (List ℕ)). a ++ b) (map-map (flat_map field_text) (group_row m) (range 1 m.s)) (map-map (flat_map field_text) constraint_fields (constraints_of m)))

  -- the head

  abbrev headed : Model
  headed = record { n = m.n; s = m.s; c = m.c; groups = zero_model.groups; constraints = zero_model.constraints }

  head-accepted : line_refusal zero_model.n zero_model.s zero_model.c 0 (flat_map field_text (head_fields m)) ≡ 0
  unfolding line_refusal
  head-accepted = rw (head-form m r) (head_good m r)

  head-told : with_line 0 zero_model (flat_map field_text (head_fields m)) ≡ headed
  unfolding with_line
  head-told = head-tells m r zero_model

  -- the group lines

  groups-accepted : (g : ℕ) → 0 < g → g ≤ 0 + m.s → (form_refusal (group_line g) ≡ 0) × (group_refusal m.n g (group_line g) ≡ 0)
  groups-accepted g a b =
      let t = group_at_lem m r g in
      let low : g ≤ limits.groups = omega (arith, r.group_count) in
      (group-form m.n g (group_at (table_of m) g) t r.entrants low, group-good m.n g (group_at (table_of m) g) t r.entrants low)

  groups-told : map (λ g. group_from m.n (group_line g)) (range 1 m.s) ≡ table_of m
  groups-told =
      values-make (λ g. group_from m.n (group_line g)) (group_at (table_of m)) 1 1 m.s
      (λ i h. group-tells m.n (1 + i) (group_at (table_of m) (1 + i)) (group_at_lem m r (1 + i)) r.entrants (omega (arith, r.group_count)))
      ∙ ap (λ (k : ℕ). map (group_at (table_of m)) (range 1 k)) (sym groups-whole)
      ∙ unfold group_at in places 1 (table_of m) zero_group

  groups-stored : sets zero_model.groups 0 (table_of m) ≡ table_of m ++ replicate (limits.groups - m.s) zero_group
  unfolding zero_model
  groups-stored = stored (table_of m) limits.groups m.s zero_group groups-whole r.group_count

  -- the constraint lines

  constraints-accepted : All (Good m.s) (map constraint_line (constraints_of m))
  constraints-accepted =
      all_map (Good m.s) constraint_line (constraints_of m)
      (all-imp Whole (λ c. Good m.s (constraint_line c))
      (λ c h. (constraint-form m.s c h.0 r.group_count (wide c h), constraint_good m.s c h.0 r.group_count (wide c h)))
      (constraints_of m) constraints-in)

  constraints-told : (cs : List Constraint) → All Whole cs → map constraint_from (map constraint_line cs) ≡ map clean_constraint cs
  constraints-told [] a = refl
  constraints-told (c ∷ cs) a =
      ap₂ {C = List Constraint} (λ x xs. x ∷ xs) (constraint-tells m.s c a.0.0 r.group_count (wide c a.0)) (constraints-told cs a.1)

  constraints-stored : sets zero_model.constraints 0 (map constraint_from (map constraint_line (constraints_of m)))
      ≡ map clean_constraint (constraints_of m) ++ replicate (limits.constraints - m.c) zero_constraint
  unfolding zero_model
  constraints-stored =
      ap (sets (replicate limits.constraints zero_constraint) 0) (constraints-told (constraints_of m) constraints-in)
      ∙ stored (map clean_constraint (constraints_of m)) limits.constraints m.c zero_constraint
      (length-map (constraints_of m) clean_constraint ∙ constraints-whole) r.constraint_count

  -- all of them

  lines-read : read_lines (lines_of (sheet_text m)) 0 zero_model ≡ record { refusal = 0; line = 0; model = clean_model m }
  unfolding clean_model
  lines-read =
      let gs = map group_line (range 1 m.s) in
      let cs = map constraint_line (constraints_of m) in
      ap (λ (ls : List (List ℕ)). read_lines ls 0 zero_model) text-lines
      ∙ read-cons (flat_map field_text (head_fields m)) (gs ++ cs) 0 zero_model head-accepted
      ∙ ap (read_lines (gs ++ cs) 1) head-told
      ∙ groups-read group_line cs m.s 0 headed (omega arith) groups-accepted
      ∙ ap₂ (λ (i : ℕ) (t : List Group). read_lines cs (suc i) (in_groups headed (sets zero_model.groups 0 t)))
      {x = 0 + m.s} {y = m.s + 0} (omega arith) groups-told
      ∙ constraint_back cs 0 (in_groups headed (sets zero_model.groups 0 (table_of m))) constraints-accepted
      (omega (arith, length-map (constraints_of m) constraint_line, constraints-whole))
      ∙ rw (groups-stored, constraints-stored)

  text-some : 0 < length (sheet_text m)
  unfolding sheet_text sheet_fields line_text
  text-some =
      let head = flat_map field_text (head_fields m) in
      let rest = flat_map line_text (map (group_row m) (range 1 m.s) ++ map constraint_fields (constraints_of m)) in
      omega (arith, length-append (head ++ (10 ∷ [])) rest, length-append head (10 ∷ []))

  text-ended : T (ends (sheet_text m))
  unfolding sheet_text line_text text_of
  text-ended =
      subst (λ (t : List ℕ). T (ends t)) (each_map (λ l. l ++ (10 ∷ [])) (flat_map field_text) (sheet_fields m))
      (text-ends (map (flat_map field_text) (sheet_fields m)))

  pub round_trip : Accepted (sheet_text m) (clean_model m)
  round_trip =
      from_bytes (sheet_text m) (clean_model m)
      (record { short = sheet_bound m w.in_range_lem; some = text-some; ended = text-ended; reads = lines-read })
