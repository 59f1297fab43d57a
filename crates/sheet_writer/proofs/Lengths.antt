-- The rows of a model in range: each number has at most four digits, so that a line has four bytes a field, and the sheet no more bytes than a reader takes.
-- Assumes nothing.
use mathlib.Core.Path.{◌≡◌, refl, sym, ap, ap₂, ◌∙◌}
use Prim.Native.Nat.{ℕ, ◌+◌, ◌-◌, ◌*◌, ◌≤◌}
use native.Mathlib.Nat.{mul-le-mul}
use native.Mathlib.Omega.{arith}
use native.Mathlib.Decide.{dec_le}
use mathlib.Core.Bool.{cond}
use mathlib.Core.List.{List, [], ◌∷◌, ◌++◌, map, append_assoc}
use lib.Dec.{T, eqb}
use lib.ListN.{length, get_or, length-append, length-take}
use lib.Pow.{pow_pos}
use Rattle.model.specs.declared.Constraint.{Constraint}
use Rattle.model.specs.declared.Model.{Model}
use Rattle.std.specs.List.{flat_map}
use Rattle.model.specs.Lists.{range}
use Rattle.model.specs.Limits.{limits}
use Rattle.model.specs.Clauses.{member_count}
use Rattle.model.specs.Model.{zero_group, table_of, constraints_of, group_at, group_in_range, constraint_in_range, in_range}
use Rattle.model.specs.Text.{field_text}
use Rattle.model.specs.SheetText.{head_fields, group_fields, constraint_fields, sheet_fields, line_text, sheet_text}
use Rattle.model.proofs.Lists.{every-all, All, all_get_d, all-imp, all_append, all_map, range_all, each_append, each_map, length-each, total_const, total-le}
use Rattle.model.proofs.Words.{sub_refl}
use Rattle.model.proofs.Width.{groups-wide}
use Rattle.propagation_laws.proofs.Ranges.{GroupRange, InRange, in_range_lem, group-range, is-group-range}
use Rattle.sheet_writer.specs.Parts.{group_text, constraint_text, line_length}
use Rattle.sheet_writer.proofs.Fields.{Short, row-length}
use Rattle.sheet_writer.proofs.Rows.{head-short, group-short, group-count, constraint-short, constraint-few, constraint-count}

-- the row of group number g
abbrev pub group_row : Model → ℕ → List ℕ
group_row m g = group_fields m.n g (group_at (table_of m) g)

-- ---- the text in three parts

pub sheet_parts : (m : Model)
    → sheet_text m ≡ line_text (head_fields m) ++ flat_map (group_text m.n (table_of m)) (range 1 m.s) ++ flat_map constraint_text (constraints_of m)
unfolding sheet_text sheet_fields
sheet_parts m =
    let gs = map (group_row m) (range 1 m.s) in
    let cs = map constraint_fields (constraints_of m) in
    ap (λ (t : List ℕ). line_text (head_fields m) ++ t)
    (each_append line_text gs cs
    ∙ ap₂ (λ (a b : List ℕ). a ++ b) (each_map line_text (group_row m) (range 1 m.s)) (each_map line_text constraint_fields (constraints_of m)))
    ∙ sym (append_assoc (line_text (head_fields m)) (flat_map (group_text m.n (table_of m)) (range 1 m.s)) (flat_map constraint_text (constraints_of m)))

pub parts-length : (m : Model) → length (sheet_text m)
    ≡ length (line_text (head_fields m)) + length (flat_map (group_text m.n (table_of m)) (range 1 m.s)) + length (flat_map constraint_text (constraints_of m))
parts-length m =
    let gs = flat_map (group_text m.n (table_of m)) (range 1 m.s) in
    let cs = flat_map constraint_text (constraints_of m) in
    ap length (sheet_parts m) ∙ length-append (line_text (head_fields m) ++ gs) cs
    ∙ ap (λ (k : ℕ). k + length cs) (length-append (line_text (head_fields m)) gs)

-- ---- lines

line-length : (fs : List ℕ) → All Short fs → length (line_text fs) ≡ line_length (length fs)
unfolding line_text
line-length fs a = length-append (flat_map field_text fs) (10 ∷ []) ∙ ap (λ (k : ℕ). k + 1) (row-length fs a)

module _ (s : ℕ) (c : Constraint) (t : T (constraint_in_range s c)) (few : s ≤ limits.groups) where
  -- a line of code 6 and count 16 is the longest
  pub constraint-bound : length (constraint_text c) ≤ line_length (3 + limits.members)
  constraint-bound = omega (arith, line-length (constraint_fields c) (constraint-short s c t few), constraint-few s c t few)

  pub constraint-length : limits.members ≤ length c.groups
      → length (constraint_text c) ≡ line_length (cond (eqb c.code 6) 3 2 + member_count c.code c.count)
  constraint-length wide =
      line-length (constraint_fields c) (constraint-short s c t few) ∙ ap line_length (constraint-count s c t few wide)

module _ (m : Model) (r : InRange m) where
  -- a group that the table's list does not hold reads as the zero group, which is in range too
  pub group_at_lem : (g : ℕ) → GroupRange m.n (group_at (table_of m) g)
  unfolding group_at
  group_at_lem g =
      group-range m.n (get_or (table_of m) (g - 1) zero_group)
      (all_get_d (λ x. T (group_in_range m.n x)) zero_group zero_in (table_of m) (every-all (group_in_range m.n) (table_of m) r.groups) (g - 1))
    where
      zero_in : T (group_in_range m.n zero_group)
      zero_in = is-group-range m.n zero_group (unfold zero_group in record { fits = sub_refl 0; small = pow_pos m.n; order = omega arith; top = omega arith })

  group-row : (g : ℕ) → g ≤ m.s → All Short (group_row m g)
  group-row g h = group-short m.n g (group_at (table_of m) g) (group_at_lem g) r.entrants (omega (arith, r.group_count))

  constraint-rows : All (λ c. All Short (constraint_fields c)) (constraints_of m)
  constraint-rows =
      all-imp (λ c. T (constraint_in_range m.s c)) (λ c. All Short (constraint_fields c)) (λ c t. constraint-short m.s c t r.group_count) (constraints_of m)
      (every-all (constraint_in_range m.s) (constraints_of m) r.constraints)

  pub rows_short : All (All Short) (sheet_fields m)
  unfolding sheet_fields
  rows_short = (
    head-short m r,
    all_append (All Short) (map (group_row m) (range 1 m.s)) (map constraint_fields (constraints_of m))
        (all_map (All Short) (group_row m) (range 1 m.s) (range_all (λ g. All Short (group_row m g)) 1 m.s (λ g a b. group-row g (omega arith))))
        (all_map (All Short) constraint_fields (constraints_of m) constraint-rows),
  )

  -- ---- the sheet

  groups-length : length (flat_map (group_text m.n (table_of m)) (range 1 m.s)) ≡ m.s * line_length (4 + m.n)
  groups-length =
      length-each (group_text m.n (table_of m)) (range 1 m.s)
      ∙ total_const (λ g. length (group_text m.n (table_of m) g)) (line_length (4 + m.n)) 1 m.s
      (λ g a b. let low : g ≤ limits.groups = omega (arith, r.group_count) in
      line-length (group_row m g) (group-row g (omega arith))
      ∙ ap line_length (group-count m.n g (group_at (table_of m) g) (group_at_lem g) r.entrants low))

  pub sheet-length : length (sheet_text m) ≡ line_length 4 + m.s * line_length (4 + m.n) + length (flat_map constraint_text (constraints_of m))
  sheet-length = parts-length m ∙ omega (arith, head, groups-length)
    where
      head : length (line_text (head_fields m)) ≡ line_length 4
      head = line-length (head_fields m) (head-short m r) ∙ unfold head_fields in refl

  constraints-bound : length (flat_map constraint_text (constraints_of m)) ≤ m.c * line_length (3 + limits.members)
  unfolding constraints_of
  constraints-bound =
      let longest = line_length (3 + limits.members) in
      let sum = total-le (λ c. length (constraint_text c)) longest (constraints_of m)
      (all-imp (λ c. T (constraint_in_range m.s c)) (λ c. length (constraint_text c) ≤ longest) (λ c t. constraint-bound m.s c t r.group_count) (constraints_of m)
      (every-all (constraint_in_range m.s) (constraints_of m) r.constraints)) in
      omega (arith, length-each constraint_text (constraints_of m), sum, length-take m.c m.constraints)

-- the lines of groups: 256 of them with 32 marks are longer than 96 with 64
pub groups-bound : (m : Model) → InRange m → m.s * line_length (4 + m.n) ≤ limits.groups * line_length (4 + limits.narrow)
groups-bound m r = go (dec_le m.n limits.narrow)
  where
    go : Dec (m.n ≤ limits.narrow) → m.s * line_length (4 + m.n) ≤ limits.groups * line_length (4 + limits.narrow)
    go (yes h) = mul-le-mul {n₂ = limits.groups} {m₂ = line_length (4 + limits.narrow)} r.group_count (omega arith)
    go (no h) =
        let few : m.s ≤ limits.wide = omega (arith, r.group_limit, groups-wide m.n (omega arith)) in
        let g : m.s * line_length (4 + m.n) ≤ limits.wide * line_length (4 + limits.entrants) = mul-le-mul {n₂ = limits.wide} {m₂ = line_length (4 + limits.entrants)} few (omega (arith, r.entrants)) in
        omega (arith, g)

-- "The longest sheet has 57,873 bytes."
pub sheet_bound : (m : Model) → T (in_range m) → length (sheet_text m) ≤ limits.sheet
sheet_bound m t =
    let r = in_range_lem m t in
    omega (arith, sheet-length m r, groups-bound m r, constraints-bound m r, r.constraint_count)
