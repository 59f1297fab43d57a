-- The sheet reader: from bytes to a model, or to a refusal and the number of its line.
use Rattle.std.specs.Prelude.{ℕ, ◌+◌, ◌-◌, ◌*◌, ◌/◌, ◌%◌, Bool, true, false, cond, not, ◌&&◌, List, [], ◌∷◌, ◌++◌, map, leb, ltb, eqb, length, get_or, take, drop, set, replicate}
use Rattle.std.specs.Prelude.{Option, None, Some}
use Rattle.std.specs.Option.{unwrap_or}
use Rattle.model.specs.declared.Group.{Group}
use Rattle.model.specs.declared.Constraint.{Constraint}
use Rattle.model.specs.declared.Model.{Model}
use Rattle.model.specs.declared.Field.{Field}
use Rattle.model.specs.declared.Field.TheVariants.{Number, Blank, Bad}
use Rattle.model.specs.declared.SheetRead.{SheetRead}
use Rattle.std.specs.List.{list_all}
use Rattle.model.specs.Lists.{between, distinct, range, stop}
use Rattle.model.specs.Words.{word_where}
use Rattle.model.specs.Limits.{limits, groups_for}
use Rattle.model.specs.Clauses.{member_count, groups_of}
use Rattle.model.specs.Model.{zero_model, code_in_range}

-- ---- "Lines end with byte 10."

-- a byte in front of the first of some pieces
abbrev pub on_first : ℕ → List (List ℕ) → List (List ℕ)
on_first b [] = (b ∷ []) ∷ []
on_first b (l ∷ ls) = (b ∷ l) ∷ ls

-- the lines, each without its byte 10
abbrev pub lines_of : List ℕ → List (List ℕ)
lines_of [] = []
lines_of (b ∷ bs) = cond (eqb b 10) ([] ∷ lines_of bs) (on_first b (lines_of bs))

-- ---- "A line is a row of fields, each 4 columns wide: spaces, then a decimal number without needless leading zero, right-justified."

-- field i of a line, from 0: four bytes, or nothing where the line has no such field
unfoldable pub field_at : List ℕ → ℕ → List ℕ
field_at l i = cond (ltb i (length l / 4)) (take 4 (drop (i * 4) l)) []

abbrev pub after_spaces : List ℕ → List ℕ
after_spaces [] = []
after_spaces (b ∷ bs) = cond (eqb b 32) (after_spaces bs) (b ∷ bs)

-- the number that digits stand for, after digits that stand for v
abbrev pub digits_after : ℕ → List ℕ → Option ℕ
digits_after v [] = Some v
digits_after v (d ∷ ds) = cond (between 48 57 d) (digits_after (v * 10 + (d - 48)) ds) None

-- up to 9 digits, whose number fits a word of 32 bits
abbrev pub short_number : List ℕ → Option ℕ
short_number ds = cond (leb (length ds) 9) (digits_after 0 ds) None

-- one digit, or more of which the first is not 0
unfoldable pub number_of : List ℕ → Option ℕ
number_of ds =
    cond (eqb (length ds) 0) None
    (cond (ltb 1 (length ds) && eqb (get_or ds 0 0) 48) None (digits_after 0 ds))

abbrev pub as_field : Option ℕ → Field
as_field None = Bad
as_field (Some v) = Number v

-- Request 3 of document 02: "The reading of a field must tell its callers "blank" as well as "number" and "bad"."
unfoldable pub field_value : List ℕ → Field
field_value f =
    cond (not (eqb (length f) 4)) Bad
    (cond (eqb (length (after_spaces f)) 0) Blank (as_field (number_of (after_spaces f))))

-- "When an answer is an enum, a definition gives this paper's number and values for each of its cases":
-- of a field in a mark column (true) or elsewhere (false), refusal 4 and its number: "Four spaces in a mark column now mean 1." "Four spaces elsewhere remain 4."
abbrev pub field_refusal : Field → Bool → ℕ
field_refusal (Number v) mark = 0
field_refusal Blank true = 0
field_refusal Blank false = 4
field_refusal Bad mark = 4

abbrev pub field_number : Field → Bool → ℕ
field_number (Number v) mark = v
field_number Blank true = 1
field_number Blank false = 0
field_number Bad mark = 0

-- a refusal where there is no number, and the number or 0
abbrev pub if_none : ℕ → Option ℕ → ℕ
if_none refusal None = refusal
if_none refusal (Some v) = 0

abbrev pub or_zero : Option ℕ → ℕ
or_zero o = unwrap_or o 0

-- the number of a field of four bytes, if it has one: in a mark column (true) or elsewhere
unfoldable pub number_in : List ℕ → Bool → Option ℕ
number_in f mark =
    cond (not (eqb (length f) 4)) None
    (cond (mark && eqb (length (after_spaces f)) 0) (Some 1) (number_of (after_spaces f)))

-- the number in field i of a line, where it is no mark column
unfoldable pub value_at : List ℕ → ℕ → ℕ
value_at l i = field_number (field_value (field_at l i)) false

-- "A mark column is the fifth field or a later one in a line whose first field is 2."
unfoldable pub is_mark_column : List ℕ → ℕ → Bool
is_mark_column l i = leb 4 i && eqb (value_at l 0) 2

unfoldable pub good_field : List ℕ → ℕ → Bool
good_field l i = eqb (field_refusal (field_value (field_at l i)) (is_mark_column l i)) 0

-- "3 length zero or no multiple of 4. 4 field not as above."
unfoldable pub form_refusal : List ℕ → ℕ
form_refusal l =
    stop (eqb (length l) 0) 3
    (stop (not (eqb (length l % 4) 0)) 3
    (stop (not (list_all (good_field l) (range 0 (length l / 4)))) 4 0))

-- ---- "Head, 4 fields: 1, n (entrants, 1 to 32), s (groups, 1 to 256), c (constraint lines, 0 to 256)."; by request 7 "n goes to 64", and "With n above 32,
-- s is at most 96, otherwise 7 in the head"

unfoldable pub head_refusal : List ℕ → ℕ
head_refusal l =
    stop (not (eqb (value_at l 0) 1)) 5
    (stop (not (eqb (length l / 4) 4)) 6
    (stop (not (between 1 limits.entrants (value_at l 1))) 7
    (stop (not (between 1 (groups_for (value_at l 1)) (value_at l 2))) 7
    (stop (not (leb (value_at l 3) limits.constraints)) 7 0))))

unfoldable pub with_head : List ℕ → Model → Model
with_head l m = record { n = value_at l 1; s = value_at l 2; c = value_at l 3; groups = m.groups; constraints = m.constraints }

-- ---- "s group lines, 4 + n fields: 2, the group's number (1, 2, .. s), low, high (low ≤ high ≤ n), then a mark per entrant: 0 barred, 1 open, 2 fixed."

-- the mark of bit e
unfoldable pub mark_at : List ℕ → ℕ → ℕ
mark_at l e = field_number (field_value (field_at l (4 + e))) true

unfoldable pub group_refusal : ℕ → ℕ → List ℕ → ℕ
group_refusal n g l =
    stop (not (eqb (value_at l 0) 2)) 5
    (stop (not (eqb (length l / 4) (4 + n))) 6
    (stop (not (leb (value_at l 2) (value_at l 3))) 7
    (stop (not (leb (value_at l 3) n)) 7
    (stop (not (list_all (λ e. leb (mark_at l e) 2) (range 0 n))) 7
    (stop (not (eqb (value_at l 1) g)) 8 0)))))

-- "the possible ones (marks 1 and 2)"
unfoldable pub group_from : ℕ → List ℕ → Group
group_from n l = record {
  fixed = word_where (λ e. eqb (mark_at l e) 2) n;
  possible = word_where (λ e. not (eqb (mark_at l e) 0)) n;
  low = value_at l 2;
  high = value_at l 3;
}

unfoldable pub with_group : ℕ → List ℕ → Model → Model
with_group g l m = record {
  n = m.n;
  s = m.s;
  c = m.c;
  groups = set m.groups (g - 1) (group_from m.n l);
  constraints = m.constraints;
}

-- ---- "c constraint lines: 3, code, groups. Code 6 has a count k (2 to 16) before its groups, then H and k more. Group numbers are 1 to s, all different in a line."

-- the field of the first group
unfoldable pub first_group : List ℕ → ℕ
first_group l = cond (eqb (value_at l 1) 6) 3 2

-- k; 0 of the codes that have none
unfoldable pub count_from : List ℕ → ℕ
count_from l = cond (eqb (value_at l 1) 6) (value_at l 2) 0

-- how many groups the line has: a group's number stands in each field after the first
unfoldable pub group_count : List ℕ → ℕ
group_count l = member_count (value_at l 1) (count_from l)

unfoldable pub constraint_from : List ℕ → Constraint
constraint_from l = record {
  code = value_at l 1;
  count = count_from l;
  groups = map (λ i. value_at l (first_group l + i)) (range 0 (group_count l)) ++ replicate (limits.members - group_count l) 0;
}

unfoldable pub constraint_refusal : ℕ → List ℕ → ℕ
constraint_refusal s l =
    stop (not (eqb (value_at l 0) 3)) 5
    (stop (not (code_in_range (value_at l 1) (count_from l))) 6
    (stop (not (eqb (length l / 4) (first_group l + group_count l))) 6
    (stop (not (list_all (between 1 s) (groups_of (constraint_from l)))) 7
    (stop (not (distinct (groups_of (constraint_from l)))) 9 0))))

-- constraint number j
unfoldable pub with_constraint : ℕ → List ℕ → Model → Model
with_constraint j l m = record {
  n = m.n;
  s = m.s;
  c = m.c;
  groups = m.groups;
  constraints = set m.constraints (j - 1) (constraint_from l);
}

-- ---- "Then line by line, and within a line each check over all its fields before the next"; "5 kind wrong here, a line too many"

-- the refusal of a line after `done` lines, of which the head said n, s and c; 0 where there is none
unfoldable pub line_refusal : ℕ → ℕ → ℕ → ℕ → List ℕ → ℕ
line_refusal n s c done l =
    stop (not (eqb (form_refusal l) 0)) (form_refusal l)
    (cond (eqb done 0) (head_refusal l)
    (cond (leb done s) (group_refusal n done l)
    (cond (leb done (s + c)) (constraint_refusal s l) 5)))

-- the model with what the line says
unfoldable pub with_line : ℕ → Model → List ℕ → Model
with_line done m l =
    cond (eqb done 0) (with_head l m)
    (cond (leb done m.s) (with_group done l m) (with_constraint (done - m.s) l m))

-- "A refused reader returns the line number (0 for refusals 1 and 2) and an all-zero model"
unfoldable pub refused_sheet : ℕ → ℕ → SheetRead
refused_sheet r line = record { refusal = r; line = line; model = zero_model }

-- "or (numbered one past the end) one missing"
unfoldable pub after_last : ℕ → Model → SheetRead
after_last done m = cond (leb done (m.s + m.c)) (refused_sheet 5 (done + 1)) (record { refusal = 0; line = 0; model = m })

abbrev pub read_lines : List (List ℕ) → ℕ → Model → SheetRead
read_lines [] done m = after_last done m
read_lines (l ∷ ls) done m =
    let r = line_refusal m.n m.s m.c done l in
    let rest = read_lines ls (done + 1) (with_line done m l) in
    cond (eqb r 0) rest (refused_sheet r (done + 1))

-- "1 sheet over 57,873 bytes. 2 sheet empty or not ending in byte 10."
unfoldable pub read_sheet : List ℕ → SheetRead
read_sheet b =
    let read = read_lines (lines_of b) 0 zero_model in
    cond (ltb limits.sheet (length b)) (refused_sheet 1 0)
    (cond (eqb (length b) 0) (refused_sheet 2 0)
    (cond (eqb (get_or b (length b - 1) 0) 10) read (refused_sheet 2 0)))
