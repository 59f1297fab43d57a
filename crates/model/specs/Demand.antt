-- What demand 3 speaks of: tables within tables, unchanged tables, accepted sheets and their orders, assignments, and a whole reading told on the
-- solver's lines alone.
use Rattle.std.specs.Prelude.{◌≡◌, ℕ, ◌+◌, Bool, false, cond, not, ◌&&◌, leb, ltb, eqb, length, get_or, take, drop}
use mathlib.Core.List.{List, [], ◌∷◌, ◌++◌, Permᴰ}
use Rattle.std.specs.Prelude.{Option, None, Some}
use Rattle.model.specs.declared.Literal.{Literal}
use Rattle.model.specs.declared.Group.{Group}
use Rattle.model.specs.declared.Model.{Model}
use Rattle.model.specs.declared.Reading.{Reading}
use Rattle.std.specs.List.{list_all, list_any, flat_map}
use Rattle.model.specs.Lists.{pairwise, range, stop}
use Rattle.model.specs.Words.{inside}
use Rattle.model.specs.Model.{table_of, constraints_of}
use Rattle.model.specs.Sheet.{lines_of, read_sheet}
use Rattle.model.specs.Difference.{may_differ}
use Rattle.model.specs.Propagate.{rules, consistent, same_table}
use Rattle.model.specs.Cnf.{variable_count}
use Rattle.model.specs.Assignment.{Said, form_of, said_by, is_passed_over, variable, is_said, line_read, values_after}
use Rattle.model.specs.Close.{literal_true, satisfying}

-- ---- tables

-- "One table is within another when its fixed set includes the other's, its possible set is included, its low is at least and its high at most the
-- other's, group by group."
unfoldable pub group_within : Group → Group → Bool
group_within a b =
    inside b.fixed a.fixed && inside a.possible b.possible && leb b.low a.low && leb a.high b.high

unfoldable pub within : List Group → List Group → Bool
within a b = pairwise group_within a b

-- "A table is unchanged when no rule changes it: neither the group rule on any group nor the line rule on any line."
-- Request 6: "a table with such a line does not count as unchanged".
unfoldable pub unchanged : Model → List Group → Bool
unchanged m t = list_all (λ r. same_table (r t) t) (rules m.n m.s (constraints_of m)) && list_all (may_differ t) (constraints_of m)

-- a table that demand 3 compares: consistent, unchanged, and within the sheet's
unfoldable pub is_candidate : Model → List Group → Bool
is_candidate m t = consistent t && unchanged m t && within t (table_of m)

-- ---- sheets

-- "An accepted sheet is one to which none of refusals 1 to 9 applies; its table is its marks and limits."
abbrev pub Accepted : List ℕ → Model → Type 0
Accepted b m = read_sheet b ≡ record { refusal = 0; line = 0; model = m }

-- lines as bytes, each with its byte 10
unfoldable pub text_of : List (List ℕ) → List ℕ
text_of ls = flat_map (λ l. l ++ (10 ∷ [])) ls

-- "An order of it keeps the head and the group lines and permutes the constraint lines.": o is an order of the accepted sheet b, whose model is m
pub record OrderOf (b o : List ℕ) (m : Model) : Type 0 where
  pub accepted : Accepted b m
  pub whole : o ≡ text_of (lines_of o)
  pub kept : take (1 + m.s) (lines_of o) ≡ take (1 + m.s) (lines_of b)
  pub permuted : Permᴰ (drop (1 + m.s) (lines_of b)) (drop (1 + m.s) (lines_of o))

-- ---- assignments: "makes each variable 1..V true or false, and is satisfying when every clause of the listing has a true literal"

unfoldable pub is_assignment : Model → List Bool → Bool
is_assignment m a = eqb (length a) (variable_count m)

unfoldable pub is_satisfying : Model → List Bool → Bool
is_satisfying m a = is_assignment m a && satisfying m a

-- ---- a whole reading, as calls

-- "A fresh reading .. has V lent marks, all unsaid, and no closing 0 read."
unfoldable pub fresh_reading : Reading
fresh_reading = record { closed = false }

unfoldable pub is_fresh : Model → List ℕ → Bool
is_fresh m values = eqb (length values) (variable_count m) && list_all (λ b. not (is_said b)) values

-- "each call gets the reading state and the lent marks as the last call left them, a refused one included"
unfoldable pub reading_after : List (List ℕ) → Reading → List ℕ → Reading
reading_after [] r values = r
reading_after (line ∷ lines) r values = reading_after lines (line_read r line values).reading (values_after r line values)

unfoldable pub values_after_all : List (List ℕ) → Reading → List ℕ → List ℕ
values_after_all [] r values = values
values_after_all (line ∷ lines) r values = values_after_all lines (line_read r line values).reading (values_after r line values)

-- ---- the same, told on the lines alone: no values, no calls

-- whether a literal's variable was named
unfoldable pub names : Literal → Literal → Bool
names l k = eqb (variable k) (variable l)

-- 11 and 12 of literals in order, with V variables, after the literals said
abbrev pub offence : ℕ → List Literal → List Literal → ℕ
offence v said [] = 0
offence v said (l ∷ ls) = stop (ltb v (variable l)) 11 (stop (list_any (names l) said) 12 (offence v (said ++ (l ∷ [])) ls))

abbrev pub form_offence : ℕ → List Literal → Option Said → ℕ
form_offence v said None = 10
form_offence v said (Some f) = offence v said f.literals

-- "Not refused are exactly the lines to which none of 10, 11, 12 and 25 applies; of the earlier lines, 12 and 25 count only those not refused."
unfoldable pub refusal_after : ℕ → Said → List ℕ → ℕ
refusal_after v said line =
    stop (is_passed_over line) 0
    (stop (not (eqb (get_or line 0 0) 118)) 10
    (stop said.closed 25 (form_offence v said.literals (form_of line))))

-- what the earlier lines that are not refused say, and this one after them
unfoldable pub say_line : ℕ → Said → List ℕ → Said
say_line v said line =
    cond (not (is_passed_over line) && eqb (refusal_after v said line) 0)
    (record { literals = said.literals ++ (said_by (form_of line)).literals; closed = (said_by (form_of line)).closed })
    said

abbrev pub say_lines : ℕ → Said → List (List ℕ) → Said
say_lines v said [] = said
say_lines v said (line ∷ lines) = say_lines v (say_line v said line) lines

-- "They say an assignment when their literals name every variable 1..V: true without the minus sign, false with it."
unfoldable pub says : ℕ → List Literal → List Bool → Bool
says v ls a =
    eqb (length a) v
    && list_all (λ x. list_any (λ l. eqb (variable l) x && literal_true a l) ls) (range 1 v)
