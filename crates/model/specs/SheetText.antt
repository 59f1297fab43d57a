-- The text of a model's sheet, in the reader's format, and what the sheet writer answers.
use Rattle.std.specs.Prelude.{ℕ, ◌-◌, cond, not, List, [], ◌∷◌, ◌++◌, map, ltb, eqb, length, drop, replicate}
use Rattle.model.specs.declared.Group.{Group}
use Rattle.model.specs.declared.Constraint.{Constraint}
use Rattle.model.specs.declared.Model.{Model}
use Rattle.model.specs.declared.Written.{Written}
use Rattle.model.specs.declared.Written.TheVariants.{Bytes, Refused}
use Rattle.std.specs.List.{flat_map}
use Rattle.model.specs.Lists.{range, stop}
use Rattle.model.specs.Words.{has}
use Rattle.model.specs.Limits.{limits}
use Rattle.model.specs.Clauses.{member_count, groups_of}
use Rattle.model.specs.Model.{zero_group, zero_constraint, table_of, constraints_of, group_at, in_range}
use Rattle.model.specs.Text.{field_text}

-- ---- the fields of each line, as numbers

-- "Head, 4 fields: 1, n (entrants, 1 to 32), s (groups, 1 to 256), c (constraint lines, 0 to 256)."; by request 7 "n goes to 64", and "With n above 32,
-- s is at most 96"
unfoldable pub head_fields : Model → List ℕ
head_fields m = 1 ∷ m.n ∷ m.s ∷ m.c ∷ []

-- "a mark per entrant: 0 barred, 1 open, 2 fixed", of bit e
unfoldable pub mark_of : Group → ℕ → ℕ
mark_of g e = cond (has g.fixed e) 2 (cond (has g.possible e) 1 0)

-- "s group lines, 4 + n fields: 2, the group's number (1, 2, .. s), low, high (low ≤ high ≤ n), then a mark per entrant"
unfoldable pub group_fields : ℕ → ℕ → Group → List ℕ
group_fields n number g = 2 ∷ number ∷ g.low ∷ g.high ∷ map (mark_of g) (range 0 n)

-- "c constraint lines: 3, code, groups. Code 6 has a count k (2 to 16) before its groups, then H and k more."
unfoldable pub constraint_fields : Constraint → List ℕ
constraint_fields c = 3 ∷ c.code ∷ cond (eqb c.code 6) (c.count ∷ groups_of c) (groups_of c)

-- "Lines, in this order"
unfoldable pub sheet_fields : Model → List (List ℕ)
sheet_fields m =
    head_fields m ∷ map (λ g. group_fields m.n g (group_at (table_of m) g)) (range 1 m.s) ++ map constraint_fields (constraints_of m)

-- ---- "Lines end with byte 10. A line is a row of fields"

unfoldable pub line_text : List ℕ → List ℕ
line_text fields = flat_map field_text fields ++ (10 ∷ [])

unfoldable pub sheet_text : Model → List ℕ
sheet_text m = flat_map line_text (sheet_fields m)

-- ---- what the text tells of a model: the reader's zeros past s, c and a line's groups, and no count but code 6's

unfoldable pub clean_constraint : Constraint → Constraint
clean_constraint c = record {
  code = c.code;
  count = cond (eqb c.code 6) c.count 0;
  groups = groups_of c ++ replicate (limits.members - member_count c.code c.count) 0;
}

unfoldable pub clean_model : Model → Model
clean_model m = record {
  n = m.n;
  s = m.s;
  c = m.c;
  groups = table_of m ++ replicate (limits.groups - m.s) zero_group;
  constraints = map clean_constraint (constraints_of m) ++ replicate (limits.constraints - m.c) zero_constraint;
}

-- ---- the sheet writer, for a buffer of `room` bytes, answered as a block is: 20, 24

unfoldable pub sheet_refusal : Model → ℕ → ℕ
sheet_refusal m room = stop (not (in_range m)) 20 (stop (ltb room (length (sheet_text m))) 24 0)

-- "A written block returns its length"
unfoldable pub written_sheet : Model → ℕ → Written
written_sheet m room = cond (eqb (sheet_refusal m room) 0) (Bytes (length (sheet_text m))) (Refused (sheet_refusal m room))

-- "and bytes past the text are unchanged"; a refusal leaves all of them
unfoldable pub sheet_buffer : Model → List ℕ → List ℕ
sheet_buffer m buf = cond (eqb (sheet_refusal m (length buf)) 0) (sheet_text m ++ drop (length (sheet_text m)) buf) buf
