-- The parts of a sheet's text that the functions of the writer write, and its length.
use Rattle.std.specs.Prelude.{ℕ, ◌+◌, ◌*◌, cond, List, [], ◌∷◌, eqb, length}
use Rattle.model.specs.declared.Group.{Group}
use Rattle.model.specs.declared.Constraint.{Constraint}
use Rattle.model.specs.declared.Model.{Model}
use Rattle.model.specs.Model.{group_at}
use Rattle.model.specs.SheetText.{group_fields, constraint_fields, line_text, sheet_text, sheet_refusal}

-- the line of group number g of a table, and of a constraint
abbrev pub group_text : ℕ → List Group → ℕ → List ℕ
group_text n t g = line_text (group_fields n g (group_at t g))

abbrev pub constraint_text : Constraint → List ℕ
constraint_text c = line_text (constraint_fields c)

-- the fields of a constraint before its groups
abbrev pub code_fields : ℕ → ℕ → List ℕ
code_fields code count = 3 ∷ code ∷ cond (eqb code 6) (count ∷ []) []

-- four bytes a field, and byte 10
abbrev pub line_length : ℕ → ℕ
line_length fields = fields * 4 + 1

-- document 01's value of the answer: the length, or 0 of a refusal
unfoldable pub sheet_length : Model → ℕ → ℕ
sheet_length m room = cond (eqb (sheet_refusal m room) 0) (length (sheet_text m)) 0
