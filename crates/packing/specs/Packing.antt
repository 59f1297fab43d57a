-- An answer as one number, and as words at the front of a slice.
use Rattle.std.specs.Prelude.{ℕ, ◌+◌, ◌*◌, Bool, cond, ◌&&◌, List, [], ◌∷◌, ◌++◌, ltb, leb, eqb, length, take, drop, replicate}
use Rattle.model.specs.declared.Group.{Group}
use Rattle.model.specs.declared.Constraint.{Constraint}
use Rattle.model.specs.declared.Model.{Model}
use Rattle.model.specs.declared.Written.{Written}
use Rattle.model.specs.declared.Closed.{Closed}
use Rattle.std.specs.List.{flat_map}
use Rattle.model.specs.Limits.{limits}
use Rattle.model.specs.Text.{written_refusal, written_length}

-- ---- one number

-- a refusal and a line, or a refusal and passes
abbrev pub numbered : ℕ → ℕ → ℕ
numbered refusal k = refusal * 65536 + k

-- a refusal and a length
abbrev pub written_number : Written → ℕ
written_number w = written_refusal w * 4294967296 + written_length w

-- the next block, which is never 0, and the text's length; or the refusal
abbrev pub run_number : ℕ → ℕ → ℕ → ℕ
run_number refusal next k = cond (eqb refusal 0) (next * 4294967296 + k) refusal

-- a refusal, and 1 where the reading is closed
abbrev pub line_number : ℕ → Bool → ℕ
line_number refusal closed = refusal * 2 + cond closed 1 0

-- ---- words

abbrev pub group_words : Group → List ℕ
group_words g = g.fixed ∷ g.possible ∷ g.low ∷ g.high ∷ []

-- whether the words of so many groups, no more than a model's, fit in a slice of so many words
unfoldable pub has_room : ℕ → ℕ → Bool
has_room s room = leb s limits.groups && leb (4 * s) room

-- the words of the first s groups at the front, where they fit
unfoldable pub groups_laid : List Group → ℕ → List ℕ → List ℕ
groups_laid groups s table = cond (has_room s (length table)) (flat_map group_words (take s groups) ++ drop (4 * s) table) table

abbrev pub constraint_words : Constraint → List ℕ
constraint_words c = c.code ∷ c.count ∷ c.groups

-- a model: n, s, c, its groups and its constraints, all of them, used or not
unfoldable pub model_words : Model → List ℕ
model_words m = (m.n ∷ m.s ∷ m.c ∷ []) ++ (flat_map group_words m.groups ++ flat_map constraint_words m.constraints)

-- how many words that are
abbrev pub model_size : ℕ
model_size = 3 + 4 * limits.groups + (2 + limits.members) * limits.constraints

-- at the front of a slice that has room for them
unfoldable pub model_laid : Model → List ℕ → List ℕ
model_laid m words = cond (leb model_size (length words)) (model_words m ++ drop model_size words) words

abbrev pub no_groups : ℕ → Closed
no_groups refusal = record { refusal = refusal; groups = replicate limits.groups 0 }

-- closing's answer for a slice of so many words: one without room for the groups is 24
unfoldable pub fitted_closing : ℕ → Closed → Closed
fitted_closing room a = cond (eqb a.refusal 0 && ltb room limits.groups) (no_groups 24) a

-- the groups at the front; a refusal leaves the slice
abbrev pub groups_after : Closed → List ℕ → List ℕ
groups_after a groups = cond (eqb a.refusal 0) (a.groups ++ drop limits.groups groups) groups
