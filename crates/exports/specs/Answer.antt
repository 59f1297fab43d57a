-- What `draw_answer` answers: a sheet's bytes and a solver's whole output, as one number, and the groups.
use Rattle.std.specs.Prelude.{ℕ, List, T, length, take}
use Rattle.model.specs.declared.Model.{Model}
use Rattle.model.specs.declared.Closed.{Closed}
use Rattle.model.specs.Sheet.{lines_of}
use Rattle.model.specs.Solution.{is_solution}
use Rattle.model.specs.Demand.{Accepted}
use Rattle.answering.specs.declared.Answered.{Answered}
use Rattle.answering.specs.Answers.{answered}
use Rattle.packing.specs.Packing.{numbered, fitted_closing, groups_after}

-- the answer's refusal and groups, as closing gives them
abbrev pub as_closed : Answered → Closed
as_closed a = record { refusal = a.refusal; groups = a.groups }

-- the refusal and the sheet's line; a slice of so many words without room for the groups is 24
unfoldable pub draw_answer : List ℕ → List ℕ → ℕ → ℕ
draw_answer sheet output room =
    let a = answered sheet (lines_of output) in
    numbered (fitted_closing room (as_closed a)).refusal a.line

-- a refusal leaves the slice
unfoldable pub draw_answered : List ℕ → List ℕ → List ℕ → List ℕ
draw_answered sheet output groups = groups_after (fitted_closing (length groups) (as_closed (answered sheet (lines_of output)))) groups

-- the groups are a draw of the sheet
pub record DrawOf (sheet groups : List ℕ) : Type 0 where
  pub model : Model
  pub accepted : Accepted sheet model
  pub draw : T (is_solution model (take model.s groups))
