-- What a sheet's bytes and a solver's lines are answered with, and the law of it, with no condition on either. A field for each sentence.
-- It names only the definitions that the five contracts name, and demand 3's.
use Rattle.std.specs.Prelude.{ℕ, ◌-◌, ◌≡◌, ◌⊎◌, Bool, true, cond, List, ◌++◌, T, leb, ltb, eqb, length, take, replicate}
use Rattle.model.specs.declared.Model.{Model}
use Rattle.model.specs.declared.SheetRead.{SheetRead}
use Rattle.model.specs.declared.Propagated.{Propagated}
use Rattle.model.specs.declared.Closed.{Closed}
use Rattle.std.specs.List.{list_all}
use Rattle.model.specs.Limits.{limits}
use Rattle.model.specs.Sheet.{lines_of, read_sheet}
use Rattle.model.specs.Propagate.{propagated}
use Rattle.model.specs.Cnf.{variable_count}
use Rattle.model.specs.Close.{closed_groups}
use Rattle.model.specs.Solution.{is_solution}
use Rattle.model.specs.Fill.{values_of}
use Rattle.model.specs.Demand.{Accepted, is_satisfying, says}
use Rattle.correctness.specs.Demand3.{said_after, closed_after}
use Rattle.answer.specs.Assignment.{assignment_text}
use Rattle.answering.specs.declared.Answered.{Answered}

-- ---- the answer

unfoldable pub no_groups : ℕ → ℕ → Answered
no_groups refusal line = record { refusal = refusal; line = line; s = 0; groups = replicate limits.groups 0 }

-- of a sheet of s groups, which are told with a refusal as well
abbrev pub closed_answer : ℕ → Closed → Answered
closed_answer s c = record { refusal = c.refusal; line = 0; s = s; groups = c.groups }

-- a fresh reading's marks: V of them, all unsaid
unfoldable pub unsaid_values : Model → List ℕ
unsaid_values q = replicate (variable_count q) 0

-- settling's refusal, or closing after all lines on the settled model
abbrev pub settled_answer : ℕ → Propagated → List (List ℕ) → Answered
settled_answer s p lines =
    cond (eqb p.refusal 0) (closed_answer s (closed_after p.model lines (unsaid_values p.model))) (no_groups p.refusal 0)

abbrev pub read_answer : SheetRead → List (List ℕ) → Answered
read_answer r lines = cond (eqb r.refusal 0) (settled_answer r.model.s (propagated r.model) lines) (no_groups r.refusal r.line)

unfoldable pub answered : List ℕ → List (List ℕ) → Answered
answered b lines = read_answer (read_sheet b) lines

-- ---- its law

-- the lines that are not refused say a satisfying assignment and a closing 0, of the settled model q
pub record SayModel (q : Model) (lines : List (List ℕ)) (a : List Bool) : Type 0 where
  pub said : T (says (variable_count q) (said_after q lines).literals a)
  pub closing : (said_after q lines).closed ≡ true
  pub satisfying : T (is_satisfying q a)

-- groups were given: the sheet is accepted and settles, the lines say a satisfying assignment, the groups are its own, and they are a draw of the sheet
pub record Given (b : List ℕ) (lines : List (List ℕ)) (r : Answered) : Type 0 where
  pub model : Model
  pub accepted : Accepted b model
  pub settles : (propagated model).refusal ≡ 0
  pub assignment : List Bool
  pub say : SayModel (propagated model).model lines assignment
  pub line : r.line ≡ 0
  pub count : r.s ≡ model.s
  pub groups : r.groups ≡ closed_groups (propagated model).model assignment
  pub draw : T (is_solution model (take model.s r.groups))

pub record Answers (b : List ℕ) (lines : List (List ℕ)) (r : Answered) : Type 0 where
  -- groups are given only when the sheet is accepted and settles, and the lines that are not refused say a satisfying assignment and a closing 0
  pub only : r.refusal ≡ 0 → Given b lines r
  -- and always then
  pub gives : (m : Model) → Accepted b m → (propagated m).refusal ≡ 0 → (a : List Bool) → SayModel (propagated m).model lines a
      → r ≡ record { refusal = 0; line = 0; s = m.s; groups = closed_groups (propagated m).model a }
  -- with a refusal nothing is given
  pub none : (r.refusal ≡ 0 → ⊥) → r.groups ≡ replicate limits.groups 0
  -- a sheet that is not accepted is refused as the reader refuses it, whatever the lines
  pub unread : ((read_sheet b).refusal ≡ 0 → ⊥) → r ≡ no_groups (read_sheet b).refusal (read_sheet b).line
  -- where settling refuses nothing is given, whatever the lines, and the sheet has no draw
  pub out : (m : Model) → Accepted b m → ((propagated m).refusal ≡ 0 → ⊥) → (r ≡ no_groups 21 0) × ((d : List ℕ) → T (is_solution m d) → ⊥)
  -- and otherwise no other refusal than closing's 27 and 28 is left
  pub left : (m : Model) → Accepted b m → (propagated m).refusal ≡ 0 → (r.refusal ≡ 0) ⊎ ((r.refusal ≡ 27) ⊎ (r.refusal ≡ 28))

-- ---- the other way: each draw of the sheet is the answer to some output

-- d is the answer to the text of an assignment: `v` lines of at most 78 columns with a closing 0, as `answer::write_assignment` writes them
pub record Reached (b : List ℕ) (m : Model) (d : List ℕ) : Type 0 where
  pub assignment : List Bool
  pub bytes : T (list_all (λ x. ltb x 256) (assignment_text (values_of assignment)))
  pub short : T (list_all (λ l. leb (length l) 78) (lines_of (assignment_text (values_of assignment))))
  pub say : SayModel (propagated m).model (lines_of (assignment_text (values_of assignment))) assignment
  pub answer : answered b (lines_of (assignment_text (values_of assignment))) ≡ record { refusal = 0; line = 0; s = m.s; groups = d ++ replicate (limits.groups - m.s) 0 }

pub record EachDraw (b : List ℕ) : Type 0 where
  pub reached : (m : Model) → Accepted b m → (d : List ℕ) → T (is_solution m d) → Reached b m d
