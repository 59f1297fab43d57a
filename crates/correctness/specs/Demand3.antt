-- Demand 3 as one record over bytes: for every accepted sheet b, whose model is m, and every order o of it. A field for each sentence.
-- It names only the definitions that the five contracts name: read_sheet, propagated, block_refusal and block_text, line_read and values_after, closed.
use Rattle.std.specs.Prelude.{◌≡◌, ◌⊎◌, ℕ, ◌+◌, ◌*◌, ◌≤◌, Bool, true, List, [], T, length}
use Rattle.std.specs.Prelude.{Some}
use Rattle.model.specs.declared.Group.{Group}
use Rattle.model.specs.declared.Model.{Model}
use Rattle.model.specs.declared.Propagated.{Propagated}
use Rattle.model.specs.declared.Closed.{Closed}
use Rattle.std.specs.List.{list_all}
use Rattle.model.specs.Lists.{between}
use Rattle.model.specs.Limits.{limits}
use Rattle.model.specs.Model.{table_of}
use Rattle.model.specs.Propagate.{propagated}
use Rattle.model.specs.Cnf.{variable_count, block_count, clauses, clause_count}
use Rattle.model.specs.Text.{block_text, listing, block_refusal}
use Rattle.model.specs.Dimacs.{read_dimacs}
use Rattle.model.specs.Assignment.{Said, nothing_said, variable, line_read}
use Rattle.model.specs.Close.{groups_by, closed_groups, closed}
use Rattle.model.specs.Solution.{is_solution}
use Rattle.model.specs.Demand.{Accepted, within, is_candidate, is_satisfying, fresh_reading, is_fresh, reading_after, values_after_all, refusal_after, say_lines, says}

-- ---- settling, of the sheet's model m; `a` is the answer for some order of the sheet
pub record Settling (m : Model) (a : Propagated) : Type 0 where
  -- settling ends in 21 or in a table
  pub answered : (a.refusal ≡ 0) ⊎ (a.refusal ≡ 21)
  -- 21 exactly when no consistent table within the sheet's is unchanged
  pub refused-only : a.refusal ≡ 21 → (t : List Group) → T (is_candidate m t) → ⊥
  pub refused-when : ((t : List Group) → T (is_candidate m t) → ⊥) → a.refusal ≡ 21
  -- where settling refuses, the sheet has no draw
  pub no-solution : a.refusal ≡ 21 → (d : List ℕ) → T (is_solution m d) → ⊥
  -- otherwise the table is consistent, unchanged and within the sheet's
  pub candidate : a.refusal ≡ 0 → T (is_candidate m (table_of a.model))
  -- and every other consistent unchanged table within the sheet's is within it: the widest
  pub widest : a.refusal ≡ 0 → (t : List Group) → T (is_candidate m t) → T (within t (table_of a.model))
  -- the number of passes is at most 2·s·n + 1
  pub passes : a.passes ≤ 2 * m.s * m.n + 1

-- ---- the listing of the settled model q
pub record Listing (q : Model) : Type 0 where
  -- every block is written into a buffer of 65,536 bytes
  pub written : (k : ℕ) → k ≤ block_count q → block_refusal q k limits.block ≡ 0
  -- block 0 says V and C of the formulas
  pub header : read_dimacs (block_text q 0) ≡ Some (record { variables = variable_count q; clause_count = clause_count q; clauses = [] })
  -- all blocks, read as DIMACS text, are V, C and the clauses
  pub reads : read_dimacs (listing q) ≡ Some (record { variables = variable_count q; clause_count = clause_count q; clauses = clauses q })
  -- exactly C of them
  pub count : length (clauses q) ≡ clause_count q
  -- "V is at most 59,392, code 7 lines included"
  pub few : variable_count q ≤ limits.variables
  -- no variable below 1 or above V
  pub variables : T (list_all (list_all (λ l. between 1 (variable_count q) (variable l))) (clauses q))

-- ---- draws of the sheet and satisfying assignments of the listing match one for one
pub record Matching (m q : Model) : Type 0 where
  -- each satisfying assignment reads back as a draw
  pub sound : (a : List Bool) → T (is_satisfying q a) → T (is_solution m (groups_by q a))
  -- each draw is read back from one
  pub found : (d : List ℕ) → T (is_solution m d) → (a : List Bool) × T (is_satisfying q a) × (groups_by q a ≡ d)
  -- and from one only
  pub alone : (a b : List Bool) → T (is_satisfying q a) → T (is_satisfying q b) → groups_by q a ≡ groups_by q b → a ≡ b

-- ---- every list of solver lines from a fresh reading, with the closing call after it
abbrev pub said_after : Model → List (List ℕ) → Said
said_after q lines = say_lines (variable_count q) nothing_said lines

abbrev pub closed_after : Model → List (List ℕ) → List ℕ → Closed
closed_after q lines values = closed q (reading_after lines fresh_reading values) (values_after_all lines fresh_reading values)

-- a satisfying assignment that the lines say, with a closing 0, whose groups the closing call gave
pub record Answer (q : Model) (values : List ℕ) (lines : List (List ℕ)) : Type 0 where
  pub assignment : List Bool
  pub said : T (says (variable_count q) (said_after q lines).literals assignment)
  pub closing : (said_after q lines).closed ≡ true
  pub satisfying : T (is_satisfying q assignment)
  pub groups : (closed_after q lines values).groups ≡ closed_groups q assignment

pub record ReadingBack (q : Model) (values : List ℕ) (lines : List (List ℕ)) : Type 0 where
  -- "Not refused are exactly the lines to which none of 10, 11, 12 and 25 applies", judged on the lines alone
  pub judged : (line : List ℕ)
      → (line_read (reading_after lines fresh_reading values) line (values_after_all lines fresh_reading values)).refusal
      ≡ refusal_after (variable_count q) (said_after q lines) line
  -- "With a closing 0 said too and the assignment satisfying, closing .. gives its groups"
  pub closes : (a : List Bool) → T (says (variable_count q) (said_after q lines).literals a) → (said_after q lines).closed ≡ true
      → T (is_satisfying q a) → closed_after q lines values ≡ record { refusal = 0; groups = closed_groups q a }
  -- and in no other case
  pub only : (closed_after q lines values).refusal ≡ 0 → Answer q values lines

-- ---- the demand
pub record Demand3 (b o : List ℕ) (m : Model) : Type 0 where
  -- an order of an accepted sheet is accepted
  pub order : Model
  pub accepted : Accepted o order
  -- settling it gives 21, or the widest table
  pub settling : Settling m (propagated order)
  -- alike in every order: the same refusal and the same table
  pub alike : (propagated order).refusal ≡ (propagated m).refusal
  pub table : table_of (propagated order).model ≡ table_of (propagated m).model
  -- where it settles: the listing, the match, and every reading back
  pub lists : (propagated order).refusal ≡ 0 → Listing (propagated order).model
  pub matches : (propagated order).refusal ≡ 0 → Matching m (propagated order).model
  pub reads-back : (propagated order).refusal ≡ 0 → (values : List ℕ) → T (is_fresh (propagated order).model values) → (lines : List (List ℕ))
      → ReadingBack (propagated order).model values lines
