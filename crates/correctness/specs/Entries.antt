-- What the entries promise of demand 3, each of its own answer, for every input; settling's is `Settling` of Demand3, the reader's is `Orders` of the crate
-- `sheet`.
use Rattle.std.specs.Prelude.{◌≡◌, ℕ, suc, ◌-◌, ◌≤◌, ◌<◌, Bool, List, T, eqb, length, get_or, take}
use Rattle.model.specs.declared.Literal.{Literal}
use Rattle.model.specs.declared.Model.{Model}
use Rattle.model.specs.declared.Reading.{Reading}
use Rattle.model.specs.declared.LineRead.{LineRead}
use Rattle.model.specs.declared.Closed.{Closed}
use Rattle.std.specs.List.{list_any}
use Rattle.model.specs.Text.{block_text}
use Rattle.model.specs.Assignment.{Said, is_said, variable, value_for}
use Rattle.model.specs.Close.{groups_by, closed_groups}
use Rattle.model.specs.Solution.{is_solution}
use Rattle.model.specs.Demand.{is_satisfying, refusal_after, say_line}
use Rattle.model.proofs.Lists.{All}
use Rattle.correctness.specs.Demand3.{Listing}

-- ---- a written block: it is a part of the listing, of which all sentences hold
pub record Listed (m : Model) (b size : ℕ) (buffer : List ℕ) : Type 0 where
  pub text : take size buffer ≡ block_text m b
  pub listing : Listing m

-- ---- a solver line

-- the values hold exactly what the literals say, of v variables
pub record Holds (v : ℕ) (said : List Literal) (values : List ℕ) : Type 0 where
  pub size : length values ≡ v
  pub held : All (λ l. (variable l ≤ v) × (1 ≤ variable l) × (get_or values (variable l - 1) 0 ≡ value_for l)) said
  pub only : (i : ℕ) → i < v → is_said (get_or values i 0) ≡ list_any (λ k. eqb (variable k) (suc i)) said

-- the state after some lines is what they say
pub record Matches (v : ℕ) (s : Said) (r : Reading) (values : List ℕ) : Type 0 where
  pub closed : r.closed ≡ s.closed
  pub holds : Holds v s.literals values

-- the answer to a line, and the values after it, whatever lines were read before
pub record LineReads (r : Reading) (line values : List ℕ) (a : LineRead) (after : List ℕ) : Type 0 where
  -- "Not refused are exactly the lines to which none of 10, 11, 12 and 25 applies", judged on the lines alone
  pub judged : (v : ℕ) (said : Said) → Matches v said r values → a.refusal ≡ refusal_after v said line
  -- and the state is what the lines say, this one after them
  pub leaves : (v : ℕ) (said : Said) → Matches v said r values → Matches v (say_line v said line) a.reading after

-- ---- a closing that is not refused: its groups are a draw, read back from a satisfying assignment, and from that one only
pub record Drawn (m : Model) (a : Closed) : Type 0 where
  pub assignment : List Bool
  pub satisfying : T (is_satisfying m assignment)
  pub groups : a.groups ≡ closed_groups m assignment
  pub draw : T (is_solution m (take m.s a.groups))
  pub alone : (b : List Bool) → T (is_satisfying m b) → groups_by m b ≡ take m.s a.groups → b ≡ assignment
