-- Each draw of the sheet is the answer to some output: the text of its assignment. Assumes nothing.
use Prim.Native.Nat.{ℕ, ◌-◌, ◌≤◌}
use mathlib.Core.Path.{◌≡◌, sym, ap, ap₂, ◌∙◌, subst}
use mathlib.Core.Logic.{⊎_elim}
use mathlib.Core.Bool.{Bool, true}
use mathlib.Core.List.{List, ◌++◌}
use native.Mathlib.Omega.{arith}
use lib.Dec.{T, leb, ltb, eqb, eqb→eq, le→leb, lt→ltb}
use lib.ListN.{length, replicate}
use Rattle.model.specs.declared.Model.{Model}
use Rattle.model.specs.Limits.{limits}
use Rattle.model.specs.Sheet.{lines_of}
use Rattle.model.specs.Propagate.{propagated}
use Rattle.model.specs.Cnf.{variable_count}
use Rattle.model.specs.Assignment.{Said, nothing_said}
use Rattle.model.specs.Close.{satisfying, groups_by, closed_groups}
use Rattle.model.specs.Solution.{is_solution}
use Rattle.model.specs.Fill.{values_of}
use Rattle.model.specs.Demand.{Accepted, is_assignment, is_satisfying, say_lines, says}
use Rattle.model.proofs.Lists.{and_left, all-imp, all-every}
use Rattle.encoding_laws.proofs.Values.{values-count}
use Rattle.propagation_laws.proofs.Sheets.{sheet_propagation}
use Rattle.answer.specs.Assignment.{assignment_text}
use Rattle.answer.proofs.Assignment.{lines-short}
use Rattle.answer.proofs.SaidBack.{literals_from, text_says, text_assigns, text-bytes}
use Rattle.answering.specs.declared.Answered.{Answered}
use Rattle.answering.specs.Answers.{answered, SayModel, Answers, Reached, EachDraw}
use Rattle.answering.proofs.Law.{settling, matching, few, answers}

module _ (b : List ℕ) (m : Model) (h : Accepted b m) (d : List ℕ) (t : T (is_solution m d)) where
  abbrev q : Model
  q = (propagated m).model

  -- a sheet that has a draw settles
  settles : (propagated m).refusal ≡ 0
  settles = ⊎_elim (λ e. e) (λ e. absurd ((settling b m h).no-solution e d t)) (settling b m h).answered

  module _ (a : List Bool) (sat : T (is_satisfying q a)) where
    abbrev lines : List (List ℕ)
    lines = lines_of (assignment_text (values_of a))

    size : length a ≡ variable_count q
    unfolding is_satisfying is_assignment
    size = eqb→eq (length a) (variable_count q) (and_left (eqb (length a) (variable_count q)) (satisfying q a) sat)

    room : length a ≤ limits.variables
    room = subst (λ (v : ℕ). v ≤ limits.variables) (sym size) (few b m h settles)

    said : say_lines (variable_count q) nothing_said lines ≡ record { literals = literals_from 1 a; closed = true }
    said = subst (λ (v : ℕ). say_lines v nothing_said lines ≡ record { literals = literals_from 1 a; closed = true }) size (text_says a (omega (arith, room)))

    say : SayModel q lines a
    say = record {
      said = subst (λ (s : Said). T (says (variable_count q) s.literals a)) (sym said) (subst (λ (v : ℕ). T (says v (literals_from 1 a) a)) size (text_assigns a));
      closing = ap (λ (s : Said). s.closed) said;
      satisfying = sat;
    }

    groups : groups_by q a ≡ d → closed_groups q a ≡ d ++ replicate (limits.groups - m.s) 0
    unfolding closed_groups
    groups e = ap₂ (λ (l : List ℕ) (s : ℕ). l ++ replicate (limits.groups - s) 0) e (sheet_propagation b m h).kept.count

    reached : groups_by q a ≡ d → Reached b m d
    reached e = record {
      assignment = a;
      bytes = all-every (λ x. ltb x 256) (assignment_text (values_of a)) (all-imp _ _ (λ x k. lt→ltb x 256 k) (assignment_text (values_of a)) (text-bytes a));
      short = all-every (λ l. leb (length l) 78) lines (all-imp _ _ (λ l k. le→leb (length l) 78 k) lines (lines-short (values_of a) (omega (arith, room, values-count a))));
      say = say;
      answer = (answers b lines).gives m h settles a say ∙ ap (λ (l : List ℕ). record { refusal = 0; line = 0; s = m.s; groups = l }) (groups e);
    }

pub each-draw : (b : List ℕ) → EachDraw b
each-draw b = record {
  reached = λ m h d t. let a = (matching b m h (settles b m h d t)).found d t in reached b m h d t a.0 a.1 a.2;
}

-- an answer that has the law promises that as well
pub with_draws : {b : List ℕ} {lines : List (List ℕ)} {r : Answered} → (r ≡ answered b lines) × Answers b lines r → (r ≡ answered b lines) × (Answers b lines r × EachDraw b)
with_draws {b} p = (p.0, (p.1, each-draw b))
