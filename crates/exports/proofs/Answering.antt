-- The answer laid in a slice: its number, and that the groups of an answer that is not refused are a draw of the sheet. Assumes nothing.
use Prim.Native.Nat.{ℕ, ◌-◌, ◌≤◌}
use mathlib.Core.Path.{◌≡◌, refl, sym, ap, ◌∙◌, subst}
use mathlib.Core.Bool.{Bool, true, false, cond, ◌&&◌}
use mathlib.Core.List.{List, ◌++◌}
use native.Mathlib.Omega.{arith}
use lib.Dec.{T, ltb, eqb}
use lib.ListN.{length, drop, replicate, length-append}
use lib.Seq.{take-append-le}
use Rattle.model.specs.declared.Closed.{Closed}
use Rattle.model.specs.Limits.{limits}
use Rattle.model.specs.Sheet.{lines_of}
use Rattle.model.specs.Propagate.{propagated}
use Rattle.model.specs.Close.{group_by, groups_by, closed_groups}
use Rattle.model.specs.Solution.{is_solution}
use Rattle.model.proofs.Lists.{values_length}
use Rattle.propagation_laws.proofs.Sheets.{sheet_propagation}
use Rattle.answering.specs.declared.Answered.{Answered}
use Rattle.answering.specs.Answers.{answered, Given, Answers}
use Rattle.packing.specs.Packing.{numbered, fitted_closing, groups_after}
use Rattle.exports.specs.Answer.{as_closed, draw_answer, draw_answered, DrawOf}

-- an answer that the slice has room for, and no refusal of it
fits : (room : ℕ) (a : Closed) → (fitted_closing room a).refusal ≡ 0 → (fitted_closing room a ≡ a) × (a.refusal ≡ 0)
unfolding fitted_closing
fits room a z = go (eqb a.refusal 0) refl (ltb room limits.groups) z
  where
    go : (x : Bool) → eqb a.refusal 0 ≡ x → (y : Bool) → (cond (x && y) (record { refusal = 24; groups = replicate limits.groups 0 }) a).refusal ≡ 0
        → (cond (x && y) (record { refusal = 24; groups = replicate limits.groups 0 }) a ≡ a) × (a.refusal ≡ 0)
    go true e true z = absurd (omega arith)
    go true e false z = (refl, z)
    go false e y z = (refl, z)

-- the groups are a draw, whatever stands after them
given-draw : (b : List ℕ) (lines : List (List ℕ)) (a : Answered) → Given b lines a → (rest : List ℕ) → DrawOf b (a.groups ++ rest)
unfolding closed_groups groups_by
given-draw b lines a g rest =
    let m = g.model in
    let q = (propagated m).model in
    let k : q.s ≡ m.s = (sheet_propagation b m g.accepted).kept.count in
    let long : m.s ≤ length a.groups =
    omega (arith, ap length g.groups, length-append (groups_by q g.assignment) (replicate (limits.groups - q.s) 0), values_length (group_by q g.assignment) 1 q.s) in
    record {
      model = m;
      accepted = g.accepted;
      draw = subst (λ (d : List ℕ). T (is_solution m d)) (sym (take-append-le m.s a.groups rest long)) g.draw;
    }

module _ (b output groups : List ℕ) (a : Answered) (e : a ≡ answered b (lines_of output)) (law : Answers b (lines_of output) a)
    (refusal : ℕ) (after : List ℕ) (er : refusal ≡ (fitted_closing (length groups) (as_closed a)).refusal)
    (ea : after ≡ groups_after (fitted_closing (length groups) (as_closed a)) groups) (r : ℕ) (n : r ≡ numbered refusal a.line) where
  number_is : r ≡ draw_answer b output (length groups)
  unfolding draw_answer
  number_is = n ∙ rw (er, e)

  groups_are : after ≡ draw_answered b output groups
  unfolding draw_answered
  groups_are = ea ∙ rw e

  drawn : r ≡ 0 → DrawOf b after
  drawn z =
      let f = fits (length groups) (as_closed a) (sym er ∙ omega (arith, n)) in
      let t : after ≡ a.groups ++ drop limits.groups groups = ea ∙ rw (f.0, f.1) in
      subst (DrawOf b) (sym t) (given-draw b (lines_of output) a (law.only f.1) (drop limits.groups groups))

  pub answer-laid : (r ≡ draw_answer b output (length groups)) × ((after ≡ draw_answered b output groups) × (r ≡ 0 → DrawOf b after))
  answer-laid = (number_is, (groups_are, drawn))
