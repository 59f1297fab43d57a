-- `answer` is four of the entries one after the other; its law is demand 3's. Assumes nothing.
use mathlib.Core.List.{[]}
use native.Mathlib.Omega.{arith}
use lib.ListN.{take, length-take}
use Rattle.numbering.proofs.Models.{variables-is}
use Rattle.answering.proofs.Law.{refused-promised, out-promised, room-here, settled-promised}
use Rattle.answering.proofs.Draws.{with_draws}
use Rattle.answering.proofs.answer.Goals as goal

-- the clauses by their names
named : {A B C : Type 0} → A × (B × C) → record { value : A; answers : B; each_draw : C }
named p = record { value = p.0; answers = p.1.0; each_draw = p.1.1 }

pub returns-then-r-ne0 : goal.returns-then-r-ne0
returns-then-r-ne0 c = named (with_draws (refused-promised _ _ _ c.read_sheet-r.ensures.value c.if-r-ne0.true _ c.refused.ensures))

pub returns-then-p-ne0 : goal.returns-then-p-ne0
returns-then-p-ne0 c = named (with_draws (out-promised _ _ _ c.read_sheet-r.ensures.value c.if-r-ne0.false _ c.propagate-p.ensures.value c.if-p-ne0.true _ c.refused-then-p-ne0.ensures))

pub slice_bounds-values-end : goal.slice_bounds-values-end
slice_bounds-values-end c = omega (arith, c.room-values.ensures, room-here c.args.sheet.now [] _ c.read_sheet-r.ensures.value c.if-r-ne0.false _ c.propagate-p.ensures.value c.if-p-ne0.false _ (variables-is _ _ c.of_model-v.ensures))

pub slice_bounds-close_after-end : goal.slice_bounds-close_after-end
slice_bounds-close_after-end c = simp length-take (omega (arith, c.room-values.ensures, room-here c.args.sheet.now [] _ c.read_sheet-r.ensures.value c.if-r-ne0.false _ c.propagate-p.ensures.value c.if-p-ne0.false _ (variables-is _ _ c.of_model-v.ensures)))

pub returns : goal.returns
returns c =
    let read = c.read_sheet-r.ensures.value in
    let accepted = c.if-r-ne0.false in
    let made = c.propagate-p.ensures.value in
    let settled = c.if-p-ne0.false in
    let v = variables-is _ _ c.of_model-v.ensures in
    let n = c.of_model-v.result.variables in
    let room = c.room-values in
    named (with_draws (settled-promised _ _ _ read accepted _ made settled n v (take n room.result)
    (simp length-take (omega (arith, room.ensures, room-here c.args.sheet.now [] _ read accepted _ made settled _ v))) _ c.close_after-c.ensures))
