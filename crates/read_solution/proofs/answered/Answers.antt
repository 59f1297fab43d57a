-- `answered` is `answering::answer` with the lines read as they come. Assumes nothing.
use mathlib.Core.List.{[]}
use native.Mathlib.Omega.{arith}
use lib.ListN.{take, length-take}
use Rattle.numbering.proofs.Models.{variables-is}
use Rattle.read_solution.proofs.From.{from}
use Rattle.answering.proofs.Law.{refused-promised, out-promised, room-here, settled-promised}
use Rattle.read_solution.proofs.answered.Goals as goal

pub returns-then-r-ne0 : goal.returns-then-r-ne0
returns-then-r-ne0 c = from _ _ [] _ (refused-promised _ _ _ c.read_sheet-r.ensures.value c.if-r-ne0.true _ c.refused.ensures)

pub returns-then-p-ne0 : goal.returns-then-p-ne0
returns-then-p-ne0 c = from _ _ [] _ (out-promised _ _ _ c.read_sheet-r.ensures.value c.if-r-ne0.false _ c.propagate-p.ensures.value c.if-p-ne0.true _ c.refused-then-p-ne0.ensures)

pub slice_bounds-values-end : goal.slice_bounds-values-end
slice_bounds-values-end c = omega (arith, c.unsaid-values.ensures, room-here c.args.sheet.now [] _ c.read_sheet-r.ensures.value c.if-r-ne0.false _ c.propagate-p.ensures.value c.if-p-ne0.false _ (variables-is _ _ c.of_model-v.ensures))

pub slice_bounds-read_back-end : goal.slice_bounds-read_back-end
slice_bounds-read_back-end c = simp length-take (omega (arith, c.unsaid-values.ensures, room-here c.args.sheet.now [] _ c.read_sheet-r.ensures.value c.if-r-ne0.false _ c.propagate-p.ensures.value c.if-p-ne0.false _ (variables-is _ _ c.of_model-v.ensures)))

pub returns : goal.returns
returns c =
    let read = c.read_sheet-r.ensures.value in
    let accepted = c.if-r-ne0.false in
    let made = c.propagate-p.ensures.value in
    let settled = c.if-p-ne0.false in
    let v = variables-is _ _ c.of_model-v.ensures in
    let n = c.of_model-v.result.variables in
    let room = c.unsaid-values in
    let back = c.read_back-c.ensures in
    from _ _ back.bytes _ (settled-promised _ _ _ read accepted _ made settled n v (take n room.result)
    (simp length-take (omega (arith, room.ensures, room-here c.args.sheet.now [] _ read accepted _ made settled _ v))) _ back.closing)
