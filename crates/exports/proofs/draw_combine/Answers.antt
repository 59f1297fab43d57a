-- `draw_combine` writes the combined sheet, or hands on a refusal. Assumes nothing.
use native.Mathlib.Omega.{arith}
use mathlib.Core.Path.{ap, ◌∙◌}
use Rattle.packing.specs.Packing.{written_number}
use Rattle.exports.proofs.Combining.{sheets-refused, sheets-combined}
use Rattle.exports.proofs.draw_combine.Goals as goal

pub returns-then-r-ne0 : goal.returns-then-r-ne0
returns-then-r-ne0 c =
    let r = sheets-refused _ _ _ c.combined_sheets-r.ensures c.args.buffer.now c.if-r-ne0.true in
    record { value = omega (arith, c.written_number.ensures, r.0); buffer_after = r.1 }

pub returns : goal.returns
returns c =
    let w = c.write_sheet-w.ensures in
    let r = sheets-combined _ _ _ c.combined_sheets-r.ensures c.args.buffer.now c.if-r-ne0.false in
    record { value = c.written_number-2.ensures ∙ ap written_number w.value ∙ r.0; buffer_after = w.buf_after ∙ r.1 }
