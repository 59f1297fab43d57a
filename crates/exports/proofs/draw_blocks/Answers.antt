-- `draw_blocks` has the answer of the run, or hands on a refusal. Assumes nothing.
use mathlib.Core.Path.{◌∙◌}
use Rattle.exports.proofs.Cases.{run-refused, run-left, run-written, run-laid}
use Rattle.exports.proofs.draw_blocks.Goals as goal

pub returns-then-p-ne0 : goal.returns-then-p-ne0
returns-then-p-ne0 c =
    let e = c.settled-p.ensures in
    let h = c.if-p-ne0.true in record { value = run-refused _ _ e h _ _; buffer_after = run-left _ _ e h _ _ }

pub returns : goal.returns
returns c =
    let e = c.settled-p.ensures in
    let z = c.if-p-ne0.false in
    let r = c.write_blocks-r.ensures in record { value = c.run_number.ensures ∙ run-written _ _ e z _ _ _ r.value; buffer_after = r.buf_after ∙ run-laid _ _ e z _ _ }
