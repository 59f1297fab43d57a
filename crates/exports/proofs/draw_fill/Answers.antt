-- `draw_fill` fills on the settled model, or hands on a refusal. Assumes nothing.
use mathlib.Core.Path.{◌∙◌}
use Rattle.exports.proofs.Cases.{filling-refused, values-left, filling-judged, values-filled}
use Rattle.exports.proofs.draw_fill.Goals as goal

pub returns-then-p-ne0 : goal.returns-then-p-ne0
returns-then-p-ne0 c =
    let e = c.settled-p.ensures in
    record { value = filling-refused _ _ e c.if-p-ne0.true _ _; values_after = values-left _ _ e c.if-p-ne0.true _ _ }

pub returns : goal.returns
returns c =
    let e = c.settled-p.ensures in
    let z = c.if-p-ne0.false in
    let f = c.filled.ensures in
    record { value = f.value ∙ filling-judged _ _ e z _ _; values_after = f.values_after ∙ values-filled _ _ e z _ _ }
