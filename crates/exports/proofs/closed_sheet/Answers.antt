-- `closed_sheet` closes on the settled model, or hands on a refusal. Assumes nothing.
use mathlib.Core.Path.{◌∙◌}
use Rattle.exports.proofs.Cases.{closing-refused, closing}
use Rattle.exports.proofs.closed_sheet.Goals as goal

pub returns-then-p-ne0 : goal.returns-then-p-ne0
returns-then-p-ne0 c = closing-refused _ _ c.settled-p.ensures c.if-p-ne0.true _ _

pub returns : goal.returns
returns c = c.close.ensures.value ∙ closing _ _ c.settled-p.ensures c.if-p-ne0.false _ _
