-- `settled` reads, and settles what was read. Assumes nothing.
use mathlib.Core.Path.{◌∙◌}
use Rattle.exports.proofs.Cases.{unread, read}
use Rattle.exports.proofs.settled.Goals as goal

pub returns-then-r-ne0 : goal.returns-then-r-ne0
returns-then-r-ne0 c = unread _ _ c.read_sheet-r.ensures.value c.if-r-ne0.true

pub returns : goal.returns
returns c = c.propagate.ensures.value ∙ read _ _ c.read_sheet-r.ensures.value c.if-r-ne0.false
