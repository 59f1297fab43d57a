-- `combined_sheets` reads both, and combines what was read. Assumes nothing.
use mathlib.Core.Path.{◌∙◌}
use Rattle.exports.proofs.Combining.{first-unread, second-unread, both_read}
use Rattle.exports.proofs.combined_sheets.Goals as goal

pub returns-then-a-ne0 : goal.returns-then-a-ne0
returns-then-a-ne0 c = first-unread _ _ _ c.read_sheet-a.ensures.value c.if-a-ne0.true

pub returns-then-b-ne0 : goal.returns-then-b-ne0
returns-then-b-ne0 c =
    second-unread _ _ _ c.read_sheet-a.ensures.value c.if-a-ne0.false _ c.read_sheet-b.ensures.value c.if-b-ne0.true

pub returns : goal.returns
returns c =
    c.combine.ensures.value
    ∙ both_read _ _ _ c.read_sheet-a.ensures.value c.if-a-ne0.false _ c.read_sheet-b.ensures.value c.if-b-ne0.false
