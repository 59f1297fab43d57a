-- `draw_read` has the reader's refusal and line in one number. Assumes nothing.
use mathlib.Core.Path.{ap, ◌∙◌}
use Rattle.model.specs.declared.SheetRead.{SheetRead}
use Rattle.packing.specs.Packing.{numbered}
use Rattle.exports.specs.Draw.{draw_read}
use Rattle.exports.proofs.draw_read.Goals as goal

pub returns : goal.returns
unfolding draw_read
returns c = c.numbered.ensures ∙ ap (λ (r : SheetRead). numbered r.refusal r.line) c.read_sheet-r.ensures.value
