-- `answered`: a message that begins with `no draw` is a verdict that implies it. Assumes nothing.
use mathlib.Core.Path.{sym, ◌∙◌}
use Rattle.certify.proofs.answered.Goals as goal

pub returns : goal.returns
returns c =
    let told = c.told.ensures in
    let stands = c.read_certificate-t.ensures _ c.begin-s.ensures.stands in
    record { counted = told.counted; no_draw = λ e. c.finish-v.ensures.no_draw _ _ _ _ stands (sym told.result_value ∙ e) }
