-- `draw_line` has the refusal and the next reading of a solver line. Assumes nothing.
use mathlib.Core.Path.{ap, ◌∙◌}
use native.Mathlib.Omega.{arith}
use Rattle.model.specs.declared.LineRead.{LineRead}
use Rattle.packing.specs.Packing.{line_number}
use Rattle.exports.specs.Draw.{draw_line}
use Rattle.exports.proofs.Lines.{line_small}
use Rattle.exports.proofs.draw_line.Goals as goal

pub overflow_cast-result : goal.overflow_cast-result
overflow_cast-result c = omega (arith, c.line_number.ensures, line_small _ _ _ _ c.read_line-r.ensures.value)

pub returns : goal.returns
unfolding draw_line
returns c =
    let r = c.read_line-r.ensures in record { value = c.line_number.ensures ∙ ap (λ (x : LineRead). line_number x.refusal x.reading.closed) r.value; values_after = r.values_after }
