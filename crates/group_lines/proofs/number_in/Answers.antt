-- `number_in` gives the number that a word is. Assumes nothing.
use mathlib.Core.Path.{ap, ◌∙◌}
use Rattle.model.specs.Sheet.{or_zero}
use Rattle.group_lines.specs.Lines.{number_in}
use Rattle.group_lines.proofs.number_in.Goals as goal

pub returns : goal.returns
unfolding number_in
returns c = c.unwrap_or.ensures ∙ ap or_zero c.variable_in.ensures
