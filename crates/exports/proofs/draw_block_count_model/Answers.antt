-- `draw_block_count_model` is the number of a model's last block. Assumes nothing.
use mathlib.Core.Path.{ap, ◌∙◌}
use mathlib.Core.Bool.{cond}
use Rattle.model.specs.declared.Model.{Model}
use Rattle.model.specs.Model.{in_range}
use Rattle.model.specs.Cnf.{block_count}
use Rattle.exports.specs.Draw.{model_block_count}
use Rattle.exports.proofs.draw_block_count_model.Goals as goal

pub returns : goal.returns
unfolding model_block_count
returns c = c.block_count.ensures.value ∙ ap (λ (m : Model). cond (in_range m) (block_count m) 0) c.model_from-m.ensures.value
