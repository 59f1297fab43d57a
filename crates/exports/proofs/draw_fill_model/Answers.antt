-- `draw_fill_model` has filling's answer. Assumes nothing.
use mathlib.Core.Path.{ap, ◌∙◌}
use Rattle.model.specs.declared.Model.{Model}
use Rattle.model.specs.Fill.{fill_refusal, filled_values}
use Rattle.exports.proofs.draw_fill_model.Goals as goal

pub returns : goal.returns
returns c =
    let m = c.model_from-m.ensures.value in
    let f = c.filled.ensures in record { value = f.value ∙ ap (λ (x : Model). fill_refusal x c.args.groups.now c.args.values.now) m; values_after = f.values_after ∙ ap (λ (x : Model). filled_values x c.args.groups.now c.args.values.now) m }
