-- `draw_close_model` closes on the model and lays the groups. Assumes nothing.
use mathlib.Core.Path.{ap, ◌∙◌}
use lib.ListN.{length}
use Rattle.model.specs.declared.Closed.{Closed}
use Rattle.model.specs.declared.Model.{Model}
use Rattle.model.specs.Close.{closed}
use Rattle.packing.specs.Packing.{fitted_closing, groups_after}
use Rattle.exports.specs.Draw.{reading_of, model_close, model_groups}
use Rattle.exports.proofs.draw_close_model.Goals as goal

pub returns : goal.returns
unfolding model_close model_groups
returns c =
    let e = c.close-a.ensures.value ∙ ap (λ (m : Model). closed m (reading_of c.args.closed) c.args.values.now) c.model_from-m.ensures.value in
    let g = c.args.groups.now in record { value = c.close_number.ensures.value ∙ ap (λ (x : Closed). (fitted_closing (length g) x).refusal) e; groups_after = c.close_number.ensures.groups_after ∙ ap (λ (x : Closed). groups_after (fitted_closing (length g) x) g) e }
