-- `draw_close` closes on the settled sheet and lays the groups. Assumes nothing.
use mathlib.Core.Path.{ap, ◌∙◌}
use lib.ListN.{length}
use Rattle.model.specs.declared.Closed.{Closed}
use Rattle.packing.specs.Packing.{fitted_closing, groups_after}
use Rattle.exports.specs.Draw.{draw_close, draw_groups}
use Rattle.exports.proofs.draw_close.Goals as goal

pub returns : goal.returns
unfolding draw_close draw_groups
returns c =
    let e = c.closed_sheet-a.ensures in
    let g = c.args.groups.now in record { value = c.close_number.ensures.value ∙ ap (λ (a : Closed). (fitted_closing (length g) a).refusal) e; groups_after = c.close_number.ensures.groups_after ∙ ap (λ (a : Closed). groups_after (fitted_closing (length g) a) g) e }
