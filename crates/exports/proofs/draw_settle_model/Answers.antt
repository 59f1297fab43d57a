-- `draw_settle_model` settles the model and lays the table. Assumes nothing.
use mathlib.Core.Path.{ap, ◌∙◌}
use lib.ListN.{length}
use Rattle.model.specs.declared.Propagated.{Propagated}
use Rattle.model.specs.declared.Model.{Model}
use Rattle.model.specs.Propagate.{propagated}
use Rattle.exports.specs.Draw.{fitted, settle_number, table_after, model_settle, model_table}
use Rattle.exports.proofs.Cases.{few-propagated}
use Rattle.exports.proofs.draw_settle_model.Goals as goal

pub settle_number-requires : goal.settle_number-requires
settle_number-requires c = rw c.propagate-p.ensures.value (few-propagated _)

pub returns : goal.returns
unfolding model_settle model_table
returns c =
    let e = c.propagate-p.ensures.value ∙ ap (λ (m : Model). propagated m) c.model_from-m.ensures.value in
    let t = c.args.table.now in record { value = c.settle_number.ensures.value ∙ ap (λ (p : Propagated). settle_number (fitted (length t) p)) e; table_after = c.settle_number.ensures.table_after ∙ ap (λ (p : Propagated). table_after (fitted (length t) p) t) e }
