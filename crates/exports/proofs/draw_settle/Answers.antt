-- `draw_settle` settles the sheet and lays the table. Assumes nothing.
use mathlib.Core.Path.{ap, ◌∙◌}
use lib.ListN.{length}
use Rattle.model.specs.declared.Propagated.{Propagated}
use Rattle.exports.specs.Draw.{fitted, settle_number, table_after, draw_settle, draw_table}
use Rattle.exports.proofs.Cases.{few-settled}
use Rattle.exports.proofs.draw_settle.Goals as goal

pub settle_number-requires : goal.settle_number-requires
settle_number-requires c = rw c.settled-p.ensures (few-settled c.args.sheet.now)

pub returns : goal.returns
unfolding draw_settle draw_table
returns c =
    let e = c.settled-p.ensures in
    let t = c.args.table.now in record { value = c.settle_number.ensures.value ∙ ap (λ (p : Propagated). settle_number (fitted (length t) p)) e; table_after = c.settle_number.ensures.table_after ∙ ap (λ (p : Propagated). table_after (fitted (length t) p) t) e }
