-- `draw_write_model` has the sheet writer's answer. Assumes nothing.
use mathlib.Core.Path.{ap, ◌∙◌}
use lib.ListN.{length}
use Rattle.model.specs.declared.Model.{Model}
use Rattle.model.specs.declared.Written.{Written}
use Rattle.model.specs.SheetText.{written_sheet, sheet_buffer}
use Rattle.packing.specs.Packing.{written_number}
use Rattle.exports.specs.Draw.{model_sheet}
use Rattle.exports.proofs.draw_write_model.Goals as goal

pub returns : goal.returns
unfolding model_sheet
returns c =
    let m = c.model_from-m.ensures.value in record {
      value = c.written_number.ensures
          ∙ ap (λ (w : Written). written_number w) (c.write_sheet-w.ensures.value ∙ ap (λ (x : Model). written_sheet x (length c.args.buffer.now)) m);
      buffer_after = c.write_sheet-w.ensures.buf_after ∙ ap (λ (x : Model). sheet_buffer x c.args.buffer.now) m;
    }
