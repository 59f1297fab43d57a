-- `draw_block_model` has the block writer's answer. Assumes nothing.
use mathlib.Core.Path.{ap, ◌∙◌}
use lib.ListN.{length}
use Rattle.model.specs.declared.Model.{Model}
use Rattle.model.specs.declared.Written.{Written}
use Rattle.model.specs.Text.{written_block, block_buffer}
use Rattle.packing.specs.Packing.{written_number}
use Rattle.exports.specs.Draw.{model_block}
use Rattle.exports.proofs.draw_block_model.Goals as goal

pub returns : goal.returns
unfolding model_block
returns c =
    let b = c.args.block in
    let m = c.model_from-m.ensures.value in record {
      value = c.written_number.ensures
          ∙ ap (λ (w : Written). written_number w) (c.write_block-w.ensures.value ∙ ap (λ (x : Model). written_block x b (length c.args.buffer.now)) m);
      buffer_after = c.write_block-w.ensures.buf_after ∙ ap (λ (x : Model). block_buffer x b c.args.buffer.now) m;
    }
