-- `draw_block` writes a block of the settled model, or hands on a refusal. Assumes nothing.
use native.Mathlib.Omega.{arith}
use mathlib.Core.Path.{ap, ◌∙◌}
use lib.ListN.{length}
use Rattle.packing.specs.Packing.{written_number}
use Rattle.exports.proofs.Cases.{block_refused, buffer-left, block_written, buffer-written}
use Rattle.exports.proofs.draw_block.Goals as goal

pub returns-then-p-ne0 : goal.returns-then-p-ne0
returns-then-p-ne0 c = record { value = omega (arith, c.written_number.ensures, block_refused _ _ c.settled-p.ensures c.if-p-ne0.true c.args.block (length c.args.buffer.now)); buffer_after = buffer-left _ _ c.settled-p.ensures c.if-p-ne0.true _ _ }

pub returns : goal.returns
returns c = record { value = c.written_number-2.ensures ∙ ap written_number c.write_block-w.ensures.value ∙ block_written _ _ c.settled-p.ensures c.if-p-ne0.false _ _; buffer_after = c.write_block-w.ensures.buf_after ∙ buffer-written _ _ c.settled-p.ensures c.if-p-ne0.false _ _ }
