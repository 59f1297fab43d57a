-- `draw_block_count` is the number of the settled model's last block, or hands on a refusal. Assumes nothing.
use mathlib.Core.Path.{◌∙◌}
use Rattle.exports.proofs.Cases.{count-refused, count-is}
use Rattle.exports.proofs.draw_block_count.Goals as goal

pub returns-then-p-ne0 : goal.returns-then-p-ne0
returns-then-p-ne0 c = c.numbered.ensures ∙ count-refused _ _ c.settled-p.ensures c.if-p-ne0.true

pub returns : goal.returns
returns c = c.numbered-2.ensures ∙ count-is _ _ c.settled-p.ensures c.if-p-ne0.false _ c.block_count.ensures.value
