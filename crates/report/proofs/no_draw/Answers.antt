-- `no_draw`: one text. Assumes nothing.
use lib.Dec.{lit≤}
use Rattle.report.specs.Messages.{bytes, no_draw_text}
use Rattle.report.proofs.Laws.{start, said, add-text}
use Rattle.report.proofs.no_draw.Goals as goal

pub returns-then-certified : goal.returns-then-certified
unfolding no_draw_text
returns-then-certified c =
    rw c.if-certified.true
    (said (lit≤ tt)
    (add-text (bytes "no draw: certified\n") c.add.ensures
    (start c.empty.ensures)))

pub returns : goal.returns
unfolding no_draw_text
returns c =
    rw c.if-certified.false
    (said (lit≤ tt)
    (add-text (bytes "no draw: settled out\n") c.add-2.ensures
    (start c.empty-2.ensures)))
