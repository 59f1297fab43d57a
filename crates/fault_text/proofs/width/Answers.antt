-- `width`: text after text. Assumes nothing.
use lib.Dec.{lit≤}
use Rattle.report.specs.Messages.{bytes}
use Rattle.report.proofs.Laws.{said, start, add-text, add-decimal}
use Rattle.fault_text.specs.Texts.{width_text}
use Rattle.fault_text.proofs.width.Goals as goal

pub returns : goal.returns
unfolding width_text
returns c =
    said (lit≤ tt)
    (add-text (bytes " columns\n") c.add-2.ensures
    (add-decimal c.args.k c.ranges.k.fits c.add_number.ensures
    (add-text (bytes "the line has ") c.add.ensures
    (start c.empty.ensures))))
