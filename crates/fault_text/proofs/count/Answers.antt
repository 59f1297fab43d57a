-- `count`: text after text. Assumes nothing.
use lib.Dec.{lit≤}
use Rattle.report.specs.Messages.{bytes}
use Rattle.report.proofs.Laws.{said, start, add-text, add-decimal}
use Rattle.fault_text.specs.Texts.{count_text}
use Rattle.fault_text.proofs.Laws.{add-range}
use Rattle.fault_text.proofs.count.Goals as goal

pub returns : goal.returns
unfolding count_text
returns c =
    said (lit≤ tt)
    (add-range c.args.low c.args.high c.ranges.low.fits c.ranges.high.fits c.to_most.ensures
    (add-text (bytes " fields: it must have ") c.add-m.ensures
    (add-decimal c.args.has c.ranges.has.fits c.add_number.ensures
    (add-text (bytes "the line has ") c.add.ensures
    (start c.empty.ensures)))))
