-- `tab`: text after text. Assumes nothing.
use lib.Dec.{lit≤}
use Rattle.report.specs.Messages.{bytes}
use Rattle.report.proofs.Laws.{said, start, add-text, add-decimal}
use Rattle.fault_text.specs.Texts.{tab_text}
use Rattle.fault_text.proofs.tab.Goals as goal

pub returns : goal.returns
unfolding tab_text
returns c =
    said (lit≤ tt)
    (add-text (bytes "\n") c.add-2.ensures
    (add-decimal c.args.column c.ranges.column.fits c.add_number.ensures
    (add-text (bytes "the line has a tab in column ") c.add.ensures
    (start c.empty.ensures))))
