-- `marks`: text after text. Assumes nothing.
use lib.Dec.{lit≤}
use Rattle.report.specs.Messages.{bytes}
use Rattle.report.proofs.Laws.{said, start, add-text, add-decimal}
use Rattle.fault_text.specs.Texts.{marks_text}
use Rattle.fault_text.proofs.marks.Goals as goal

pub returns : goal.returns
unfolding marks_text
returns c =
    said (lit≤ tt)
    (add-text (bytes " entrants\n") c.add-3.ensures
    (add-decimal c.args.n c.ranges.n.fits c.add_number-2.ensures
    (add-text (bytes " fields: a group has 4, and a mark for each of the ") c.add-2.ensures
    (add-decimal c.args.has c.ranges.has.fits c.add_number.ensures
    (add-text (bytes "the line has ") c.add.ensures
    (start c.empty.ensures))))))
