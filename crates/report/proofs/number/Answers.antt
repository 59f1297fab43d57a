-- `number`: text after text. Assumes nothing.
use lib.Dec.{lit≤}
use Rattle.report.specs.Messages.{bytes, number_text}
use Rattle.report.proofs.Laws.{start, said, add-decimal, add-text}
use Rattle.report.proofs.number.Goals as goal

pub returns : goal.returns
unfolding number_text
returns c =
    said (lit≤ tt)
    (add-text (bytes "\n") c.add.ensures
    (add-decimal c.args.k c.ranges.k.fits c.add_number.ensures
    (start c.empty.ensures)))
