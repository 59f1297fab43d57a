-- `passes`: text after text. Assumes nothing.
use lib.Dec.{lit≤}
use Rattle.report.specs.Messages.{bytes, passes_text}
use Rattle.report.proofs.Laws.{start, said, add-decimal, add-text}
use Rattle.report.proofs.passes.Goals as goal

pub returns : goal.returns
unfolding passes_text
returns c =
    said (lit≤ tt)
    (add-text (bytes "\n") c.add-2.ensures
    (add-decimal c.args.k c.ranges.k.fits c.add_number.ensures
    (add-text (bytes "passes ") c.add.ensures
    (start c.empty.ensures))))
