-- `changed`: text after text. Assumes nothing.
use lib.Dec.{lit≤}
use Rattle.report.specs.Messages.{bytes, changed_text}
use Rattle.report.proofs.Laws.{start, said, add-decimal, add-text}
use Rattle.report.proofs.changed.Goals as goal

pub returns : goal.returns
unfolding changed_text
returns c =
    said (lit≤ tt)
    (add-text (bytes ": a byte past the text changed\n") c.add-2.ensures
    (add-decimal c.args.b c.ranges.b.fits c.add_number.ensures
    (add-text (bytes "block ") c.add.ensures
    (start c.empty.ensures))))
