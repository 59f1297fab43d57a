-- `refused`: text after text. Assumes nothing.
use lib.Dec.{lit≤}
use Rattle.report.specs.Messages.{bytes, refused_text}
use Rattle.report.proofs.Laws.{start, said, add-decimal, add-meaning, add-text}
use Rattle.report.proofs.refused.Goals as goal

pub returns : goal.returns
unfolding refused_text
returns c =
    said (lit≤ tt)
    (add-meaning c.args.refusal c.add-3.ensures c.meaning.ensures
    (add-text (bytes "\n") c.add-2.ensures
    (add-decimal c.args.refusal c.ranges.refusal.fits c.add_number.ensures
    (add-text (bytes "refused ") c.add.ensures
    (start c.empty.ensures)))))
