-- `refused_at`: text after text. Assumes nothing.
use lib.Dec.{lit≤}
use Rattle.report.specs.Messages.{bytes, refused_at_text}
use Rattle.report.proofs.Laws.{start, said, add-decimal, add-meaning, add-text}
use Rattle.report.proofs.refused_at.Goals as goal

pub returns : goal.returns
unfolding refused_at_text
returns c =
    said (lit≤ tt)
    (add-meaning c.args.refusal c.add-4.ensures c.meaning.ensures
    (add-text (bytes "\n") c.add-3.ensures
    (add-decimal c.args.line c.ranges.line.fits c.add_number-2.ensures
    (add-text (bytes " at line ") c.add-2.ensures
    (add-decimal c.args.refusal c.ranges.refusal.fits c.add_number.ensures
    (add-text (bytes "refused ") c.add.ensures
    (start c.empty.ensures)))))))
