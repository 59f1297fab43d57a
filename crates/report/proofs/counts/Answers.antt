-- `counts`: text after text. Assumes nothing.
use lib.Dec.{lit≤}
use Rattle.report.specs.Messages.{bytes, counts_text}
use Rattle.report.proofs.Laws.{start, said, add-decimal, add-text}
use Rattle.report.proofs.counts.Goals as goal

pub returns : goal.returns
unfolding counts_text
returns c =
    said (lit≤ tt)
    (add-text (bytes " constraints\n") c.add-3.ensures
    (add-decimal c.args.c c.ranges.c.fits c.add_number-3.ensures
    (add-text (bytes " groups, ") c.add-2.ensures
    (add-decimal c.args.s c.ranges.s.fits c.add_number-2.ensures
    (add-text (bytes " entrants, ") c.add.ensures
    (add-decimal c.args.n c.ranges.n.fits c.add_number.ensures
    (start c.empty.ensures)))))))
