-- `block`: text after text. Assumes nothing.
use lib.Dec.{lit≤}
use borrow.Author.Tests.{eq-eqb, ne_eqb}
use borrow.Author.Rules.{rules}
use Rattle.report.specs.Messages.{bytes, block_line}
use Rattle.report.proofs.Laws.{start, said, add-decimal, add-text, add-tried, add_none}
use Rattle.report.proofs.block.Goals as goal

pub returns-then-k-eq0 : goal.returns-then-k-eq0
unfolding block_line
returns-then-k-eq0 c =
    rw (eq-eqb _ _ c.if-k-eq0.true)
    (said (lit≤ tt)
    (add-text (bytes "\n") c.add-then-k-eq0.ensures
    (add_none
    (add-tried c.args.exact (search rules) (search rules) (search rules) c.add_tried-m.ensures
    (add-text (bytes " bytes") c.add-m.ensures
    (add-decimal c.args.k c.ranges.k.fits c.add_number-2.ensures
    (add-text (bytes ": ") c.add-2.ensures
    (add-decimal c.args.b c.ranges.b.fits c.add_number.ensures
    (add-text (bytes "block ") c.add.ensures
    (start c.empty.ensures))))))))))

pub returns : goal.returns
unfolding block_line
returns c =
    rw (ne_eqb _ _ c.if-k-eq0.false)
    (said (lit≤ tt)
    (add-text (bytes "\n") c.add-3.ensures
    (add-tried c.args.short (search rules) (search rules) (search rules) c.add_tried.ensures
    (add-tried c.args.exact (search rules) (search rules) (search rules) c.add_tried-m.ensures
    (add-text (bytes " bytes") c.add-m.ensures
    (add-decimal c.args.k c.ranges.k.fits c.add_number-2.ensures
    (add-text (bytes ": ") c.add-2.ensures
    (add-decimal c.args.b c.ranges.b.fits c.add_number.ensures
    (add-text (bytes "block ") c.add.ensures
    (start c.empty.ensures))))))))))
