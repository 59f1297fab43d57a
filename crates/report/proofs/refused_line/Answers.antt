-- `refused_line`: text after text. Assumes nothing.
use lib.Dec.{lit≤}
use borrow.Author.Tests.{eq-eqb, ne_eqb}
use Rattle.report.specs.Messages.{bytes, refused_line_text}
use Rattle.report.proofs.Laws.{start, said, add-decimal, add-meaning, add-text}
use Rattle.report.proofs.refused_line.Goals as goal

pub returns-then-refusal-eq24 : goal.returns-then-refusal-eq24
unfolding refused_line_text
returns-then-refusal-eq24 c =
    rw (eq-eqb _ _ c.if-refusal-eq24.true)
    (said (lit≤ tt)
    (add-text (bytes ": too long, not read\n") c.add-then-refusal-eq24.ensures
    (add-decimal c.args.line c.ranges.line.fits c.add_number-m.ensures
    (add-text (bytes "line ") c.add.ensures
    (start c.empty.ensures)))))

pub returns : goal.returns
unfolding refused_line_text
returns c =
    rw (ne_eqb _ _ c.if-refusal-eq24.false)
    (said (lit≤ tt)
    (add-meaning c.args.refusal c.add-4.ensures c.meaning.ensures
    (add-text (bytes ": ") c.add-3.ensures
    (add-decimal c.args.refusal c.ranges.refusal.fits c.add_number.ensures
    (add-text (bytes ": refused ") c.add-2.ensures
    (add-decimal c.args.line c.ranges.line.fits c.add_number-m.ensures
    (add-text (bytes "line ") c.add.ensures
    (start c.empty.ensures))))))))
