-- `not_certified`: text after text. Assumes nothing.
use lib.Dec.{lit≤}
use borrow.Author.Tests.{eq-eqb, ne_eqb}
use Rattle.report.specs.Messages.{bytes, not_certified_text}
use Rattle.report.proofs.Laws.{start, said, add-decimal, add-reason, add-text}
use Rattle.report.proofs.not_certified.Goals as goal

pub returns-then-line-eq0 : goal.returns-then-line-eq0
unfolding not_certified_text
returns-then-line-eq0 c =
    rw (eq-eqb _ _ c.if-line-eq0.true)
    (said (lit≤ tt)
    (add-text (bytes "\n") c.add-then-line-eq0.ensures
    (add-reason c.args.reason c.add-m.ensures c.why.ensures
    (add-text (bytes "not certified: ") c.add.ensures
    (start c.empty.ensures)))))

pub returns : goal.returns
unfolding not_certified_text
returns c =
    rw (ne_eqb _ _ c.if-line-eq0.false)
    (said (lit≤ tt)
    (add-text (bytes " of the certificate)\n") c.add-3.ensures
    (add-decimal c.args.line c.ranges.line.fits c.add_number.ensures
    (add-text (bytes " (line ") c.add-2.ensures
    (add-reason c.args.reason c.add-m.ensures c.why.ensures
    (add-text (bytes "not certified: ") c.add.ensures
    (start c.empty.ensures)))))))
