-- `ending`: nothing after the first text for 0. Assumes nothing.
use lib.Dec.{lit≤}
use borrow.Author.Tests.{eq-eqb, ne_eqb}
use mathlib.Core.List.{append_assoc}
use Rattle.report.specs.Messages.{bytes, ending_text, unsaid_text}
use Rattle.report.proofs.Laws.{start, said, add-closed, add-decimal, add-text, add_none}
use Rattle.report.proofs.ending.Goals as goal

pub returns-then-k-eq0 : goal.returns-then-k-eq0
unfolding ending_text unsaid_text
returns-then-k-eq0 c =
    rw (eq-eqb _ _ c.if-k-eq0.true)
    (said (lit≤ tt)
    (add_none
    (add-closed c.args.closed c.add-m.ensures c.closed_or_not.ensures
    (start c.empty.ensures))))

pub returns : goal.returns
unfolding ending_text unsaid_text
returns c =
    rw (ne_eqb _ _ c.if-k-eq0.false, ← append_assoc, ← append_assoc)
    (said (lit≤ tt)
    (add-text (bytes "\n") c.add-2.ensures
    (add-decimal c.args.k c.ranges.k.fits c.add_number.ensures
    (add-text (bytes "unsaid ") c.add.ensures
    (add-closed c.args.closed c.add-m.ensures c.closed_or_not.ensures
    (start c.empty.ensures))))))
