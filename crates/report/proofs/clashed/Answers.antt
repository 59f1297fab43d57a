-- `clashed`: text after text. Assumes nothing.
use lib.Dec.{lit≤}
use borrow.Author.Tests.{eq-eqb, ne_eqb}
use Rattle.report.specs.Messages.{bytes, clash_text}
use Rattle.report.proofs.Laws.{start, said, add-decimal, add-text}
use Rattle.report.proofs.clashed.Goals as goal

pub returns-then-entrant-eq0 : goal.returns-then-entrant-eq0
unfolding clash_text
returns-then-entrant-eq0 c =
    rw (eq-eqb _ _ c.if-entrant-eq0.true)
    (said (lit≤ tt)
    (add-text (bytes "\nthe low of one sheet exceeds the high of the other\n") c.add-then-entrant-eq0.ensures
    (add-decimal c.args.group c.ranges.group.fits c.add_number-m.ensures
    (add-text (bytes "refused 32 at group ") c.add.ensures
    (start c.empty.ensures)))))

pub returns : goal.returns
unfolding clash_text
returns c =
    rw (ne_eqb _ _ c.if-entrant-eq0.false)
    (said (lit≤ tt)
    (add-text (bytes "\none sheet bars the entrant, the other fixes it\n") c.add-3.ensures
    (add-decimal c.args.entrant c.ranges.entrant.fits c.add_number.ensures
    (add-text (bytes ", entrant ") c.add-2.ensures
    (add-decimal c.args.group c.ranges.group.fits c.add_number-m.ensures
    (add-text (bytes "refused 32 at group ") c.add.ensures
    (start c.empty.ensures)))))))
