-- `wrong_groups`: text after text. Assumes nothing.
use lib.Dec.{lit≤}
use borrow.Author.Tests.{eq-eqb, ne_eqb}
use Rattle.report.specs.Messages.{bytes, wrong_groups_text}
use Rattle.report.proofs.Laws.{start, said, add-decimal, add-end, add-start, add-text}
use Rattle.report.proofs.wrong_groups.Goals as goal

pub returns-then-fault-eq1 : goal.returns-then-fault-eq1
unfolding wrong_groups_text
returns-then-fault-eq1 c =
    rw (eq-eqb _ _ c.if-fault-eq1.true)
    (said (lit≤ tt)
    (add-text (bytes ": not a line as `1: 3 7 9`: the group's number, a colon, then each entrant after one space\n") c.add-then-fault-eq1.ensures
    (add-decimal c.args.line c.ranges.line.fits c.add_number-m.ensures
    (add-text (bytes "line ") c.add.ensures
    (start c.empty.ensures)))))

pub returns : goal.returns
unfolding wrong_groups_text
returns c =
    rw (ne_eqb _ _ c.if-fault-eq1.false)
    (said (lit≤ tt)
    (add-end c.args.fault c.add-4.ensures c.after_number.ensures
    (add-decimal c.args.number c.ranges.number.fits c.add_number.ensures
    (add-start c.args.fault c.add-3.ensures c.before_number.ensures
    (add-text (bytes ": ") c.add-2.ensures
    (add-decimal c.args.line c.ranges.line.fits c.add_number-m.ensures
    (add-text (bytes "line ") c.add.ensures
    (start c.empty.ensures))))))))
