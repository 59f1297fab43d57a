-- `lines`: text after text. Assumes nothing.
use lib.Dec.{lit≤}
use borrow.Author.Rules.{rules}
use Rattle.report.specs.Messages.{bytes}
use Rattle.report.proofs.Laws.{said, start, add-text, add-decimal}
use Rattle.fault_text.specs.Texts.{lines_text}
use Rattle.fault_text.proofs.Laws.{add-due}
use Rattle.fault_text.proofs.lines.Goals as goal

pub returns : goal.returns
unfolding lines_text
returns c =
    said (lit≤ tt)
    (add-due c.args.due c.add-5.ensures c.due_here.ensures
    (add-decimal c.args.has c.ranges.has.fits c.add_number-4.ensures
    (add-text (bytes " lines; the sheet has ") c.add-4.ensures
    (add-decimal c.args.lines c.ranges.lines.fits c.add_number-3.ensures
    (add-text (bytes " constraints, so ") c.add-3.ensures
    (add-decimal c.args.h.c (search rules) c.add_number-2.ensures
    (add-text (bytes " groups and ") c.add-2.ensures
    (add-decimal c.args.h.s (search rules) c.add_number.ensures
    (add-text (bytes "the head says ") c.add.ensures
    (start c.empty.ensures))))))))))
