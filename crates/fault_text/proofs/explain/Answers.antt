-- `explain`: one text, or the message of a function. Assumes nothing.
use lib.Dec.{lit≤}
use Rattle.report.specs.Messages.{bytes}
use Rattle.report.proofs.Laws.{said, start, add-text}
use Rattle.fault_text.proofs.explain.Goals as goal

pub returns-in-Nothing : goal.returns-in-Nothing
returns-in-Nothing c =
    rw c.in-Nothing.is
    (said (lit≤ tt)
    (start c.empty.ensures))

pub returns-in-OrderMark : goal.returns-in-OrderMark
returns-in-OrderMark c =
    rw c.in-OrderMark.is
    (said (lit≤ tt)
    (add-text (bytes "the sheet begins with a byte order mark\n") c.add.ensures
    (start c.empty-in-OrderMark.ensures)))

pub returns-in-Return : goal.returns-in-Return
returns-in-Return c =
    rw c.in-Return.is
    (said (lit≤ tt)
    (add-text (bytes "the line ends in a carriage return\n") c.add-in-Return.ensures
    (start c.empty-in-Return.ensures)))

pub returns-in-Empty : goal.returns-in-Empty
returns-in-Empty c =
    rw c.in-Empty.is
    (said (lit≤ tt)
    (add-text (bytes "the sheet is empty\n") c.add-in-Empty.ensures
    (start c.empty-in-Empty.ensures)))
