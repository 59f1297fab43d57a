-- `unended`: text after text. Assumes nothing.
use lib.Dec.{lit≤}
use Rattle.report.specs.Messages.{bytes}
use Rattle.report.proofs.Laws.{said, start, add-text, add-decimal}
use Rattle.fault_text.specs.Texts.{unended_text}
use Rattle.fault_text.proofs.unended.Goals as goal

pub returns : goal.returns
unfolding unended_text
returns c =
    said (lit≤ tt)
    (add-text (bytes ", does not end in a newline\n") c.add-2.ensures
    (add-decimal c.args.line c.ranges.line.fits c.add_number.ensures
    (add-text (bytes "the last line, line ") c.add.ensures
    (start c.empty.ensures))))
