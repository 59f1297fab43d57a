-- `outside`: text after text. Assumes nothing.
use lib.Dec.{lit≤}
use borrow.Author.Rules.{rules}
use Rattle.report.specs.Messages.{bytes}
use Rattle.report.proofs.Laws.{said, add-text, add-decimal}
use Rattle.fault_text.specs.Texts.{outside_text}
use Rattle.fault_text.proofs.Laws.{add-name, add-columns, add-range}
use Rattle.fault_text.proofs.outside.Goals as goal

pub returns : goal.returns
unfolding outside_text
returns c =
    said (lit≤ tt)
    (add-range c.args.range.low c.args.range.high (search rules) (search rules) c.to_most.ensures
    (add-text (bytes " must be ") c.add-m.ensures
    (add-name c.args.range.name c.add-3.ensures c.name.ensures
    (add-text (bytes ": ") c.add-2.ensures
    (add-decimal c.args.v c.ranges.v.fits c.add_number.ensures
    (add-text (bytes " have ") c.add.ensures
    (add-columns c.args.at (search rules) (search rules) c.columns.ensures)))))))
