-- `unread`: text after text. Assumes nothing.
use borrow.Author.Rules.{rules}
use lib.Dec.{lit≤}
use Rattle.report.specs.Messages.{bytes}
use Rattle.report.proofs.Laws.{said, picked, add-text}
use Rattle.fault_text.specs.Texts.{unread_text, shown_bytes}
use Rattle.fault_text.proofs.Laws.{add-columns}
use Rattle.fault_text.proofs.unread.Goals as goal

pub returns : goal.returns
unfolding unread_text
returns c =
    said (lit≤ tt)
    (add-text (bytes "`\n") c.add-3.ensures
    (picked (shown_bytes c.args.four) 4 (lit≤ tt) c.add-2.ensures (cc)
    (add-text (bytes " have `") c.add.ensures
    (add-columns c.args.at (search rules) (search rules) c.columns.ensures))))
