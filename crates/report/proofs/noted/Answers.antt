-- `noted`: one text. Assumes nothing.
use lib.Dec.{lit≤}
use Rattle.report.proofs.Laws.{start, said, add-notice}
use Rattle.report.proofs.noted.Goals as goal

pub returns : goal.returns
returns c =
    said (lit≤ tt)
    (add-notice c.args.what c.add.ensures c.words.ensures
    (start c.empty.ensures))
