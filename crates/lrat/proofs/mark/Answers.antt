-- `mark` meets its contract by what a number's end and a line's end keep. Assumes nothing.
use Rattle.refutation.proofs.Steps.{keep-each, keep-then}
use Rattle.lrat.proofs.mark.Goals as goal

pub returns-then-b-eq10 : goal.returns-then-b-eq10
returns-then-b-eq10 c = keep-then c.ended-q.ensures (keep-each c.next_line.ensures)

pub returns : goal.returns
returns c = keep-each c.sign.ensures
