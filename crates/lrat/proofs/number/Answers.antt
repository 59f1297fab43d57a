-- `number` meets its contract by what each kind of number keeps. Assumes nothing.
use Rattle.refutation.proofs.Steps.{keep-each}
use Rattle.lrat.proofs.number.Goals as goal

pub returns-then-r-gt-LARGEST : goal.returns-then-r-gt-LARGEST
returns-then-r-gt-LARGEST c = keep-each c.refused.ensures

pub returns-in-LetterD : goal.returns-in-LetterD
returns-in-LetterD c = keep-each c.refused-in-LetterD.ensures
