-- `put_assignment` writes `v`, word after word, and a newline. Invariant: the values before i are written. Assumes nothing.
use Rattle.answer.proofs.Assignment.{Halfway}
use Rattle.answer.proofs.put_assignment.Given as goal

abbrev pub invariant-loop-i : goal.invariant-loop-i
invariant-loop-i l = Halfway l.values l.start l.initial.buf l.buf l.pen.at l.pen.column l.i
