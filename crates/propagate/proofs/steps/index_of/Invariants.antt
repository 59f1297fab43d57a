-- `index_of` goes through the lines. Invariant: those below j are in the index. Assumes nothing.
use Rattle.propagate.proofs.Indexing.{Rows}
use Rattle.propagate.proofs.steps.index_of.Given as goal

abbrev pub invariant-loop-j : goal.invariant-loop-j
invariant-loop-j l = Rows l.lines l.j l.index
