-- `add_row` joins word after word. Invariant: the words below k are joined. Assumes nothing.
use Rattle.marks.proofs.Bits.{RowBelow}
use Rattle.marks.proofs.add_row.Given as goal

abbrev pub invariant-loop-k : goal.invariant-loop-k
invariant-loop-k l = RowBelow l.index l.g l.initial.marks l.k l.marks
