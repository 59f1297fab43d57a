-- `put_all_totalizers` writes group after group. Invariant: the first i are written. Assumes nothing.
use Rattle.model.specs.Fill.{output_values}
use Rattle.text.specs.Put.{Wrote}
use Rattle.filling.proofs.Values.{first_groups}
use Rattle.filling.proofs.put_all_totalizers.Given as goal

abbrev pub invariant-loop-i : goal.invariant-loop-i
invariant-loop-i l = Wrote (first_groups (output_values l.n) l.groups l.words l.i) l.at l.initial.values l.values l.k
