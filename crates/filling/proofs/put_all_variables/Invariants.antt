-- `put_all_variables` writes group after group. Invariant: the first i are written. Assumes nothing.
use Rattle.model.specs.Fill.{variable_values}
use Rattle.text.specs.Put.{Wrote}
use Rattle.filling.proofs.Values.{first_groups}
use Rattle.filling.proofs.put_all_variables.Given as goal

abbrev pub invariant-loop-i : goal.invariant-loop-i
invariant-loop-i l = Wrote (first_groups (variable_values l.n) l.groups l.words l.i) 0 l.initial.values l.values l.k
