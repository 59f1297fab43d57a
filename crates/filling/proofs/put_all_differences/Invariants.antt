-- `put_all_differences` writes constraint after constraint. Invariant: the first j are written. Assumes nothing.
use lib.ListN.{take}
use Rattle.model.specs.Fill.{difference_values}
use Rattle.text.specs.Put.{Wrote}
use Rattle.filling.proofs.Values.{first_constraints}
use Rattle.filling.proofs.put_all_differences.Given as goal

abbrev pub invariant-loop-j : goal.invariant-loop-j
invariant-loop-j l =
    Wrote (first_constraints (difference_values l.n (take l.s l.groups) (take l.s l.words)) l.constraints l.j) l.at l.initial.values l.values l.k
