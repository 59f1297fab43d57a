-- `lay_groups`: the words of the groups passed stand from `at` on, and the rest of the table is as it was. Assumes nothing.
use Rattle.packing.specs.Packing.{group_words}
use Rattle.packing.proofs.Laid.{Laying}
use Rattle.packing.proofs.lay_groups.Given as goal

abbrev pub invariant-loop-i : goal.invariant-loop-i
invariant-loop-i l = Laying group_words 4 l.groups l.s l.at l.initial.table l.table l.i
