-- `long_rule` makes the members' literals true one after the other, and then -H. Invariant: those after the first i remain. Assumes nothing.
use Rattle.clause_rule.proofs.Walks.{LongLeft}
use Rattle.clause_rule.proofs.long_rule.Given as goal

abbrev pub invariant-loop-i : goal.invariant-loop-i
invariant-loop-i l = LongLeft l.w l.ids l.k l.initial.t l.i l.t
