-- `few` goes from member to member, as long as somebody is left. Invariant: it has counted the first i. Assumes nothing.
use Rattle.clause_rule.proofs.Walks.{Few}
use Rattle.clause_rule.proofs.few.Given as goal

abbrev pub invariant-loop-i : goal.invariant-loop-i
invariant-loop-i l = Few l.t l.ids l.w l.none l.one l.i
