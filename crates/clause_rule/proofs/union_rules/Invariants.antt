-- `union_rules` goes from the long clause to the short ones in order. Invariant: those after the first i remain. Assumes nothing.
use Rattle.clause_rule.proofs.Walks.{ShortLeft}
use Rattle.clause_rule.proofs.union_rules.Given as goal

abbrev pub invariant-loop-i : goal.invariant-loop-i
invariant-loop-i l = ShortLeft l.w l.ids l.k l.initial.t l.i l.t
