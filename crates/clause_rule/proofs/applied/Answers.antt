-- `applied` makes the clauses of each code, and for nobody none. Assumes nothing.
use Rattle.std.proofs.Common.{sym, arith, rules}
use Rattle.model.specs.Clauses.{rule_clauses, member_clauses, clauses_of}
use Rattle.clause_rule.proofs.Walks.{none_clauses}
use Rattle.clause_rule.proofs.Alone.{made}
use Rattle.clause_rule.proofs.applied.Goals as goal

pub returns-then-w-eq0 : goal.returns-then-w-eq0
returns-then-w-eq0 c = made c.args.w c.args.c.now c.args.t.now _ (omega arith) (rw c.if-w-eq0.true (sym (none_clauses (clauses_of c.args.c.now) c.args.t.now)))

pub returns-then-c-eq6 : goal.returns-then-c-eq6
unfolding clauses_of rule_clauses member_clauses
returns-then-c-eq6 c = made c.args.w c.args.c.now c.args.t.now _ (omega arith) (search rules)

pub returns : goal.returns
unfolding clauses_of rule_clauses member_clauses
returns c = made c.args.w c.args.c.now c.args.t.now _ (omega arith) (search rules)
