-- `applied` passes on the limits of a constraint, code by code. Assumes nothing.
use Rattle.std.proofs.Common.{refl, arith}
use Rattle.table.proofs.Rules.{run-append}
use Rattle.limit_rule.proofs.Codes.{equal-limits, within-limits, both-limits, either-limits, less-limits, union-limits-are, no-limits}
use Rattle.limit_rule.proofs.Alone.{made}
use Rattle.limit_rule.proofs.applied.Goals as goal

pub returns-in-1 : goal.returns-in-1
returns-in-1 c = made c.args.c.now c.args.t.now _ (omega arith) (rw (equal-limits c.args.c.now c.in-1.is, run-append) (cc))

pub returns-in-2 : goal.returns-in-2
returns-in-2 c = made c.args.c.now c.args.t.now _ (omega arith) (rw (within-limits c.args.c.now c.in-2.is) c.low_first-in-2.ensures)

pub returns-in-3 : goal.returns-in-3
returns-in-3 c = made c.args.c.now c.args.t.now _ (omega arith) (rw (both-limits c.args.c.now c.in-3.is, run-append) (cc))

pub returns-in-4 : goal.returns-in-4
returns-in-4 c = made c.args.c.now c.args.t.now _ (omega arith) (rw (either-limits c.args.c.now c.in-4.is) c.union_limits.ensures)

pub returns-in-5 : goal.returns-in-5
returns-in-5 c = made c.args.c.now c.args.t.now _ (omega arith) (rw (less-limits c.args.c.now c.in-5.is) c.high_first-in-5.ensures)

pub returns-in-6 : goal.returns-in-6
returns-in-6 c = made c.args.c.now c.args.t.now _ (omega arith) (rw (union-limits-are c.args.c.now c.in-6.is (omega arith) _ c.min-count.ensures) c.union_limits-in-6.ensures)

pub returns-in_default : goal.returns-in_default
returns-in_default c =
    made c.args.c.now c.args.t.now _ (omega arith)
    (rw (no-limits c.args.c.now _ refl (λ e. omega arith) (λ e. omega arith) (λ e. omega arith) (λ e. omega arith) (λ e. omega arith) (λ e. omega arith)))
