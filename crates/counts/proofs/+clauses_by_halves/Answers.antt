use native.Mathlib.Omega.{arith}
use Prim.Native.Nat.{◌/◌}
use Rattle.counts.proofs.Trees.{clauses-first, clauses-even, clauses-odd, clauses-few-more}
use Rattle.counts.proofs.+clauses_by_halves.Goals as goal

pub returns-then-m-lt2 : goal.returns-then-m-lt2
returns-then-m-lt2 t c = clauses-first c.args.m c.if-m-lt2.true

pub overflow_add-mixed : goal.overflow_add-mixed
overflow_add-mixed t c = omega (arith, clauses-few-more (c.args.m / 2) (omega arith), c.clauses_by_halves-h.ensures)

pub overflow_add-mixed-2 : goal.overflow_add-mixed-2
overflow_add-mixed-2 t c = omega (arith, clauses-few-more (c.args.m / 2) (omega arith), c.clauses_by_halves-h.ensures)

pub overflow_add-result : goal.overflow_add-result
overflow_add-result t c = omega (arith, clauses-few-more (c.args.m / 2) (omega arith), c.clauses_by_halves-h.ensures)

pub overflow_add-result-then-a-m : goal.overflow_add-result-then-a-m
overflow_add-result-then-a-m t c = omega (arith, clauses-few-more (c.args.m / 2) (omega arith), c.clauses_by_halves-h.ensures)

pub returns-then-a-m : goal.returns-then-a-m
returns-then-a-m t c = clauses-odd c.args.m (omega arith) c.clauses_by_halves-h.ensures.0 c.clauses_by_halves-h.ensures.1 c.node_count.ensures.0 c.if-a-m.true c.node_count-then-a-m.ensures.0

pub overflow_add-result-2 : goal.overflow_add-result-2
overflow_add-result-2 t c = omega (arith, clauses-few-more (c.args.m / 2) (omega arith), c.clauses_by_halves-h.ensures)

pub overflow_add-result-3 : goal.overflow_add-result-3
overflow_add-result-3 t c = omega (arith, clauses-few-more (c.args.m / 2) (omega arith), c.clauses_by_halves-h.ensures)

pub returns : goal.returns
returns t c = clauses-even c.args.m (omega arith) c.clauses_by_halves-h.ensures.0 c.clauses_by_halves-h.ensures.1 c.node_count.ensures.0 (omega (arith, c.if-a-m.false)) c.node_count-2.ensures.0
