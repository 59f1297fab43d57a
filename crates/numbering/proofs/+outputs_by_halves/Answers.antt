use Rattle.std.proofs.Common.{◌/◌, arith}
use Rattle.numbering.proofs.Totalizers.{outputs-few-more, outputs-first, outputs-even, outputs-odd}
use Rattle.numbering.proofs.+outputs_by_halves.Goals as goal

pub returns-then-m-lt2 : goal.returns-then-m-lt2
returns-then-m-lt2 t c = outputs-first c.args.m c.if-m-lt2.true

pub overflow_add-result-then-m-eq1 : goal.overflow_add-result-then-m-eq1
overflow_add-result-then-m-eq1 t c = omega (arith, outputs-few-more (c.args.m / 2) (omega arith), c.outputs_by_halves-x.ensures)

pub overflow_add-result-then-m-eq1-2 : goal.overflow_add-result-then-m-eq1-2
overflow_add-result-then-m-eq1-2 t c = omega (arith, outputs-few-more (c.args.m / 2) (omega arith), c.outputs_by_halves-x.ensures)

pub overflow_add-result-then-m-eq1-4 : goal.overflow_add-result-then-m-eq1-4
overflow_add-result-then-m-eq1-4 t c = omega (arith, outputs-few-more (c.args.m / 2) (omega arith), c.outputs_by_halves-x.ensures)

pub overflow_add-result-then-m-eq1-5 : goal.overflow_add-result-then-m-eq1-5
overflow_add-result-then-m-eq1-5 t c = omega (arith, outputs-few-more (c.args.m / 2) (omega arith), c.outputs_by_halves-x.ensures)

pub overflow_add-result-2 : goal.overflow_add-result-2
overflow_add-result-2 t c = omega (arith, outputs-few-more (c.args.m / 2) (omega arith), c.outputs_by_halves-x.ensures)

pub overflow_add-result-3 : goal.overflow_add-result-3
overflow_add-result-3 t c = omega (arith, outputs-few-more (c.args.m / 2) (omega arith), c.outputs_by_halves-x.ensures)

pub overflow_add-result-5 : goal.overflow_add-result-5
overflow_add-result-5 t c = omega (arith, outputs-few-more (c.args.m / 2) (omega arith), c.outputs_by_halves-x.ensures)

pub overflow_add-result-6 : goal.overflow_add-result-6
overflow_add-result-6 t c = omega (arith, outputs-few-more (c.args.m / 2) (omega arith), c.outputs_by_halves-x.ensures)

pub returns-then-m-eq1 : goal.returns-then-m-eq1
returns-then-m-eq1 t c = outputs-odd c.args.m (omega arith) (omega (arith, c.if-m-eq1.true)) c.outputs_by_halves-x.ensures.0 c.outputs_by_halves-x.ensures.1

pub returns : goal.returns
returns t c = outputs-even c.args.m (omega arith) (omega (arith, c.if-m-eq1.false)) c.outputs_by_halves-x.ensures.0 c.outputs_by_halves-x.ensures.1
