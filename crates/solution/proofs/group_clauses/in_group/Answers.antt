-- `in_group` looks at the fixed entrants, then at the variable of an open one. Assumes nothing.
use native.Mathlib.Omega.{arith}
use Rattle.model.specs.Cnf.{open_of}
use Rattle.model.specs.Close.{assignment_of}
use Rattle.model.proofs.Words.{shifted}
use Rattle.solution.proofs.Sets.{in-fixed, in-open, in-none}
use Rattle.solution.proofs.group_clauses.in_group.Goals as goal

pub returns-then-g-e-eq1 : goal.returns-then-g-e-eq1
returns-then-g-e-eq1 c = in-fixed (assignment_of c.args.values.now) c.args.g.now c.args.v c.args.e c.if-g-e-eq1.true

pub returns-then-open-e-eq1 : goal.returns-then-open-e-eq1
unfolding open_of
returns-then-open-e-eq1 c =
    in-open (assignment_of c.args.values.now) c.args.g.now c.args.v c.args.e c.if-g-e-eq1.false _ c.without-open.ensures c.if-open-e-eq1.true _
    (shifted c.args.e (omega arith)) _ c.is_true.ensures

pub returns : goal.returns
unfolding open_of
returns c = in-none (assignment_of c.args.values.now) c.args.g.now c.args.v c.args.e c.if-g-e-eq1.false _ c.without-open.ensures c.if-open-e-eq1.false
