-- `constraint_holds` judges code 7 by its X, and every other code by its clauses on the words. Assumes nothing.
use mathlib.Core.Path.{◌∙◌}
use native.Mathlib.Omega.{arith}
use Rattle.model.specs.Close.{assignment_of}
use Rattle.model.proofs.Words.{entrants-full}
use Rattle.solution.proofs.Constraints.{seven-holds, six-holds}
use Rattle.solution.proofs.constraint_holds.Goals as goal

pub returns-then-l-eq7 : goal.returns-then-l-eq7
returns-then-l-eq7 c =
    seven-holds (assignment_of c.args.values.now) c.args.apart c.args.free c.args.words.now c.args.n c.args.x c.args.l.now c.if-l-eq7.true _ c.difference_holds.ensures

pub returns : goal.returns
returns c =
    six-holds (assignment_of c.args.values.now) c.args.apart c.args.free c.args.words.now c.args.n c.args.x c.args.l.now c.if-l-eq7.false _ (c.entrants.ensures ∙ entrants-full c.args.n (omega arith)) _ c.constraint_holds.ensures
