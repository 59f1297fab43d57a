-- `difference_holds` compares the X that are true with the two groups' words. Assumes nothing.
use Rattle.model.specs.Close.{assignment_of}
use Rattle.solution.proofs.Constraints.{holds-apart, holds-none, holds-some}
use Rattle.solution.proofs.differences.difference_holds.Goals as goal

pub returns-then-apart : goal.returns-then-apart
returns-then-apart c =
    holds-apart (assignment_of c.args.values.now) c.args.apart c.args.free c.args.words.now c.args.n c.args.x c.args.l.now c.if-apart.true

pub returns-then-w-eq0 : goal.returns-then-w-eq0
returns-then-w-eq0 c =
    holds-none (assignment_of c.args.values.now) c.args.apart c.args.free c.args.words.now c.args.n c.args.x c.args.l.now c.if-apart.false _ c.word_of-w.ensures c.if-w-eq0.true

pub returns : goal.returns
returns c =
    holds-some (assignment_of c.args.values.now) c.args.apart c.args.free c.args.words.now c.args.n c.args.x c.args.l.now c.if-apart.false _ c.word_of-w.ensures c.if-w-eq0.false _ _ c.set_of-f.ensures c.set_of-g.ensures
