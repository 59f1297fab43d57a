-- `flip` gives the opposite literal. Assumes nothing.
use Rattle.std.proofs.Common.{eq-eqb, ne_eqb}
use Rattle.refutation.specs.Sound.{flipped}
use Rattle.refutation.proofs.flip.Goals as goal

pub returns-then-w-eq0 : goal.returns-then-w-eq0
unfolding flipped
returns-then-w-eq0 c = simp (eq-eqb _ _ c.if-w-eq0.true)

pub returns : goal.returns
unfolding flipped
returns c = simp (ne_eqb _ _ c.if-w-eq0.false)
