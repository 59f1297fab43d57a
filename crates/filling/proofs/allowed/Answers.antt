-- `allowed` asks the four in their order. Assumes nothing.
use mathlib.Core.Path.{refl}
use native.Mathlib.Omega.{arith}
use Rattle.filling.proofs.Draws.{lacks-fixed, not-possible, few, enough}
use Rattle.filling.proofs.allowed.Goals as goal

pub returns-then-g-w : goal.returns-then-g-w
returns-then-g-w c = lacks-fixed c.args.g.now c.args.w c.if-g-w.true

pub returns-then-w-g : goal.returns-then-w-g
returns-then-w-g c =
    not-possible c.args.g.now c.args.w c.if-g-w.false c.if-w-g.true

pub returns-then-k-g : goal.returns-then-k-g
returns-then-k-g c =
    few c.args.g.now c.args.w c.if-g-w.false c.if-w-g.false c.if-k-g.true

pub returns : goal.returns
returns c =
    enough c.args.g.now c.args.w c.if-g-w.false c.if-w-g.false (omega arith) _ refl
