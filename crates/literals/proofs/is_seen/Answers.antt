-- `is_seen` asks the flags where they reach. Assumes nothing.
use Prim.Native.Nat.{suc, ◌-◌}
use mathlib.Core.Path.{◌≡◌, ◌∙◌, ap}
use lib.ListN.{take}
use Rattle.model.specs.Words.{bit, has}
use Rattle.model.specs.Assignment.{words_of}
use Rattle.literals.specs.Line.{named, names?}
use native.Mathlib.Omega.{arith}
use Rattle.literals.proofs.is_seen.Goals as goal

pub returns-then-i-lt-NOTED : goal.returns-then-i-lt-NOTED
unfolding has bit
returns-then-i-lt-NOTED c = let z : suc (c.args.v - 1) ≡ c.args.v = omega (arith, c.requires) in c.requires.noted.at _ c.if-i-lt-NOTED.true ∙ ap (λ n. names? n (take c.args.count (named (words_of c.args.s.now)))) z
