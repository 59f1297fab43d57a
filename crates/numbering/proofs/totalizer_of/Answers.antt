-- `totalizer_of` is a group's open entrants and bounds, and whether it has a totalizer. Assumes nothing.
use mathlib.Core.Path.{◌≡◌}
use Prim.Native.Nat.{ℕ, ◌-◌}
use lib.Count.{ones}
use Rattle.model.specs.declared.Group.{Group}
use Rattle.model.specs.Cnf.{at_least, at_most}
use Rattle.model.proofs.Words.{size-ones}
use Rattle.numbering.proofs.Totalizers.{totalizer-low, totalizer-high}
use Rattle.numbering.proofs.totalizer_of.Goals as goal

low : (g : Group) (r : ℕ) → r ≡ g.low - ones g.fixed → r ≡ at_least g
unfolding at_least
low g r e = rw (size-ones g.fixed) e

high : (g : Group) (r : ℕ) → r ≡ g.high - ones g.fixed → r ≡ at_most g
unfolding at_most
high g r e = rw (size-ones g.fixed) e

pub returns-then-low-gt0 : goal.returns-then-low-gt0
returns-then-low-gt0 c = record { value = totalizer-low c.args.g _ _ _ c.open_count-size.ensures.0 (low c.args.g _ c.saturating_sub-low.ensures) (high c.args.g _ c.saturating_sub-high.ensures) c.if-low-gt0.true; size_le_word = c.open_count-size.ensures.1 }

pub returns-else-low-gt0 : goal.returns-else-low-gt0
returns-else-low-gt0 c = record { value = totalizer-high c.args.g _ _ _ c.open_count-size.ensures.0 (low c.args.g _ c.saturating_sub-low.ensures) (high c.args.g _ c.saturating_sub-high.ensures) c.if-low-gt0.false; size_le_word = c.open_count-size.ensures.1 }
