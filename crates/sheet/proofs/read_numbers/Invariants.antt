-- `read_numbers` gives the numbers of a constraint line's groups. Invariant: the first i of them, then zeros. Assumes nothing.
use Rattle.model.specs.Limits.{limits}
use Prim.Native.Nat.{◌+◌, ◌-◌}
use mathlib.Core.Path.{◌≡◌}
use mathlib.Core.List.{◌++◌, map}
use lib.ListN.{replicate}
use Rattle.model.specs.Lists.{range}
use Rattle.model.specs.Sheet.{value_at, first_group}
use Rattle.sheet.proofs.read_numbers.Given as goal

abbrev pub invariant-loop-i : goal.invariant-loop-i
invariant-loop-i l = (l.groups ≡ map (λ j. value_at l.line (first_group l.line + j)) (range 0 l.i) ++ replicate (limits.members - l.i) 0)
