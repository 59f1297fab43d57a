-- `combined_groups` combines group after group. Invariant: the first i of them, then zeros. Assumes nothing.
use mathlib.Core.Path.{◌≡◌}
use mathlib.Core.List.{◌++◌}
use Prim.Native.Nat.{◌-◌}
use lib.ListN.{take, replicate}
use Rattle.model.specs.Limits.{limits}
use Rattle.model.specs.Model.{zero_group}
use Rattle.model.specs.Combine.{combined_table}
use Rattle.combine.proofs.combined_groups.Given as goal

abbrev pub invariant-loop-i : goal.invariant-loop-i
invariant-loop-i l = l.groups ≡ combined_table (take l.i l.a) (take l.i l.b) ++ replicate (limits.groups - l.i) zero_group
