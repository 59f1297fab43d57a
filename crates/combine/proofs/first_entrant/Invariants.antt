-- `first_entrant` asks bit after bit. Invariant: the first of all is the first from e + 1 on. Assumes nothing.
use mathlib.Core.Path.{◌≡◌}
use Prim.Native.Nat.{ℕ, ◌+◌, ◌-◌}
use mathlib.Core.Bool.{Bool}
use Rattle.model.specs.Lists.{range}
use Rattle.model.specs.Limits.{limits}
use Rattle.model.specs.Words.{has}
use Rattle.combine.specs.Clash.{first_where, first_entrant}
use Rattle.combine.proofs.first_entrant.Given as goal

abbrev pub entrant_of : ℕ → ℕ → Bool
entrant_of w e = has w (e - 1)

abbrev pub invariant-loop-e : goal.invariant-loop-e
invariant-loop-e l = first_entrant l.w ≡ first_where (entrant_of l.w) (range (l.e + 1) (limits.word - l.e))
