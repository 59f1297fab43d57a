-- `union_of` joins set after set. Invariant: those passed are joined. Assumes nothing.
use Prim.Native.Nat.{◌+◌}
use Rattle.constraint_clauses.proofs.Meanings.{Joined}
use Rattle.constraint_clauses.proofs.union_of.Given as goal

abbrev pub invariant-loop-id : goal.invariant-loop-id
invariant-loop-id l = Joined l.words l.ids l.k l.w (l.id-index + 1)
