-- `clash_among` asks group after group. Invariant: the first clash of all is the first from place i on. Assumes nothing.
use mathlib.Core.Path.{◌≡◌}
use Prim.Native.Nat.{ℕ}
use mathlib.Core.List.{List}
use lib.ListN.{take}
use Rattle.model.specs.declared.Group.{Group}
use Rattle.combine.specs.Clash.{first_clash}
use Rattle.combine.proofs.Clashes.{From}
use Rattle.combine.proofs.clash_among.Given as goal

-- the first s groups of xs, and the first t of ys, from place i on
abbrev pub Rest : List Group → List Group → ℕ → ℕ → ℕ → Type 0
Rest xs ys s t i = first_clash 1 (take s xs) (take t ys) ≡ From (take s xs) (take t ys) i

abbrev pub invariant-loop-i : goal.invariant-loop-i
invariant-loop-i l = Rest l.xs l.ys l.s l.t l.i
