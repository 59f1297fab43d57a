-- `read_certificate` feeds piece after piece. Invariant: what stood at the start stands. Assumes nothing.
use Prim.Native.Nat.{ℕ}
use mathlib.Core.List.{List}
use mathlib.Core.Path.{◌≡◌}
use lib.ListN.{length}
use Rattle.certificate.specs.NoDraw.{Stands}
use Rattle.certify.proofs.read_certificate.Given as goal

abbrev pub invariant-loop-turn : goal.invariant-loop-turn
invariant-loop-turn l = ((b : List ℕ) → Stands b l.initial.t l.initial.store l.initial.index l.initial.marks → Stands b l.t l.store l.index l.marks) × (length l.store ≡ length l.initial.store) × (length l.index ≡ length l.initial.index) × (length l.marks ≡ length l.initial.marks) × (length l.piece ≡ 65536)
