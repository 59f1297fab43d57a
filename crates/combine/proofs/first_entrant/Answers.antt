use mathlib.Core.Path.{◌≡◌, refl, sym, ◌∙◌}
use Prim.Native.Nat.{ℕ, ◌+◌, ◌-◌}
use mathlib.Core.Bool.{Bool}
use native.Mathlib.Omega.{arith}
use borrow.Author.Tests.{eq-eqb, ne_eqb}
use Rattle.model.specs.Limits.{limits}
use Rattle.model.specs.Words.{bit, has}
use Rattle.combine.specs.Clash.{first_entrant}
use Rattle.combine.proofs.Clashes.{first-here, first_next}
use Rattle.combine.proofs.first_entrant.Invariants.{entrant_of}
use Rattle.combine.proofs.first_entrant.Goals as goal

-- entrant e + 1 is bit e
at-bit : (w e : ℕ) (b : Bool) → has w e ≡ b → entrant_of w (e + 1) ≡ b
at-bit w e b h = let z : e + 1 - 1 ≡ e = omega arith in rw z h

pub loop-e-init : goal.loop-e-init
unfolding first_entrant
loop-e-init c = refl

pub returns-then-w-e-eq1 : goal.returns-then-w-e-eq1
unfolding has bit
returns-then-w-e-eq1 c =
    let w = c.args.w in
    let l = c.loop-e in
    sym (l.invariant ∙ first-here (entrant_of w) l.e limits.word (omega arith) (at-bit w l.e _ (eq-eqb _ _ c.if-w-e-eq1.true)))

pub loop-e-preserved : goal.loop-e-preserved
unfolding has bit
loop-e-preserved c =
    let w = c.args.w in
    let l = c.loop-e in
    l.invariant ∙ first_next (entrant_of w) l.e limits.word (omega arith) (at-bit w l.e _ (ne_eqb _ _ c.if-w-e-eq1.false))
