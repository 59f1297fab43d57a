use Rattle.std.proofs.Common.{sym, ◌∙◌, arith}
use mathlib.Core.Path.{refl}
use Rattle.refutation.proofs.Marks.{forced, conflict, pass_kept, pass-marked}
use Rattle.refutation.proofs.scan.Goals as goal
use Rattle.refutation.proofs.scan.Goals.{then-marks-k-2+else-is_some, else-marks-k-2}

pub loop-i-init : goal.loop-i-init
loop-i-init c = record { each = λ k l h. absurd (omega arith) }

pub loop-i-preserved : goal.loop-i-preserved
loop-i-preserved c =
    elim c.if-marks-k-2.branch [
      | then-marks-k-2+else-is_some w ↦ pass_kept c.loop-i.invariant (sym w.is_some.ensures ∙ w.if-is_some.false) _ w.unit-is
      | else-marks-k-2 w ↦ pass-marked c.loop-i.invariant _ refl c.if-marks-k.false w.if-marks-k-2.false _ w.unit-is
    ]

pub returns-in-Some : goal.returns-in-Some
returns-in-Some c = λ a t m. forced c.loop-i.invariant c.loop-i-test.false t m _ c.in-Some.is

pub returns-in-None : goal.returns-in-None
returns-in-None c = λ a t m. conflict c.loop-i.invariant c.loop-i-test.false t m c.in-None.is
