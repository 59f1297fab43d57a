-- `finish` says no only where settling or the refutation does. Assumes nothing.
use mathlib.Core.Path.{sym, ◌∙◌}
use Rattle.certificate.proofs.Answer.{refuted_no-draw}
use Rattle.refutation.proofs.Marks.{true-false}
use Rattle.certificate.proofs.finish.Goals as goal

pub returns-in-Refused : goal.returns-in-Refused
returns-in-Refused c = record { result_value = sym c.in-Refused.is; no_draw = λ b store index marks h e. absurd (true-false (sym e)) }

pub returns-in-SettledOut : goal.returns-in-SettledOut
returns-in-SettledOut c = record { result_value = sym c.in-SettledOut.is; no_draw = λ b store index marks h e. h.out c.in-SettledOut.is }

pub returns-in-Open : goal.returns-in-Open
returns-in-Open c =
    let o = c.in-Open.is in
    record { result_value = c.judged.ensures.result_value ∙ sym o; no_draw = λ b store index marks h e. refuted_no-draw (c.judged.ensures.refuted_value e) (h.unrefuted o) }
