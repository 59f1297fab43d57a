-- `judged` meets its contract: only a refuted state is certified. Assumes nothing.
use mathlib.Core.Path.{refl, sym}
use Rattle.refutation.proofs.Marks.{true-false}
use Rattle.certificate.proofs.judged.Goals as goal

pub returns : goal.returns
returns c = record { result_value = refl; refuted_value = λ e. absurd (true-false (sym e)) }
