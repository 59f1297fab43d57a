-- `take_literals` takes a short line in one pass, and a longer one in two. Assumes nothing.
use mathlib.Core.Path.{◌∙◌, sym, ap}
use Rattle.std.proofs.lemmas.Result.{err_from_is_err_and}
use Rattle.literals.specs.Line.{refusal_of}
use Rattle.literals.proofs.Named.{refuses}
use Rattle.literals.proofs.Taken.{taken-good, taken_none}
use Rattle.literals.proofs.take_literals.Goals as goal

pub returns-in_err-judge : goal.returns-in_err-judge
returns-in_err-judge c =
    let p = err_from_is_err_and c.from_residual.result c.from_residual.ensures.1 in
    let was = ap refusal_of c.in_err-judge.was in
    rw (p.1, p.2) (record { value = sym was ∙ c.judge.ensures; values_after = taken_none _ _ _ c.judge.ensures (λ z. refuses _ (sym was ∙ z)) })

pub returns : goal.returns
returns c =
    let good = sym c.judge.ensures ∙ ap refusal_of c.in_ok-judge.was in
    record { value = sym good; values_after = c.write_literals.ensures ∙ taken-good _ _ good }
