-- `start` clears the index and the marks. Assumes nothing.
use Rattle.std.proofs.Common.{length, refl, arith}
use Rattle.refutation.specs.Steps.{first_state}
use Rattle.refutation.proofs.Equations.{zero-at}
use Rattle.refutation.proofs.Steps.{begun-none, start-kept}
use Rattle.refutation.proofs.start.Goals as goal

pub returns : goal.returns
unfolding first_state
returns c =
    let i = c.clear_words.ensures in
    let m = c.clear_words-2.ensures in
    record { holds = start-kept _ _ (zero-at _ (length c.args.index.now) i) (zero-at _ (length c.args.marks.now) m); refusal_value = (refl, λ a store. begun-none a 1 3 store (omega arith)); value = (refl, i, m) }
