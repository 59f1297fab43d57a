-- `refuse` changes the refusal alone. Assumes nothing.
use Rattle.std.proofs.Common.{refl}
use Rattle.refutation.specs.Steps.{refused_for}
use Rattle.refutation.proofs.refuse.Goals as goal

pub returns : goal.returns
unfolding refused_for
returns c = let e = c.refusal_for.ensures in record { holds = λ a store index marks h. h; refusal_value = e; value = rw e refl }
