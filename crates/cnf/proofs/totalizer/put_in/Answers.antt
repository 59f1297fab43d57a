-- `put_in` puts in each literal. Assumes nothing.
use mathlib.Core.List.{[], ◌∷◌}
use Rattle.model.specs.Totalizer.{node_terms}
use Rattle.cnf.proofs.totalizer.put_in.Goals as goal

pub returns : goal.returns
unfolding node_terms
returns c = λ i. c.output_term.ensures i ∷ c.output_term-2.ensures i ∷ c.output_term-3.ensures i ∷ []
