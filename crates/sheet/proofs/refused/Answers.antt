-- `refused` gives a refusal, its line and the zero model. Assumes nothing.
use Rattle.model.specs.Sheet.{refused_sheet}
use Rattle.sheet.proofs.refused.Goals as goal

pub returns : goal.returns
unfolding refused_sheet
returns c = simp c.zero.ensures
