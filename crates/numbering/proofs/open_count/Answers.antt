-- `open_count` is the number of a group's open entrants. Assumes nothing.
use mathlib.Core.Path.{sym, ap, ◌∙◌}
use native.Mathlib.Omega.{arith}
use lib.Count.{ones-le}
use Rattle.model.specs.Limits.{limits}
use Rattle.model.specs.Words.{size}
use Rattle.model.specs.Cnf.{open_count, open_of}
use Rattle.model.proofs.Words.{size-ones}
use Rattle.numbering.proofs.open_count.Goals as goal

pub returns : goal.returns
unfolding open_count open_of
returns c = (sym (size-ones _) ∙ ap size c.without.ensures, ones-le limits.word _ (omega arith))
