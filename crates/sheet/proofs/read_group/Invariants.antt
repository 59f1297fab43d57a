-- `read_group` gives the group of a group line. Invariant: the words of the marks below e. Assumes nothing.
use mathlib.Core.Path.{◌≡◌}
use mathlib.Core.Bool.{not}
use lib.Dec.{eqb}
use Rattle.model.specs.Words.{word_where}
use Rattle.model.specs.Sheet.{mark_at}
use Rattle.sheet.proofs.read_group.Given as goal

abbrev pub invariant-loop-e : goal.invariant-loop-e
invariant-loop-e l = (l.fixed ≡ word_where (λ k. eqb (mark_at l.line k) 2) l.e) × (l.possible ≡ word_where (λ k. not (eqb (mark_at l.line k) 0)) l.e)
