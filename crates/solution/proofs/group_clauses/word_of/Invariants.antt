-- `word_of` adds entrant by entrant. Invariant: those below e are added. Assumes nothing.
use mathlib.Core.Path.{◌≡◌}
use Rattle.model.specs.Close.{assignment_of}
use Rattle.solution.specs.Holds.{word_of}
use Rattle.solution.proofs.group_clauses.word_of.Given as goal

abbrev pub invariant-loop-e : goal.invariant-loop-e
invariant-loop-e l = l.w ≡ word_of l.e (assignment_of l.values) l.g l.v
