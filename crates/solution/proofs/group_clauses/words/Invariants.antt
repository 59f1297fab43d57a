-- `words` fills the array from the front. Invariant: the words of the first i groups are there, and zeros. Assumes nothing.
use mathlib.Core.Path.{◌≡◌}
use lib.ListN.{take}
use Rattle.model.specs.Close.{assignment_of}
use Rattle.solution.specs.Holds.{table_words}
use Rattle.solution.proofs.group_clauses.words.Given as goal

abbrev pub invariant-loop-i : goal.invariant-loop-i
invariant-loop-i l = l.r ≡ table_words l.n (assignment_of l.values) (take l.s l.groups) l.i
