-- `index_line` marks a line in the row of each of its groups. Invariant: those of the groups before it are marked. Assumes nothing.
use Rattle.std.proofs.Common.{take}
use Rattle.propagate.specs.Skip.{AddsLine}
use Rattle.propagate.proofs.steps.index_line.Given as goal

abbrev pub invariant-loop-g : goal.invariant-loop-g
invariant-loop-g l = AddsLine l.j (take l.g-index l.ids) l.initial.index l.index
