-- `passed` goes through the groups, then through the lines. Invariant: the rules of the lines before it are done. Assumes nothing.
use Rattle.std.proofs.Common.{◌≡◌, map, take}
use Rattle.model.specs.Propagate.{constraint_rule, run}
use Rattle.propagate.proofs.passed.Given as goal

abbrev pub invariant-loop-l : goal.invariant-loop-l
invariant-loop-l l = l.table ≡ run (map (constraint_rule l.m.n) (take l.l-index l.lines)) l.initial.table
