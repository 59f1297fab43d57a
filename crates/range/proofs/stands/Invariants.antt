-- `stands` looks at every number, with no early end, so that a run of them is looked at at once. Invariant: found so far, or among those from there on. Assumes nothing.
use mathlib.Core.Path.{◌≡◌}
use mathlib.Core.Bool.{◌||◌}
use lib.Dec.{eqb}
use lib.ListN.{drop}
use Rattle.std.specs.List.{list_any}
use Rattle.range.proofs.stands.Given as goal

abbrev pub invariant-loop-id : goal.invariant-loop-id
invariant-loop-id l = (l.found || list_any (eqb l.x) (drop l.id-index l.ids)) ≡ list_any (eqb l.x) l.ids
