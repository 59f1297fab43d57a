-- `good_marks` tests every mark of a group line. Invariant: the test of all is the test of those from e on. Assumes nothing.
use Prim.Native.Nat.{◌-◌}
use mathlib.Core.Path.{◌≡◌}
use Rattle.std.specs.List.{list_all}
use Rattle.model.specs.Lists.{range}
use Rattle.sheet.specs.Line.{good_mark}
use Rattle.sheet.proofs.good_marks.Given as goal

abbrev pub invariant-loop-e : goal.invariant-loop-e
invariant-loop-e l = (list_all (good_mark l.line) (range 0 l.n) ≡ list_all (good_mark l.line) (range l.e (l.n - l.e)))
