-- `form_refusal` judges refusals 3 and 4. Invariant: the test of all fields is the test of those from i on. Assumes nothing.
use Prim.Native.Nat.{◌-◌, ◌/◌}
use mathlib.Core.Path.{◌≡◌}
use lib.ListN.{length}
use Rattle.std.specs.List.{list_all}
use Rattle.model.specs.Lists.{range}
use Rattle.model.specs.Sheet.{good_field}
use Rattle.sheet.proofs.form_refusal.Given as goal

abbrev pub invariant-loop-i : goal.invariant-loop-i
invariant-loop-i l = list_all (good_field l.line) (range 0 (length l.line / 4)) ≡ list_all (good_field l.line) (range l.i (length l.line / 4 - l.i))
