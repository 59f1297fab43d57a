-- `constraints_length` adds up the lines of the first constraints. Assumes nothing.
use mathlib.Core.Path.{◌≡◌}
use Prim.Native.Nat.{◌+◌, ◌*◌, ◌≤◌}
use lib.ListN.{length, take}
use Rattle.std.specs.List.{flat_map}
use Rattle.model.specs.Limits.{limits}
use Rattle.sheet_writer.specs.Parts.{constraint_text, line_length}
use Rattle.sheet_writer.proofs.constraints_length.Given as goal

abbrev pub invariant-loop-x : goal.invariant-loop-x
invariant-loop-x l =
    (l.r ≡ length (flat_map constraint_text (take l.x-index (take l.c l.constraints)))) × (l.r ≤ l.x-index * line_length (3 + limits.members))
