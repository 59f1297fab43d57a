-- `of_groups` numbers the groups' blocks. Invariant: the groups passed have their first blocks. Assumes nothing.
use mathlib.Core.Path.{◌≡◌}
use mathlib.Core.List.{map}
use Prim.Native.Nat.{◌+◌, ◌*◌, ◌≤◌}
use lib.ListN.{length, take}
use Rattle.model.specs.Lists.{total, range}
use Rattle.model.specs.Limits.{limits}
use Rattle.encoding_laws.specs.Division.{nodes_of, first_block}
use Rattle.blocks.proofs.of_groups.Given as goal

abbrev pub invariant-loop-i : goal.invariant-loop-i
invariant-loop-i l =
    (length l.first ≡ limits.groups) × (take l.i l.first ≡ map (first_block (take l.s l.groups)) (take l.i (range 1 limits.groups)))
    × (l.lines ≡ 1 + total nodes_of (take l.i (take l.s l.groups))) × (l.lines ≤ 1 + l.i * limits.word)
