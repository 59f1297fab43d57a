-- `put_outputs` writes output after output. Invariant: the first i are written. Assumes nothing.
use Prim.Native.Nat.{◌+◌}
use Rattle.std.specs.List.{flat_map}
use Rattle.model.specs.Lists.{range}
use Rattle.text.specs.Put.{Wrote}
use Rattle.filling.proofs.Values.{output_value}
use Rattle.filling.proofs.put_outputs.Given as goal

abbrev pub invariant-loop-i : goal.invariant-loop-i
invariant-loop-i l = Wrote (flat_map (output_value l.x) (range 0 l.i)) l.at l.initial.values l.values (l.at + l.i)
