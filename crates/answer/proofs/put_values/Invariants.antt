-- `put_values` writes value after value. Invariant: those before i are written. Assumes nothing.
use Rattle.std.specs.List.{flat_map}
use Rattle.model.specs.Lists.{range}
use Rattle.text.specs.Put.{Wrote}
use Rattle.answer.specs.Values.{value_at}
use Rattle.answer.proofs.put_values.Given as goal

abbrev pub invariant-loop-i : goal.invariant-loop-i
invariant-loop-i l = Wrote (flat_map (value_at l.values) (range 0 l.i)) l.at l.initial.buf l.buf l.n
