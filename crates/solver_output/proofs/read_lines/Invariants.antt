-- `read_lines` reads piece after piece. Invariant: what stands is that of the bytes read so far. Assumes nothing.
use mathlib.Core.Path.{◌≡◌}
use lib.ListN.{length}
use Rattle.lines.specs.Cut.{cutting}
use Rattle.lines.proofs.Lines.{Reads}
use Rattle.solver_output.proofs.read_lines.Given as goal

abbrev pub invariant-loop-turn : goal.invariant-loop-turn
invariant-loop-turn l =
    Reads l.initial.space l.initial.values (cutting l.cut l.space l.values)
    × (length l.space ≡ 1048576) × (length l.values ≡ length l.initial.values) × (length l.piece ≡ 65536)
