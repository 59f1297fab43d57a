-- `feed` takes byte after byte. Invariant: the whole piece gives what the rest gives after the bytes used. Assumes nothing.
use mathlib.Core.Path.{◌≡◌}
use lib.ListN.{length}
use Rattle.lines.specs.Cut.{cutting}
use Rattle.lines.proofs.Cutting.{Halfway}
use Rattle.lines.proofs.feed.Given as goal

abbrev pub invariant-loop-i : goal.invariant-loop-i
invariant-loop-i l =
    Halfway l.piece (cutting l.initial.state l.initial.space l.initial.values) (cutting l.state l.space l.values) l.i × (length l.space ≡ length l.initial.space) × (length l.values ≡ length l.initial.values)
