-- `feed` keeps what holds, from byte to byte. Assumes nothing.
use Rattle.std.proofs.Common.{◌-◌, length}
use Rattle.lrat.proofs.Fed.{Fed}
use Rattle.lrat.proofs.feed.Given as goal

abbrev pub invariant-loop-i : goal.invariant-loop-i
invariant-loop-i l = Fed l.initial.q.state l.initial.store l.initial.index l.initial.marks l.q.state l.store l.index l.marks

abbrev pub decreases-loop-i : goal.decreases-loop-i
decreases-loop-i l = length l.text - l.i
