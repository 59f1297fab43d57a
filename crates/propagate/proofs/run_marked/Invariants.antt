-- `run_marked` makes passes over the marked rules until one changes nothing. Invariants: unmarked rules leave the table as it is, and the outcome is that of the passes left. Assumes nothing.
use Rattle.std.proofs.Common.{◌≡◌, ◌-◌, length}
use Rattle.propagate.specs.Skip.{Quiet, loose}
use Rattle.propagate.proofs.Skipping.{PassLeft}
use Rattle.propagate.proofs.run_marked.Given as goal

abbrev pub invariant-loop-j : goal.invariant-loop-j
invariant-loop-j l =
    (l.seen.table ≡ l.table)
    × PassLeft l.n l.s l.lines l.fuel l.t l.k l.j l.changed l.table l.seen.groups l.seen.lines

abbrev pub decreases-loop-j : goal.decreases-loop-j
decreases-loop-j l = length l.lines - l.j

abbrev pub invariant-loop-k : goal.invariant-loop-k
invariant-loop-k l =
    (l.seen.table ≡ l.table)
    × (Quiet l.n l.s l.lines l.seen.groups l.seen.lines l.table
    × (loose l.n l.s l.lines (l.fuel - 1) 1 l.t ≡ loose l.n l.s l.lines (l.fuel - l.k) l.k l.table))
