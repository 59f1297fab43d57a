-- `scan_clause` scans the words after a clause's number and length. Assumes nothing.
use Rattle.std.proofs.Common.{◌≡◌, ℕ, ◌+◌, ◌-◌, arith}
use Rattle.refutation.specs.Sound.{stored_true}
use Rattle.refutation.proofs.scan_clause.Goals as goal

width : (b n : ℕ) → b + n - b ≡ n
width b n = omega arith

pub returns : goal.returns
unfolding stored_true
returns c = λ a t m. c.scan.ensures a (rw width t) m
