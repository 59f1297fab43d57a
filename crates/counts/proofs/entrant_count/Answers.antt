use mathlib.Core.Path.{◌≡◌, ap, ◌∙◌}
use Prim.Native.Nat.{ℕ}
use lib.ListN.{length}
use Rattle.model.specs.Lists.{total, range}
use Rattle.model.specs.Clauses.{member_clauses}
use Rattle.counts.specs.Counts.{kept_count, entrant_count}
use Rattle.counts.proofs.Entrants.{total-last}
use native.Mathlib.Omega.{arith}
use Rattle.counts.proofs.entrant_count.Goals as goal

pub loop-j-preserved : goal.loop-j-preserved
loop-j-preserved c = (omega (arith, c.loop-j.invariant.0, c.kept_count-r.ensures.0, total-last (kept_count c.args.ns.now c.args.code c.args.count) c.loop-j.j), omega (arith, c.kept_count-r.ensures.1, c.loop-j.invariant.1))

pub returns : goal.returns
unfolding entrant_count
returns c = let e : c.loop-j.j ≡ length (member_clauses c.args.code c.args.count) = omega (arith, c.clause_count-j-end.ensures) in (c.loop-j.invariant.0 ∙ ap (λ (k : ℕ). total (kept_count c.args.ns.now c.args.code c.args.count) (range 0 k)) e, omega (arith, c.loop-j.invariant.1, e))
