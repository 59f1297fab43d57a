use mathlib.Core.Path.{◌≡◌, ap, ◌∙◌}
use mathlib.Core.List.{map}
use Prim.Native.Nat.{ℕ}
use lib.ListN.{take}
use Rattle.model.specs.Limits.{limits}
use Rattle.model.specs.Lists.{total, range}
use Rattle.counts.specs.Counts.{entrant_count, constraint_count}
use Rattle.terms.specs.Terms.{absent, member_number}
use Rattle.terms.proofs.Constraints.{first-front}
use Rattle.counts.proofs.Entrants.{total-last, count-first}
use native.Mathlib.Omega.{arith}
use Rattle.counts.proofs.constraint_count.Goals as goal

pub loop-e-preserved : goal.loop-e-preserved
loop-e-preserved c =
    let p = c.requires in
    let l = c.loop-e in
    let e = c.member_numbers.ensures in
    let first = ap (take c.args.k) e ∙ first-front (member_number l.e) absent limits.members c.args.k c.args.ms.now (omega arith) in (
      omega (
        arith,
        l.invariant.0,
        c.entrant_total-r.ensures.0,
        count-first c.member_numbers.result _ c.args.k c.args.code c.args.count p.members_below first,
        total-last (λ i. entrant_count (map (member_number i) (take c.args.k c.args.ms.now)) c.args.code c.args.count) l.e,
      ),
      omega (arith, c.entrant_total-r.ensures.1, l.invariant.1, p.count_len_bound),
    )

pub returns : goal.returns
unfolding constraint_count
returns c = let q : c.loop-e.e ≡ c.args.n = omega arith in (c.loop-e.invariant.0 ∙ ap (λ (m : ℕ). total (λ i. entrant_count (map (member_number i) (take c.args.k c.args.ms.now)) c.args.code c.args.count) (range 0 m)) q, omega (arith, c.loop-e.invariant.1))
