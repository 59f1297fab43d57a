use mathlib.Core.Path.{◌≡◌, ap, ◌∙◌}
use mathlib.Core.List.{map}
use Prim.Native.Nat.{ℕ}
use lib.ListN.{length, take}
use Rattle.std.specs.List.{flat_map}
use Rattle.model.specs.Lists.{range}
use Rattle.model.specs.Limits.{limits}
use Rattle.terms.specs.Terms.{absent, member_number}
use Rattle.terms.proofs.Constraints.{first-front}
use Rattle.cnf.specs.Parts.{entrant_text, constraint_text}
use Rattle.text.proofs.Writes.{turn, room, same_text}
use Rattle.cnf.proofs.Constraints.{entrant_first}
use native.Mathlib.Omega.{arith}
use Rattle.cnf.proofs.put_constraint.Goals as goal

pub put_entrant-x-requires : goal.put_entrant-x-requires
unfolding constraint_text
put_entrant-x-requires c =
    let p = c.requires in
    let l = c.loop-e in
    let e = c.member_numbers.ensures in
    let first = ap (take c.args.k) e ∙ first-front (member_number l.e) absent limits.members c.args.k c.args.ms.now (omega arith) in
    omega (
      arith,
      ap length (entrant_first _ _ c.args.k c.args.code c.args.count p.members_below first),
      room (λ i. entrant_text (map (member_number i) (take c.args.k c.args.ms.now)) c.args.code c.args.count) l.e c.args.n l.invariant c.loop-e-test.true p.n_in_bounds,
    )

pub loop-e-preserved : goal.loop-e-preserved
loop-e-preserved c =
    let p = c.requires in
    let l = c.loop-e in
    let e = c.member_numbers.ensures in
    let first = ap (take c.args.k) e ∙ first-front (member_number l.e) absent limits.members c.args.k c.args.ms.now (omega arith) in
    turn (λ i. entrant_text (map (member_number i) (take c.args.k c.args.ms.now)) c.args.code c.args.count) l.e l.invariant
    (same_text (entrant_first _ _ c.args.k c.args.code c.args.count p.members_below first) c.put_entrant-x.ensures)

pub returns : goal.returns
unfolding constraint_text
returns c = let q : c.loop-e.e ≡ c.args.n = omega arith in same_text (ap (λ (m : ℕ). flat_map (λ i. entrant_text (map (member_number i) (take c.args.k c.args.ms.now)) c.args.code c.args.count) (range 0 m)) q) c.loop-e.invariant
