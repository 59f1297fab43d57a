use mathlib.Core.Path.{◌≡◌, ap}
use mathlib.Core.List.{List}
use Prim.Native.Nat.{ℕ}
use lib.ListN.{length}
use Rattle.std.specs.List.{flat_map}
use Rattle.model.specs.Lists.{range}
use Rattle.model.specs.Clauses.{member_clauses}
use Rattle.text.specs.Put.{kept_text}
use Rattle.terms.specs.Terms.{clause_terms}
use Rattle.cnf.specs.Parts.{entrant_text}
use Rattle.text.proofs.Writes.{turn, room, wrote, same_text}
use native.Mathlib.Omega.{arith}
use Rattle.cnf.proofs.put_entrant.Goals as goal

pub loop-j-preserved : goal.loop-j-preserved
unfolding entrant_text
loop-j-preserved c =
    let l = c.loop-j in
    let w = c.put_clause-n.ensures in
    let text : ℕ → List ℕ = λ i. kept_text (clause_terms c.args.ns.now c.args.code c.args.count i) in
    let r = room text l.j (length (member_clauses c.args.code c.args.count)) l.invariant (omega (arith, c.clause_count-j-end.ensures)) c.requires in
    turn text l.j l.invariant (wrote w.value w.buf_after r)

pub returns : goal.returns
unfolding entrant_text
returns c = let e : c.loop-j.j ≡ length (member_clauses c.args.code c.args.count) = omega (arith, c.clause_count-j-end.ensures) in same_text (ap (λ (k : ℕ). flat_map (λ i. kept_text (clause_terms c.args.ns.now c.args.code c.args.count i)) (range 0 k)) e) c.loop-j.invariant
