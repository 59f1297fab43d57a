use Rattle.std.proofs.Common.{◌<◌, length, sym, ap, append_assoc, arith, length-set}
use Rattle.model.specs.declared.Term.{Term}
use Rattle.model.specs.declared.Term.TheVariants.{Fails}
use Rattle.text.specs.Put.{term_text}
use Rattle.text.proofs.Writes.{wrote, then, two, same_text, kept}
use Rattle.terms.specs.Terms.{clause_terms}
use Rattle.text.proofs.Clauses.{terms_room, terms_next, terms_all}
use Rattle.terms.proofs.Clauses.{clause-size}
use Rattle.terms.proofs.write_clause.Goals as goal

pub loop-i-preserved : goal.loop-i-preserved
loop-i-preserved c =
    let ts = clause_terms c.args.ns.now c.args.code c.args.count c.args.j in
    let l = c.loop-i in
    let size = clause-size c.args.ns.now c.args.code c.args.count c.args.j c.requires.k_value in
    let in-clause : l.i < length ts = omega (arith, size, c.loop-i-test.true) in
    let put = c.put_term-n.ensures in
    let term = wrote put.value put.buf_after (omega (
      arith,
      ap (λ (t : Term). length (term_text t)) c.clause_term.ensures,
      terms_room ts l.i c.args.k Fails c.loop-i-test.true in-clause,
      ap length (terms_all ts c.args.k (omega (arith, size))),
      l.invariant.next,
      kept l.invariant,
      c.requires.j_in_bounds,
    )) in
    same_text (sym (terms_next ts l.i Fails in-clause)) (then l.invariant (same_text (ap term_text c.clause_term.ensures) term))

pub bounds-buf-n : goal.bounds-buf-n
bounds-buf-n c =
    let l = c.loop-i in
    omega (arith, ap length (terms_all (clause_terms c.args.ns.now c.args.code c.args.count c.args.j) l.i (omega (arith, clause-size c.args.ns.now c.args.code c.args.count c.args.j c.requires.k_value))), l.invariant.next, kept l.invariant, c.requires.j_in_bounds)

pub bounds-buf-n-2 : goal.bounds-buf-n-2
bounds-buf-n-2 c =
    let l = c.loop-i in
    rw length-set
    (omega (arith, ap length (terms_all (clause_terms c.args.ns.now c.args.code c.args.count c.args.j) l.i (omega (arith, clause-size c.args.ns.now c.args.code c.args.count c.args.j c.requires.k_value))), l.invariant.next, kept l.invariant, c.requires.j_in_bounds))

pub returns : goal.returns
returns c =
    let l = c.loop-i in
    let all = terms_all (clause_terms c.args.ns.now c.args.code c.args.count c.args.j) l.i (omega (arith, clause-size c.args.ns.now c.args.code c.args.count c.args.j c.requires.k_value)) in
    rw append_assoc (then (same_text all l.invariant) (two _ _ _ _ (omega (arith, ap length all, kept l.invariant))))
