-- `put_clause` writes a clause of a constraint in the rest of a buffer, where there is room. Assumes nothing.
use Rattle.std.proofs.Common.{ℕ, List, length, sym, ap, ◌∙◌, arith}
use Rattle.text.specs.Put.{placed, place_after}
use Rattle.text.proofs.Writes.{put, tail, same_text, lent_length}
use Rattle.text.proofs.Clauses.{live, three-kept}
use Rattle.terms.specs.Terms.{clause_terms}
use Rattle.terms.proofs.Clauses.{literals-counted, clause-size, going, not_going}
use Rattle.terms.proofs.put_clause.Goals as goal

pub clause_term-x-requires : goal.clause_term-x-requires
clause_term-x-requires c = literals-counted c.args.ns.now c.args.code c.args.count c.args.j c.literal_count-k.ensures

pub clause_term-y-requires : goal.clause_term-y-requires
clause_term-y-requires c = literals-counted c.args.ns.now c.args.code c.args.count c.args.j c.literal_count-k.ensures

pub clause_term-z-requires : goal.clause_term-z-requires
clause_term-z-requires c = literals-counted c.args.ns.now c.args.code c.args.count c.args.j c.literal_count-k.ensures

pub returns-then-k-le3 : goal.returns-then-k-le3
returns-then-k-le3 c =
    let ts = clause_terms c.args.ns.now c.args.code c.args.count c.args.j in
    let e =
    three-kept ts _ _ _ (omega (arith, clause-size c.args.ns.now c.args.code c.args.count c.args.j (literals-counted c.args.ns.now c.args.code c.args.count c.args.j c.literal_count-k.ensures), c.if-k-le3.true)) c.clause_term-x.ensures c.clause_term-y.ensures
    c.clause_term-z.ensures in record { value = c.put_three.ensures.value ∙ ap (λ (t : List ℕ). place_after t c.args.at (length c.args.buf.now)) e; buf_after = c.put_three.ensures.buf_after ∙ ap (λ (t : List ℕ). placed t c.args.at c.args.buf.now) e }

pub clause_goes-requires : goal.clause_goes-requires
clause_goes-requires c = literals-counted c.args.ns.now c.args.code c.args.count c.args.j c.literal_count-k.ensures

pub slice_bounds-write_clause-count : goal.slice_bounds-write_clause-count
slice_bounds-write_clause-count c =
    let g = going (clause_terms c.args.ns.now c.args.code c.args.count c.args.j) c.args.at (length c.args.buf.now) (sym c.clause_goes.ensures ∙ c.if-clause_goes.true) in
    omega (arith, g.1)

pub slice_bounds-write_clause-start : goal.slice_bounds-write_clause-start
slice_bounds-write_clause-start c = (let g = going (clause_terms c.args.ns.now c.args.code c.args.count c.args.j) c.args.at (length c.args.buf.now) (sym c.clause_goes.ensures ∙ c.if-clause_goes.true) in omega (arith, g.1))

pub write_clause-n-requires : goal.write_clause-n-requires
write_clause-n-requires c =
    let g = going (clause_terms c.args.ns.now c.args.code c.args.count c.args.j) c.args.at (length c.args.buf.now) (sym c.clause_goes.ensures ∙ c.if-clause_goes.true) in
    record { k_value = literals-counted c.args.ns.now c.args.code c.args.count c.args.j c.literal_count-k.ensures; j_in_bounds = omega (arith, g.1, lent_length c.args.at c.args.buf.now) }

pub returns-then-clause_goes : goal.returns-then-clause_goes
returns-then-clause_goes c =
    let ts = clause_terms c.args.ns.now c.args.code c.args.count c.args.j in
    let g = going ts c.args.at (length c.args.buf.now) (sym c.clause_goes.ensures ∙ c.if-clause_goes.true) in
    let both = put (same_text (sym (live ts g.0)) (tail c.args.at (omega (arith, g.1)) c.write_clause-n.ensures)) in
    record { value = both.0; buf_after = both.1 }

pub returns : goal.returns
returns c =
    let both = not_going (clause_terms c.args.ns.now c.args.code c.args.count c.args.j) c.args.at c.args.buf.now (sym c.clause_goes.ensures ∙ c.if-clause_goes.false) in
    record { value = both.0; buf_after = both.1 }
