use Rattle.std.proofs.Common.{sym, ◌∙◌, arith}
use Rattle.model.specs.Totalizer.{holds}
use Rattle.model.proofs.Loops.{any-end}
use Rattle.terms.specs.Terms.{clause_terms}
use Rattle.terms.proofs.Clauses.{literals-counted, clause-size}
use Rattle.terms.proofs.clause_true.Goals as goal

pub clause_term-requires : goal.clause_term-requires
clause_term-requires c = literals-counted c.args.ns.now c.args.code c.args.count c.args.j c.literal_count-k.ensures

pub returns : goal.returns
returns c =
    let size = clause-size c.args.ns.now c.args.code c.args.count c.args.j (literals-counted c.args.ns.now c.args.code c.args.count c.args.j c.literal_count-k.ensures) in
    sym (c.loop-i.invariant ∙ any-end holds (clause_terms c.args.ns.now c.args.code c.args.count c.args.j) c.loop-i.i (omega (arith, size)))
