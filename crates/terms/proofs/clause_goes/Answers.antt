use Rattle.std.proofs.Common.{length, ap, ◌∙◌, arith}
use Rattle.model.specs.declared.Term.{Term}
use Rattle.model.specs.declared.Term.TheVariants.{Fails}
use Rattle.model.specs.Totalizer.{holds}
use Rattle.model.proofs.Loops.{any_next, any-end}
use Rattle.text.specs.Put.{term_text}
use Rattle.text.proofs.Clauses.{terms_room, terms_all}
use Rattle.terms.specs.Terms.{clause_terms}
use Rattle.terms.proofs.Clauses.{clause-size, ends-in, is-dead, too_long_lem}
use Rattle.terms.proofs.clause_goes.Goals as goal

pub returns-then-len-at : goal.returns-then-len-at
returns-then-len-at c = too_long_lem (clause_terms c.args.ns.now c.args.code c.args.count c.args.j) c.args.at c.args.len (omega (arith, c.if-len-at.true))

pub returns-then-is_true : goal.returns-then-is_true
returns-then-is_true c =
    let ts = clause_terms c.args.ns.now c.args.code c.args.count c.args.j in
    is-dead ts c.args.at c.args.len
    (c.loop-i.invariant.0 ∙ any_next Fails holds ts c.loop-i.i (omega (arith, c.loop-i-test.true, clause-size c.args.ns.now c.args.code c.args.count c.args.j c.requires))
    ∙ rw (← c.clause_term-t.ensures, ← c.is_true.ensures, c.if-is_true.true))

pub returns-then-left-n : goal.returns-then-left-n
returns-then-left-n c =
    let ts = clause_terms c.args.ns.now c.args.code c.args.count c.args.j in
    let l = c.loop-i in
    too_long_lem ts c.args.at c.args.len
    (omega (
      arith,
      c.if-left-n.true,
      c.term_length-n.ensures.0,
      ap (λ (t : Term). length (term_text t)) c.clause_term-t.ensures,
      terms_room ts l.i c.args.k Fails c.loop-i-test.true (omega (arith, clause-size c.args.ns.now c.args.code c.args.count c.args.j c.requires, c.loop-i-test.true)),
      ap length (terms_all ts c.args.k (omega (arith, clause-size c.args.ns.now c.args.code c.args.count c.args.j c.requires))),
      l.invariant.1,
      c.if-len-at.false,
    ))

pub returns : goal.returns
returns c =
    let ts = clause_terms c.args.ns.now c.args.code c.args.count c.args.j in
    let size = clause-size c.args.ns.now c.args.code c.args.count c.args.j c.requires in
    let l = c.loop-i in
    ends-in ts c.args.at c.args.len (l.invariant.0 ∙ any-end holds ts l.i (omega (arith, size))) l.left (omega arith)
    (omega (arith, ap length (terms_all ts l.i (omega (arith, size))), l.invariant.1))
