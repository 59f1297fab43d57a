-- `close` is the definition's answer: each refusal by its test, in order, then the words. Assumes nothing.
use native.Mathlib.Omega.{arith}
use borrow.Author.Tests.{not-true, not-false}
use Rattle.model.specs.Close.{assignment_of}
use Rattle.model.proofs.Arrays.{whole_of}
use Rattle.numbering.proofs.Models.{first-is, outputs_are, differences-are, variables-is}
use Rattle.solution.proofs.Closing.{few-entrants, few-groups, few-constraints, close-unsettled, close-26, close-27, close-27-unsaid, close-28, close-0, found-is, verdict-is}
use Rattle.solution.proofs.Draw.{no-draw, a-draw}
use Rattle.solution.proofs.close.Goals as goal

-- the clauses by their names
named : {A B : Type 0} → A × B → record { value : A; drawn : B }
named p = record { value = p.0; drawn = p.1 }

pub returns-then-refusal-ne0 : goal.returns-then-refusal-ne0
returns-then-refusal-ne0 c = named (no-draw c.args.m c.args.r c.args.values.now _ (close-unsettled c.args.m c.args.r c.args.values.now _ c.unsettled-refusal.ensures _ c.refused.ensures c.if-refusal-ne0.true) _ c.refused.ensures c.if-refusal-ne0.true)

pub returns-then-values-v : goal.returns-then-values-v
returns-then-values-v c = named (no-draw c.args.m c.args.r c.args.values.now _ (close-26 c.args.m c.args.r c.args.values.now _ c.unsettled-refusal.ensures c.if-refusal-ne0.false _ c.refused-then-values-v.ensures _
    (variables-is c.args.m _ c.of_model-v.ensures) (λ e. omega arith)) _ c.refused-then-values-v.ensures (λ z. omega arith))

pub returns-then-not-r : goal.returns-then-not-r
returns-then-not-r c = named (no-draw c.args.m c.args.r c.args.values.now _ (close-27 c.args.m c.args.r c.args.values.now _ c.unsettled-refusal.ensures c.if-refusal-ne0.false _ (variables-is c.args.m _ c.of_model-v.ensures) (omega arith)
    _ c.refused-then-not-r.ensures (not-true _ c.if-not-r.true)) _ c.refused-then-not-r.ensures (λ z. omega arith))

pub returns-then-not-all_said : goal.returns-then-not-all_said
returns-then-not-all_said c = named (no-draw c.args.m c.args.r c.args.values.now _ (close-27-unsaid c.args.m c.args.r c.args.values.now _ c.unsettled-refusal.ensures c.if-refusal-ne0.false _ (variables-is c.args.m _ c.of_model-v.ensures) (omega arith)
    (not-false _ c.if-not-r.false) _ c.refused-then-not-all_said.ensures _ c.all_said.ensures c.if-not-all_said.true) _ c.refused-then-not-all_said.ensures (λ z. omega arith))

pub words-found-requires : goal.words-found-requires
words-found-requires c =
    let e = c.unsettled-refusal.ensures in
    let z = c.if-refusal-ne0.false in record { n_le_entrants = (few-entrants c.args.m c.args.r c.args.values.now _ e z, few-groups c.args.m c.args.r c.args.values.now _ e z); first_value = first-is c.args.m _ c.of_model-v.ensures }

pub clauses_hold-requires : goal.clauses_hold-requires
clauses_hold-requires c =
    let e = c.unsettled-refusal.ensures in
    let z = c.if-refusal-ne0.false in
    let v = c.of_model-v.ensures in record {
      n_le_entrants = (
        few-entrants c.args.m c.args.r c.args.values.now _ e z,
        few-groups c.args.m c.args.r c.args.values.now _ e z,
        few-constraints c.args.m c.args.r c.args.values.now _ e z,
      );
      first_value = (first-is c.args.m _ v, outputs_are c.args.m _ v, differences-are c.args.m _ v);
    }

pub returns-then-not-clauses_hold : goal.returns-then-not-clauses_hold
returns-then-not-clauses_hold c =
    let values = c.args.values.now in
    let e = c.unsettled-refusal.ensures in
    let z = c.if-refusal-ne0.false in
    let w = whole_of c.args.m c.whole.ensures in
    let t = verdict-is c.args.m (assignment_of values) c.words-found.result c.words-found.ensures _ e z w _ _ c.clauses_hold.ensures c.if-not-clauses_hold.true in
    named (no-draw c.args.m c.args.r c.args.values.now _ (close-28 c.args.m c.args.r values _ e z _ (variables-is c.args.m _ c.of_model-v.ensures) (omega arith) (not-false _ c.if-not-r.false) _ c.all_said.ensures c.if-not-all_said.false _
    c.refused-then-not-clauses_hold.ensures t) _ c.refused-then-not-clauses_hold.ensures (λ z. omega arith))

pub returns : goal.returns
returns c =
    let values = c.args.values.now in
    let e = c.unsettled-refusal.ensures in
    let z = c.if-refusal-ne0.false in
    let w = whole_of c.args.m c.whole.ensures in
    let t = verdict-is c.args.m (assignment_of values) c.words-found.result c.words-found.ensures _ e z w _ _ c.clauses_hold.ensures c.if-not-clauses_hold.false in
    named (a-draw c.args.m c.args.r c.args.values.now _ (close-0 c.args.m c.args.r values _ e z _ (variables-is c.args.m _ c.of_model-v.ensures) (omega arith) (not-false _ c.if-not-r.false) _ c.all_said.ensures c.if-not-all_said.false _
    (found-is c.args.m (assignment_of values) c.words-found.result c.words-found.ensures) t) w)
