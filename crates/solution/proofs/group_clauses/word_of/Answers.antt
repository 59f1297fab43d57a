use mathlib.Core.Bool.{Bool, true, false, cond}
use mathlib.Core.Path.{◌≡◌, refl, sym, ap, ◌∙◌}
use Prim.Native.Nat.{◌+◌, ◌-◌, ◌^◌}
use native.Mathlib.Nat.{pow-le-pow_right}
use native.Mathlib.Omega.{arith}
use Rattle.model.specs.Close.{assignment_of}
use Rattle.model.specs.Limits.{limits}
use Rattle.model.specs.Words.{word_where}
use Rattle.model.proofs.Words.{shifted, where_lt}
use Rattle.solution.specs.Holds.{word_of, in_group}
use Rattle.solution.proofs.Sets.{word_next}
use Rattle.solution.proofs.group_clauses.word_of.Goals as goal
use Rattle.solution.proofs.group_clauses.word_of.Goals.{then-in_group, else-in_group}

pub loop-e-init : goal.loop-e-init
unfolding word_of word_where
loop-e-init c = refl

pub overflow_add-w : goal.overflow_add-w
unfolding word_of
overflow_add-w c =
    let e = c.loop-e.e in
    omega (
      arith,
      shifted e (omega arith),
      where_lt (in_group (assignment_of c.args.values.now) c.args.g.now c.args.v) e,
      c.loop-e.invariant,
      pow-le-pow_right {n = 2} (omega arith) {i = e} {j = limits.word - 1} (omega arith),
    )

pub loop-e-preserved : goal.loop-e-preserved
loop-e-preserved c =
    let e = c.loop-e.e in
    let a = assignment_of c.args.values.now in
    let before = word_of e a c.args.g.now c.args.v in
    let next = λ (b : Bool) (k : in_group a c.args.g.now c.args.v e ≡ b). word_next a c.args.g.now c.args.v e ∙ ap (λ (b : Bool). before + cond b (2 ^ e) 0) k in
    elim c.if-in_group.branch [
      | then-in_group w ↦ w.w-is ∙ omega (arith, shifted e (omega arith), c.loop-e.invariant, next true (sym c.in_group.ensures ∙ w.if-in_group.true))
      | else-in_group w ↦ w.w-is ∙ omega (arith, c.loop-e.invariant, next false (sym c.in_group.ensures ∙ w.if-in_group.false))
    ]
