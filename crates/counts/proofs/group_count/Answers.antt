-- `group_count` is how many clauses a group's totalizer has. Assumes nothing.
use mathlib.Core.Path.{◌≡◌, sym, ◌∙◌}
use mathlib.Core.Bool.{true}
use Prim.Native.Nat.{ℕ, ◌+◌, ◌-◌, ◌≤◌}
use native.Mathlib.Nat.{le_refl}
use native.Mathlib.Omega.{arith}
use borrow.Author.Tests.{not-true, not-false}
use Rattle.model.specs.declared.Group.{Group}
use Rattle.model.specs.Limits.{limits}
use Rattle.model.specs.Totalizer.{tree_clause_count}
use Rattle.model.specs.Cnf.{group_clause_count}
use Rattle.encoding_laws.proofs.Fixpoint.{SettledAmong}
use Rattle.encoding_laws.proofs.Bounds.{group-clauses-bound}
use Rattle.numbering.specs.declared.Totalizer.{Totalizer}
use Rattle.numbering.specs.Numbering.{totalizer_of}
use Rattle.numbering.proofs.Totalizers.{totalizer-parts}
use Rattle.counts.proofs.Groups.{none-clauses, some-clauses, high-few}
use Rattle.counts.proofs.group_count.Goals as goal

-- the sum of the three numbers, and that it is small
module _ (g : Group) (s : SettledAmong limits.entrants g) (t : Totalizer) (e : t ≡ totalizer_of g) (x : t.exists ≡ true)
    (k : ℕ) (q : k ≡ tree_clause_count t.size) where
  count-is : k + t.low + (t.size - t.high) ≡ group_clause_count g
  count-is =
      let p = totalizer-parts g t e in
      rw (q, p.0, p.1, p.2) (sym (some-clauses g (sym p.3 ∙ x)))

  small : k + t.low + (t.size - t.high) ≤ limits.block
  small = omega (arith, count-is, group-clauses-bound limits.entrants (le_refl limits.entrants) g s)

  high-in : t.high ≤ t.size
  high-in = let p = totalizer-parts g t e in omega (arith, p.0, p.2, high-few g s)

pub returns-then-not-t : goal.returns-then-not-t
returns-then-not-t c =
    let g = c.args.g in
    let p = totalizer-parts g _ c.totalizer_of-t.ensures.value in
    (sym (none-clauses g (sym p.3 ∙ not-true _ c.if-not-t.true)), omega arith)

pub overflow_add-result : goal.overflow_add-result
overflow_add-result c =
    omega (arith, small c.args.g c.requires _ c.totalizer_of-t.ensures.value (not-false _ c.if-not-t.false) _ c.tree_count.ensures)

pub overflow_sub-result : goal.overflow_sub-result
overflow_sub-result c = high-in c.args.g c.requires _ c.totalizer_of-t.ensures.value (not-false _ c.if-not-t.false) _ c.tree_count.ensures

pub overflow_add-result-2 : goal.overflow_add-result-2
overflow_add-result-2 c =
    omega (arith, small c.args.g c.requires _ c.totalizer_of-t.ensures.value (not-false _ c.if-not-t.false) _ c.tree_count.ensures)

pub returns : goal.returns
returns c =
    let g = c.args.g in
    let e = c.totalizer_of-t.ensures.value in
    let x = not-false _ c.if-not-t.false in
    let q = c.tree_count.ensures in
    (count-is g c.requires _ e x _ q, small g c.requires _ e x _ q)
