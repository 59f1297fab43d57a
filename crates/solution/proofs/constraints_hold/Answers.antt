use mathlib.Core.Path.{◌≡◌, sym, ◌∙◌}
use mathlib.Core.List.{List}
use native.Mathlib.Omega.{arith}
use lib.ListN.{get_or, take}
use Rattle.std.specs.List.{list_all}
use Rattle.model.specs.declared.Group.{Group}
use Rattle.model.specs.declared.Constraint.{Constraint}
use Rattle.model.specs.Lists.{range}
use Rattle.model.specs.Model.{group_at, member_at}
use Rattle.model.specs.Difference.{is_apart}
use Rattle.model.specs.Cnf.{differing}
use Rattle.model.specs.Close.{assignment_of}
use Rattle.model.proofs.Loops.{range-goes, range-stops}
use Rattle.difference.specs.Pair.{apart_of, differing_of}
use Rattle.difference.proofs.Groups.{apart-is, differing-is}
use Rattle.solution.specs.Holds.{constraint_holds_at}
use Rattle.solution.proofs.Constraints.{table-holds, constraint-holds-at}
use Rattle.solution.proofs.constraints_hold.Goals as goal

pair : (t : List Group) (l : Constraint) (f g : Group) → f ≡ group_at t (get_or l.groups 0 0) → g ≡ group_at t (get_or l.groups 1 0)
    → (apart_of l f g ≡ is_apart t l) × (differing_of l f g ≡ differing t l)
unfolding member_at
pair t l f g p q = rw (p, q) (apart-is t l, differing-is t l)

pub returns-then-not-constraint_holds : goal.returns-then-not-constraint_holds
returns-then-not-constraint_holds c =
    let values = assignment_of c.args.values.now in
    let t = take c.args.s c.args.groups.now in
    let j = c.loop-j.j in
    let p = constraint_holds_at values t (take c.args.c c.args.constraints.now) c.args.words.now c.args.n in
    let two = pair t _ _ _ c.group_at-f.ensures c.group_at-g.ensures in
    let e = constraint-holds-at values t c.args.constraints.now c.args.c c.args.words.now c.args.n j c.loop-j-test.true c.args.differences.now (omega arith) c.requires.differences_value _ c.wide-x.ensures.0 (omega arith) _ _
    (table-holds values _ _ c.args.words.now c.args.n _ _ t (c.apart_of-apart.ensures ∙ two.0) (c.differing_of-free.ensures ∙ two.1) _ c.constraint_holds.ensures) in
    sym (range-stops p (list_all p (range 0 c.args.c)) c.args.c j c.loop-j.invariant c.loop-j-test.true (sym e ∙ c.if-not-constraint_holds.true))

pub loop-j-preserved : goal.loop-j-preserved
loop-j-preserved c =
    let values = assignment_of c.args.values.now in
    let t = take c.args.s c.args.groups.now in
    let j = c.loop-j.j in
    let p = constraint_holds_at values t (take c.args.c c.args.constraints.now) c.args.words.now c.args.n in
    let two = pair t _ _ _ c.group_at-f.ensures c.group_at-g.ensures in
    let e = constraint-holds-at values t c.args.constraints.now c.args.c c.args.words.now c.args.n j c.loop-j-test.true c.args.differences.now (omega arith) c.requires.differences_value _ c.wide-x.ensures.0 (omega arith) _ _
    (table-holds values _ _ c.args.words.now c.args.n _ _ t (c.apart_of-apart.ensures ∙ two.0) (c.differing_of-free.ensures ∙ two.1) _ c.constraint_holds.ensures) in
    range-goes p (list_all p (range 0 c.args.c)) c.args.c j c.loop-j.invariant c.loop-j-test.true (sym e ∙ c.if-not-constraint_holds.false)
