-- `clauses_hold` judges the groups, then the constraints. Assumes nothing.
use mathlib.Core.Bool.{Bool, ◌&&◌}
use mathlib.Core.Path.{sym, ap, ◌∙◌}
use lib.ListN.{take}
use Rattle.std.specs.List.{list_all}
use Rattle.model.specs.Lists.{range}
use Rattle.model.specs.Close.{assignment_of}
use Rattle.solution.specs.Holds.{constraint_holds_at, clauses_hold}
use Rattle.solution.proofs.clauses_hold.Goals as goal

pub returns-then-not-groups_hold : goal.returns-then-not-groups_hold
unfolding clauses_hold
returns-then-not-groups_hold c =
    let rest = list_all (constraint_holds_at (assignment_of c.args.values.now) (take c.args.s c.args.groups.now) (take c.args.c c.args.constraints.now) c.args.words.now c.args.n) (range 0 c.args.c) in
    sym (ap (λ (b : Bool). b && rest) (sym c.groups_hold.ensures ∙ c.if-not-groups_hold.true))

pub returns : goal.returns
unfolding clauses_hold
returns c =
    let rest = list_all (constraint_holds_at (assignment_of c.args.values.now) (take c.args.s c.args.groups.now) (take c.args.c c.args.constraints.now) c.args.words.now c.args.n) (range 0 c.args.c) in
    c.constraints_hold.ensures ∙ sym (ap (λ (b : Bool). b && rest) (sym c.groups_hold.ensures ∙ c.if-not-groups_hold.false))
