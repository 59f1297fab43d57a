-- `constraint_in_range` is the test of one constraint. Assumes nothing.
use Prim.Native.Nat.{ℕ}
use mathlib.Core.Path.{◌≡◌, ◌∙◌, sym, ap}
use mathlib.Core.Bool.{Bool, true, false, ◌&&◌}
use mathlib.Core.List.{List}
use lib.ListN.{take}
use Rattle.std.specs.List.{list_all}
use Rattle.model.specs.Lists.{between, distinct}
use Rattle.model.specs.Clauses.{member_count, groups_of}
use Rattle.model.specs.Model.{constraint_in_range}
use Rattle.range.proofs.constraint_in_range.Goals as goal

module _ (s : ℕ) (ids : List ℕ) (j : ℕ) (a r : Bool) (e : r ≡ a) where
  first : r ≡ false → false ≡ (a && list_all (between 1 s) (take j ids) && distinct (take j ids))
  first f = rw (sym e ∙ f)

  module _ (t : r ≡ true) (k : ℕ) (q : k ≡ j) (b : Bool) (p : b ≡ list_all (between 1 s) (take k ids)) where
    second : b ≡ false → false ≡ (a && list_all (between 1 s) (take j ids) && distinct (take j ids))
    second f = rw (sym e ∙ t, sym (ap (λ (x : ℕ). list_all (between 1 s) (take x ids)) q) ∙ sym p ∙ f)

    third : b ≡ true → (d : Bool) → d ≡ distinct (take k ids) → d ≡ (a && list_all (between 1 s) (take j ids) && distinct (take j ids))
    third f d g =
        rw (sym e ∙ t, sym (ap (λ (x : ℕ). list_all (between 1 s) (take x ids)) q) ∙ sym p ∙ f) (g ∙ ap (λ (x : ℕ). distinct (take x ids)) q)

pub returns-then-not-code_in_range : goal.returns-then-not-code_in_range
unfolding groups_of constraint_in_range
returns-then-not-code_in_range c = first c.args.s c.args.c.groups (member_count c.args.c.code c.args.c.count) _ _ c.code_in_range.ensures c.if-not-code_in_range.true

pub returns-then-not-all_between : goal.returns-then-not-all_between
unfolding groups_of constraint_in_range
returns-then-not-all_between c = second c.args.s c.args.c.groups _ _ _ c.code_in_range.ensures c.if-not-code_in_range.false _ c.member_count-k.ensures _ c.all_between.ensures c.if-not-all_between.true

pub returns : goal.returns
unfolding groups_of constraint_in_range
returns c = third c.args.s c.args.c.groups _ _ _ c.code_in_range.ensures c.if-not-code_in_range.false _ c.member_count-k.ensures _ c.all_between.ensures c.if-not-all_between.false _ c.all_distinct.ensures
