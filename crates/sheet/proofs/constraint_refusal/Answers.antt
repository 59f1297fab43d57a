-- `constraint_refusal` judges a constraint line. Assumes nothing.
use Rattle.model.specs.Limits.{limits}
use Prim.Native.Nat.{ℕ, ◌≤◌, ◌+◌, ◌/◌}
use mathlib.Core.Path.{◌≡◌, refl, ◌∙◌, sym, ap₂}
use mathlib.Core.Bool.{Bool, true, false, cond, not}
use mathlib.Core.List.{List}
use lib.Dec.{eqb}
use lib.ListN.{length, take}
use Rattle.std.specs.List.{list_all}
use Rattle.model.specs.Lists.{between, distinct, stop}
use Rattle.model.specs.Clauses.{groups_of}
use Rattle.model.specs.Model.{code_in_range}
use Rattle.model.specs.Sheet.{value_at, count_from, group_count, first_group, constraint_from, constraint_refusal}
use Rattle.model.proofs.Lists.{true-T}
use Rattle.model.proofs.Codes.{member-bound}
use Rattle.sheet.proofs.Laws.{first-is}
use native.Mathlib.Omega.{arith}
use borrow.Author.Tests.{eq-eqb, ne_eqb}
use Rattle.sheet.proofs.constraint_refusal.Goals as goal

first-le : (l : List ℕ) → first_group l ≤ 3
unfolding first_group
first-le l = go (eqb (value_at l 1) 6)
  where
    go : (b : Bool) → cond b 3 2 ≤ 3
    go true = omega arith
    go false = omega arith

groups_are : (l : List ℕ) → groups_of (constraint_from l) ≡ take (group_count l) (constraint_from l).groups
unfolding groups_of group_count constraint_from
groups_are l = refl

-- what the tests of the code, of the count and of the groups have told
module _ (l : List ℕ) (code count : ℕ) (p : code ≡ value_at l 1) (q : count ≡ count_from l) (r : Bool) (e : r ≡ code_in_range code count) (t : r ≡ true) where
  in_range_lem : code_in_range (value_at l 1) (count_from l) ≡ true
  in_range_lem = sym (ap₂ code_in_range p q) ∙ sym e ∙ t

  small : group_count l ≤ limits.members
  unfolding group_count
  small = member-bound (value_at l 1) (count_from l) (true-T _ in_range_lem)

  module _ (s kind first k : ℕ) (a : kind ≡ value_at l 0) (kind_3 : kind ≡ 3) (b : first ≡ first_group l) (c : k ≡ group_count l) (fields : length l / 4 ≡ first + k)
      (groups : List ℕ) (d : groups ≡ (constraint_from l).groups) (x : Bool) (f : x ≡ list_all (between 1 s) (take k groups)) where
    judged : constraint_refusal s l ≡ stop (not (list_all (between 1 s) (take k groups))) 7 (stop (not (distinct (take k groups))) 9 0)
    unfolding constraint_refusal
    judged =
        rw (eq-eqb (value_at l 0) 3 (sym a ∙ kind_3), in_range_lem, eq-eqb (length l / 4) (first_group l + group_count l) (fields ∙ ap₂ (λ (u v : ℕ). u + v) b c), groups_are l, c, d)

    seven : x ≡ false → 7 ≡ constraint_refusal s l
    seven g = sym (judged ∙ rw (sym f ∙ g))

    nine : x ≡ true → (y : Bool) → y ≡ distinct (take k groups) → y ≡ false → 9 ≡ constraint_refusal s l
    nine g y h i = sym (judged ∙ rw (sym f ∙ g, sym h ∙ i))

    none : x ≡ true → (y : Bool) → y ≡ distinct (take k groups) → y ≡ true → 0 ≡ constraint_refusal s l
    none g y h i = sym (judged ∙ rw (sym f ∙ g, sym h ∙ i))

pub returns-then-value-ne3 : goal.returns-then-value-ne3
unfolding constraint_refusal
returns-then-value-ne3 c = simp (← c.value.ensures, ne_eqb _ _ c.if-value-ne3.true)

pub returns-then-not-code_in_range : goal.returns-then-not-code_in_range
unfolding constraint_refusal
returns-then-not-code_in_range c = simp (← c.value.ensures, eq-eqb _ _ c.if-value-ne3.false, ← c.value-code.ensures, ← c.count_from.ensures, ← c.code_in_range.ensures, c.if-not-code_in_range.true)

pub overflow_add-first_group : goal.overflow_add-first_group
overflow_add-first_group c = let h = small c.args.line.now c.value-code.result c.count_from.result c.value-code.ensures c.count_from.ensures c.code_in_range.result c.code_in_range.ensures c.if-not-code_in_range.false in omega (arith, first-le c.args.line.now, (first-is _ _ _ c.value-code.ensures c.first_group.ensures), c.group_count-k.ensures)

pub returns-then-line-first_group : goal.returns-then-line-first_group
unfolding constraint_refusal
returns-then-line-first_group c = simp (← c.value.ensures, eq-eqb _ _ c.if-value-ne3.false, ← c.value-code.ensures, ← c.count_from.ensures, ← c.code_in_range.ensures, c.if-not-code_in_range.false, ← c.group_count-k.ensures, ← (first-is _ _ _ c.value-code.ensures c.first_group.ensures), ne_eqb _ _ c.if-line-first_group.true)

pub read_numbers-groups-requires : goal.read_numbers-groups-requires
read_numbers-groups-requires c =
    let h = small c.args.line.now c.value-code.result c.count_from.result c.value-code.ensures c.count_from.ensures c.code_in_range.result c.code_in_range.ensures c.if-not-code_in_range.false in record { k_le_members = (omega (arith, c.group_count-k.ensures), c.group_count-k.ensures, c.value-code.ensures); constraint_line = (c.requires, sym c.value.ensures ∙ c.if-value-ne3.false, c.if-line-first_group.false ∙ ap₂ (λ (u v : ℕ). u + v) (first-is _ _ _ c.value-code.ensures c.first_group.ensures) c.group_count-k.ensures) }

pub returns-then-not-all_between : goal.returns-then-not-all_between
returns-then-not-all_between c = seven c.args.line.now c.value-code.result c.count_from.result c.value-code.ensures c.count_from.ensures c.code_in_range.result c.code_in_range.ensures c.if-not-code_in_range.false c.args.s c.value.result c.first_group.result c.group_count-k.result c.value.ensures c.if-value-ne3.false (first-is _ _ _ c.value-code.ensures c.first_group.ensures) c.group_count-k.ensures c.if-line-first_group.false c.read_numbers-groups.result c.read_numbers-groups.ensures c.all_between.result c.all_between.ensures c.if-not-all_between.true

pub returns-then-not-all_distinct : goal.returns-then-not-all_distinct
returns-then-not-all_distinct c = nine c.args.line.now c.value-code.result c.count_from.result c.value-code.ensures c.count_from.ensures c.code_in_range.result c.code_in_range.ensures c.if-not-code_in_range.false c.args.s c.value.result c.first_group.result c.group_count-k.result c.value.ensures c.if-value-ne3.false (first-is _ _ _ c.value-code.ensures c.first_group.ensures) c.group_count-k.ensures c.if-line-first_group.false c.read_numbers-groups.result c.read_numbers-groups.ensures c.all_between.result c.all_between.ensures c.if-not-all_between.false c.all_distinct.result c.all_distinct.ensures c.if-not-all_distinct.true

pub returns : goal.returns
returns c = none c.args.line.now c.value-code.result c.count_from.result c.value-code.ensures c.count_from.ensures c.code_in_range.result c.code_in_range.ensures c.if-not-code_in_range.false c.args.s c.value.result c.first_group.result c.group_count-k.result c.value.ensures c.if-value-ne3.false (first-is _ _ _ c.value-code.ensures c.first_group.ensures) c.group_count-k.ensures c.if-line-first_group.false c.read_numbers-groups.result c.read_numbers-groups.ensures c.all_between.result c.all_between.ensures c.if-not-all_between.false c.all_distinct.result c.all_distinct.ensures c.if-not-all_distinct.false
