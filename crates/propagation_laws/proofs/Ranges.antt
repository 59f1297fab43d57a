-- The parts of the range check, as facts. Assumes nothing.
use mathlib.Core.Path.{◌≡◌, ap, ◌∙◌, subst}
use mathlib.Core.Logic.{⊎_elim}
use Prim.Native.Nat.{ℕ, ◌^◌, ◌≤◌, ◌<◌}
use native.Mathlib.Nat.{le_trans}
use native.Mathlib.Omega.{arith}
use mathlib.Core.Bool.{◌&&◌}
use lib.Dec.{T, leb, ltb, leb→le, le→leb, ltb→lt, lt→ltb}
use lib.ListN.{length, get_or, take, length-take}
use lib.Seq.{get_or-take}
use Rattle.model.specs.declared.Group.{Group}
use Rattle.model.specs.declared.Constraint.{Constraint}
use Rattle.model.specs.declared.Model.{Model}
use Rattle.std.specs.List.{list_all}
use Rattle.model.specs.Lists.{between, distinct}
use Rattle.model.specs.Words.{inside}
use Rattle.model.specs.Limits.{limits, groups_for}
use Rattle.model.specs.Clauses.{by_entrant, member_count, groups_of}
use Rattle.model.specs.Model.{table_of, constraints_of, group_in_range, code_in_range, constraint_in_range, in_range}
use Rattle.model.proofs.Lists.{and_left, and_right, and_both, between_le, le-between, every-all, every-getD, all-imp, all_get_d}
use Rattle.model.proofs.Codes.{entrant-or-seven, member-bound}
use Rattle.model.proofs.Words.{Sub, inside-sub, sub-inside}
use Rattle.model.proofs.Width.{groups_for_lem}

-- ---- a group

pub record GroupRange (n : ℕ) (g : Group) : Type 0 where
  pub fits : Sub g.fixed g.possible
  pub small : g.possible < 2 ^ n
  pub order : g.low ≤ g.high
  pub top : g.high ≤ n

pub group-range : (n : ℕ) (g : Group) → T (group_in_range n g) → GroupRange n g
unfolding group_in_range
group-range n g t =
    let a = inside g.fixed g.possible in
    let b = ltb g.possible (2 ^ n) in
    let c = leb g.low g.high in
    let d = leb g.high n in
    record {
      fits = inside-sub g.fixed g.possible (and_left a b (and_left (a && b) c (and_left (a && b && c) d t)));
      small = ltb→lt g.possible (2 ^ n) (and_right a b (and_left (a && b) c (and_left (a && b && c) d t)));
      order = leb→le g.low g.high (and_right (a && b) c (and_left (a && b && c) d t));
      top = leb→le g.high n (and_right (a && b && c) d t);
    }

pub is-group-range : (n : ℕ) (g : Group) → GroupRange n g → T (group_in_range n g)
unfolding group_in_range
is-group-range n g r =
    let a = inside g.fixed g.possible in
    let b = ltb g.possible (2 ^ n) in
    let c = leb g.low g.high in
    and_both (a && b && c) (leb g.high n)
    (and_both (a && b) c (and_both a b (sub-inside g.fixed g.possible r.fits) (lt→ltb g.possible (2 ^ n) r.small))
    (le→leb g.low g.high r.order))
    (le→leb g.high n r.top)

-- ---- a constraint

module _ (s : ℕ) (c : Constraint) (t : T (constraint_in_range s c)) where
  pub constraint-code : T (code_in_range c.code c.count)
  unfolding constraint_in_range
  constraint-code =
      let a = code_in_range c.code c.count in
      let b = list_all (between 1 s) (groups_of c) in
      and_left a b (and_left (a && b) (distinct (groups_of c)) t)

  pub groups-in : T (list_all (between 1 s) (groups_of c))
  unfolding constraint_in_range
  groups-in =
      let a = code_in_range c.code c.count in
      let b = list_all (between 1 s) (groups_of c) in
      and_right a b (and_left (a && b) (distinct (groups_of c)) t)

  -- every code but 7 is entrant by entrant
  pub not-seven-entrant : (c.code ≡ 7 → ⊥) → T (by_entrant c.code)
  not-seven-entrant other = ⊎_elim (λ six. six) (λ seven. absurd (other seven)) (entrant-or-seven c.code c.count constraint-code)

  -- code 7 has two groups
  pub two-groups : c.code ≡ 7 → T (list_all (between 1 s) (take 2 c.groups))
  two-groups seven =
      let two : member_count c.code c.count ≡ 2 = unfold member_count in ap (λ (k : ℕ). member_count k c.count) seven in
      let all : T (list_all (between 1 s) (take (member_count c.code c.count) c.groups)) = unfold groups_of in groups-in in
      subst (λ (k : ℕ). T (list_all (between 1 s) (take k c.groups))) two all

  module _ (i : ℕ) (h : i < member_count c.code c.count) where
    -- a member's group is one of the table's, or 0 where the list is too short
    pub member_below : get_or c.groups i 0 ≤ s
    unfolding groups_of
    member_below =
        subst (λ (g : ℕ). g ≤ s) (get_or-take (member_count c.code c.count) c.groups i 0 h)
        (all_get_d (λ g. g ≤ s) 0 (omega arith) (groups_of c)
        (all-imp (λ g. T (between 1 s g)) (λ g. g ≤ s) (λ g h. (between_le 1 s g h).1) (groups_of c) (every-all (between 1 s) (groups_of c) groups-in)) i)

    -- where the list holds them all, each is a group
    pub member-group : limits.members ≤ length c.groups → (1 ≤ get_or c.groups i 0) × (get_or c.groups i 0 ≤ s)
    unfolding groups_of
    member-group wide =
        let k = member_count c.code c.count in
        let long : length (take k c.groups) ≡ k =
        length-take k c.groups ∙ omega (arith, member-bound c.code c.count constraint-code) in
        between_le 1 s (get_or c.groups i 0)
        (subst (λ (g : ℕ). T (between 1 s g)) (get_or-take k c.groups i 0 h)
        (every-getD (between 1 s) (take k c.groups) 0 i groups-in (omega (arith, long))))

-- ---- a model

pub record InRange (m : Model) : Type 0 where
  pub some-entrant : 1 ≤ m.n
  pub entrants : m.n ≤ limits.entrants
  pub some-group : 1 ≤ m.s
  pub group_count : m.s ≤ limits.groups
  pub group_limit : m.s ≤ groups_for m.n
  pub constraint_count : m.c ≤ limits.constraints
  pub groups : T (list_all (group_in_range m.n) (table_of m))
  pub constraints : T (list_all (constraint_in_range m.s) (constraints_of m))

pub in_range_lem : (m : Model) → T (in_range m) → InRange m
unfolding in_range
in_range_lem m t =
    let a = between 1 limits.entrants m.n in
    let b = between 1 (groups_for m.n) m.s in
    let c = leb m.c limits.constraints in
    let d = list_all (group_in_range m.n) (table_of m) in
    let e = list_all (constraint_in_range m.s) (constraints_of m) in
    let abcd = and_left (a && b && c && d) e t in
    let abc = and_left (a && b && c) d abcd in
    let n = between_le 1 limits.entrants m.n (and_left a b (and_left (a && b) c abc)) in
    let s = between_le 1 (groups_for m.n) m.s (and_right a b (and_left (a && b) c abc)) in
    record {
      some-entrant = n.0;
      entrants = n.1;
      some-group = s.0;
      group_count = le_trans s.1 (groups_for_lem m.n);
      group_limit = s.1;
      constraint_count = leb→le m.c limits.constraints (and_right (a && b) c abc);
      groups = and_right (a && b && c) d abcd;
      constraints = and_right (a && b && c && d) e t;
    }

pub is_in_range : (m : Model) → InRange m → T (in_range m)
unfolding in_range
is_in_range m r =
    let a = between 1 limits.entrants m.n in
    let b = between 1 (groups_for m.n) m.s in
    let c = leb m.c limits.constraints in
    let d = list_all (group_in_range m.n) (table_of m) in
    and_both (a && b && c && d) (list_all (constraint_in_range m.s) (constraints_of m))
    (and_both (a && b && c) d
    (and_both (a && b) c
    (and_both a b (le-between 1 limits.entrants m.n r.some-entrant r.entrants) (le-between 1 (groups_for m.n) m.s r.some-group r.group_limit))
    (le→leb m.c limits.constraints r.constraint_count))
    r.groups)
    r.constraints
