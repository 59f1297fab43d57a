-- The combined model's draws are those of both, and it is what the reader makes of its text. Assumes nothing.
use mathlib.Core.Path.{◌≡◌, sym, ap, ap₂, ◌∙◌, subst}
use Prim.Native.Nat.{ℕ, ◌+◌, ◌≤◌}
use native.Mathlib.Omega.{arith}
use mathlib.Core.Bool.{Bool, true, false, not, ◌&&◌}
use mathlib.Core.List.{List, ◌++◌}
use lib.Dec.{T, eqb, ltb, eqb→eq, nltb→le}
use lib.ListN.{length, take, length-append, length-take}
use lib.Seq.{take_all, length-take-le}
use Rattle.model.specs.declared.Group.{Group}
use Rattle.model.specs.declared.Constraint.{Constraint}
use Rattle.model.specs.declared.Model.{Model}
use Rattle.std.specs.List.{list_all}
use Rattle.model.specs.Lists.{pairwise, stop}
use Rattle.model.specs.Limits.{limits}
use Rattle.model.specs.Model.{table_of, constraints_of, constraint_sized, Whole, group_in_range, constraint_in_range, in_range}
use Rattle.model.specs.Solution.{allowed, constraint_true, is_solution}
use Rattle.model.specs.Combine.{combined_table, both_of, combined_model, fits, combine_refusal}
use Rattle.model.proofs.Lists.{and_left, and_right, and_both, and_interchange, every_append, every_take}
use Rattle.propagation_laws.proofs.Ranges.{InRange, in_range_lem, is_in_range}
use Rattle.propagation_laws.proofs.Sheets.{Accurate}
use Rattle.combine.specs.Combines.{Combines}
use Rattle.combine.proofs.Groups.{table-short, table-length, table-draws, tables_fit, table-combined}
use Rattle.combine.proofs.Read.{clean-draws, clean-accepted, clean-in-range}

accurate_of : (m : Model) → Whole m → T (in_range m) → Accurate m
unfolding constraints_of
accurate_of m w r =
    let i = in_range_lem m r in
    record {
      in_range_lem = r;
      sized = record { groups = omega (arith, w.groups, i.group_count); constraints = omega (arith, w.constraints, i.constraint_count) };
      members = every_take constraint_sized m.c m.constraints w.members;
    }

-- ---- the combined model before zeros are put past its entries

pub table : (a b : Model) → table_of (both_of a b) ≡ combined_table (table_of a) (table_of b)
unfolding both_of table_of
table a b =
    let xs = take a.s a.groups in
    take_all a.s (combined_table xs (take b.s b.groups)) (omega (arith, table-short xs (take b.s b.groups), length-take a.s a.groups))

pub lines : (a b : Model) → constraints_of (both_of a b) ≡ constraints_of a ++ constraints_of b
unfolding both_of constraints_of
lines a b =
    let xs = take a.c a.constraints in
    let ys = take b.c b.constraints in
    take_all (a.c + b.c) (xs ++ ys)
    (omega (arith, length-append xs ys, length-take a.c a.constraints, length-take b.c b.constraints))

-- ---- what the refusals say

record Fitting (a b : Model) : Type 0 where
  first : T (in_range a)
  second : T (in_range b)
  entrants : a.n ≡ b.n
  groups : a.s ≡ b.s
  fit : T (pairwise fits (table_of a) (table_of b))
  lines : a.c + b.c ≤ limits.constraints

-- 20, 31, 32, 33 in this order
abbrev in_turn : (p q r s : Bool) → ℕ
in_turn p q r s = stop (not p) 20 (stop (not q) 31 (stop (not r) 32 (stop s 33 0)))

none-given : (p q r s : Bool) → in_turn p q r s ≡ 0 → T p × T q × T r × T (not s)
none-given true true true false e = (tt, tt, tt, tt)
none-given true true true true e = absurd (omega arith)
none-given true true false s e = absurd (omega arith)
none-given true false r s e = absurd (omega arith)
none-given false q r s e = absurd (omega arith)

third-given : (p q r s : Bool) → in_turn p q r s ≡ 32 → T r → ⊥
third-given true true true false e t = omega arith
third-given true true true true e t = omega arith
third-given true true false s e t = t
third-given true false r s e t = omega arith
third-given false q r s e t = omega arith

module _ (a b : Model) where
  abbrev in_ranges : Bool
  in_ranges = in_range a && in_range b

  abbrev same_size : Bool
  same_size = eqb a.n b.n && eqb a.s b.s

  abbrev too_many : Bool
  too_many = ltb limits.constraints (a.c + b.c)

  fitting : combine_refusal a b ≡ 0 → Fitting a b
  unfolding combine_refusal
  fitting e =
      let h = none-given in_ranges same_size (pairwise fits (table_of a) (table_of b)) too_many e in
      record {
        first = and_left (in_range a) (in_range b) h.0;
        second = and_right (in_range a) (in_range b) h.0;
        entrants = eqb→eq a.n b.n (and_left (eqb a.n b.n) (eqb a.s b.s) h.1);
        groups = eqb→eq a.s b.s (and_right (eqb a.n b.n) (eqb a.s b.s) h.1);
        fit = h.2;
        lines = nltb→le limits.constraints (a.c + b.c) h.3;
      }

  clashing : combine_refusal a b ≡ 32 → T (pairwise fits (table_of a) (table_of b)) → ⊥
  unfolding combine_refusal
  clashing e t = third-given in_ranges same_size (pairwise fits (table_of a) (table_of b)) too_many e t

pub sizes : (a b : Model) → combine_refusal a b ≡ 0 → (a.s ≤ limits.groups) × (a.s ≡ b.s) × (a.c + b.c ≤ limits.constraints)
sizes a b e = let f = fitting a b e in ((in_range_lem a f.first).group_count, f.groups, f.lines)

-- ---- two that fit

module _ (a b : Model) (v : Whole a) (w : Whole b) (f : Fitting a b) where
  ra : InRange a
  ra = in_range_lem a f.first

  rb : InRange b
  rb = in_range_lem b f.second

  first-length : length (table_of a) ≡ a.s
  unfolding table_of
  first-length = length-take-le a.s a.groups (omega (arith, v.groups, ra.group_count))

  second-length : length (table_of b) ≡ a.s
  unfolding table_of
  second-length = length-take-le b.s b.groups (omega (arith, w.groups, rb.group_count)) ∙ sym f.groups

  same_length : length (table_of a) ≡ length (table_of b)
  same_length = first-length ∙ sym second-length

  lines-length : length (constraints_of a ++ constraints_of b) ≡ a.c + b.c
  unfolding constraints_of
  lines-length =
      length-append (take a.c a.constraints) (take b.c b.constraints)
      ∙ ap₂ (λ (x y : ℕ). x + y) (length-take-le a.c a.constraints (omega (arith, v.constraints, ra.constraint_count)))
      (length-take-le b.c b.constraints (omega (arith, w.constraints, rb.constraint_count)))

  both-draws : (d : List ℕ) → is_solution (both_of a b) d ≡ (is_solution a d && is_solution b d)
  unfolding is_solution
  both-draws d =
      ap₂ ◌&&◌ (ap (λ t. pairwise allowed t d) (table a b) ∙ table-draws (table_of a) (table_of b) d same_length)
      (ap (list_all (constraint_true d)) (lines a b) ∙ every_append (constraint_true d) (constraints_of a) (constraints_of b))
      ∙ and_interchange (pairwise allowed (table_of a) d) (pairwise allowed (table_of b) d) (list_all (constraint_true d) (constraints_of a)) (list_all (constraint_true d) (constraints_of b))

  every-line : (p : Constraint → Bool) → T (list_all p (constraints_of a)) → T (list_all p (constraints_of b)) → T (list_all p (constraints_of (both_of a b)))
  every-line p s t =
      subst T (sym (ap (list_all p) (lines a b) ∙ every_append p (constraints_of a) (constraints_of b)))
      (and_both (list_all p (constraints_of a)) (list_all p (constraints_of b)) s t)

  groups-in-range : T (list_all (group_in_range a.n) (table_of (both_of a b)))
  groups-in-range =
      subst (λ (t : List Group). T (list_all (group_in_range a.n) t)) (sym (table a b))
      (table-combined a.n (table_of a) (table_of b) ra.groups
      (subst (λ (n : ℕ). T (list_all (group_in_range n) (table_of b))) (sym f.entrants) rb.groups) f.fit)

  both-in-range : T (in_range (both_of a b))
  both-in-range =
      is_in_range (both_of a b) (unfold both_of in record {
        some-entrant = ra.some-entrant;
        entrants = ra.entrants;
        some-group = ra.some-group;
        group_count = ra.group_count;
        group_limit = ra.group_limit;
        constraint_count = f.lines;
        groups = groups-in-range;
        constraints =
            every-line (constraint_in_range a.s) ra.constraints
            (subst (λ (s : ℕ). T (list_all (constraint_in_range s) (constraints_of b))) (sym f.groups) rb.constraints);
      })

  both-accurate : Accurate (both_of a b)
  both-accurate = record {
    in_range_lem = both-in-range;
    sized = unfold both_of in record {
      groups = omega (arith, table-length (table_of a) (table_of b) same_length, first-length);
      constraints = omega (arith, lines-length);
    };
    members = every-line constraint_sized (accurate_of a v f.first).members (accurate_of b w f.second).members;
  }

pub combines : (a b : Model) → Whole a → Whole b → Combines a b
unfolding combined_model
combines a b v w = record {
  draws = λ e d. let f = fitting a b e in clean-draws (both_of a b) (both-accurate a b v w f) d ∙ both-draws a b v w f d;
  none = λ e d s t. clashing a b e (tables_fit (table_of a) (table_of b) d (allowed_of a d s) (allowed_of b d t));
  in_range_lem = λ e. clean-in-range (both_of a b) (both-accurate a b v w (fitting a b e));
  accepted = λ e. clean-accepted (both_of a b) (both-accurate a b v w (fitting a b e));
}
  where
    allowed_of : (m : Model) (d : List ℕ) → T (is_solution m d) → T (pairwise allowed (table_of m) d)
    allowed_of m d s = unfold is_solution in and_left (pairwise allowed (table_of m) d) (list_all (constraint_true d) (constraints_of m)) s
