-- The limits alone: a step reads and writes limits, so two tables of the same limits keep the same limits, and the sets stay. Assumes nothing.
use mathlib.Core.Path.{◌≡◌, refl, sym, ap, ap₂, ◌∙◌, subst}
use Prim.Native.Nat.{ℕ, ◌-◌, min, max}
use native.Mathlib.Omega.{arith}
use mathlib.Core.List.{List}
use lib.ListN.{length, replicate, length-map, length-replicate}
use Rattle.model.specs.declared.Group.{Group}
use Rattle.model.specs.declared.Constraint.{Constraint}
use Rattle.model.specs.Limits.{limits}
use Rattle.model.specs.Lists.{total}
use Rattle.model.specs.Clauses.{groups_of}
use Rattle.model.specs.Model.{group_at}
use Rattle.model.specs.LimitRules.{raised, lowered, low_at_least, high_at_most, high_at_most_sum, limit_rules}
use Rattle.model.specs.Propagate.{run}
use Rattle.model.proofs.Lists.{all_of, total_ext}
use Rattle.model.proofs.LimitRules.{all-limits}
use Rattle.table.specs.Table.{zipped, fixed_of, possible_of, lows, highs, Whole}
use Rattle.table.proofs.Fields.{field-same, Alone, place-alone, run-alone, zipped_fields, zipped-length, zipped-limits, zipped_again}
use Rattle.limit_rule.specs.Moves.{Moves, limit_table, lows_after, highs_after}

-- ---- the steps

abbrev pub LimitsAlone : (List Group → List Group) → Type 0
LimitsAlone r = Alone (λ g. g.fixed) (λ g. g.possible) (λ g. g.low) (λ g. g.high) r

low-alone : (g f : ℕ) → LimitsAlone (low_at_least g f)
unfolding low_at_least raised
low-alone g f =
    place-alone (λ x. x.fixed) (λ x. x.possible) (λ x. x.low) (λ x. x.high) raised (λ t. (group_at t f).low) (λ v l. max l v) (λ v h. h)
    (λ v x. refl) (λ v x. refl) (λ v x. refl) (λ v x. refl) (λ t u d e. field-same (λ x. x.low) t u d f) (g - 1)

high-alone : (f g : ℕ) → LimitsAlone (high_at_most f g)
unfolding high_at_most lowered
high-alone f g =
    place-alone (λ x. x.fixed) (λ x. x.possible) (λ x. x.low) (λ x. x.high) lowered (λ t. (group_at t g).high) (λ v l. l) (λ v h. min h v)
    (λ v x. refl) (λ v x. refl) (λ v x. refl) (λ v x. refl) (λ t u d e. field-same (λ x. x.high) t u e g) (f - 1)

sum-alone : (h : ℕ) (fs : List ℕ) → LimitsAlone (high_at_most_sum h fs)
unfolding high_at_most_sum lowered
sum-alone h fs =
    place-alone (λ x. x.fixed) (λ x. x.possible) (λ x. x.low) (λ x. x.high) lowered (λ t. total (λ f. (group_at t f).high) fs) (λ v l. l) (λ v k. min k v)
    (λ v x. refl) (λ v x. refl) (λ v x. refl) (λ v x. refl)
    (λ t u d e. total_ext (λ f. (group_at t f).high) (λ f. (group_at u f).high) (λ f. field-same (λ x. x.high) t u e f) fs) (h - 1)

-- of a constraint
pub limits-alone : (c : Constraint) → LimitsAlone (run (limit_rules c))
unfolding limit_rules
limits-alone c =
    run-alone (λ x. x.fixed) (λ x. x.possible) (λ x. x.low) (λ x. x.high) (limit_rules c)
    (all-limits LimitsAlone (λ g. Unit {0}) tt (λ g f _ _. low-alone g f) (λ f g _ _. high-alone f g) (λ h fs _ _. sum-alone h fs)
    c.code (groups_of c) (all_of (λ g. Unit {0}) (λ g. tt) (groups_of c)))

-- ---- a table of other sets and the same limits

module _ (r : List Group → List Group) (k : LimitsAlone r) (t : List Group) (w : Whole t) where
  low-length : length (lows t) ≡ limits.groups
  low-length = length-map t (λ g. g.low) ∙ w

  high-length : length (highs t) ≡ limits.groups
  high-length = length-map t (λ g. g.high) ∙ w

  module _ (f p : List ℕ) (v : Whole (zipped f p (lows t) (highs t))) where
    abbrev other : List Group
    other = zipped f p (lows t) (highs t)

    same-limits : (lows (zipped f p (lows t) (highs t)) ≡ lows t) × (highs (zipped f p (lows t) (highs t)) ≡ highs t)
    same-limits = zipped-limits f p (lows t) (highs t) (omega (arith, low-length)) (omega (arith, low-length, high-length))

    lows-same : lows (r t) ≡ lows (r (zipped f p (lows t) (highs t)))
    lows-same = k.x-same t other (sym same-limits.0) (sym same-limits.1)

    highs-same : highs (r t) ≡ highs (r (zipped f p (lows t) (highs t)))
    highs-same = k.y-same t other (sym same-limits.0) (sym same-limits.1)

    again : length (zipped f p (lows t) (highs t)) ≡ length (lows (r t))
    again = omega (arith, length-map (r t) (λ g. g.low), length-map (r t) (λ g. g.fixed), length-map t (λ g. g.fixed), ap length (k.a-stays t))

    other-made : zipped f p (lows (r t)) (highs (r t)) ≡ r (zipped f p (lows t) (highs t))
    other-made =
        sym (zipped_again f p (lows t) (highs t) (lows (r t)) (highs (r t)) again)
        ∙ ap₂ (λ a b. zipped a b (lows (r t)) (highs (r t))) (sym (k.a-stays other)) (sym (k.b-stays other))
        ∙ ap₂ (λ a b. zipped (fixed_of (r other)) (possible_of (r other)) a b) lows-same highs-same
        ∙ zipped_fields (r other)

    other-whole : Whole (zipped f p (lows (r t)) (highs (r t)))
    other-whole =
        omega (arith, ap length other-made, length-map (r other) (λ g. g.fixed), length-map other (λ g. g.fixed), ap length (k.a-stays other))

  moves-made : Moves r (lows t) (highs t) (lows (r t)) (highs (r t))
  moves-made f p v = (other-whole f p v, other-made f p v)

-- ---- what the rules of a constraint make of a table

module _ (c : Constraint) (t u : List Group) (w : Whole t) (e : u ≡ run (limit_rules c) t) where
  abbrev none : List ℕ
  none = replicate limits.groups 0

  whole : Whole (zipped (replicate limits.groups 0) (replicate limits.groups 0) (lows t) (highs t))
  whole =
      let n = length-replicate {A = ℕ} limits.groups 0 in
      zipped-length limits.groups none none (lows t) (highs t) n n (length-map t (λ g. g.low) ∙ w) (length-map t (λ g. g.high) ∙ w)

  lows-made : lows u ≡ lows_after c (lows t) (highs t)
  unfolding lows_after limit_table
  lows-made = ap lows e ∙ lows-same (run (limit_rules c)) (limits-alone c) t w none none whole

  highs-made : highs u ≡ highs_after c (lows t) (highs t)
  unfolding highs_after limit_table
  highs-made = ap highs e ∙ highs-same (run (limit_rules c)) (limits-alone c) t w none none whole

  -- by the names of the clauses
  pub made : record {
    value : u ≡ run (limit_rules c) t;
    low_after : lows u ≡ lows_after c (lows t) (highs t);
    high_after : highs u ≡ highs_after c (lows t) (highs t);
    moves : Moves (run (limit_rules c)) (lows t) (highs t) (lows u) (highs u);
    sets : (fixed_of u ≡ fixed_of t) × (possible_of u ≡ possible_of t);
  }
  made = record {
    value = e;
    low_after = lows-made;
    high_after = highs-made;
    moves = subst (λ v. Moves (run (limit_rules c)) (lows t) (highs t) (lows v) (highs v)) (sym e) (moves-made (run (limit_rules c)) (limits-alone c) t w);
    sets = (ap fixed_of e ∙ (limits-alone c).a-stays t, ap possible_of e ∙ (limits-alone c).b-stays t);
  }
