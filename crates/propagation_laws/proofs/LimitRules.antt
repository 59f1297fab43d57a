-- The steps that pass limits from group to group are rules of the frame of tables, for every code: each narrows, and keeps what it leaves as it is.
-- Assumes nothing.
use mathlib.Core.Path.{◌≡◌, ap}
use Prim.Native.Nat.{ℕ, ◌-◌, ◌≤◌}
use native.Mathlib.Omega.{arith}
use mathlib.Core.List.{List}
use Rattle.model.specs.declared.Group.{Group}
use Rattle.model.specs.declared.Constraint.{Constraint}
use Rattle.model.specs.Lists.{total}
use Rattle.model.specs.Clauses.{groups_of}
use Rattle.model.specs.Model.{group_at}
use Rattle.model.specs.LimitRules.{raised, lowered, low_at_least, high_at_most, high_at_most_sum, limit_rules}
use Rattle.model.proofs.Lists.{All, all_of, total_mono}
use Rattle.model.proofs.LimitRules.{all-limits}
use Rattle.model.proofs.Words.{sub_refl}
use Rattle.propagation_laws.proofs.Fixpoint.{Rule}
use Rattle.propagation_laws.proofs.Tables.{place-reduces, place-keeps}
use Rattle.propagation_laws.proofs.GroupRule.{Narrow, narrow, is_within, group_frame, table_frame, group-narrow}

raised_reduces : (v : ℕ) (g : Group) → Narrow (raised v g) g
unfolding raised
raised_reduces v g = record { fix = sub_refl g.fixed; pos = sub_refl g.possible; lo = omega arith; hi = omega arith }

lowered_reduces : (v : ℕ) (g : Group) → Narrow (lowered v g) g
unfolding lowered
lowered_reduces v g = record { fix = sub_refl g.fixed; pos = sub_refl g.possible; lo = omega arith; hi = omega arith }

module _ (a b : ℕ) (u x : Group) (w : Narrow u x) where
  raised_keeps : b ≤ a → raised a u ≡ u → Narrow u (raised b x)
  unfolding raised
  raised_keeps l e = record { fix = w.fix; pos = w.pos; lo = omega (arith, w.lo, ap (λ (g : Group). g.low) e); hi = w.hi }

  lowered-keeps : a ≤ b → lowered a u ≡ u → Narrow u (lowered b x)
  unfolding lowered
  lowered-keeps l e = record { fix = w.fix; pos = w.pos; lo = w.lo; hi = omega (arith, w.hi, ap (λ (g : Group). g.high) e) }

low_rule : (g f : ℕ) → Rule table_frame (low_at_least g f)
unfolding low_at_least
low_rule g f = record {
  reduces = λ x. place-reduces group_frame (g - 1) (raised (group_at x f).low) (λ r. is_within (raised (group_at x f).low r) r (raised_reduces (group_at x f).low r)) x;
  keeps = λ u x c e w. let a = (group_at u f).low in
      let b = (group_at x f).low in
      place-keeps group_frame (g - 1) (raised a) (raised b)
      (λ p q k d y. is_within p (raised b q) (raised_keeps a b p q (narrow p q y) (group-narrow u x w f).lo d)) u x c e w;
}

high_rule : (f g : ℕ) → Rule table_frame (high_at_most f g)
unfolding high_at_most
high_rule f g = record {
  reduces = λ x. place-reduces group_frame (f - 1) (lowered (group_at x g).high) (λ r. is_within (lowered (group_at x g).high r) r (lowered_reduces (group_at x g).high r)) x;
  keeps = λ u x c e w. let a = (group_at u g).high in
      let b = (group_at x g).high in
      place-keeps group_frame (f - 1) (lowered a) (lowered b)
      (λ p q k d y. is_within p (lowered b q) (lowered-keeps a b p q (narrow p q y) (group-narrow u x w g).hi d)) u x c e w;
}

sum_rule : (h : ℕ) (fs : List ℕ) → Rule table_frame (high_at_most_sum h fs)
unfolding high_at_most_sum
sum_rule h fs = record {
  reduces = λ x. let b = total (λ f. (group_at x f).high) fs in
      place-reduces group_frame (h - 1) (lowered b) (λ r. is_within (lowered b r) r (lowered_reduces b r)) x;
  keeps = λ u x c e w. let a = total (λ f. (group_at u f).high) fs in
      let b = total (λ f. (group_at x f).high) fs in
      let l : a ≤ b = total_mono (λ f. (group_at u f).high) (λ f. (group_at x f).high) fs (all_of (λ f. (group_at u f).high ≤ (group_at x f).high) (λ f. (group-narrow u x w f).hi) fs) in
      place-keeps group_frame (h - 1) (lowered a) (lowered b) (λ p q k d y. is_within p (lowered b q) (lowered-keeps a b p q (narrow p q y) l d)) u x c e w;
}

pub limit_rules_lem : (c : Constraint) → All (Rule table_frame) (limit_rules c)
unfolding limit_rules
limit_rules_lem c =
    all-limits (Rule table_frame) (λ g. Unit {0}) tt (λ g f _ _. low_rule g f) (λ f g _ _. high_rule f g) (λ h fs _ _. sum_rule h fs) c.code (groups_of c)
    (all_of (λ g. Unit {0}) (λ g. tt) (groups_of c))
