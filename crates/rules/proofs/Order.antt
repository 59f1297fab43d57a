-- A line's clauses and its limits may come in either order, and so may low and high limits: neither reads what the other writes. Assumes nothing.
use mathlib.Core.Path.{◌≡◌, refl, sym, ap, ◌∙◌}
use Prim.Native.Nat.{ℕ, zero, suc, ◌-◌}
use mathlib.Core.List.{List, [], ◌∷◌, ◌++◌, map}
use lib.Bits.{bit_and}
use lib.ListN.{get_or}
use Rattle.model.specs.declared.Literal.{Literal}
use Rattle.model.specs.declared.Literal.TheVariants.{Pos, Neg}
use Rattle.model.specs.declared.Group.{Group}
use Rattle.model.specs.declared.Constraint.{Constraint}
use Rattle.model.specs.Lists.{total, on_place}
use Rattle.model.specs.Words.{less}
use Rattle.model.specs.Clauses.{groups_of, clauses_of}
use Rattle.model.specs.Model.{zero_group, group_at}
use Rattle.model.specs.LimitRules.{raised, lowered, low_at_least, high_at_most, high_at_most_sum, low_first, high_first, limit_rules}
use Rattle.model.specs.Propagate.{false_in, all_false, fixed_with, possible_without, made_true, literal_rule, run, clause_rules, clause_rule}
use Rattle.model.proofs.Lists.{All, all_of, all_map, all-imp, total_ext}
use Rattle.model.proofs.LimitRules.{all-limits}
use Rattle.table.proofs.Rules.{run-append}

-- ---- two changes of a place each

places : {A : Type 0} (f g : A → A) → ((x : A) → f (g x) ≡ g (f x)) → (i j : ℕ) (t : List A)
    → on_place i f (on_place j g t) ≡ on_place j g (on_place i f t)
places f g h i j [] = refl
places f g h zero zero (x ∷ t) = ap (λ y. y ∷ t) (h x)
places f g h zero (suc j) (x ∷ t) = refl
places f g h (suc i) zero (x ∷ t) = refl
places f g h (suc i) (suc j) (x ∷ t) = ap (λ u. x ∷ u) (places f g h i j t)

-- what a change of one place leaves as it is everywhere, it leaves at every place
kept : {B : Type 0} (p : Group → B) (r : Group → Group) → ((x : Group) → p (r x) ≡ p x) → (i k : ℕ) (t : List Group)
    → p (get_or (on_place i r t) k zero_group) ≡ p (get_or t k zero_group)
kept p r h i k [] = refl
kept p r h zero zero (x ∷ t) = h x
kept p r h zero (suc k) (x ∷ t) = refl
kept p r h (suc i) zero (x ∷ t) = refl
kept p r h (suc i) (suc k) (x ∷ t) = kept p r h i k t

group-kept : {B : Type 0} (p : Group → B) (r : Group → Group) → ((x : Group) → p (r x) ≡ p x) → (i g : ℕ) (t : List Group)
    → p (group_at (on_place i r t) g) ≡ p (group_at t g)
unfolding group_at
group-kept p r h i g t = kept p r h i (g - 1) t

-- ---- steps that commute

abbrev pub Commute : (List Group → List Group) → (List Group → List Group) → Type 0
Commute r q = (t : List Group) → r (q t) ≡ q (r t)

commute-sym : (r q : List Group → List Group) → Commute r q → Commute q r
commute-sym r q h t = sym (h t)

-- two steps, each of one place by a value that the other leaves as it is
steps : (i j : ℕ) (f g : ℕ → Group → Group) (a b : List Group → ℕ) → ((v w : ℕ) (x : Group) → f v (g w x) ≡ g w (f v x))
    → ((w : ℕ) (t : List Group) → a (on_place j (g w) t) ≡ a t) → ((v : ℕ) (t : List Group) → b (on_place i (f v) t) ≡ b t)
    → Commute (λ t. on_place i (f (a t)) t) (λ t. on_place j (g (b t)) t)
steps i j f g a b h ha hb t =
    ap (λ (v : ℕ). on_place i (f v) (on_place j (g (b t)) t)) (ha (b t) t)
    ∙ places (f (a t)) (g (b t)) (h (a t) (b t)) i j t
    ∙ sym (ap (λ (w : ℕ). on_place j (g w) (on_place i (f (a t)) t)) (hb (a t) t))

with_run : (r : List Group → List Group) (qs : List (List Group → List Group)) → All (Commute r) qs → Commute r (run qs)
with_run r [] h t = refl
with_run r (q ∷ qs) h t = with_run r qs h.1 (q t) ∙ ap (run qs) (h.0 t)

runs : (rs qs : List (List Group → List Group)) → All (λ r. All (Commute r) qs) rs → Commute (run rs) (run qs)
runs rs qs h = commute-sym (run qs) (run rs) (with_run (run qs) rs
    (all-imp (λ r. All (Commute r) qs) (λ r. Commute (run qs) r) (λ r k. commute-sym r (run qs) (with_run r qs k)) rs h))

-- ---- what a limit reads, a literal leaves as it is, and the other way round

module _ (r : Group → Group) (i : ℕ) (t : List Group) where
  false-kept : ((x : Group) → (r x).fixed ≡ x.fixed) → ((x : Group) → (r x).possible ≡ x.possible) → (w : ℕ) (l : Literal)
      → false_in (on_place i r t) w l ≡ false_in t w l
  unfolding false_in
  false-kept p q w (Pos g) = ap (λ (v : ℕ). less w v) (group-kept (λ x. x.possible) r q i g t)
  false-kept p q w (Neg g) = ap (λ (v : ℕ). bit_and w v) (group-kept (λ x. x.fixed) r p i g t)

  all-false-kept : ((x : Group) → (r x).fixed ≡ x.fixed) → ((x : Group) → (r x).possible ≡ x.possible) → (w : ℕ) (ls : List Literal)
      → all_false (on_place i r t) w ls ≡ all_false t w ls
  unfolding all_false
  all-false-kept p q w [] = refl
  all-false-kept p q w (l ∷ ls) =
      ap (λ (v : ℕ). all_false (on_place i r t) v ls) (false-kept p q w l) ∙ all-false-kept p q (false_in t w l) ls

  sum-kept : ((x : Group) → (r x).high ≡ x.high) → (fs : List ℕ)
      → total (λ f. (group_at (on_place i r t) f).high) fs ≡ total (λ f. (group_at t f).high) fs
  sum-kept h fs = total_ext (λ f. (group_at (on_place i r t) f).high) (λ f. (group_at t f).high) (λ f. group-kept (λ x. x.high) r h i f t) fs

-- a literal, and a limit that reads lows or highs
module _ (i : ℕ) (f : ℕ → Group → Group) (a : List Group → ℕ)
    (fix : (v : ℕ) (x : Group) → (f v x).fixed ≡ x.fixed) (pos : (v : ℕ) (x : Group) → (f v x).possible ≡ x.possible)
    (with_fixed : (v w : ℕ) (x : Group) → f v (fixed_with w x) ≡ fixed_with w (f v x))
    (with_possible : (v w : ℕ) (x : Group) → f v (possible_without w x) ≡ possible_without w (f v x))
    (by_fixed : (w j : ℕ) (t : List Group) → a (on_place j (fixed_with w) t) ≡ a t)
    (by_possible : (w j : ℕ) (t : List Group) → a (on_place j (possible_without w) t) ≡ a t) where
  limit-literal : (w : ℕ) (l : Literal) (others : List Literal) → Commute (λ t. on_place i (f (a t)) t) (literal_rule w l others)
  unfolding literal_rule made_true
  limit-literal w (Pos g) others =
      steps i (g - 1) f fixed_with a (λ t. all_false t w others) with_fixed (λ v t. by_fixed v (g - 1) t)
      (λ v t. all-false-kept (f v) i t (fix v) (pos v) w others)
  limit-literal w (Neg g) others =
      steps i (g - 1) f possible_without a (λ t. all_false t w others) with_possible (λ v t. by_possible v (g - 1) t)
      (λ v t. all-false-kept (f v) i t (fix v) (pos v) w others)

-- ---- each kind of limit with a literal

module _ (w : ℕ) (l : Literal) (others : List Literal) where
  low-literal : (g f : ℕ) → Commute (low_at_least g f) (literal_rule w l others)
  unfolding low_at_least raised fixed_with possible_without
  low-literal g f =
      limit-literal (g - 1) raised (λ t. (group_at t f).low) (λ v x. refl) (λ v x. refl) (λ v u x. refl) (λ v u x. refl)
      (λ u j t. group-kept (λ x. x.low) (fixed_with u) (λ x. refl) j f t) (λ u j t. group-kept (λ x. x.low) (possible_without u) (λ x. refl) j f t)
      w l others

  high-literal : (f g : ℕ) → Commute (high_at_most f g) (literal_rule w l others)
  unfolding high_at_most lowered fixed_with possible_without
  high-literal f g =
      limit-literal (f - 1) lowered (λ t. (group_at t g).high) (λ v x. refl) (λ v x. refl) (λ v u x. refl) (λ v u x. refl)
      (λ u j t. group-kept (λ x. x.high) (fixed_with u) (λ x. refl) j g t) (λ u j t. group-kept (λ x. x.high) (possible_without u) (λ x. refl) j g t)
      w l others

  sum-literal : (h : ℕ) (fs : List ℕ) → Commute (high_at_most_sum h fs) (literal_rule w l others)
  unfolding high_at_most_sum lowered fixed_with possible_without
  sum-literal h fs =
      limit-literal (h - 1) lowered (λ t. total (λ f. (group_at t f).high) fs) (λ v x. refl) (λ v x. refl) (λ v u x. refl) (λ v u x. refl)
      (λ u j t. sum-kept (fixed_with u) j t (λ x. refl) fs) (λ u j t. sum-kept (possible_without u) j t (λ x. refl) fs)
      w l others

-- ---- the clauses and the limits of a line

abbrev Limit : (List Group → List Group) → Type 0
Limit r = (w : ℕ) (l : Literal) (others : List Literal) → Commute r (literal_rule w l others)

limits-literal : (c : Constraint) → All Limit (limit_rules c)
unfolding limit_rules
limits-literal c =
    all-limits Limit (λ g. Unit {0}) tt (λ g f _ _. λ w l others. low-literal w l others g f) (λ f g _ _. λ w l others. high-literal w l others f g)
    (λ h fs _ _. λ w l others. sum-literal w l others h fs) c.code (groups_of c) (all_of (λ g. Unit {0}) (λ g. tt) (groups_of c))

limit-clauses : (r : List Group → List Group) → Limit r → (w : ℕ) (before after : List Literal) → All (Commute r) (clause_rules w before after)
unfolding clause_rules
limit-clauses r k w before [] = tt
limit-clauses r k w before (l ∷ after) = (k w l (before ++ after), limit-clauses r k w (before ++ (l ∷ [])) after)

limit-clause : (r : List Group → List Group) → Limit r → (w : ℕ) (ls : List Literal) → Commute r (clause_rule w ls)
unfolding clause_rule
limit-clause r k w ls = with_run r (clause_rules w [] ls) (limit-clauses r k w [] ls)

pub clauses_limits : (w : ℕ) (c : Constraint) → Commute (run (limit_rules c)) (run (map (clause_rule w) (clauses_of c)))
clauses_limits w c = runs (limit_rules c) (map (clause_rule w) (clauses_of c))
    (all-imp Limit (λ r. All (Commute r) (map (clause_rule w) (clauses_of c)))
    (λ r k. all_map (Commute r) (clause_rule w) (clauses_of c) (all_of (λ ls. Commute r (clause_rule w ls)) (limit-clause r k w) (clauses_of c)))
    (limit_rules c) (limits-literal c))

-- the limits may come before the clauses
pub either_first : (w : ℕ) (c : Constraint) (t : List Group)
    → run (limit_rules c ++ map (clause_rule w) (clauses_of c)) t ≡ run (map (clause_rule w) (clauses_of c) ++ limit_rules c) t
either_first w c t =
    let cs = map (clause_rule w) (clauses_of c) in
    run-append (limit_rules c) cs t ∙ sym (clauses_limits w c t) ∙ sym (run-append cs (limit_rules c) t)

-- ---- low and high limits

low-high-step : (g f h k : ℕ) → Commute (low_at_least g f) (high_at_most h k)
unfolding low_at_least high_at_most raised lowered
low-high-step g f h k =
    steps (g - 1) (h - 1) raised lowered (λ t. (group_at t f).low) (λ t. (group_at t k).high) (λ v w x. refl)
    (λ w t. group-kept (λ x. x.low) (lowered w) (λ x. refl) (h - 1) f t) (λ v t. group-kept (λ x. x.high) (raised v) (λ x. refl) (g - 1) k t)

-- the two limits of codes 2, 3 and 5 may come in either order
pub low-high : (f g : ℕ) (t : List Group) → run (low_first f g) t ≡ run (high_first f g) t
unfolding low_first high_first
low-high f g t = sym (low-high-step g f f g t)
