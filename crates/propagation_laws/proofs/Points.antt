-- A solution as a table that allows nothing else: it is a candidate, so no rule loses it. Assumes nothing.
use mathlib.Core.Path.{◌≡◌, refl, sym, ap, ap₂, ◌∙◌, subst}
use mathlib.Core.Logic.{◌⊎◌, inl, inr}
use Prim.Native.Nat.{ℕ, ◌-◌, ◌≤◌}
use native.Mathlib.Nat.{le_refl}
use native.Mathlib.Omega.{arith}
use mathlib.Core.Bool.{Bool, true, false, cond, not, ◌&&◌, ◌||◌}
use mathlib.Core.List.{List, [], ◌∷◌, ◌++◌, map}
use borrow.Author.Tests.{eqb-true, eq-eqb}
use lib.Dec.{T, leb, eqb, eqb→eq, leb→le}
use lib.Bits.{bit_and, bit_or, and_self, or_self, or_zero_r}
use lib.ListN.{length, get_or, length-take, get_or-map}
use Rattle.model.specs.declared.Literal.{Literal}
use Rattle.model.specs.declared.Literal.TheVariants.{Pos, Neg}
use Rattle.model.specs.declared.Group.{Group}
use Rattle.model.specs.declared.Constraint.{Constraint}
use Rattle.model.specs.declared.Model.{Model}
use Rattle.std.specs.List.{list_all, list_any}
use Rattle.model.specs.Lists.{pairwise, total, range}
use Rattle.model.specs.Words.{less, size_in, size, inside, has}
use Rattle.model.specs.Clauses.{by_entrant, member_count, is_difference, rule_clauses, groups_of, clauses_of}
use Rattle.model.specs.Limits.{limits}
use Rattle.model.specs.Model.{zero_group, table_of, constraints_of, group_at, member_at, members_sized, constraint_in_range, in_range}
use Rattle.model.specs.LimitRules.{raised, lowered, low_at_least, high_at_most, high_at_most_sum, low_first, high_first, union_limits, limits_of, limit_rules}
use Rattle.model.specs.Difference.{unlike, unlike_in, lone, may_differ}
use Rattle.model.specs.Propagate.{limited, cut, filled, group_rule, false_in, all_false, fixed_with, possible_without, made_true, literal_rule, clause_rules, clause_rule, scope, constraint_rule, group_rule_at, rules, group_consistent, consistent}
use Rattle.model.specs.Demand.{group_within, within, is_candidate}
use Rattle.model.specs.Solution.{allowed, union, meaning, set_of, constraint_true, is_solution}
use Rattle.model.proofs.Lists.{place_same, and_left, and_right, and_both, and_assoc, any_append, All, all_of, all_append, all_map, map-all, all-imp, every-all, total_ext, total-map}
use Rattle.model.proofs.Codes.{by_code, by_seven, not_seven, is_code, entrant-or-seven, member-bound}
use Rattle.model.proofs.LimitRules.{raised-same, lowered-same}
use Rattle.model.proofs.Words.{Sub, sub_refl, sub_trans, sub_antisym, sub-or, sub-or_l, sub-and_l, sub-and-r, sub-less, inside-sub, size_mono, bit-zero, has-zero, has-or, sub-has, has-and, has-less, has_ext, has_sub, union-sub, size-union}
use Rattle.propagation_laws.proofs.Fixpoint.{Unchanged, whole, run-fixed}
use Rattle.propagation_laws.proofs.GroupRule.{group-eq, is-consistent, table_frame}
use Rattle.propagation_laws.proofs.ConstraintRule.{constraint_frame, candidate-is}
use Rattle.propagation_laws.proofs.Meaning.{literal_for, clauses_for, clauses_hold, over-members, meaning-clauses, difference-sets}
use Rattle.propagation_laws.proofs.Ranges.{in_range_lem, constraint-code}

abbrev pub point : ℕ → Group
point w = record { fixed = w; possible = w; low = size w; high = size w }

abbrev pub points : List ℕ → List Group
points d = map point d

-- ---- a set is allowed when its point is within

allowed-point : (g : Group) (w : ℕ) → allowed g w ≡ group_within (point w) g
unfolding allowed group_within
allowed-point g w =
    sym (and_assoc (inside g.fixed w && inside w g.possible) (leb g.low (size w)) (leb (size w) g.high))

pub allowed-points : (t : List Group) (d : List ℕ) → pairwise allowed t d ≡ within (points d) t
unfolding within
allowed-points [] [] = refl
allowed-points [] (w ∷ d) = refl
allowed-points (g ∷ t) [] = refl
allowed-points (g ∷ t) (w ∷ d) = ap₂ ◌&&◌ (allowed-point g w) (allowed-points t d)

points-consistent : (d : List ℕ) → T (consistent (points d))
unfolding consistent
points-consistent [] = tt
points-consistent (w ∷ d) =
    and_both (group_consistent (point w)) (list_all group_consistent (points d))
    (is-consistent (point w) (record { fits = sub_refl w; order = le_refl (size w) })) (points-consistent d)

-- ---- the group rule

cond_same : (b : Bool) (x y : ℕ) → x ≡ y → cond b x y ≡ y
cond_same true x y e = e
cond_same false x y e = refl

point-group : (w : ℕ) → group_rule (point w) ≡ point w
unfolding group_rule limited cut filled
point-group w = ap filled (ap cut lim ∙ cu) ∙ fi
  where
    lim : limited (point w) ≡ point w
    lim = group-eq (limited (point w)) (point w) refl refl (omega arith) (omega arith)

    cu : cut (point w) ≡ point w
    cu = group-eq (cut (point w)) (point w) refl (cond_same (eqb (size w) (size w)) (bit_and w w) w (and_self w)) refl refl

    fi : filled (point w) ≡ point w
    fi = group-eq (filled (point w)) (point w) (cond_same (eqb (size w) (size w)) (bit_or w w) w (or_self w)) refl refl refl

group_of : (d : List ℕ) (g : ℕ) → group_at (points d) g ≡ point (set_of d g)
unfolding group_at set_of zero_group size size_in
group_of d g = get_or-map point d (g - 1) 0

points-group : (d : List ℕ) (g : ℕ) → group_rule_at g (points d) ≡ points d
unfolding group_rule_at group_at
points-group d g = place_same (g - 1) group_rule (points d) zero_group (rw (group_of d g) (point-group (set_of d g)))

-- ---- the constraint rule: where a clause has a true literal, its rule changes nothing

module _ (d : List ℕ) where
  abbrev v : ℕ → ℕ → Bool
  v e g = has (set_of d g) e

  has-false : (e w : ℕ) (l : Literal) → has (false_in (points d) w l) e ≡ (has w e && not (literal_for (v e) l))
  unfolding false_in literal_for
  has-false e w (Pos g) = rw (group_of d g) (has-less w (set_of d g) e)
  has-false e w (Neg g) = rw (group_of d g) (has-and w (set_of d g) e ∙ ap (λ b. has w e && b) (twice (has (set_of d g) e)))
    where
      twice : (b : Bool) → b ≡ not (not b)
      twice true = refl
      twice false = refl

  has-all-false : (e w : ℕ) (ls : List Literal) → has (all_false (points d) w ls) e ≡ (has w e && not (list_any (literal_for (v e)) ls))
  unfolding all_false
  has-all-false e w [] = table (has w e)
    where
      table : (b : Bool) → b ≡ (b && true)
      table true = refl
      table false = refl
  has-all-false e w (l ∷ ls) =
      has-all-false e (false_in (points d) w l) ls
      ∙ ap (λ b. b && not (list_any (literal_for (v e)) ls)) (has-false e w l)
      ∙ table (has w e) (literal_for (v e) l) (list_any (literal_for (v e)) ls)
    where
      table : (x y z : Bool) → ((x && not y) && not z) ≡ (x && not (y || z))
      table true true z = refl
      table true false z = refl
      table false y z = refl

  -- the entrants for whom a literal is made true have it true
  made : (a : ℕ) (l : Literal) (others : List Literal) → ((e : ℕ) → T (has a e) → T (literal_for (v e) l || list_any (literal_for (v e)) others))
      → (e : ℕ) → T (has (all_false (points d) a others) e) → T (literal_for (v e) l)
  made a l others h e t =
      table (has a e) (literal_for (v e) l) (list_any (literal_for (v e)) others) (h e) (subst T (has-all-false e a others) t)
    where
      table : (x y z : Bool) → (T x → T (y || z)) → T (x && not z) → T y
      table x true z s t = tt
      table true false true s t = t
      table true false false s t = s tt
      table false false z s t = t

  fixed_same : (w s : ℕ) → ((e : ℕ) → T (has w e) → T (has s e)) → fixed_with w (point s) ≡ point s
  unfolding fixed_with
  fixed_same w s h =
      group-eq (fixed_with w (point s)) (point s) (sub_antisym (sub-or (sub_refl s) (has_sub w s h)) (sub-or_l s w)) refl refl refl

  possible-same : (w s : ℕ) → ((e : ℕ) → T (has w e) → T (not (has s e))) → possible_without w (point s) ≡ point s
  unfolding possible_without
  possible-same w s h =
      group-eq (possible_without w (point s)) (point s) refl
      (has_ext (less s w) s (λ e. has-less s w e ∙ table (has s e) (has w e) (h e))) refl refl
    where
      table : (x y : Bool) → (T y → T (not x)) → (x && not y) ≡ x
      table true true f = absurd (f tt)
      table true false f = refl
      table false y f = refl

  made-same : (l : Literal) (w : ℕ) → ((e : ℕ) → T (has w e) → T (literal_for (v e) l)) → made_true l w (points d) ≡ points d
  unfolding made_true literal_for group_at
  made-same (Pos g) w h = place_same (g - 1) (fixed_with w) (points d) zero_group (rw (group_of d g) (fixed_same w (set_of d g) h))
  made-same (Neg g) w h = place_same (g - 1) (possible_without w) (points d) zero_group (rw (group_of d g) (possible-same w (set_of d g) h))

  literal-same : (a : ℕ) (l : Literal) (others : List Literal) → ((e : ℕ) → T (has a e) → T (literal_for (v e) l || list_any (literal_for (v e)) others))
      → literal_rule a l others (points d) ≡ points d
  unfolding literal_rule
  literal-same a l others h = made-same l (all_false (points d) a others) (made a l others h)

  rules-same : (a : ℕ) (before after : List Literal) → ((e : ℕ) → T (has a e) → T (list_any (literal_for (v e)) before || list_any (literal_for (v e)) after))
      → Unchanged table_frame (clause_rules a before after) (points d)
  unfolding clause_rules
  rules-same a before [] h = tt
  rules-same a before (l ∷ after) h = (
    literal-same a l (before ++ after)
        (λ e i. rw (any_append (literal_for (v e)) before after)
        (swap (list_any (literal_for (v e)) before) (literal_for (v e) l) (list_any (literal_for (v e)) after) (h e i))),
    rules-same a (before ++ (l ∷ [])) after
        (λ e i. rw (any_append (literal_for (v e)) before (l ∷ []))
        (move (list_any (literal_for (v e)) before) (literal_for (v e) l) (list_any (literal_for (v e)) after) (h e i))),
  )
    where
      swap : (a b c : Bool) → T (a || (b || c)) → T (b || (a || c))
      swap true true c t = tt
      swap true false c t = tt
      swap false true c t = tt
      swap false false c t = t

      move : (a b c : Bool) → T (a || (b || c)) → T ((a || (b || false)) || c)
      move true b c t = tt
      move false true c t = tt
      move false false c t = t

  -- among the entrants of a word for whom the clauses hold
  clauses-same : (a : ℕ) (cs : List (List Literal)) → ((e : ℕ) → T (has a e) → T (clauses_for (v e) cs))
      → All (λ c. clause_rule a c (points d) ≡ points d) cs
  unfolding clauses_for clause_rule
  clauses-same a [] h = tt
  clauses-same a (c ∷ cs) h = (
    run-fixed table_frame (clause_rules a [] c) (points d)
        (rules-same a [] c (λ e i. and_left (list_any (literal_for (v e)) c) (list_all (list_any (literal_for (v e))) cs) (h e i))),
    clauses-same a cs (λ e i. and_right (list_any (literal_for (v e)) c) (list_all (list_any (literal_for (v e))) cs) (h e i)),
  )

  -- ---- code 7: the entrants not settled alike are those in just one of the two sets

  abbrev just-one : Bool → Bool → Bool
  just-one f g = (f || g) && not (f && g)

  has-unlike : (c : Constraint) (e : ℕ) → has (unlike_in (points d) c) e ≡ just-one (v e (get_or c.groups 0 0)) (v e (get_or c.groups 1 0))
  unfolding unlike_in unlike member_at
  has-unlike c e =
      let x = set_of d (get_or c.groups 0 0) in
      let y = set_of d (get_or c.groups 1 0) in
      rw (group_of d (get_or c.groups 0 0), group_of d (get_or c.groups 1 0))
      (has-less (bit_or x y) (bit_and x y) e ∙ ap₂ (λ (p q : Bool). p && not q) (has-or x y e) (has-and x y e))

  lone-sub : (w : ℕ) → Sub (lone w) w
  unfolding lone
  lone-sub w = go (eqb (size w) 1)
    where
      go : (b : Bool) → Sub (cond b w 0) w
      go true = sub_refl w
      go false = record { at = λ e. omega (arith, bit-zero e) }

  -- for them the clauses hold
  difference-holds : (n : ℕ) (c : Constraint) → c.code ≡ 7 → (e : ℕ) → T (has (scope n (points d) c) e) → T (clauses_for (v e) (clauses_of c))
  unfolding scope is_difference rule_clauses clauses_for literal_for unlike_in member_at
  difference-holds n c seven e t =
      rw (over-members (v e) c, seven)
      (table (v e (get_or c.groups 0 0)) (v e (get_or c.groups 1 0))
      (subst T (has-unlike c e) (sub-has (lone (unlike_in (points d) c)) (unlike_in (points d) c) (lone-sub (unlike_in (points d) c)) e (rw seven at t))))
    where
      table : (f g : Bool) → T (just-one f g) → T ((not f || (not g || false)) && ((f || (g || false)) && true))
      table true true t = t
      table true false t = tt
      table false true t = tt
      table false false t = t

  -- ---- limits: a set within another has no more entrants, and a union at most as many as its members together

  abbrev Same : (List Group → List Group) → Type 0
  Same r = r (points d) ≡ points d

  abbrev S : ℕ → ℕ
  S g = set_of d g

  low_same : (g f : ℕ) → size (S f) ≤ size (S g) → Same (low_at_least g f)
  unfolding low_at_least group_at
  low_same g f l =
      place_same (g - 1) (raised (group_at (points d) f).low) (points d) zero_group (rw (group_of d f, group_of d g) (raised-same (size (S f)) (point (S g)) l))

  high_same : (f g : ℕ) → size (S f) ≤ size (S g) → Same (high_at_most f g)
  unfolding high_at_most group_at
  high_same f g l =
      place_same (f - 1) (lowered (group_at (points d) g).high) (points d) zero_group (rw (group_of d g, group_of d f) (lowered-same (size (S g)) (point (S f)) l))

  sum_same : (h : ℕ) (fs : List ℕ) → size (S h) ≤ total (λ f. size (S f)) fs → Same (high_at_most_sum h fs)
  unfolding high_at_most_sum group_at
  sum_same h fs l =
      let e : total (λ f. (group_at (points d) f).high) fs ≡ total (λ f. size (S f)) fs =
      total_ext (λ f. (group_at (points d) f).high) (λ f. size (S f)) (λ f. ap (λ (g : Group). g.high) (group_of d f)) fs in
      place_same (h - 1) (lowered (total (λ f. (group_at (points d) f).high) fs)) (points d) zero_group
      (rw (e, group_of d h) (lowered-same (total (λ f. size (S f)) fs) (point (S h)) l))

  low-first-same : (f g : ℕ) → Sub (S f) (S g) → All Same (low_first f g)
  unfolding low_first
  low-first-same f g s = (low_same g f (size_mono s), (high_same f g (size_mono s), tt))

  high-first-same : (h f : ℕ) → Sub (S h) (S f) → All Same (high_first h f)
  unfolding high_first
  high-first-same h f s = (high_same h f (size_mono s), (low_same f h (size_mono s), tt))

  union-same : (h : ℕ) (fs : List ℕ) → S h ≡ union (map S fs) → All Same (union_limits h fs)
  unfolding union_limits
  union-same h fs e =
      all_append Same (map (low_at_least h) fs ++ map (λ f. high_at_most f h) fs) (high_at_most_sum h fs ∷ [])
      (all_append Same (map (low_at_least h) fs) (map (λ f. high_at_most f h) fs)
      (all_map Same (low_at_least h) fs (all-imp In (λ f. Same (low_at_least h f)) (λ f s. low_same h f (size_mono s)) fs inside-h))
      (all_map Same (λ f. high_at_most f h) fs (all-imp In (λ f. Same (high_at_most f h)) (λ f s. high_same f h (size_mono s)) fs inside-h)))
      (sum_same h fs (omega (arith, ap size e, size-union (map S fs), total-map size S fs)), tt)
    where
      In : ℕ → Type 0
      In f = Sub (S f) (S h)

      inside-h : All (λ f. Sub (S f) (S h)) fs
      inside-h = map-all (λ w. Sub w (S h)) S fs (subst (λ (u : ℕ). All (λ w. Sub w u) (map S fs)) (sym e) (union-sub (map S fs)))

  equal-sub : (a b : ℕ) → a ≡ b → Sub a b
  equal-sub a b e = subst (λ (w : ℕ). Sub a w) e (sub_refl a)

  -- each code, by the list of its groups
  abbrev Limits : ℕ → ℕ → List ℕ → Type 0
  Limits k code gs = length gs ≡ member_count code k → T (meaning code (map S gs)) → All Same (limits_of code gs)

  limits1 : (k : ℕ) (gs : List ℕ) → Limits k 1 gs
  unfolding member_count meaning limits_of
  limits1 k [] h t = absurd (omega arith)
  limits1 k (x ∷ []) h t = absurd (omega arith)
  limits1 k (x ∷ y ∷ gs) h t =
      let e : S x ≡ S y = eqb→eq (S x) (S y) t in
      all_append Same (low_first x y) (low_first y x) (low-first-same x y (equal-sub (S x) (S y) e)) (low-first-same y x (equal-sub (S y) (S x) (sym e)))

  limits2 : (k : ℕ) (gs : List ℕ) → Limits k 2 gs
  unfolding member_count meaning limits_of
  limits2 k [] h t = absurd (omega arith)
  limits2 k (x ∷ []) h t = absurd (omega arith)
  limits2 k (x ∷ y ∷ gs) h t = low-first-same x y (inside-sub (S x) (S y) t)

  limits3 : (k : ℕ) (gs : List ℕ) → Limits k 3 gs
  unfolding member_count meaning limits_of
  limits3 k [] h t = absurd (omega arith)
  limits3 k (x ∷ []) h t = absurd (omega arith)
  limits3 k (x ∷ y ∷ []) h t = absurd (omega arith)
  limits3 k (x ∷ y ∷ z ∷ gs) h t =
      let s : Sub (S x) (bit_and (S y) (S z)) = equal-sub (S x) (bit_and (S y) (S z)) (eqb→eq (S x) (bit_and (S y) (S z)) t) in
      all_append Same (high_first x y) (high_first x z)
      (high-first-same x y (sub_trans s (sub-and_l (S y) (S z)))) (high-first-same x z (sub_trans s (sub-and-r (S y) (S z))))

  limits4 : (k : ℕ) (gs : List ℕ) → Limits k 4 gs
  unfolding member_count meaning limits_of union
  limits4 k [] h t = absurd (omega arith)
  limits4 k (x ∷ []) h t = absurd (omega arith)
  limits4 k (x ∷ y ∷ []) h t = absurd (omega arith)
  limits4 k (x ∷ y ∷ z ∷ []) h t =
      union-same x (y ∷ z ∷ []) (eqb→eq (S x) (bit_or (S y) (S z)) t ∙ ap (bit_or (S y)) (sym (or_zero_r (S z))))
  limits4 k (x ∷ y ∷ z ∷ w ∷ gs) h t = absurd (omega arith)

  limits5 : (k : ℕ) (gs : List ℕ) → Limits k 5 gs
  unfolding member_count meaning limits_of
  limits5 k [] h t = absurd (omega arith)
  limits5 k (x ∷ []) h t = absurd (omega arith)
  limits5 k (x ∷ y ∷ []) h t = absurd (omega arith)
  limits5 k (x ∷ y ∷ z ∷ gs) h t =
      high-first-same x y (sub_trans (equal-sub (S x) (less (S y) (S z)) (eqb→eq (S x) (less (S y) (S z)) t)) (sub-less (S y) (S z)))

  limits6 : (k : ℕ) (gs : List ℕ) → Limits k 6 gs
  unfolding member_count meaning limits_of
  limits6 k [] h t = absurd (omega arith)
  limits6 k (x ∷ fs) h t = union-same x fs (eqb→eq (S x) (union (map S fs)) t)

  limits7 : (k : ℕ) (gs : List ℕ) → Limits k 7 gs
  unfolding limits_of
  limits7 k gs h t = tt

  limits-same : (s : ℕ) (c : Constraint) → T (constraint_in_range s c) → limits.members ≤ length c.groups → T (constraint_true d c) → All Same (limit_rules c)
  unfolding limit_rules constraint_true
  limits-same s c r k t =
      let gs = groups_of c in
      let few = member-bound c.code c.count (constraint-code s c r) in
      let L : ℕ → Type 0 = λ code. Limits c.count code gs in
      by_seven L
      (by_code L (limits1 c.count gs) (limits2 c.count gs) (limits3 c.count gs) (limits4 c.count gs) (limits5 c.count gs) (limits6 c.count gs))
      (limits7 c.count gs) c.code (is_code c.code c.count (constraint-code s c r))
      (unfold groups_of in length-take (member_count c.code c.count) c.groups ∙ omega (arith, few)) t

  -- ---- a constraint

  constraint-same : (n s : ℕ) (c : Constraint) → T (constraint_in_range s c) → limits.members ≤ length c.groups → T (constraint_true d c)
      → constraint_rule n c (points d) ≡ points d
  unfolding constraint_rule clauses_hold
  constraint-same n s c r k t =
      run-fixed table_frame (map (clause_rule a) (clauses_of c) ++ limit_rules c) (points d)
      (all_append Same (map (clause_rule a) (clauses_of c)) (limit_rules c)
      (all_map Same (clause_rule a) (clauses_of c) (clauses-same a (clauses_of c) (go (entrant-or-seven c.code c.count (constraint-code s c r)))))
      (limits-same s c r k t))
    where
      a : ℕ
      a = scope n (points d) c

      go : T (by_entrant c.code) ⊎ (c.code ≡ 7) → (e : ℕ) → T (has a e) → T (clauses_for (v e) (clauses_of c))
      go (inl six) e i = (meaning-clauses c (constraint-code s c r) six k d).0 t e
      go (inr seven) e i = difference-holds n c seven e i

  -- and a code 7 constraint has such an entrant
  constraint-differs : (s : ℕ) (c : Constraint) → T (constraint_in_range s c) → limits.members ≤ length c.groups → T (constraint_true d c)
      → T (may_differ (points d) c)
  unfolding may_differ is_difference unlike_in member_at
  constraint-differs s c r k t = go (entrant-or-seven c.code c.count (constraint-code s c r))
    where
      x : ℕ
      x = set_of d (get_or c.groups 0 0)

      y : ℕ
      y = set_of d (get_or c.groups 1 0)

      equal : (f g : Bool) → just-one f g ≡ false → f ≡ g
      equal true true e = refl
      equal true false e = e
      equal false true e = sym e
      equal false false e = refl

      some : (b : Bool) → eqb (unlike_in (points d) c) 0 ≡ b → T (not (eqb x y)) → T (not b)
      some false e h = tt
      some true e h =
          let same : x ≡ y = has_ext x y (λ i. equal (has x i) (has y i)
          (sym (has-unlike c i) ∙ ap (λ (w : ℕ). has w i) (eqb-true (unlike_in (points d) c) 0 e) ∙ has-zero i)) in
          subst (λ b. T (not b)) (eq-eqb x y same) h

      go : T (by_entrant c.code) ⊎ (c.code ≡ 7) → T (not (eqb c.code 7 && eqb (unlike_in (points d) c) 0))
      go (inl six) = rw (not_seven c.code six) tt
      go (inr seven) = rw seven (some (eqb (unlike_in (points d) c) 0) refl (subst T (difference-sets c seven k d) t))

  constraints-same : (n s : ℕ) (cs : List Constraint) → All (λ c. T (constraint_in_range s c)) cs
      → All (λ c. T (leb limits.members (length c.groups))) cs → All (λ c. T (constraint_true d c)) cs
      → All (λ c. constraint_rule n c (points d) ≡ points d) cs
  constraints-same n s [] r k t = tt
  constraints-same n s (c ∷ cs) r k t = (
    constraint-same n s c r.0 (leb→le limits.members (length c.groups) k.0) t.0,
    constraints-same n s cs r.1 k.1 t.1,
  )

  constraints-differ : (s : ℕ) (cs : List Constraint) → All (λ c. T (constraint_in_range s c)) cs
      → All (λ c. T (leb limits.members (length c.groups))) cs → All (λ c. T (constraint_true d c)) cs
      → T (list_all (may_differ (points d)) cs)
  constraints-differ s [] r k t = tt
  constraints-differ s (c ∷ cs) r k t =
      and_both (may_differ (points d) c) (list_all (may_differ (points d)) cs)
      (constraint-differs s c r.0 (leb→le limits.members (length c.groups) k.0) t.0) (constraints-differ s cs r.1 k.1 t.1)

-- ---- a solution is a candidate

pub solution_candidate : (m : Model) → T (in_range m) → T (members_sized m) → (d : List ℕ) → T (is_solution m d) → T (is_candidate m (points d))
unfolding is_solution consistent within rules
solution_candidate m r k d t =
    let P : (List Group → List Group) → Type 0 = λ f. f (points d) ≡ points d in
    let a = pairwise allowed (table_of m) d in
    let cs = constraints_of m in
    let b = list_all (constraint_true d) cs in
    let ranges = every-all (constraint_in_range m.s) cs (in_range_lem m r).constraints in
    let members = every-all (λ c. leb limits.members (length c.groups)) cs k in
    let all_true_lem = every-all (constraint_true d) cs (and_right a b t) in
    rw (candidate-is m (points d))
    (whole (constraint_frame cs) (rules m.n m.s cs) (table_of m) (points d)
    (record {
      consistent = and_both (consistent (points d)) (list_all (may_differ (points d)) cs) (points-consistent d) (constraints-differ d m.s cs ranges members all_true_lem);
      unchanged = all_append P (map group_rule_at (range 1 m.s)) (map (constraint_rule m.n) cs)
          (all_map P group_rule_at (range 1 m.s) (all_of (λ g. group_rule_at g (points d) ≡ points d) (points-group d) (range 1 m.s)))
          (all_map P (constraint_rule m.n) cs (constraints-same d m.n m.s cs ranges members all_true_lem));
      inside = subst T (allowed-points (table_of m) d) (and_left a b t);
    }))
