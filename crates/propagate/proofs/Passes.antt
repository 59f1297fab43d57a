-- Laws of a pass over the whole table and over the groups of a model, and of the passes made. Assumes nothing.
use mathlib.Core.Path.{◌≡◌, refl, sym, ap, ap₂, ◌∙◌, subst}
use Prim.Native.Nat.{ℕ, zero, suc, ◌+◌, ◌-◌, ◌*◌, ◌≤◌, ◌<◌, min}
use native.Mathlib.Nat.{le_trans, mul-le-mul_right}
use native.Mathlib.Omega.{arith}
use mathlib.Core.Bool.{Bool, true, false, cond, not, ◌&&◌}
use mathlib.Core.Logic.{⊎_elim}
use mathlib.Core.List.{List, [], ◌∷◌, ◌++◌, map}
use borrow.Author.Tests.{eqb-true}
use lib.Dec.{T, eqb}
use lib.ListN.{length, get_or, take, drop, take-append-drop, get_or-append}
use lib.Seq.{take_at, length-take-le}
use Rattle.model.specs.declared.Literal.{Literal}
use Rattle.model.specs.declared.Literal.TheVariants.{Pos, Neg}
use Rattle.model.specs.declared.Group.{Group}
use Rattle.model.specs.declared.Constraint.{Constraint}
use Rattle.model.specs.declared.Model.{Model}
use Rattle.model.specs.declared.Propagated.{Propagated}
use Rattle.std.specs.List.{list_all}
use Rattle.model.specs.Lists.{total, range, on_place, between, distinct}
use Rattle.model.specs.Limits.{limits}
use Rattle.model.specs.Words.{full}
use Rattle.model.specs.Clauses.{member_count, is_difference, rule_clauses, of_group, groups_of, clauses_of}
use Rattle.model.specs.Model.{zero_group, group_at, member_at, table_of, constraints_of, code_in_range, constraint_in_range, in_range}
use Rattle.model.specs.LimitRules.{raised, lowered, low_at_least, high_at_most, high_at_most_sum, limit_rules}
use Rattle.model.specs.Difference.{unlike, unlike_in, lone, may_differ}
use Rattle.model.specs.Propagate.{group_rule, group_rule_at, false_in, all_false, fixed_with, possible_without, made_true, literal_rule, run, clause_rules, clause_rule, scope, constraint_rule, rules, pass, consistent, tenable, same_table, Outcome, contradiction, fixpoint, after_pass, iterate, outcome, refused_propagation, propagated_as, propagated, is_fixpoint, unsettled_or}
use Rattle.model.specs.Assignment.{variable}
use Rattle.model.proofs.Lists.{T_true, true-T, between_le, le-between, All, all_append, all_map, all-imp, all-every, every-all, and_left, and_right, and_both, place-append, place-length}
use Rattle.model.proofs.Codes.{entrant-or-seven, members-below}
use Rattle.model.proofs.LimitRules.{all-limits}
use Rattle.propagation_laws.proofs.Meaning.{rule_clauses_lem}
use Rattle.propagation_laws.proofs.Ranges.{constraint-code, groups-in, member_below, InRange, in_range_lem}
use Rattle.model.proofs.Words.{entrants-full}
use Rattle.table.specs.Table.{Whole}
use Rattle.table.proofs.Rules.{run-append}
use Rattle.rules.specs.Among.{scope_among, rule_among}
use Rattle.propagate.specs.Skip.{After}

-- ---- the rules of a pass, on all places

-- for the word of entrants 1..n, the rule is that of n
pub among_all : (n all : ℕ) (c : Constraint) (t : List Group) → n ≤ limits.word → all ≡ full (min n limits.word) → rule_among all c t ≡ constraint_rule n c t
unfolding rule_among scope_among constraint_rule scope
among_all n all c t h e = ap (λ (x : ℕ). run (map (clause_rule (cond (is_difference c) (lone (unlike_in t c)) x)) (clauses_of c) ++ limit_rules c) t) (e ∙ entrants-full n h)

-- after the groups' rules u, and after the constraints' v
pub pass-made : (n s : ℕ) (cs : List Constraint) (t u v : List Group) → u ≡ run (map group_rule_at (range 1 s)) t → v ≡ run (map (constraint_rule n) cs) u → v ≡ run (rules n s cs) t
unfolding rules
pass-made n s cs t u v e a =
    a ∙ ap (run (map (constraint_rule n) cs)) e ∙ sym (run-append (map group_rule_at (range 1 s)) (map (constraint_rule n) cs) t)

-- ---- a rule of the first s places leaves what follows them

module _ (s : ℕ) where
  pub record Local (r : List Group → List Group) : Type 0 where
    pub on : (t u : List Group) → length t ≡ s → (r (t ++ u) ≡ r t ++ u) × (length (r t) ≡ s)

  local-run : (rs : List (List Group → List Group)) → All Local rs → Local (run rs)
  local-run [] h = record { on = λ t u e. (refl, e) }
  local-run (r ∷ rs) h = record {
    on = λ t u e.
        let a = h.0.on t u e in
        let b = (local-run rs h.1).on (r t) u a.1 in
        (ap (run rs) a.0 ∙ b.0, b.1);
  }

  local-place : (i : ℕ) (r : Group → Group) → i < s → Local (on_place i r)
  local-place i r h = record { on = λ t u e. (place-append i r t u (omega arith), place-length i r t ∙ e) }

  abbrev Inside : Literal → Type 0
  Inside (Pos g) = g - 1 < s
  Inside (Neg g) = g - 1 < s

  group-inside : (t u : List Group) (g : ℕ) → length t ≡ s → g - 1 < s → group_at (t ++ u) g ≡ group_at t g
  unfolding group_at
  group-inside t u g e h = get_or-append t u zero_group (g - 1) (omega arith)

  false-inside : (t u : List Group) (w : ℕ) (l : Literal) → length t ≡ s → Inside l → false_in (t ++ u) w l ≡ false_in t w l
  unfolding false_in
  false-inside t u w (Pos g) e h = rw (group-inside t u g e h)
  false-inside t u w (Neg g) e h = rw (group-inside t u g e h)

  all-false-inside : (t u : List Group) (w : ℕ) (ls : List Literal) → length t ≡ s → All Inside ls → all_false (t ++ u) w ls ≡ all_false t w ls
  unfolding all_false
  all-false-inside t u w [] e h = refl
  all-false-inside t u w (l ∷ ls) e h =
      ap (λ (x : ℕ). all_false (t ++ u) x ls) (false-inside t u w l e h.0) ∙ all-false-inside t u (false_in t w l) ls e h.1

  local-made : (l : Literal) (w : ℕ) → Inside l → Local (made_true l w)
  unfolding made_true
  local-made (Pos g) w h = local-place (g - 1) (fixed_with w) h
  local-made (Neg g) w h = local-place (g - 1) (possible_without w) h

  local-literal : (w : ℕ) (l : Literal) (others : List Literal) → Inside l → All Inside others → Local (literal_rule w l others)
  unfolding literal_rule
  local-literal w l others h k = record {
    on = λ t u e.
        let a = (local-made l (all_false t w others) h).on t u e in
        (ap (λ (x : ℕ). made_true l x (t ++ u)) (all-false-inside t u w others e k) ∙ a.0, a.1);
  }

  local-literals : (w : ℕ) (before after : List Literal) → All Inside before → All Inside after → All Local (clause_rules w before after)
  unfolding clause_rules
  local-literals w before [] h k = tt
  local-literals w before (l ∷ after) h k = (
    local-literal w l (before ++ after) k.0 (all_append Inside before after h k.1),
    local-literals w (before ++ (l ∷ [])) after (all_append Inside before (l ∷ []) h (k.0, tt)) k.1,
  )

  local-clause : (w : ℕ) (c : List Literal) → All Inside c → Local (clause_rule w c)
  unfolding clause_rule
  local-clause w c h = local-run (clause_rules w [] c) (local-literals w [] c tt h)

  -- a limit of a group within them, by the limits of others within them
  local_by : (i : ℕ) (r : ℕ → Group → Group) (value : List Group → ℕ) → i < s
      → ((t u : List Group) → length t ≡ s → value (t ++ u) ≡ value t) → Local (λ t. on_place i (r (value t)) t)
  local_by i r value h same = record {
    on = λ t u e.
        let a = (local-place i (r (value t)) h).on t u e in
        (ap (λ (x : ℕ). on_place i (r x) (t ++ u)) (same t u e) ∙ a.0, a.1);
  }

  abbrev In : ℕ → Type 0
  In g = g - 1 < s

  local-low : (g f : ℕ) → In g → In f → Local (low_at_least g f)
  unfolding low_at_least
  local-low g f h k =
      local_by (g - 1) raised (λ t. (group_at t f).low) h (λ t u e. ap (λ (x : Group). x.low) (group-inside t u f e k))

  local-high : (f g : ℕ) → In f → In g → Local (high_at_most f g)
  unfolding high_at_most
  local-high f g h k =
      local_by (f - 1) lowered (λ t. (group_at t g).high) h (λ t u e. ap (λ (x : Group). x.high) (group-inside t u g e k))

  sum_inside : (fs : List ℕ) → All In fs → (t u : List Group) → length t ≡ s → total (λ f. (group_at (t ++ u) f).high) fs ≡ total (λ f. (group_at t f).high) fs
  sum_inside [] h t u e = refl
  sum_inside (f ∷ fs) h t u e =
      ap₂ ◌+◌ (ap (λ (x : Group). x.high) (group-inside t u f e h.0)) (sum_inside fs h.1 t u e)

  local-sum : (g : ℕ) (fs : List ℕ) → In g → All In fs → Local (high_at_most_sum g fs)
  unfolding high_at_most_sum
  local-sum g fs h k = local_by (g - 1) lowered (λ t. total (λ f. (group_at t f).high) fs) h (sum_inside fs k)

  -- the clauses for entrants who are the same by the first s places as by all
  local-constraint : 0 < s → (n : ℕ) (c : Constraint) → All (All Inside) (clauses_of c) → All In (groups_of c)
      → ((t u : List Group) → length t ≡ s → scope n (t ++ u) c ≡ scope n t c) → Local (constraint_rule n c)
  unfolding constraint_rule limit_rules
  local-constraint some n c h k same = record {
    on = λ t u e.
        let a = (local-run (rules_for (scope n t c)) (all_local (scope n t c))).on t u e in
        (ap (λ (w : ℕ). run (rules_for w) (t ++ u)) (same t u e) ∙ a.0, a.1);
  }
    where
      rules_for : ℕ → List (List Group → List Group)
      rules_for w = map (clause_rule w) (clauses_of c) ++ limit_rules c

      each : (w : ℕ) (cs : List (List Literal)) → All (All Inside) cs → All (λ x. Local (clause_rule w x)) cs
      each w [] h = tt
      each w (x ∷ cs) h = (local-clause w x h.0, each w cs h.1)

      all_local : (w : ℕ) → All Local (rules_for w)
      all_local w =
          all_append Local (map (clause_rule w) (clauses_of c)) (limit_rules c) (all_map Local (clause_rule w) (clauses_of c) (each w (clauses_of c) h))
          (all-limits Local In (omega arith) local-low local-high local-sum c.code (groups_of c) k)

-- ---- an in-range constraint names the first s places

seven_below : (k : ℕ) → All (All (λ l. variable l < member_count 7 k)) (rule_clauses 7 k)
unfolding rule_clauses member_count
seven_below k = ((omega arith, (omega arith, tt)), ((omega arith, (omega arith, tt)), tt))

module _ (s : ℕ) (some : 1 ≤ s) (c : Constraint) (r : T (constraint_in_range s c)) where
  abbrev Below : Literal → Type 0
  Below l = variable l < member_count c.code c.count

  literal-inside : (l : Literal) → Below l → Inside s (of_group c.groups l)
  unfolding of_group
  literal-inside (Pos i) h = omega (arith, member_below s c r i h)
  literal-inside (Neg i) h = omega (arith, member_below s c r i h)

  -- member i of a table is that of its first s places
  member-inside : (t u : List Group) → length t ≡ s → (i : ℕ) → i < member_count c.code c.count → member_at (t ++ u) c i ≡ member_at t c i
  unfolding member_at
  member-inside t u e i h = group-inside s t u (get_or c.groups i 0) e (omega (arith, member_below s c r i h))

  pub unlike-inside : is_difference c ≡ true → (t u : List Group) → length t ≡ s → unlike_in (t ++ u) c ≡ unlike_in t c
  unfolding is_difference unlike_in member_count
  unlike-inside d t u e =
      let two : member_count c.code c.count ≡ 2 = ap (λ (k : ℕ). member_count k c.count) (eqb-true c.code 7 d) in
      ap₂ unlike (member-inside t u e 0 (omega arith)) (member-inside t u e 1 (omega arith))

  scope-inside : (n : ℕ) (t u : List Group) → length t ≡ s → scope n (t ++ u) c ≡ scope n t c
  unfolding scope
  scope-inside n t u e = go (is_difference c) refl
    where
      go : (d : Bool) → is_difference c ≡ d → cond d (lone (unlike_in (t ++ u) c)) (full n) ≡ cond d (lone (unlike_in t c)) (full n)
      go true d = ap lone (unlike-inside d t u e)
      go false d = refl

  differs-inside : (t u : List Group) → length t ≡ s → may_differ (t ++ u) c ≡ may_differ t c
  unfolding may_differ
  differs-inside t u e = go (is_difference c) refl
    where
      go : (d : Bool) → is_difference c ≡ d → not (d && eqb (unlike_in (t ++ u) c) 0) ≡ not (d && eqb (unlike_in t c) 0)
      go true d = ap (λ (w : ℕ). not (eqb w 0)) (unlike-inside d t u e)
      go false d = refl

  clauses-below : All (All Below) (rule_clauses c.code c.count)
  clauses-below = ⊎_elim
      (λ six. subst (All (All Below)) (sym (rule_clauses_lem c.code c.count six)) (members-below c.code c.count six))
      (λ seven. subst (λ (k : ℕ). All (All (λ l. variable l < member_count k c.count)) (rule_clauses k c.count)) (sym seven) (seven_below c.count))
      (entrant-or-seven c.code c.count (constraint-code s c r))

  in-range-local : (n : ℕ) → Local s (constraint_rule n c)
  unfolding clauses_of
  in-range-local n =
      local-constraint s some n c
      (all_map (All (Inside s)) (map (of_group c.groups)) (rule_clauses c.code c.count)
      (all-imp (All Below) (λ ls. All (Inside s) (map (of_group c.groups) ls))
      (λ ls h. all_map (Inside s) (of_group c.groups) ls (all-imp Below (λ l. Inside s (of_group c.groups l)) literal-inside ls h))
      (rule_clauses c.code c.count) clauses-below))
      (all-imp (λ g. T (between 1 s g)) (λ g. g - 1 < s) (λ g h. omega (arith, (between_le 1 s g h).0, (between_le 1 s g h).1)) (groups_of c)
      (every-all (between 1 s) (groups_of c) (groups-in s c r)))
      (scope-inside n)

-- its groups are groups of the whole table, too
pub all_stand : (s : ℕ) → s ≤ limits.groups → (cs : List Constraint) → T (list_all (constraint_in_range s) cs) → T (list_all (constraint_in_range limits.groups) cs)
all_stand s few cs r =
    all-every (constraint_in_range limits.groups) cs
    (all-imp (λ c. T (constraint_in_range s c)) (λ c. T (constraint_in_range limits.groups c)) wider cs (every-all (constraint_in_range s) cs r))
  where
    wider : (c : Constraint) → T (constraint_in_range s c) → T (constraint_in_range limits.groups c)
    wider c u = unfold constraint_in_range in (
        let k = code_in_range c.code c.count in
        let a = list_all (between 1 s) (groups_of c) in
        let b = list_all (between 1 limits.groups) (groups_of c) in
        let d = distinct (groups_of c) in
        let in-groups : T b = all-every (between 1 limits.groups) (groups_of c)
        (all-imp (λ g. T (between 1 s g)) (λ g. T (between 1 limits.groups g))
        (λ g h. let l = between_le 1 s g h in le-between 1 limits.groups g l.0 (le_trans l.1 few)) (groups_of c)
        (every-all (between 1 s) (groups_of c) (groups-in s c u))) in
        and_both (k && b) d (and_both k b (constraint-code s c u) in-groups) (and_right (k && a) d u))

-- whether each of them may differ
differ-inside : (s : ℕ) → 1 ≤ s → (cs : List Constraint) → T (list_all (constraint_in_range s) cs) → (t u : List Group) → length t ≡ s
    → list_all (may_differ (t ++ u)) cs ≡ list_all (may_differ t) cs
differ-inside s some [] r t u e = refl
differ-inside s some (c ∷ cs) r t u e =
    let a = constraint_in_range s c in
    let b = list_all (constraint_in_range s) cs in
    ap₂ ◌&&◌ (differs-inside s some c (and_left a b r) t u e) (differ-inside s some cs (and_right a b r) t u e)

module _ (s : ℕ) (some : 1 ≤ s) (few : s ≤ limits.groups) (cs : List Constraint) (r : T (list_all (constraint_in_range s) cs)) (t : List Group) (w : Whole t)
    (q : Bool) (e : q ≡ consistent (take s t)) where
  pub tenable-is : (a : Bool) → a ≡ (q && list_all (may_differ t) cs) → a ≡ tenable cs (take s t)
  unfolding tenable
  tenable-is a d =
      d
      ∙ ap (λ u. q && list_all (may_differ u) cs) (sym (take-append-drop s t))
      ∙ ap₂ (λ (x y : Bool). x && y) e (differ-inside s some cs r (take s t) (drop s t) (length-take-le s t (omega arith)))

-- ---- a pass of the model is that of the arrays, at the first s places

module _ (m : Model) (t : T (in_range m)) where
  R : InRange m
  R = in_range_lem m t

  pub s-few : m.s ≤ limits.groups
  s-few = R.group_count

  pub s-some : 1 ≤ m.s
  s-some = R.some-group

  pub constraints-in : T (list_all (constraint_in_range m.s) (take m.c m.constraints))
  unfolding constraints_of
  constraints-in = R.constraints

  pub n-few : m.n ≤ limits.entrants
  n-few = R.entrants

  pub c-few : m.c ≤ limits.constraints
  c-few = R.constraint_count

  groups-local : (a k : ℕ) → 1 ≤ a → a + k ≤ m.s + 1 → All (Local m.s) (map group_rule_at (range a k))
  unfolding group_rule_at
  groups-local a zero h l = tt
  groups-local a (suc k) h l = (local-place m.s (a - 1) group_rule (omega arith), groups-local (suc a) k (omega arith) (omega arith))

  constraints-local : (cs : List Constraint) → T (list_all (constraint_in_range m.s) cs) → All (Local m.s) (map (constraint_rule m.n) cs)
  constraints-local [] u = tt
  constraints-local (c ∷ cs) u =
      let a = constraint_in_range m.s c in
      let b = list_all (constraint_in_range m.s) cs in
      (in-range-local m.s R.some-group c (and_left a b u) m.n, constraints-local cs (and_right a b u))

  pub pass-local : Local m.s (pass m)
  unfolding pass rules
  pass-local = local-run m.s (rules m.n m.s (constraints_of m))
      (all_append (Local m.s) (map group_rule_at (range 1 m.s)) (map (constraint_rule m.n) (constraints_of m)) (groups-local 1 m.s (omega arith) (omega arith))
      (constraints-local (constraints_of m) R.constraints))

  pub pass-first : (a b : List Group) → Whole a → b ≡ run (rules m.n m.s (take m.c m.constraints)) a → take m.s b ≡ pass m (take m.s a)
  unfolding pass constraints_of
  pass-first a b w e =
      let x = take m.s a in
      let y = drop m.s a in
      let l = pass-local.on x y (length-take-le m.s a (omega (arith, s-few))) in
      ap (take m.s) (e ∙ ap (pass m) (sym (take-append-drop m.s a)) ∙ l.0) ∙ take_at (pass m x) y m.s l.1

  -- what the code asks of the constraints
  pub constraints-stand : T (list_all (constraint_in_range limits.groups) (take m.c m.constraints))
  constraints-stand = all_stand m.s s-few (take m.c m.constraints) constraints-in

-- what the code asks of a model in range
pub ruleset in_ranges = (s-some, s-few, n-few, c-few, constraints-in, constraints-stand)

-- ---- the answer

pub propagated_in : (m : Model) → T (in_range m) → propagated m ≡ propagated_as m (outcome m)
unfolding propagated
propagated_in m t = rw (T_true (in_range m) t)

pub propagated-out : (m : Model) → in_range m ≡ false → propagated m ≡ refused_propagation 20 m
unfolding propagated
propagated-out m e = rw e

-- "it is at most 2·s·n + 1"
abbrev made : {X : Type 0} → Outcome X → ℕ
made contradiction = 0
made (fixpoint k x) = k

made-few : {X : Type 0} (ok : X → Bool) (same : X → X → Bool) (next : X → X) (fuel k : ℕ) (x : X) → made (iterate ok same next fuel k x) ≤ k + fuel
unfolding iterate
made-few ok same next zero k x = omega arith
made-few ok same next (suc fuel) k x = go (ok (next x)) (same (next x) x) (iterate ok same next fuel (suc k) (next x)) (made-few ok same next fuel (suc k) (next x))
  where
    go : (a b : Bool) (o : Outcome _) → made o ≤ suc k + fuel → made (after_pass a b k (next x) o) ≤ k + suc fuel
    go false b o h = omega arith
    go true true o h = omega arith
    go true false o h = omega arith

pub passes-few : (m : Model) → (propagated m).passes ≤ 2 * m.s * m.n + 1
unfolding propagated refused_propagation outcome
passes-few m = go (in_range m) (outcome m) (made-few (tenable (constraints_of m)) same_table (pass m) (2 * m.s * m.n + 1) 0 (table_of m))
  where
    by-outcome : (o : Outcome (List Group)) → made o ≤ 0 + (2 * m.s * m.n + 1) → (propagated_as m o).passes ≤ 2 * m.s * m.n + 1
    by-outcome contradiction h = omega arith
    by-outcome (fixpoint k t) h = omega arith

    go : (b : Bool) (o : Outcome (List Group)) → made o ≤ 0 + (2 * m.s * m.n + 1)
        → (cond b (propagated_as m o) (refused_propagation 20 m)).passes ≤ 2 * m.s * m.n + 1
    go true o h = by-outcome o h
    go false o h = omega arith

-- ---- one pass, as the code makes it: b are the groups after it

module _ (m : Model) (r : Bool) (e : r ≡ in_range m) where
  pub range-false : r ≡ false → in_range m ≡ false
  range-false f = sym e ∙ f

  pub range-true : r ≡ true → T (in_range m)
  range-true f = true-T (in_range m) (sym e ∙ f)

-- what a pass says of 22
module _ (m : Model) (t : T (in_range m)) (b : List Group) (same ok : Bool) (a : After m b same ok) where
  fixpoint-is : is_fixpoint m ≡ (ok && same)
  unfolding is_fixpoint constraints_of table_of
  fixpoint-is =
      let next : take m.s b ≡ pass m (table_of m) = unfold table_of in pass-first m t m.groups b a.before a.pass in
      sym (ap₂ (λ (x y : Bool). x && y) a.ok-is a.same-is ∙ ap (λ x. tenable (take m.c m.constraints) x && same_table x (take m.s m.groups)) next)

  pub untenable-22 : ok ≡ false → 22 ≡ unsettled_or m 0
  unfolding unsettled_or
  untenable-22 f = rw (T_true (in_range m) t, fixpoint-is ∙ ap (λ (x : Bool). x && same) f)

  pub changed-22 : ok ≡ true → same ≡ false → 22 ≡ unsettled_or m 0
  unfolding unsettled_or
  changed-22 f g = rw (T_true (in_range m) t, fixpoint-is ∙ ap₂ (λ (x y : Bool). x && y) f g)

  pub settled-0 : ok ≡ true → same ≡ true → 0 ≡ unsettled_or m 0
  unfolding unsettled_or
  settled-0 f g = rw (T_true (in_range m) t, fixpoint-is ∙ ap₂ (λ (x y : Bool). x && y) f g)

-- refusals 20 and 22

pub unsettled_20 : (m : Model) → in_range m ≡ false → 20 ≡ unsettled_or m 0
unfolding unsettled_or
unsettled_20 m e = rw e

-- ---- both parts of the contract

abbrev Contract : Model → Propagated → Type 0
Contract m o = (o ≡ propagated m) × (o.passes ≤ 2 * m.s * m.n + 1)

contract : (m : Model) (o : Propagated) → o ≡ propagated m → Contract m o
contract m o e = (e, subst (λ (x : Propagated). x.passes ≤ 2 * m.s * m.n + 1) (sym e) (passes-few m))

pub refused_20 : (m : Model) → in_range m ≡ false → (o : Propagated) → o ≡ refused_propagation 20 m → Contract m o
refused_20 m f o e = contract m o (e ∙ sym (propagated-out m f))

pub fuel-fits : (m : Model) → T (in_range m) → 2 * m.s * m.n ≤ 2 * limits.groups * limits.entrants
fuel-fits m t =
    let a : 2 * m.s ≤ 2 * limits.groups = omega (arith, s-few m t) in
    let b : 2 * m.s * m.n ≤ 2 * limits.groups * m.n = mul-le-mul_right m.n a in
    omega (arith, n-few m t)
