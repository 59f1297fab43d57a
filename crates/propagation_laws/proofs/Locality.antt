-- A rule reads and writes only its own places, and a change at other places leaves a table unchanged under it. Assumes nothing.
use mathlib.Core.Path.{◌≡◌, refl, sym, ap, ap₂, ◌∙◌, subst}
use Prim.Native.Nat.{ℕ, zero, suc, ◌+◌, ◌-◌, ◌≤◌, ◌<◌}
use native.Mathlib.Omega.{arith}
use mathlib.Core.Bool.{Bool, true, false, cond, ◌||◌}
use mathlib.Core.Logic.{⊎_elim}
use mathlib.Core.List.{List, [], ◌∷◌, ◌++◌, map}
use borrow.Author.Tests.{eqb-true, eqb-false, eq-eqb}
use lib.Dec.{T, eqb}
use lib.ListN.{length, get_or, take, drop, length-take}
use lib.Seq.{get_or-take, get_or-set_other, ext_get_or}
use Rattle.model.specs.declared.Literal.{Literal}
use Rattle.model.specs.declared.Literal.TheVariants.{Pos, Neg}
use Rattle.model.specs.declared.Group.{Group}
use Rattle.model.specs.declared.Constraint.{Constraint}
use Rattle.std.specs.List.{list_any}
use Rattle.model.specs.Lists.{total, on_place, between}
use Rattle.model.specs.Limits.{limits}
use Rattle.model.specs.Words.{full}
use Rattle.model.specs.Clauses.{member_count, is_difference, rule_clauses, of_group, groups_of, clauses_of}
use Rattle.model.specs.Model.{zero_group, group_at, member_at, code_in_range}
use Rattle.model.specs.LimitRules.{raised, lowered, low_at_least, high_at_most, high_at_most_sum, low_first, high_first, union_limits, limits_of, limit_rules}
use Rattle.model.specs.Difference.{unlike, unlike_in, lone}
use Rattle.model.specs.Propagate.{group_rule, group_rule_at, false_in, all_false, fixed_with, possible_without, made_true, literal_rule, run, clause_rules, clause_rule, scope, constraint_rule}
use Rattle.model.specs.Assignment.{variable}
use Rattle.model.proofs.Lists.{All, all_append, all_map, all-imp, all_drop, all-place, place_set, place-length}
use Rattle.model.proofs.Codes.{by_seven, by_code, member-bound, members-below, entrant-or-seven, is_code}
use Rattle.propagation_laws.proofs.Meaning.{rule_clauses_lem}

-- ---- the places of some groups

abbrev pub owns : List ℕ → ℕ → Bool
owns gs i = list_any (λ g. eqb (g - 1) i) gs

or_right : (a b : Bool) → b ≡ true → (a || b) ≡ true
or_right true b e = refl
or_right false b e = e

all_own : (gs : List ℕ) → All (λ g. owns gs (g - 1) ≡ true) gs
all_own [] = tt
all_own (g ∷ gs) = (
  ap (λ (b : Bool). b || owns gs (g - 1)) (eq-eqb (g - 1) (g - 1) refl),
  all-imp (λ h. owns gs (h - 1) ≡ true) (λ h. owns (g ∷ gs) (h - 1) ≡ true) (λ h e. or_right (eqb (g - 1) (h - 1)) (owns gs (h - 1)) e) gs (all_own gs),
)

-- ---- a rule on its own places

-- two tables are the same there
abbrev pub Agree : (ℕ → Bool) → List Group → List Group → Type 0
Agree own t u = (i : ℕ) → own i ≡ true → get_or t i zero_group ≡ get_or u i zero_group

-- it changes no other place, and what it makes of its own depends on no other
pub record On (own : ℕ → Bool) (r : List Group → List Group) : Type 0 where
  pub size : (t : List Group) → length (r t) ≡ length t
  pub frame : (t : List Group) (i : ℕ) → own i ≡ false → get_or (r t) i zero_group ≡ get_or t i zero_group
  pub reads : (t u : List Group) → length t ≡ length u → Agree own t u → Agree own (r t) (r u)

pub place_other : (i k : ℕ) (r : Group → Group) (t : List Group) → (k ≡ i → ⊥) → get_or (on_place i r t) k zero_group ≡ get_or t k zero_group
place_other i k r t h =
    ap (λ (x : List Group). get_or x k zero_group) (place_set i r t zero_group) ∙ get_or-set_other t i k (r (get_or t i zero_group)) zero_group h

place-both : (i : ℕ) (r : Group → Group) (t u : List Group) → length t ≡ length u → get_or t i zero_group ≡ get_or u i zero_group
    → get_or (on_place i r t) i zero_group ≡ get_or (on_place i r u) i zero_group
place-both i r [] [] l e = refl
place-both i r [] (y ∷ u) l e = absurd (omega arith)
place-both i r (x ∷ t) [] l e = absurd (omega arith)
place-both zero r (x ∷ t) (y ∷ u) l e = ap r e
place-both (suc i) r (x ∷ t) (y ∷ u) l e = place-both i r t u (omega arith) e

module _ (own : ℕ → Bool) where
  pub on-run : (rs : List (List Group → List Group)) → All (On own) rs → On own (run rs)
  on-run [] h = record { size = λ t. refl; frame = λ t i e. refl; reads = λ t u l a. a }
  on-run (r ∷ rs) h =
      let a = h.0 in
      let b = on-run rs h.1 in
      record {
        size = λ t. b.size (r t) ∙ a.size t;
        frame = λ t i e. b.frame (r t) i e ∙ a.frame t i e;
        reads = λ t u l g. b.reads (r t) (r u) (a.size t ∙ l ∙ sym (a.size u)) (a.reads t u l g);
      }

  -- a change at an own place, by a value that depends on own places
  pub on-place : (i : ℕ) (f : ℕ → Group → Group) (value : List Group → ℕ) → own i ≡ true → ((t u : List Group) → Agree own t u → value t ≡ value u)
      → On own (λ t. on_place i (f (value t)) t)
  on-place i f value o same = record {
    size = λ t. place-length i (f (value t)) t;
    frame = λ t k e. place_other i k (f (value t)) t (λ z. apart k z e);
    reads = λ t u l a k e. go t u l a k e (eqb k i) refl;
  }
    where
      apart : (k : ℕ) → k ≡ i → own k ≡ false → ⊥
      apart k z e = let q : true ≡ false = sym o ∙ sym (ap own z) ∙ e in let n : ◌≡◌ {A = ℕ} 0 1 = cc in omega arith

      go : (t u : List Group) → length t ≡ length u → Agree own t u → (k : ℕ) → own k ≡ true → (b : Bool) → eqb k i ≡ b
          → get_or (on_place i (f (value t)) t) k zero_group ≡ get_or (on_place i (f (value u)) u) k zero_group
      go t u l a k e true q =
          let z = eqb-true k i q in
          ap (λ (x : ℕ). get_or (on_place i (f (value t)) t) x zero_group) z
          ∙ ap (λ (v : ℕ). get_or (on_place i (f v) t) i zero_group) (same t u a)
          ∙ place-both i (f (value u)) t u l (a i o)
          ∙ sym (ap (λ (x : ℕ). get_or (on_place i (f (value u)) u) x zero_group) z)
      go t u l a k e false q =
          let z = eqb-false k i q in
          place_other i k (f (value t)) t z ∙ a k e ∙ sym (place_other i k (f (value u)) u z)

  -- what it leaves as it is, it leaves as it is where only other places differ
  pub kept : (r : List Group → List Group) → On own r → (t u : List Group) → length t ≡ length u → Agree own t u → r t ≡ t → r u ≡ u
  kept r o t u l a e = ext_get_or zero_group (r u) u (o.size u) (λ i h. go i (own i) refl)
    where
      go : (i : ℕ) (b : Bool) → own i ≡ b → get_or (r u) i zero_group ≡ get_or u i zero_group
      go i true q = sym (o.reads t u l a i q) ∙ ap (λ (x : List Group). get_or x i zero_group) e ∙ a i q
      go i false q = o.frame u i q

  -- ---- the clauses of a line

  abbrev In : ℕ → Type 0
  In g = own (g - 1) ≡ true

  abbrev OwnLiteral : Literal → Type 0
  OwnLiteral (Pos g) = own (g - 1) ≡ true
  OwnLiteral (Neg g) = own (g - 1) ≡ true

  module _ (t u : List Group) (a : Agree own t u) where
    group-agree : (g : ℕ) → In g → group_at t g ≡ group_at u g
    unfolding group_at
    group-agree g h = a (g - 1) h

    false-agree : (w : ℕ) (l : Literal) → OwnLiteral l → false_in t w l ≡ false_in u w l
    unfolding false_in
    false-agree w (Pos g) h = rw (group-agree g h)
    false-agree w (Neg g) h = rw (group-agree g h)

    all-false-agree : (w : ℕ) (ls : List Literal) → All OwnLiteral ls → all_false t w ls ≡ all_false u w ls
    unfolding all_false
    all-false-agree w [] h = refl
    all-false-agree w (l ∷ ls) h =
        ap (λ (x : ℕ). all_false t x ls) (false-agree w l h.0) ∙ all-false-agree (false_in u w l) ls h.1

    sum-agree : (fs : List ℕ) → All In fs → total (λ f. (group_at t f).high) fs ≡ total (λ f. (group_at u f).high) fs
    sum-agree [] h = refl
    sum-agree (f ∷ fs) h = ap₂ ◌+◌ (ap (λ (x : Group). x.high) (group-agree f h.0)) (sum-agree fs h.1)

  on-literal : (w : ℕ) (l : Literal) (others : List Literal) → OwnLiteral l → All OwnLiteral others → On own (literal_rule w l others)
  unfolding literal_rule made_true
  on-literal w (Pos g) others h k = on-place (g - 1) fixed_with (λ t. all_false t w others) h (λ t u a. all-false-agree t u a w others k)
  on-literal w (Neg g) others h k = on-place (g - 1) possible_without (λ t. all_false t w others) h (λ t u a. all-false-agree t u a w others k)

  on-literals : (w : ℕ) (before after : List Literal) → All OwnLiteral before → All OwnLiteral after → All (On own) (clause_rules w before after)
  unfolding clause_rules
  on-literals w before [] h k = tt
  on-literals w before (l ∷ after) h k = (
    on-literal w l (before ++ after) k.0 (all_append OwnLiteral before after h k.1),
    on-literals w (before ++ (l ∷ [])) after (all_append OwnLiteral before (l ∷ []) h (k.0, tt)) k.1,
  )

  on-clause : (w : ℕ) (c : List Literal) → All OwnLiteral c → On own (clause_rule w c)
  unfolding clause_rule
  on-clause w c h = on-run (clause_rules w [] c) (on-literals w [] c tt h)

  -- ---- its limits

  on-low : (g f : ℕ) → In g → In f → On own (low_at_least g f)
  unfolding low_at_least
  on-low g f h k = on-place (g - 1) raised (λ t. (group_at t f).low) h (λ t u a. ap (λ (x : Group). x.low) (group-agree t u a f k))

  on-high : (f g : ℕ) → In f → In g → On own (high_at_most f g)
  unfolding high_at_most
  on-high f g h k = on-place (f - 1) lowered (λ t. (group_at t g).high) h (λ t u a. ap (λ (x : Group). x.high) (group-agree t u a g k))

  on-sum : (h : ℕ) (fs : List ℕ) → In h → All In fs → On own (high_at_most_sum h fs)
  unfolding high_at_most_sum
  on-sum h fs i k = on-place (h - 1) lowered (λ t. total (λ f. (group_at t f).high) fs) i (λ t u a. sum-agree t u a fs k)

  on-low-first : (f g : ℕ) → In f → In g → All (On own) (low_first f g)
  unfolding low_first
  on-low-first f g i j = (on-low g f j i, (on-high f g i j, tt))

  on-high-first : (h f : ℕ) → In h → In f → All (On own) (high_first h f)
  unfolding high_first
  on-high-first h f i j = (on-high h f i j, (on-low f h j i, tt))

  on-union : (h : ℕ) (fs : List ℕ) → In h → All In fs → All (On own) (union_limits h fs)
  unfolding union_limits
  on-union h fs i k =
      all_append (On own) (map (low_at_least h) fs ++ map (λ f. high_at_most f h) fs) (high_at_most_sum h fs ∷ [])
      (all_append (On own) (map (low_at_least h) fs) (map (λ f. high_at_most f h) fs)
      (all_map (On own) (low_at_least h) fs (all-imp In (λ f. On own (low_at_least h f)) (λ f j. on-low h f i j) fs k))
      (all_map (On own) (λ f. high_at_most f h) fs (all-imp In (λ f. On own (high_at_most f h)) (λ f j. on-high f h j i) fs k)))
      (on-sum h fs i k, tt)

  -- the steps of a code, whose groups are there
  module _ (gs : List ℕ) (a : All In gs) (k : ℕ) where
    abbrev Steps : ℕ → Type 0
    Steps code = ((i : ℕ) → i < member_count code k → In (get_or gs i 0)) → All (On own) (limits_of code gs)

    on-limits : (code : ℕ) → T (between 1 7 code) → Steps code
    unfolding limits_of member_count
    on-limits =
        let g0 = get_or gs 0 0 in
        let g1 = get_or gs 1 0 in
        let g2 = get_or gs 2 0 in
        by_seven Steps
        (by_code Steps
        (λ m. all_append (On own) (low_first g0 g1) (low_first g1 g0) (on-low-first g0 g1 (m 0 (omega arith)) (m 1 (omega arith))) (on-low-first g1 g0 (m 1 (omega arith)) (m 0 (omega arith))))
        (λ m. on-low-first g0 g1 (m 0 (omega arith)) (m 1 (omega arith)))
        (λ m. all_append (On own) (high_first g0 g1) (high_first g0 g2) (on-high-first g0 g1 (m 0 (omega arith)) (m 1 (omega arith))) (on-high-first g0 g2 (m 0 (omega arith)) (m 2 (omega arith))))
        (λ m. on-union g0 (drop 1 gs) (m 0 (omega arith)) (all_drop In 1 gs a))
        (λ m. on-high-first g0 g1 (m 0 (omega arith)) (m 1 (omega arith)))
        (λ m. on-union g0 (drop 1 gs) (m 0 (omega arith)) (all_drop In 1 gs a)))
        (λ m. tt)

-- ---- a group's rule, and a line's

pub on_group : (i : ℕ) → On (eqb i) (group_rule_at (i + 1))
unfolding group_rule_at
on_group i =
    subst (λ (k : ℕ). On (eqb i) (on_place k group_rule)) (omega arith) (on-place (eqb i) i (λ v. group_rule) (λ t. 0) (eq-eqb i i refl) (λ t u a. refl))

module _ (n : ℕ) (c : Constraint) (r : T (code_in_range c.code c.count)) (wide : limits.members ≤ length c.groups) where
  abbrev Own : ℕ → Bool
  Own = owns (groups_of c)

  pub member-own : (i : ℕ) → i < member_count c.code c.count → owns (groups_of c) (get_or c.groups i 0 - 1) ≡ true
  unfolding groups_of
  member-own i h =
      let k = member_count c.code c.count in
      let long : length (take k c.groups) ≡ k = length-take k c.groups ∙ omega (arith, member-bound c.code c.count r) in
      subst (λ (g : ℕ). owns (take k c.groups) (g - 1) ≡ true) (get_or-take k c.groups i 0 h)
      (all-place (λ g. owns (take k c.groups) (g - 1) ≡ true) 0 (take k c.groups) (all_own (take k c.groups)) i (omega (arith, long)))

  place-own : (i : ℕ) → i < member_count c.code c.count → owns (groups_of c) (get_or (groups_of c) i 0 - 1) ≡ true
  place-own i h =
      let e : get_or c.groups i 0 ≡ get_or (groups_of c) i 0 = unfold groups_of in sym (get_or-take (member_count c.code c.count) c.groups i 0 h) in
      subst (λ (g : ℕ). owns (groups_of c) (g - 1) ≡ true) e (member-own i h)

  abbrev Below : Literal → Type 0
  Below l = variable l < member_count c.code c.count

  literal-own : (l : Literal) → Below l → OwnLiteral Own (of_group c.groups l)
  unfolding of_group
  literal-own (Pos i) h = member-own i h
  literal-own (Neg i) h = member-own i h

  seven_below : (k : ℕ) → All (All (λ l. variable l < member_count 7 k)) (rule_clauses 7 k)
  unfolding rule_clauses member_count
  seven_below k = ((omega arith, (omega arith, tt)), ((omega arith, (omega arith, tt)), tt))

  clauses-below : All (All Below) (rule_clauses c.code c.count)
  clauses-below = ⊎_elim
      (λ six. subst (All (All Below)) (sym (rule_clauses_lem c.code c.count six)) (members-below c.code c.count six))
      (λ seven. subst (λ (k : ℕ). All (All (λ l. variable l < member_count k c.count)) (rule_clauses k c.count)) (sym seven) (seven_below c.count))
      (entrant-or-seven c.code c.count r)

  clauses-own : All (All (OwnLiteral Own)) (clauses_of c)
  unfolding clauses_of
  clauses-own =
      all_map (All (OwnLiteral Own)) (map (of_group c.groups)) (rule_clauses c.code c.count)
      (all-imp (All Below) (λ ls. All (OwnLiteral Own) (map (of_group c.groups) ls))
      (λ ls h. all_map (OwnLiteral Own) (of_group c.groups) ls (all-imp Below (λ l. OwnLiteral Own (of_group c.groups l)) literal-own ls h))
      (rule_clauses c.code c.count) clauses-below)

  -- the entrants that its clauses are gone through for
  pub unlike-agree : is_difference c ≡ true → (t u : List Group) → Agree (owns (groups_of c)) t u → unlike_in t c ≡ unlike_in u c
  unfolding is_difference unlike_in member_at member_count
  unlike-agree d t u a =
      let two : member_count c.code c.count ≡ 2 = ap (λ (k : ℕ). member_count k c.count) (eqb-true c.code 7 d) in
      ap₂ unlike (group-agree Own t u a (get_or c.groups 0 0) (member-own 0 (omega arith))) (group-agree Own t u a (get_or c.groups 1 0) (member-own 1 (omega arith)))

  scope-agree : (t u : List Group) → Agree (owns (groups_of c)) t u → scope n t c ≡ scope n u c
  unfolding scope
  scope-agree t u a = go (is_difference c) refl
    where
      go : (d : Bool) → is_difference c ≡ d → cond d (lone (unlike_in t c)) (full n) ≡ cond d (lone (unlike_in u c)) (full n)
      go true d = ap lone (unlike-agree d t u a)
      go false d = refl

  pub on-constraint : On (owns (groups_of c)) (constraint_rule n c)
  unfolding constraint_rule limit_rules
  on-constraint = record {
    size = λ t. (all-on (scope n t c)).size t;
    frame = λ t i e. (all-on (scope n t c)).frame t i e;
    reads = λ t u l a i e.
        (all-on (scope n t c)).reads t u l a i e
        ∙ ap (λ (w : ℕ). get_or (run (map (clause_rule w) (clauses_of c) ++ limits_of c.code (groups_of c)) u) i zero_group) (scope-agree t u a);
  }
    where
      each : (w : ℕ) (cs : List (List Literal)) → All (All (OwnLiteral Own)) cs → All (λ x. On Own (clause_rule w x)) cs
      each w [] h = tt
      each w (x ∷ cs) h = (on-clause Own w x h.0, each w cs h.1)

      all-on : (w : ℕ) → On Own (run (map (clause_rule w) (clauses_of c) ++ limits_of c.code (groups_of c)))
      all-on w =
          on-run Own (map (clause_rule w) (clauses_of c) ++ limits_of c.code (groups_of c))
          (all_append (On Own) (map (clause_rule w) (clauses_of c)) (limits_of c.code (groups_of c))
          (all_map (On Own) (clause_rule w) (clauses_of c) (each w (clauses_of c) clauses-own))
          (on-limits Own (groups_of c) (all_own (groups_of c)) c.count c.code (is_code c.code c.count r) place-own))
