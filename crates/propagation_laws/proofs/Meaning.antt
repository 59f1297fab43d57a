-- Each code's meaning as sets is what its clauses say of every entrant, both ways, for every code. Assumes nothing.
use mathlib.Core.Path.{◌≡◌, refl, sym, ap, ap₂, ◌∙◌, subst}
use mathlib.Core.Logic.{◌↔◌}
use Prim.Native.Nat.{ℕ, ◌+◌, ◌^◌, ◌≤◌, ◌<◌}
use native.Mathlib.Nat.{le_trans}
use native.Mathlib.Numerals.{add-one}
use native.Mathlib.Omega.{arith}
use native.Mathlib.Decide.{dec_lt}
use mathlib.Core.Bool.{Bool, true, false, not, ◌&&◌, ◌||◌}
use mathlib.Core.List.{List, [], ◌∷◌, map, map-map}
use lib.Dec.{T, eqb, eqb→eq, eqb_refl}
use lib.Bits.{bit_and, bit_or}
use lib.ListN.{length, get_or, take}
use Rattle.model.specs.declared.Literal.{Literal}
use Rattle.model.specs.declared.Literal.TheVariants.{Pos, Neg}
use Rattle.model.specs.declared.Constraint.{Constraint}
use Rattle.std.specs.List.{list_all, list_any}
use Rattle.model.specs.Lists.{range}
use Rattle.model.specs.Words.{less, has}
use Rattle.model.specs.Clauses.{by_entrant, member_count, short_clauses, union_clauses, member_clauses, rule_clauses, of_group, groups_of, clauses_of}
use Rattle.model.specs.Model.{code_in_range}
use Rattle.model.proofs.Codes.{by_code, not_seven, member-bound, members-below}
use Rattle.model.specs.Limits.{limits}
use Rattle.model.specs.Assignment.{variable}
use Rattle.model.specs.Solution.{union, meaning, set_of, constraint_true}
use Rattle.model.proofs.Lists.{T-ext, and_left, and_right, any_append, every_map, any-map, every-ext, any-ext, any_none, any-all_ext, every-all_ext, every-range, range-every, take_places, All, all_of, all-imp}
use Rattle.model.proofs.Words.{has-and, has-or, has-less, has-union, has-past, has_ext, has_sub, sub-has, inside-sub, sub-inside}

-- ---- literals, clauses and constraints for one entrant: v says in which groups the entrant is

unfoldable pub literal_for : (ℕ → Bool) → Literal → Bool
literal_for v (Pos g) = v g
literal_for v (Neg g) = not (v g)

unfoldable pub clauses_for : (ℕ → Bool) → List (List Literal) → Bool
clauses_for v cs = list_all (list_any (literal_for v)) cs

unfoldable pub clauses_hold : List ℕ → Constraint → ℕ → Bool
clauses_hold d c e = clauses_for (λ g. has (set_of d g) e) (clauses_of c)

-- ---- the clauses over groups are those over members

of_group_lem : (v : ℕ → Bool) (gs : List ℕ) (l : Literal) → literal_for v (of_group gs l) ≡ literal_for (λ i. v (get_or gs i 0)) l
unfolding literal_for of_group
of_group_lem v gs (Pos i) = refl
of_group_lem v gs (Neg i) = refl

pub over-members : (v : ℕ → Bool) (c : Constraint)
    → clauses_for v (clauses_of c) ≡ clauses_for (λ i. v (get_or c.groups i 0)) (rule_clauses c.code c.count)
unfolding clauses_for clauses_of
over-members v c =
    every_map (list_any (literal_for v)) (map (of_group c.groups)) (rule_clauses c.code c.count)
    ∙ every-ext (λ ls. list_any (literal_for v) (map (of_group c.groups) ls)) (list_any (literal_for (λ i. v (get_or c.groups i 0))))
    (λ ls. any-map (literal_for v) (of_group c.groups) ls
    ∙ any-ext (λ l. literal_for v (of_group c.groups l)) (literal_for (λ i. v (get_or c.groups i 0))) (of_group_lem v c.groups) ls)
    (rule_clauses c.code c.count)

-- of codes 1 to 6 the line rule goes through the clauses of the table
pub rule_clauses_lem : (code k : ℕ) → T (by_entrant code) → rule_clauses code k ≡ member_clauses code k
unfolding rule_clauses
rule_clauses_lem code k six = rw (not_seven code six)

pub over_entrant : (v : ℕ → Bool) (c : Constraint) → T (by_entrant c.code)
    → clauses_for v (clauses_of c) ≡ clauses_for (λ i. v (get_or c.groups i 0)) (member_clauses c.code c.count)
over_entrant v c six = over-members v c ∙ ap (clauses_for (λ i. v (get_or c.groups i 0))) (rule_clauses_lem c.code c.count six)

-- ---- only the members count

pub same-clauses : (v u : ℕ → Bool) (code k : ℕ) → T (by_entrant code) → ((i : ℕ) → i < member_count code k → v i ≡ u i)
    → clauses_for v (member_clauses code k) ≡ clauses_for u (member_clauses code k)
unfolding clauses_for
same-clauses v u code k t h =
    every-all_ext (list_any (literal_for v)) (list_any (literal_for u)) (member_clauses code k)
    (all-imp (All (λ l. variable l < member_count code k)) (λ ls. list_any (literal_for v) ls ≡ list_any (literal_for u) ls)
    (λ ls below. any-all_ext (literal_for v) (literal_for u) ls
    (all-imp (λ l. variable l < member_count code k) (λ l. literal_for v l ≡ literal_for u l) literal ls below))
    (member_clauses code k) (members-below code k t))
  where
    literal : (l : Literal) → variable l < member_count code k → literal_for v l ≡ literal_for u l
    literal (Pos i) l = unfold literal_for in h i l
    literal (Neg i) l = unfold literal_for in ap not (h i l)

-- ---- the union

-- "not any, or b", element by element
none_or : (x : ℕ → Bool) (b : Bool) (l : List ℕ) → list_all (λ i. not (x i) || (b || false)) l ≡ (not (list_any x l) || b)
none_or x b [] = refl
none_or x b (i ∷ l) = ap (λ t. (not (x i) || (b || false)) && t) (none_or x b l) ∙ table (x i) (list_any x l) b
  where
    table : (p q b : Bool) → ((not p || (b || false)) && (not q || b)) ≡ (not (p || q) || b)
    table true true true = refl
    table true true false = refl
    table true false true = refl
    table true false false = refl
    table false true true = refl
    table false true false = refl
    table false false true = refl
    table false false false = refl

union-clauses : (k : ℕ) (x : ℕ → Bool)
    → clauses_for x (union_clauses k) ≡ ((list_any x (range 1 k) || (not (x 0) || false)) && (not (list_any x (range 1 k)) || x 0))
unfolding clauses_for union_clauses literal_for
union-clauses k x =
    ap₂ ◌&&◌
    (any_append (literal_for x) (map Pos (range 1 k)) (Neg 0 ∷ [])
    ∙ ap (λ b. b || (not (x 0) || false)) (any-map (literal_for x) Pos (range 1 k)))
    (every_map (list_any (literal_for x)) (λ i. Neg i ∷ Pos 0 ∷ []) (range 1 k) ∙ none_or x (x 0) (range 1 k))

-- ---- each code, for one entrant: the clauses say that the first set has it exactly when the meaning says so

-- two sets are equal when each entrant's clauses hold
module _ (a b : ℕ) (says : ℕ → Bool) (is : (e : ℕ) → T (says e) ↔ (has a e ≡ has b e)) where
  equal-sets : T (eqb a b) ↔ ((e : ℕ) → T (says e))
  equal-sets = (
    (λ t e. (is e).1 (ap (λ (w : ℕ). has w e) (eqb→eq a b t))),
    (λ h. subst (λ (w : ℕ). T (eqb a w)) (has_ext a b (λ e. (is e).0 (h e))) (eqb_refl a)),
  )

within-table : (x y : Bool) → T ((not x || (y || false)) && true) ↔ (T x → T y)
within-table true true = ((λ t s. tt), (λ f. tt))
within-table true false = ((λ t s. t), (λ f. f tt))
within-table false true = ((λ t s. tt), (λ f. tt))
within-table false false = ((λ t s. s), (λ f. tt))

-- a test that says x is `value y z`, by its eight rows
abbrev agree : Bool → Bool → Bool
agree true b = b
agree false b = not b

agree-eq : (a b : Bool) → T (agree a b) ↔ (a ≡ b)
agree-eq true true = ((λ t. refl), (λ e. tt))
agree-eq true false = ((λ t. absurd t), (λ e. subst T e tt))
agree-eq false true = ((λ t. absurd t), (λ e. subst T (sym e) tt))
agree-eq false false = ((λ t. refl), (λ e. tt))

abbrev both : (Bool → Bool) → Bool
both p = p true && p false

both-all : (p : Bool → Bool) → T (both p) → (b : Bool) → T (p b)
both-all p t true = and_left (p true) (p false) t
both-all p t false = and_right (p true) (p false) t

module _ (says : Bool → Bool → Bool → Bool) (value : Bool → Bool → Bool) where
  abbrev row : Bool → Bool → Bool → Bool
  row x y z = agree (says x y z) (agree x (value y z))

  abbrev rows : Bool
  rows = both (λ x. both (λ y. both (λ z. row x y z)))

  by_rows : T rows → (x y z : Bool) → T (says x y z) ↔ (x ≡ value y z)
  by_rows t x y z =
      let here = both-all (λ z. row x y z) (both-all (λ y. both (λ z. row x y z)) (both-all (λ x. both (λ y. both (λ z. row x y z))) t x) y) z in
      subst (λ (b : Bool). T b ↔ (x ≡ value y z)) (sym ((agree-eq (says x y z) (agree x (value y z))).0 here)) (agree-eq x (value y z))

-- ---- each code; the set of member i is S i

module _ (k : ℕ) (S : ℕ → ℕ) where
  abbrev Says : ℕ → Type 0
  Says code = T (meaning code (map S (range 0 (member_count code k)))) ↔ ((e : ℕ) → T (clauses_for (λ i. has (S i) e) (member_clauses code k)))

  -- the first set is b, and b has the entrants for whom `value` is true
  is_set : (b : ℕ) (says : Bool → Bool → Bool → Bool) (value : Bool → Bool → Bool) (y z : ℕ → Bool)
      → T (rows says value) → ((e : ℕ) → has b e ≡ value (y e) (z e)) → T (eqb (S 0) b) ↔ ((e : ℕ) → T (says (has (S 0) e) (y e) (z e)))
  is_set b says value y z t members = equal-sets (S 0) b (λ e. says (has (S 0) e) (y e) (z e))
      (λ e. rw (members e) (by_rows says value t (has (S 0) e) (y e) (z e)))

  code1 : Says 1
  unfolding meaning member_count member_clauses short_clauses clauses_for literal_for
  code1 =
      is_set (S 1) (λ x y z. (not x || (y || false)) && ((x || (not y || false)) && true)) (λ y z. y) (λ e. has (S 1) e) (λ e. true) tt (λ e. refl)

  code2 : Says 2
  unfolding meaning member_count member_clauses short_clauses clauses_for literal_for
  code2 = (
    (λ t e. (within-table (has (S 0) e) (has (S 1) e)).1 (sub-has (S 0) (S 1) (inside-sub (S 0) (S 1) t) e)),
    (λ h. sub-inside (S 0) (S 1) (has_sub (S 0) (S 1) (λ e. (within-table (has (S 0) e) (has (S 1) e)).0 (h e)))),
  )

  code3 : Says 3
  unfolding meaning member_count member_clauses short_clauses clauses_for literal_for
  code3 =
      is_set (bit_and (S 1) (S 2))
      (λ x y z. (not y || (not z || (x || false))) && ((y || (not x || false)) && ((z || (not x || false)) && true)))
      ◌&&◌ (λ e. has (S 1) e) (λ e. has (S 2) e) tt (has-and (S 1) (S 2))

  code4 : Says 4
  unfolding meaning member_count member_clauses short_clauses clauses_for literal_for
  code4 =
      is_set (bit_or (S 1) (S 2))
      (λ x y z. (y || (z || (not x || false))) && ((not y || (x || false)) && ((not z || (x || false)) && true)))
      ◌||◌ (λ e. has (S 1) e) (λ e. has (S 2) e) tt (has-or (S 1) (S 2))

  code5 : Says 5
  unfolding meaning member_count member_clauses short_clauses clauses_for literal_for
  code5 =
      is_set (less (S 1) (S 2))
      (λ x y z. (not y || (z || (x || false))) && ((y || (not x || false)) && ((not z || (not x || false)) && true)))
      (λ y z. y && not z) (λ e. has (S 1) e) (λ e. has (S 2) e) tt (has-less (S 1) (S 2))

  code6 : Says 6
  unfolding meaning member_count member_clauses
  code6 =
      let u : ℕ → Bool = λ e. list_any (λ i. has (S i) e) (range 1 k) in
      let is = is_set (union (map S (range 1 k))) (λ x y z. (y || (not x || false)) && (not y || x)) (λ y z. y) u (λ e. true) tt
      (λ e. has-union (map S (range 1 k)) e ∙ any-map (λ w. has w e) S (range 1 k)) in
      rw (add-one k) (
        (λ t e. subst T (sym (union-clauses k (λ i. has (S i) e))) (is.0 t e)),
        (λ h. is.1 (λ e. subst T (union-clauses k (λ i. has (S i) e)) (h e))),
      )

  by_members : (code : ℕ) → T (by_entrant code) → Says code
  by_members = by_code Says code1 code2 code3 code4 code5 code6

-- ---- a constraint

pub meaning-clauses : (c : Constraint) → T (code_in_range c.code c.count) → T (by_entrant c.code) → limits.members ≤ length c.groups → (d : List ℕ)
    → T (constraint_true d c) ↔ ((e : ℕ) → T (clauses_hold d c e))
unfolding constraint_true groups_of clauses_hold
meaning-clauses c r six wide d =
    let mc = member_count c.code c.count in
    let S : ℕ → ℕ = λ i. set_of d (get_or c.groups i 0) in
    let is = by_members c.count S c.code six in
    let few : mc ≤ length c.groups = le_trans (member-bound c.code c.count r) wide in
    let sets : map (set_of d) (take mc c.groups) ≡ map S (range 0 mc) =
    ap (map (set_of d)) (take_places 0 c.groups mc few) ∙ map-map (set_of d) (λ i. get_or c.groups i 0) (range 0 mc) in (
      (λ t e. subst T (sym (over_entrant (λ g. has (set_of d g) e) c six)) (is.0 (subst (λ (ws : List ℕ). T (meaning c.code ws)) sets t) e)),
      (λ k. subst (λ (ws : List ℕ). T (meaning c.code ws)) (sym sets)
          (is.1 (λ e. subst T (over_entrant (λ g. has (set_of d g) e) c six) (k e)))),
    )

-- ---- words below 2 ^ n: only the entrants below n count, for a clause has a literal with a minus sign

none : (k code : ℕ) → T (by_entrant code) → T (clauses_for (λ i. false) (member_clauses code k))
unfolding member_clauses short_clauses clauses_for literal_for
none k = by_code (λ code. T (clauses_for (λ i. false) (member_clauses code k))) tt tt tt tt tt
    (subst T (sym (union-clauses k (λ i. false))) (rw (any_none (λ i. false) (range 1 k) (all_of (λ i. false ≡ false) (λ i. refl) (range 1 k))) tt))

pub meaning-below : (c : Constraint) → T (code_in_range c.code c.count) → T (by_entrant c.code) → limits.members ≤ length c.groups
    → (n : ℕ) (d : List ℕ) → ((g : ℕ) → set_of d g < 2 ^ n) → constraint_true d c ≡ list_all (clauses_hold d c) (range 0 n)
unfolding clauses_hold
meaning-below c r six wide n d small =
    let is = meaning-clauses c r six wide d in
    T-ext (constraint_true d c) (list_all (clauses_hold d c) (range 0 n)) (λ t. range-every (clauses_hold d c) 0 n (λ e _ _. is.0 t e))
    (λ k. is.1 (λ e. go e (every-range (clauses_hold d c) 0 n k e) (dec_lt e n)))
  where
    go : (e : ℕ) → (0 ≤ e → e < 0 + n → T (clauses_hold d c e)) → Dec (e < n) → T (clauses_hold d c e)
    go e k (yes l) = k (omega arith) (omega arith)
    go e k (no f) =
        subst T
        (sym (over_entrant (λ g. has (set_of d g) e) c six
        ∙ same-clauses (λ i. has (set_of d (get_or c.groups i 0)) e) (λ i. false) c.code c.count six
        (λ i _. has-past n (set_of d (get_or c.groups i 0)) e (small (get_or c.groups i 0)) (omega arith))))
        (none c.count c.code six)

-- ---- code 7: the two sets differ

pub difference-sets : (c : Constraint) → c.code ≡ 7 → limits.members ≤ length c.groups → (d : List ℕ)
    → constraint_true d c ≡ not (eqb (set_of d (get_or c.groups 0 0)) (set_of d (get_or c.groups 1 0)))
unfolding constraint_true groups_of member_count meaning
difference-sets c seven wide d =
    rw seven
    (ap (λ (ws : List ℕ). not (eqb (get_or ws 0 0) (get_or ws 1 0)))
    (ap (map (set_of d)) (take_places 0 c.groups 2 (omega arith))))
