-- Every literal of the listing names a variable of 1..V. Assumes nothing.
use mathlib.Core.Path.{◌≡◌, refl, sym, subst}
use mathlib.Core.Bool.{Bool, true, false, cond, ◌&&◌}
use mathlib.Core.List.{List, [], ◌∷◌, ◌++◌, map}
use Prim.Native.Nat.{ℕ, zero, suc, ◌+◌, ◌-◌, ◌%◌, ◌^◌, ◌≤◌, ◌<◌}
use native.Mathlib.Omega.{arith}
use native.Mathlib.Decide.{dec_lt}
use lib.Dec.{T, eqb}
use lib.ListN.{length, get_or, take, get_or-eq_default}
use lib.Seq.{take_all}
use Rattle.model.specs.declared.Literal.{Literal}
use Rattle.model.specs.declared.Literal.TheVariants.{Pos, Neg}
use Rattle.model.specs.declared.Term.{Term}
use Rattle.model.specs.declared.Term.TheVariants.{Holds, Fails, Open}
use Rattle.model.specs.declared.Printed.{Printed}
use Rattle.model.specs.declared.Node.{Node}
use Rattle.model.specs.declared.Group.{Group}
use Rattle.model.specs.declared.Constraint.{Constraint}
use Rattle.model.specs.declared.Model.{Model}
use Rattle.std.specs.List.{list_any, flat_map}
use Rattle.model.specs.Lists.{total, range}
use Rattle.model.specs.Words.{size, bit, has}
use Rattle.model.specs.Clauses.{member_clauses, is_difference}
use Rattle.model.specs.Model.{zero_group, zero_constraint, group_at, table_of, constraints_of}
use Rattle.model.specs.Difference.{is_apart}
use Rattle.model.specs.Propagate.{Settled}
use Rattle.model.specs.Totalizer.{opposite, opposite_term, holds, literals, keep, formed, output, output_term, node_terms, put_in, dropped, row_clauses, node_clauses, Shape, leaf, node, shape, leaves, outputs, root_output, node_over, nodes, unit, unit_clauses, tree_output_count}
use Rattle.model.specs.Cnf.{open_of, open_count, at_least, at_most, counted, outputs_of, first_variable, first_output, variable_of, table_variables, is_open_difference, differing, difference_count, first_difference, variable_count, membership, difference, constraint_term, term_of, clauses_at, last_clause, constraint_clauses, clauses}
use Rattle.model.specs.Assignment.{variable}
use Rattle.model.proofs.Words.{size-zero, has_one, has-none, has-zero, bit-less, size-below-lt}
use Rattle.model.proofs.Lists.{total-place, All, all_both, all-each, all-map-iff, all_of, range_all, all-place}
use Rattle.encoding_laws.specs.Division.{tree_clauses, totalizer_clauses, group_clauses}
use Rattle.encoding_laws.proofs.Node.{output_in, output-out}
use Rattle.encoding_laws.proofs.Tree.{tree_node}
use Rattle.encoding_laws.proofs.Totalizer.{leaves-shape}
use Rattle.encoding_laws.proofs.Counts.{outputs-count}
use Rattle.encoding_laws.proofs.Groups.{table-length, over_constraints}
use Rattle.encoding_laws.proofs.Blocks.{clauses-parts}
use Rattle.encoding_laws.proofs.Fixpoint.{SettledAmong, table-settled}
use Rattle.encoding_laws.proofs.Whole.{OpenLimits, limits_of_lem, counted-pos}

-- ---- variables lo ≤ v < hi

module _ (lo hi : ℕ) where
  abbrev pub In : Literal → Type 0
  In l = (lo ≤ variable l) × (variable l < hi)

  abbrev pub InAll : List (List Literal) → Type 0
  InAll cs = All (All In) cs

  abbrev InTerm : Term → Type 0
  InTerm Holds = Unit {0}
  InTerm Fails = Unit {0}
  InTerm (Open l) = In l

  opposite-in : (x : Term) → InTerm x → InTerm (opposite_term x)
  unfolding opposite
  opposite-in Holds h = tt
  opposite-in Fails h = tt
  opposite-in (Open (Pos v)) h = h
  opposite-in (Open (Neg v)) h = h

  keep-in : (ts : List Term) → All InTerm ts → InAll (keep ts)
  unfolding keep
  keep-in ts h = go (list_any holds ts)
    where
      literals-in : (ts : List Term) → All InTerm ts → All In (literals ts)
      literals-in [] h = tt
      literals-in (Holds ∷ ts) h = literals-in ts h.1
      literals-in (Fails ∷ ts) h = literals-in ts h.1
      literals-in (Open l ∷ ts) h = (h.0, literals-in ts h.1)

      go : (b : Bool) → InAll (cond b [] (literals ts ∷ []))
      go true = tt
      go false = (literals-in ts h, tt)

  output-range : (f m p : ℕ) → lo ≤ f → f + m ≤ hi → InTerm (output f m p)
  output-range f m zero h k = tt
  output-range f m (suc i) h k = go (dec_lt i m)
    where
      go : Dec (i < m) → InTerm (output f m (suc i))
      go (yes l) = rw (output_in f m i l) (omega arith, omega arith)
      go (no l) = rw (output-out f m i (omega arith)) tt

  -- a node whose outputs are in it
  record InNode (t : Node) : Type 0 where
    c-low : lo ≤ t.c
    c-high : t.c + t.a ≤ hi
    d-low : lo ≤ t.d
    d-high : t.d + t.b ≤ hi
    n-low : lo ≤ t.n
    n-high : t.n + (t.a + t.b) ≤ hi

  node_in : (t : Node) → InNode t → InAll (node_clauses t)
  unfolding node_clauses row_clauses dropped put_in node_terms
  node_in t h =
      all-each (All In) (row_clauses t) (range 0 (suc t.a))
      (all_of (λ p. InAll (row_clauses t p))
      (λ p. all-each (All In) (dropped t p) (range 0 (suc t.b)) (all_of (λ q. InAll (dropped t p q)) (dropped-in p) (range 0 (suc t.b))))
      (range 0 (suc t.a)))
    where
      output-in-it : (f k : ℕ) (l : Literal) → lo ≤ f → f + k ≤ hi → InTerm (output_term f k l)
      output-in-it f k (Pos i) x y = output-range f k i x y
      output-in-it f k (Neg i) x y = opposite-in (output f k i) (output-range f k i x y)

      terms-in : (f : Printed) → InAll (keep (node_terms t f))
      terms-in f =
          keep-in (node_terms t f) (
            output-in-it t.c t.a f.c h.c-low h.c-high,
            (output-in-it t.d t.b f.d h.d-low h.d-high, (output-in-it t.n (t.a + t.b) f.n h.n-low h.n-high, tt)),
          )

      dropped-in : (p q : ℕ) → InAll (dropped t p q)
      dropped-in p q = all-each (All In) keep (put_in t p q) (terms-in (formed p q).up, (terms-in (formed p q).down, tt))

  root-low : (s : Shape) (v n : ℕ) → lo ≤ v → lo ≤ n → lo ≤ root_output s v n
  root-low leaf v n h k = h
  root-low (node l r) v n h k = omega arith

  root-high : (s : Shape) (v n : ℕ) → v + leaves s ≤ hi → n + outputs s ≤ hi → root_output s v n + leaves s ≤ hi
  root-high leaf v n h k = h
  root-high (node l r) v n h k = omega arith

  tree-in : (s : Shape) (v n : ℕ) → lo ≤ v → lo ≤ n → v + leaves s ≤ hi → n + outputs s ≤ hi → InAll (tree_clauses s v n)
  unfolding tree_clauses nodes
  tree-in leaf v n h1 h2 h3 h4 = tt
  tree-in (node l r) v n h1 h2 h3 h4 =
      let w : ℕ = v + leaves l in
      let k : ℕ = n + outputs l in
      subst InAll (sym (tree_node l r v n))
      ((all_both (All In) (tree_clauses l v n ++ tree_clauses r w k) (node_clauses (node_over l r v n))).1 (
        (all_both (All In) (tree_clauses l v n) (tree_clauses r w k)).1
            (tree-in l v n h1 h2 (omega arith) (omega arith), tree-in r w k (omega arith) (omega arith) (omega arith) (omega arith)),
        node_in (node_over l r v n) record {
          c-low = root-low l v n h1 h2;
          c-high = root-high l v n (omega arith) (omega arith);
          d-low = root-low r w k (omega arith) (omega arith);
          d-high = root-high r w k (omega arith) (omega arith);
          n-low = omega arith;
          n-high = omega arith;
        },
      ))

  totalizer-in : (m v n L U : ℕ) → 1 ≤ m → L ≤ m → lo ≤ v → lo ≤ n → v + m ≤ hi → n + tree_output_count m ≤ hi → InAll (totalizer_clauses m v n L U)
  unfolding unit unit_clauses totalizer_clauses
  totalizer-in m v n L U h1 h_l h2 h3 h4 h5 =
      let e = leaves-shape m h1 in
      let f = outputs-count m in
      let o = root_output (shape m) v n in
      let x = root-low (shape m) v n h2 h3 in
      let y = root-high (shape m) v n (omega arith) (omega arith) in
      (all_both (All In) (tree_clauses (shape m) v n) (unit_clauses o m L U)).1 (
        tree-in (shape m) v n h2 h3 (omega arith) (omega arith),
        (all_both (All In) (map (unit Pos o) (range 0 L)) (map (unit Neg o) (range U (m - U)))).1 (
          (all-map-iff (All In) (unit Pos o) (range 0 L)).1
              (range_all (λ i. All In (unit Pos o i)) 0 L (λ j l k. ((omega arith, omega arith), tt))),
          (all-map-iff (All In) (unit Neg o) (range U (m - U))).1
              (range_all (λ i. All In (unit Neg o i)) U (m - U) (λ j l k. ((omega arith, omega arith), tt))),
        ),
      )

-- ---- groups and constraints

-- the variables of a table, and those after them, are below hi
module _ (n : ℕ) (t : List Group) (s : All (SettledAmong n) t) (hi : ℕ) (room : suc (table_variables t) ≤ hi) where
  first-variable : (g : ℕ) → g - 1 < length t → first_variable t g + open_count (group_at t g) ≤ 1 + total open_count t
  unfolding first_variable group_at
  first-variable g h = omega (arith, total-place open_count t (g - 1) zero_group h)

  first-output : (g : ℕ) → g - 1 < length t → first_output t g + outputs_of (group_at t g) ≤ hi
  unfolding first_output group_at table_variables
  first-output g h = omega (arith, total-place outputs_of t (g - 1) zero_group h)

  group_in_lem : (g : ℕ) → g - 1 < length t → InAll 1 hi (group_clauses t g)
  unfolding group_clauses counted
  group_in_lem g h = go (counted r) refl
    where
      r : Group
      r = group_at t g

      l : OpenLimits r
      l = limits_of_lem r (unfold group_at in (all-place (SettledAmong n) zero_group t s (g - 1) h).group)

      go : (b : Bool) → counted r ≡ b → InAll 1 hi (cond b (totalizer_clauses (open_count r) (first_variable t g) (first_output t g) (at_least r) (at_most r)) [])
      go true c =
          totalizer-in 1 hi (open_count r) (first_variable t g) (first_output t g) (at_least r) (at_most r)
          (counted-pos (at_least r) (at_most r) (open_count r) l.low-open (subst T (sym c) tt)) l.low-open
          (unfold first_variable in omega arith) (unfold first_output in omega arith)
          (let k = first-variable g h in unfold table_variables in omega arith)
          (let k = first-output g h in let e : outputs_of r ≡ tree_output_count (open_count r) = unfold outputs_of in rw c in omega arith)
      go false c = tt

  membership-in : (e g : ℕ) → InTerm 1 hi (membership t e g)
  unfolding membership
  membership-in e g = go (has r.fixed e) refl (has r.possible e) refl (dec_lt (g - 1) (length t))
    where
      r : Group
      r = group_at t g

      go : (x : Bool) → has r.fixed e ≡ x → (y : Bool) → has r.possible e ≡ y → Dec (g - 1 < length t)
          → InTerm 1 hi (cond x Holds (cond y (Open (Pos (variable_of t g e))) Fails))
      go true p y q d = tt
      go false p false q d = tt
      go false p true q (yes h) =
          let b : bit e (open_of r) ≡ 1 = unfold open_of in omega (arith, bit-less e r.possible r.fixed, has-none r.fixed e p, has_one r.possible e q) in
          let k = size-below-lt e (open_of r) b in
          let f = first-variable g h in
          unfold variable_of open_count first_variable table_variables in (omega arith, omega arith)
      go false p true q (no h) =
          let z : r ≡ zero_group = unfold group_at in get_or-eq_default t zero_group {n = g - 1} (omega arith) in
          let f : has r.possible e ≡ false = rw z (unfold zero_group in has-zero e) in
          absurd (let c : ◌≡◌ {A = ℕ} 0 1 = cc in omega arith)

  -- the X of a constraint are numbered from x on
  module _ (x : ℕ) (c : Constraint) (first : 1 ≤ x) (last : x + difference_count t c ≤ hi) where
    difference-in : (e : ℕ) → InTerm 1 hi (difference x t c e)
    unfolding difference difference_count
    difference-in e = go (has (differing t c) e) refl
      where
        go : (b : Bool) → has (differing t c) e ≡ b → InTerm 1 hi (cond b (Open (Pos (x + size (differing t c % 2 ^ e)))) Fails)
        go true p = let k = size-below-lt e (differing t c) (has_one (differing t c) e p) in (omega arith, omega arith)
        go false p = tt

    member-in : (e i : ℕ) → InTerm 1 hi (constraint_term x t c e i)
    unfolding constraint_term
    member-in e i = go (is_difference c && eqb i 2)
      where
        go : (b : Bool) → InTerm 1 hi (cond b (difference x t c e) (membership t e (get_or c.groups i 0)))
        go true = difference-in e
        go false = membership-in e (get_or c.groups i 0)

    term_in : (e : ℕ) (l : Literal) → InTerm 1 hi (term_of (constraint_term x t c e) l)
    term_in e (Pos i) = member-in e i
    term_in e (Neg i) = opposite-in 1 hi (constraint_term x t c e i) (member-in e i)

    entrant-in : (e : ℕ) → InAll 1 hi (clauses_at x t c e)
    unfolding clauses_at
    entrant-in e = go (is_apart t c)
      where
        cs : List (List Literal)
        cs = member_clauses c.code c.count

        kept : List Literal → List (List Literal)
        kept ls = keep (map (term_of (constraint_term x t c e)) ls)

        go : (b : Bool) → InAll 1 hi (cond b [] (flat_map kept cs))
        go true = tt
        go false =
            all-each (All (In 1 hi)) kept cs
            (all_of (λ ls. InAll 1 hi (kept ls))
            (λ ls. keep-in 1 hi (map (term_of (constraint_term x t c e)) ls)
            ((all-map-iff (InTerm 1 hi) (term_of (constraint_term x t c e)) ls).1 (all_of (λ l. InTerm 1 hi (term_of (constraint_term x t c e) l)) (term_in e) ls))) cs)

    last-in : (k : ℕ) → InAll 1 hi (last_clause k x t c)
    unfolding last_clause
    last-in k = go (is_open_difference t c)
      where
        go : (b : Bool) → InAll 1 hi (cond b (keep (map (difference x t c) (range 0 k))) [])
        go true =
            keep-in 1 hi (map (difference x t c) (range 0 k))
            ((all-map-iff (InTerm 1 hi) (difference x t c) (range 0 k)).1 (all_of (λ e. InTerm 1 hi (difference x t c e)) difference-in (range 0 k)))
        go false = tt

    pub constraint-in : (k : ℕ) → InAll 1 hi (constraint_clauses k t x c)
    unfolding constraint_clauses
    constraint-in k =
        (all_both (All (In 1 hi)) (flat_map (clauses_at x t c) (range 0 k)) (last_clause k x t c)).1 (
          all-each (All (In 1 hi)) (clauses_at x t c) (range 0 k) (all_of (λ e. InAll 1 hi (clauses_at x t c e)) entrant-in (range 0 k)),
          last-in k,
        )

  constraints-in : (k : ℕ) (cs : List Constraint) (x : ℕ) → 1 ≤ x → x + total (difference_count t) cs ≤ hi
      → InAll 1 hi (over_constraints t (constraint_clauses k t) cs x)
  constraints-in k [] x h l = tt
  constraints-in k (c ∷ cs) x h l =
      (all_both (All (In 1 hi)) (constraint_clauses k t x c) (over_constraints t (constraint_clauses k t) cs (x + difference_count t c))).1
      (constraint-in x c h (omega arith) k, constraints-in k cs (x + difference_count t c) (omega arith) (omega arith))

-- ---- the whole

abbrev pub VariablesIn : Model → List (List Literal) → Type 0
VariablesIn m cs = InAll 1 (suc (variable_count m)) cs

module _ (m : Model) (q : Settled m) where
  room-is : suc (table_variables (table_of m)) ≤ suc (variable_count m)
  unfolding variable_count
  room-is = omega arith

  pub group-variables : (g : ℕ) → 1 ≤ g → g ≤ m.s → VariablesIn m (group_clauses (table_of m) g)
  group-variables g h k = group_in_lem m.n (table_of m) (table-settled m q) (suc (variable_count m)) room-is g (omega (arith, table-length m q.sized))

  -- of constraint j
  pub constraint-variables : (j : ℕ)
      → VariablesIn m (constraint_clauses m.n (table_of m) (first_difference (1 + table_variables (table_of m)) m j) (get_or (constraints_of m) (j - 1) zero_constraint))
  unfolding first_difference variable_count
  constraint-variables j =
      constraint-in m.n (table_of m) (table-settled m q) (suc (variable_count m)) room-is (1 + table_variables (table_of m) + total dc (take (j - 1) cs)) (get_or cs (j - 1) zero_constraint)
      (omega arith) (let h = fits (dec_lt (j - 1) (length cs)) in omega arith) m.n
    where
      cs : List Constraint
      cs = constraints_of m

      dc : Constraint → ℕ
      dc = difference_count (table_of m)

      none : dc zero_constraint ≡ 0
      none = unfold difference_count differing is_open_difference is_difference zero_constraint in size-zero

      fits : Dec (j - 1 < length cs) → total dc (take (j - 1) cs) + dc (get_or cs (j - 1) zero_constraint) ≤ total dc cs
      fits (yes h) = total-place dc cs (j - 1) zero_constraint h
      fits (no h) = rw (get_or-eq_default cs zero_constraint {n = j - 1} (omega arith), none, take_all (j - 1) cs (omega arith)) (omega arith)

  -- every literal's variable is one of 1..V
  pub variables-in : VariablesIn m (clauses m)
  variables-in =
      let t = table_of m in
      let hi = suc (variable_count m) in
      let gs = flat_map (group_clauses t) (range 1 m.s) in
      let cs = over_constraints t (constraint_clauses m.n t) (constraints_of m) (1 + table_variables t) in
      subst (VariablesIn m) (sym (clauses-parts m q))
      ((all_both (All (In 1 hi)) gs cs).1 (
        all-each (All (In 1 hi)) (group_clauses t) (range 1 m.s)
            (range_all (λ g. VariablesIn m (group_clauses t g)) 1 m.s (λ g h k. group-variables g h (omega arith))),
        constraints-in m.n t (table-settled m q) hi room-is m.n (constraints_of m) (1 + table_variables t) (omega arith) (unfold variable_count in omega arith),
      ))
