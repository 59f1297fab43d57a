-- What propagation promises of its answer to a model in range: refusal 21 exactly where there is no candidate, otherwise the widest candidate, with
-- every solution kept, in every order of the constraints. Assumes nothing.
use mathlib.Core.Path.{◌≡◌, refl, sym, ap, ap₂, ◌∙◌}
use mathlib.Core.Logic.{◌⊎◌, inl, inr}
use Prim.Native.Nat.{ℕ, zero, suc, ◌+◌, ◌*◌, ◌≤◌}
use native.Mathlib.Numerals.{add-one}
use native.Mathlib.Omega.{arith}
use mathlib.Core.Bool.{Bool, ◌&&◌}
use mathlib.Core.List.Permᴰ
use mathlib.Core.List.{List, [], ◌∷◌, ◌++◌, Permᴰ, Memᴰ}
use lib.Dec.{T}
use lib.ListN.{length, take, drop}
use Rattle.model.specs.declared.Group.{Group}
use Rattle.model.specs.declared.Constraint.{Constraint}
use Rattle.model.specs.declared.Model.{Model}
use Rattle.model.specs.declared.Propagated.{Propagated}
use Rattle.std.specs.List.{list_all}
use Rattle.model.specs.Lists.{pairwise, total}
use Rattle.model.specs.Model.{table_of, constraints_of, with_table, members_sized, group_in_range, constraint_in_range, in_range}
use Rattle.model.specs.Difference.{may_differ}
use Rattle.model.specs.Propagate.{rules, pass, group_consistent, consistent, tenable, same_table, Outcome, contradiction, fixpoint, outcome, refused_propagation, propagated_as, propagated, is_fixpoint}
use Rattle.model.specs.Demand.{group_within, within, is_candidate}
use Rattle.model.specs.Solution.{constraint_true, allowed, is_solution}
use Rattle.model.proofs.Lists.{T_true, T-ext, and_left, and_right, and_both, every-all, all-every, all-at, all-mem, all-perm, perm-mem, pairwise-length, front-take, front-drop}
use Rattle.model.proofs.Words.{size-le, sub-le}
use Rattle.propagation_laws.proofs.Fixpoint.{Frame, Answer, Candidate, PassesAtMost, Narrower, SameTable, parts, whole, candidate, run-fixed, iterate-answer, iterate-passes, iterate-once, narrower, narrower-both}
use Rattle.propagation_laws.proofs.GroupRule.{narrow, sound, slack, table_frame}
use Rattle.propagation_laws.proofs.ConstraintRule.{constraint_frame, candidate-is, all-rules, fewer-rules}
use Rattle.propagation_laws.proofs.Ranges.{group-range, is-group-range, in_range_lem, is_in_range}
use Rattle.propagation_laws.proofs.Points.{points, allowed-points, solution_candidate}

-- the same model with its constraints in another order
pub record Reordered (m o : Model) : Type 0 where
  pub entrants : m.n ≡ o.n
  pub count : m.s ≡ o.s
  pub constraints : m.c ≡ o.c
  pub groups : m.groups ≡ o.groups
  pub order : Permᴰ (constraints_of m) (constraints_of o)

-- m's table is within o's, and m has o's constraints
pub record Tighter (m o : Model) : Type 0 where
  pub entrants : m.n ≡ o.n
  pub count : m.s ≡ o.s
  pub table : T (within (table_of m) (table_of o))
  pub constraints : (c : Constraint) → Memᴰ c (constraints_of o) → Memᴰ c (constraints_of m)

-- then m's answer a is within o's answer b
pub record NarrowerAnswer (a b : Propagated) : Type 0 where
  pub refused : b.refusal ≡ 21 → a.refusal ≡ 21
  pub table : a.refusal ≡ 0 → T (within (table_of a.model) (table_of b.model))

-- only groups 1..s may differ
pub record Kept (m o : Model) : Type 0 where
  pub entrants : o.n ≡ m.n
  pub count : o.s ≡ m.s
  pub constraint_count : o.c ≡ m.c
  pub rest : drop m.s o.groups ≡ drop m.s m.groups
  pub constraints : o.constraints ≡ m.constraints

-- a is the answer to m
pub record Propagation (m : Model) (a : Propagated) : Type 0 where
  pub refusals : (a.refusal ≡ 0) ⊎ (a.refusal ≡ 21)
  pub refused-only : a.refusal ≡ 21 → (t : List Group) → T (is_candidate m t) → ⊥
  pub refused-when : ((t : List Group) → T (is_candidate m t) → ⊥) → a.refusal ≡ 21
  pub no-solution : a.refusal ≡ 21 → (d : List ℕ) → T (is_solution m d) → ⊥
  pub is-candidate : a.refusal ≡ 0 → T (is_candidate m (table_of a.model))
  pub widest : a.refusal ≡ 0 → (t : List Group) → T (is_candidate m t) → T (within t (table_of a.model))
  pub passes : a.passes ≤ 2 * m.s * m.n + 1
  pub kept : Kept m a.model
  pub in_range_lem : T (in_range a.model)
  pub is-fixpoint : a.refusal ≡ 0 → T (is_fixpoint a.model)
  pub again : a.refusal ≡ 0 → propagated a.model ≡ record { refusal = 0; passes = 1; model = a.model }
  pub solutions : (d : List ℕ) → is_solution m d ≡ is_solution a.model d
  pub any_order : (o : Model) → Reordered m o
      → (a.refusal ≡ (propagated o).refusal) × (table_of a.model ≡ table_of (propagated o).model)

-- ---- the bound

total-bound : (n k : ℕ) (l : List Group) → T (list_all (group_in_range n) (take k l)) → total slack (take k l) ≤ 2 * k * n
total-bound n zero l t = omega arith
total-bound n (suc k) [] t = omega arith
total-bound n (suc k) (g ∷ l) t =
    let r = group-range n g (and_left (group_in_range n g) (list_all (group_in_range n) (take k l)) t) in
    omega (
      arith,
      total-bound n k l (and_right (group_in_range n g) (list_all (group_in_range n) (take k l)) t),
      size-le n g.possible r.small,
      r.top,
    )

-- ---- the answer, before it is put into a model

module _ (m : Model) where
  abbrev rs : List (List Group → List Group)
  rs = rules m.n m.s (constraints_of m)

  abbrev frame : Frame (List Group)
  frame = constraint_frame (constraints_of m)

  pub answer : T (in_range m) → Answer frame rs (table_of m) (outcome m)
  unfolding outcome pass tenable consistent same_table table_of
  answer r =
      iterate-answer frame rs (all-rules m.n m.s (constraints_of m)) (2 * m.s * m.n + 1) 0 (table_of m)
      (omega (arith, total-bound m.n m.s m.groups (in_range_lem m r).groups))

  bound : T (in_range m) → PassesAtMost (2 * m.s * m.n + 1) (outcome m)
  unfolding outcome pass tenable consistent same_table table_of
  bound r = weaken (outcome m)
      (iterate-passes frame rs (all-rules m.n m.s (constraints_of m)) (2 * m.s * m.n + 1) 0 (table_of m))
    where
      weaken : (o : Outcome (List Group)) → PassesAtMost (0 + total slack (table_of m) + 1) o → PassesAtMost (2 * m.s * m.n + 1) o
      weaken contradiction h = tt
      weaken (fixpoint k t) h = omega (arith, total-bound m.n m.s m.groups (in_range_lem m r).groups)

  propagated-is : T (in_range m) → propagated m ≡ propagated_as m (outcome m)
  unfolding propagated
  propagated-is r = rw (T_true (in_range m) r)

-- ---- the model with the answer's table

ranges : (n : ℕ) (t u : List Group) → T (consistent t) → T (within t u) → T (list_all (group_in_range n) u) → T (list_all (group_in_range n) t)
unfolding consistent within
ranges n [] [] c w r = tt
ranges n [] (y ∷ u) c w r = absurd w
ranges n (x ∷ t) [] c w r = absurd w
ranges n (x ∷ t) (y ∷ u) c w r =
    let s = sound x (and_left (group_consistent x) (list_all group_consistent t) c) in
    let i = narrow x y (and_left (group_within x y) (pairwise group_within t u) w) in
    let q = group-range n y (and_left (group_in_range n y) (list_all (group_in_range n) u) r) in
    and_both (group_in_range n x) (list_all (group_in_range n) t)
    (is-group-range n x (record { fits = s.fits; small = omega (arith, sub-le i.pos, q.small); order = s.order; top = omega (arith, i.hi, q.top) }))
    (ranges n t u (and_right (group_consistent x) (list_all group_consistent t) c) (and_right (group_within x y) (pairwise group_within t u) w)
    (and_right (group_in_range n y) (list_all (group_in_range n) u) r))

module _ (m : Model) (r : T (in_range m)) (t : List Group) (c : Candidate (constraint_frame (constraints_of m)) (rules m.n m.s (constraints_of m)) (table_of m) t) where
  sound-table : T (consistent t)
  unfolding consistent
  sound-table = and_left (table_frame.ok t) (list_all (may_differ t) (constraints_of m)) c.consistent

  long : length t ≡ length (take m.s m.groups)
  unfolding table_of
  long = pairwise-length group_within t (table_of m) c.inside

  table_is : table_of (with_table m t) ≡ t
  unfolding table_of with_table
  table_is = front-take m.s t m.groups long

  kept-is : Kept m (with_table m t)
  unfolding with_table
  kept-is = record { entrants = refl; count = refl; constraint_count = refl; rest = front-drop m.s t m.groups long; constraints = refl }

  twice : with_table (with_table m t) t ≡ with_table m t
  unfolding with_table
  twice = λ i. record { n = m.n; s = m.s; c = m.c; groups = t ++ front-drop m.s t m.groups long i; constraints = m.constraints }

  still-in-range : T (in_range (with_table m t))
  unfolding consistent within
  still-in-range =
      let q = in_range_lem m r in
      is_in_range (with_table m t) (unfold with_table constraints_of in record {
        some-entrant = q.some-entrant;
        entrants = q.entrants;
        some-group = q.some-group;
        group_count = q.group_count;
        group_limit = q.group_limit;
        constraint_count = q.constraint_count;
        groups = rw table_is (ranges m.n t (table_of m) sound-table c.inside q.groups);
        constraints = q.constraints;
      })

  pass_same : pass (with_table m t) t ≡ t
  unfolding pass with_table constraints_of
  pass_same = run-fixed (frame m) (rs m) t c.unchanged

  fixpoint-is : T (is_fixpoint (with_table m t))
  unfolding is_fixpoint tenable consistent same_table with_table constraints_of
  fixpoint-is = rw (table_is, pass_same) (and_both (tenable (constraints_of m) t) (same_table t t) c.consistent (table_frame.same_refl t))

  again-is : propagated (with_table m t) ≡ record { refusal = 0; passes = 1; model = with_table m t }
  unfolding outcome tenable consistent same_table
  again-is =
      let once : outcome (with_table m t) ≡ fixpoint 1 t =
      rw (table_is, add-one) (iterate-once (frame (with_table m t)) (pass (with_table m t)) _ 0 t (unfold with_table constraints_of in c.consistent) pass_same) in
      propagated-is (with_table m t) still-in-range ∙ ap (propagated_as (with_table m t)) once ∙ (λ i. record { refusal = 0; passes = 1; model = twice i })

  -- a solution says that its sets are within the table and its constraints true
  solution-is : (d : List ℕ) → is_solution (with_table m t) d ≡ (within (points d) t && list_all (constraint_true d) (constraints_of m))
  unfolding is_solution constraints_of
  solution-is d =
      rw (table_is, allowed-points t d) (unfold with_table in refl)

  solutions-are : T (members_sized m) → ((u : List Group) → T (is_candidate m u) → T (within u t)) → (d : List ℕ) → is_solution m d ≡ is_solution (with_table m t) d
  unfolding is_solution
  solutions-are k w d = T-ext (is_solution m d) (within (points d) t && b) to from ∙ sym (solution-is d)
    where
      a : Bool
      a = pairwise allowed (table_of m) d

      b : Bool
      b = list_all (constraint_true d) (constraints_of m)

      to : T (is_solution m d) → T (within (points d) t && b)
      to h = and_both (within (points d) t) b (w (points d) (solution_candidate m r k d h)) (and_right a b h)

      from : T (within (points d) t && b) → T (is_solution m d)
      from h =
          and_both a b
          (rw (allowed-points (table_of m) d)
          (unfold within in table_frame.w-trans (points d) t (table_of m) (and_left (within (points d) t) b h) c.inside))
          (and_right (within (points d) t) b h)

-- ---- more constraints and a narrower table give a narrower answer

module _ (m o : Model) (rm : T (in_range m)) (ro : T (in_range o)) where
  -- a candidate of m is one of o
  fewer : Tighter m o → (u : List Group) → T (candidate (frame m) (rs m) (table_of m) u)
      → T (candidate (frame o) (rules m.n m.s (constraints_of o)) (table_of o) u)
  unfolding within
  fewer h u t =
      let c = parts (frame m) (rs m) (table_of m) u t in
      let D : Constraint → Type 0 = λ d. T (may_differ u d) in
      whole (frame o) (rules m.n m.s (constraints_of o)) (table_of o) u (record {
        consistent = and_both (table_frame.ok u) (list_all (may_differ u) (constraints_of o))
            (and_left (table_frame.ok u) (list_all (may_differ u) (constraints_of m)) c.consistent)
            (all-every (may_differ u) (constraints_of o) (all-mem D (constraints_of o) (λ d i. all-at D (h.constraints d i)
            (every-all (may_differ u) (constraints_of m) (and_right (table_frame.ok u) (list_all (may_differ u) (constraints_of m)) c.consistent)))));
        unchanged = fewer-rules m.n m.s (constraints_of m) (constraints_of o) h.constraints u c.unchanged;
        inside = table_frame.w-trans u (table_of m) (table_of o) c.inside h.table;
      })

  outcome-narrower : Tighter m o → Narrower (frame o) (outcome m) (outcome o)
  outcome-narrower h =
      narrower (frame m) (frame o) (rs m) (rules m.n m.s (constraints_of o)) (table_of m) (table_of o) (fewer h) (outcome m) (outcome o)
      (answer m rm) (rw (h.entrants, h.count) (answer o ro))

  as-narrower : (p q : Outcome (List Group)) → Answer (frame m) (rs m) (table_of m) p → Answer (frame o) (rs o) (table_of o) q
      → Narrower (frame o) p q → NarrowerAnswer (propagated_as m p) (propagated_as o q)
  unfolding refused_propagation
  as-narrower contradiction q a b h = record { refused = λ e. refl; table = λ e. absurd (omega arith) }
  as-narrower (fixpoint j t) contradiction a b h = absurd h
  as-narrower (fixpoint j t) (fixpoint k u) a b h = record {
    refused = λ e. absurd (omega arith);
    table = λ e.
        rw (table_is m rm t (parts (frame m) (rs m) (table_of m) t a.is), table_is o ro u (parts (frame o) (rs o) (table_of o) u b.is))
        (unfold within in h);
  }

  pub tighter : Tighter m o → NarrowerAnswer (propagated m) (propagated o)
  tighter h =
      rw (propagated-is m rm, propagated-is o ro) (as-narrower (outcome m) (outcome o) (answer m rm) (answer o ro) (outcome-narrower h))

-- and each solution of the one is a solution of the other
pub tighter-solutions : (m o : Model) → Tighter m o → (d : List ℕ) → T (is_solution m d) → T (is_solution o d)
unfolding is_solution
tighter-solutions m o h d t =
    let a = pairwise allowed (table_of m) d in
    let b = list_all (constraint_true d) (constraints_of m) in
    let P : Constraint → Type 0 = λ c. T (constraint_true d c) in
    and_both (pairwise allowed (table_of o) d) (list_all (constraint_true d) (constraints_of o))
    (rw (allowed-points (table_of o) d)
    (unfold within in table_frame.w-trans (points d) (table_of m) (table_of o) (rw (allowed-points (table_of m) d) at (and_left a b t)) h.table))
    (all-every (constraint_true d) (constraints_of o)
    (all-mem P (constraints_of o) (λ c i. all-at P (h.constraints c i) (every-all (constraint_true d) (constraints_of m) (and_right a b t)))))

-- ---- any order of the constraints

reversed : (m o : Model) → Reordered m o → Reordered o m
reversed m o h = record {
  entrants = sym h.entrants;
  count = sym h.count;
  constraints = sym h.constraints;
  groups = sym h.groups;
  order = Permᴰ.symm h.order;
}

same_start : (m o : Model) → Reordered m o → table_of m ≡ table_of o
unfolding table_of
same_start m o h = ap₂ take h.count h.groups

reordered-tighter : (m o : Model) → Reordered m o → Tighter m o
reordered-tighter m o h = record {
  entrants = h.entrants;
  count = h.count;
  table = rw (same_start m o h) (unfold within in table_frame.w-refl (table_of o));
  constraints = λ c i. perm-mem (Permᴰ.symm h.order) i;
}

reordered-range : (m o : Model) → Reordered m o → T (in_range m) → T (in_range o)
reordered-range m o h r =
    let q = in_range_lem m r in
    is_in_range o (record {
      some-entrant = rw h.entrants at q.some-entrant;
      entrants = rw h.entrants at q.entrants;
      some-group = rw h.count at q.some-group;
      group_count = rw h.count at q.group_count;
      group_limit = rw (h.entrants, h.count) at q.group_limit;
      constraint_count = rw h.constraints at q.constraint_count;
      groups = rw (same_start m o h, h.entrants) at q.groups;
      constraints = rw h.count at
          (all-every (constraint_in_range m.s) (constraints_of o)
          (all-perm (λ c. T (constraint_in_range m.s c)) h.order (every-all (constraint_in_range m.s) (constraints_of m) q.constraints)));
    })

module _ (m o : Model) (rm : T (in_range m)) (h : Reordered m o) where
  abbrev SameAnswer : Propagated → Propagated → Type 0
  SameAnswer a b = (a.refusal ≡ b.refusal) × (table_of a.model ≡ table_of b.model)

  as_same : (p q : Outcome (List Group)) → Answer (frame m) (rs m) (table_of m) p → Answer (frame o) (rs o) (table_of o) q
      → T (in_range o) → SameTable (frame o) p q → SameAnswer (propagated_as m p) (propagated_as o q)
  unfolding refused_propagation
  as_same contradiction contradiction a b ro e = (refl, same_start m o h)
  as_same contradiction (fixpoint k u) a b ro e = absurd e
  as_same (fixpoint j t) contradiction a b ro e = absurd e
  as_same (fixpoint j t) (fixpoint k u) a b ro e = (
    refl,
    table_is m rm t (parts (frame m) (rs m) (table_of m) t a.is) ∙ e ∙ sym (table_is o ro u (parts (frame o) (rs o) (table_of o) u b.is)),
  )

  reordered : SameAnswer (propagated m) (propagated o)
  reordered =
      let ro = reordered-range m o h rm in
      rw (propagated-is m rm, propagated-is o ro)
      (as_same (outcome m) (outcome o) (answer m rm) (answer o ro) ro
      (narrower-both (frame o) (outcome m) (outcome o)
      (outcome-narrower m o rm ro (reordered-tighter m o h)) (outcome-narrower o m ro rm (reordered-tighter o m (reversed m o h)))))

-- ---- all of it

module _ (m : Model) (r : T (in_range m)) (k : T (members_sized m)) where
  of-outcome : (o : Outcome (List Group)) → propagated m ≡ propagated_as m o → Answer (frame m) (rs m) (table_of m) o → PassesAtMost (2 * m.s * m.n + 1) o
      → Propagation m (propagated_as m o)
  unfolding refused_propagation
  of-outcome contradiction e a b = record {
    refusals = inr refl;
    refused-only = λ q t c. a t (rw (candidate-is m t) at c);
    refused-when = λ f. refl;
    no-solution = λ q d s. a (points d) (rw (candidate-is m (points d)) at (solution_candidate m r k d s));
    is-candidate = λ q. absurd (omega arith);
    widest = λ q. absurd (omega arith);
    passes = omega arith;
    kept = record { entrants = refl; count = refl; constraint_count = refl; rest = refl; constraints = refl };
    in_range_lem = r;
    is-fixpoint = λ q. absurd (omega arith);
    again = λ q. absurd (omega arith);
    solutions = λ d. refl;
    any_order = λ o h. rw e at (reordered m o r h);
  }
  of-outcome (fixpoint j t) e a b =
      let c = parts (frame m) (rs m) (table_of m) t a.is in
      let w : (u : List Group) → T (is_candidate m u) → T (within u t) = λ u s. unfold within in a.widest u (rw (candidate-is m u) at s) in
      record {
        refusals = inl refl;
        refused-only = λ q. absurd (omega arith);
        refused-when = λ f. absurd (f t (rw (candidate-is m t) a.is));
        no-solution = λ q. absurd (omega arith);
        is-candidate = λ q. rw (table_is m r t c, candidate-is m t) a.is;
        widest = λ q u s. rw (table_is m r t c) (w u s);
        passes = b;
        kept = kept-is m r t c;
        in_range_lem = still-in-range m r t c;
        is-fixpoint = λ q. fixpoint-is m r t c;
        again = λ q. again-is m r t c;
        solutions = solutions-are m r t c k w;
        any_order = λ o h. rw e at (reordered m o r h);
      }

  pub propagation : Propagation m (propagated m)
  propagation = rw (propagated-is m r) (of-outcome (outcome m) (propagated-is m r) (answer m r) (bound m r))
