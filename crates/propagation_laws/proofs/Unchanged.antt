-- What a model that passes refusal 22 tells: its own table is a candidate, and the group rule leaves each group as it is. Assumes nothing.
use mathlib.Core.Path.{◌≡◌}
use Prim.Native.Nat.{ℕ, ◌-◌, ◌≤◌}
use native.Mathlib.Omega.{arith}
use mathlib.Core.List.{List, [], ◌∷◌, ◌++◌, map}
use lib.Dec.{T}
use lib.ListN.{length, length-take}
use Rattle.model.specs.declared.Literal.{Literal}
use Rattle.model.specs.declared.Group.{Group}
use Rattle.model.specs.declared.Constraint.{Constraint}
use Rattle.model.specs.declared.Model.{Model}
use Rattle.std.specs.List.{list_all}
use Rattle.model.specs.Lists.{range}
use Rattle.model.specs.Clauses.{clauses_of}
use Rattle.model.specs.Model.{zero_group, table_of, constraints_of, group_at}
use Rattle.model.specs.LimitRules.{limit_rules}
use Rattle.model.specs.Difference.{may_differ}
use Rattle.model.specs.Propagate.{group_rule, clause_rules, clause_rule, scope, constraint_rule, group_rule_at, rules, pass, group_consistent, consistent, tenable, same_table, is_fixpoint}
use Rattle.model.specs.Demand.{is_candidate}
use Rattle.model.proofs.Lists.{same_place, T-ext, and_left, and_right, and_both, every-getD, every-all, All, all_left, all_right, map-all, all-range}
use Rattle.propagation_laws.proofs.Fixpoint.{Frame, Unchanged, Candidate, parts, whole, all-reduce, run-unchanged, run-fixed}
use Rattle.propagation_laws.proofs.GroupRule.{SettledGroup, settled-group, table_frame}
use Rattle.propagation_laws.proofs.ConstraintRule.{constraint_frame, candidate-is, clause-rules, line-rules, all-rules}

module _ (m : Model) where
  abbrev rs : List (List Group → List Group)
  rs = rules m.n m.s (constraints_of m)

  abbrev frame : Frame (List Group)
  frame = constraint_frame (constraints_of m)

  pub fixpoint-candidate : is_fixpoint m ≡ is_candidate m (table_of m)
  unfolding is_fixpoint tenable consistent same_table pass
  fixpoint-candidate = T-ext (is_fixpoint m) (is_candidate m (table_of m)) to from
    where
      t : List Group
      t = table_of m

      to : T (is_fixpoint m) → T (is_candidate m (table_of m))
      to h =
          let u = pass m (table_of m) in
          let e : u ≡ table_of m = table_frame.same-eq u (table_of m) (and_right (tenable (constraints_of m) u) (same_table u (table_of m)) h) in
          rw (candidate-is m (table_of m))
          (whole frame rs (table_of m) (table_of m) (record {
            consistent = rw e at (and_left (tenable (constraints_of m) u) (same_table u (table_of m)) h);
            unchanged = run-unchanged frame rs (all-reduce frame rs (all-rules m.n m.s (constraints_of m))) (table_of m) e;
            inside = table_frame.w-refl (table_of m);
          }))

      from : T (is_candidate m (table_of m)) → T (is_fixpoint m)
      from h =
          let c = parts frame rs (table_of m) (table_of m) (rw (candidate-is m (table_of m)) at h) in
          let e : pass m (table_of m) ≡ table_of m = run-fixed frame rs (table_of m) c.unchanged in
          rw e (and_both (tenable (constraints_of m) (table_of m)) (same_table (table_of m) (table_of m)) c.consistent (table_frame.same_refl (table_of m)))

module _ (m : Model) (h : T (is_fixpoint m)) where
  own : Candidate (frame m) (rs m) (table_of m) (table_of m)
  own = parts (frame m) (rs m) (table_of m) (table_of m) (rw (fixpoint-candidate m, candidate-is m (table_of m)) at h)

  -- each code 7 constraint has an entrant who is not settled alike
  pub differs-still : All (λ c. T (may_differ (table_of m) c)) (constraints_of m)
  differs-still =
      every-all (may_differ (table_of m)) (constraints_of m)
      (and_right (table_frame.ok (table_of m)) (list_all (may_differ (table_of m)) (constraints_of m)) own.consistent)

  abbrev Still : (List Group → List Group) → Type 0
  Still r = r (table_of m) ≡ table_of m

  pub group-still : (g : ℕ) → 1 ≤ g → g ≤ length (table_of m) → SettledGroup (group_at (table_of m) g)
  unfolding group_at
  group-still g a b =
      settled-group (group_at (table_of m) g) (every-getD group_consistent (table_of m) zero_group (g - 1)
      (and_left (table_frame.ok (table_of m)) (list_all (may_differ (table_of m)) (constraints_of m)) own.consistent) (omega arith))
      (same_place (g - 1) group_rule (table_of m) zero_group (omega arith) (unfold group_rule_at in at))
    where
      short : length (table_of m) ≤ m.s
      short = unfold table_of in omega (arith, length-take m.s m.groups)

      at : group_rule_at g (table_of m) ≡ table_of m
      at = all-range (λ g. Still (group_rule_at g)) 1 m.s
          (map-all Still group_rule_at (range 1 m.s)
          (all_left Still (map group_rule_at (range 1 m.s)) (map (constraint_rule m.n) (constraints_of m)) (unfold rules in own.unchanged))) g a
          (omega (arith, short))

  -- no literal of a constraint's clauses is left to be made true
  pub clauses-still : All (λ c. All (λ ls. Unchanged table_frame (clause_rules (scope m.n (table_of m) c) [] ls) (table_of m)) (clauses_of c)) (constraints_of m)
  clauses-still =
      each-constraint (constraints_of m)
      (map-all Still (constraint_rule m.n) (constraints_of m)
      (all_right Still (map group_rule_at (range 1 m.s)) (map (constraint_rule m.n) (constraints_of m)) (unfold rules in own.unchanged)))
    where
      each-clause : (a : ℕ) (cs : List (List Literal)) → All (λ ls. Still (clause_rule a ls)) cs
          → All (λ ls. Unchanged table_frame (clause_rules a [] ls) (table_of m)) cs
      each-clause a [] k = tt
      each-clause a (ls ∷ cs) k = (
        run-unchanged table_frame (clause_rules a [] ls) (all-reduce table_frame (clause_rules a [] ls) (clause-rules a [] ls)) (table_of m)
            (unfold clause_rule in k.0),
        each-clause a cs k.1,
      )

      each-constraint : (cs : List Constraint) → All (λ c. Still (constraint_rule m.n c)) cs
          → All (λ c. All (λ ls. Unchanged table_frame (clause_rules (scope m.n (table_of m) c) [] ls) (table_of m)) (clauses_of c)) cs
      each-constraint [] k = tt
      each-constraint (c ∷ cs) k =
          let a = scope m.n (table_of m) c in
          let fs = map (clause_rule a) (clauses_of c) ++ limit_rules c in (
            each-clause a (clauses_of c)
                (map-all Still (clause_rule a) (clauses_of c)
                (all_left Still (map (clause_rule a) (clauses_of c)) (limit_rules c)
                (run-unchanged table_frame fs (all-reduce table_frame fs (line-rules a c)) (table_of m) (unfold constraint_rule in k.0)))),
            each-constraint cs k.1,
          )
