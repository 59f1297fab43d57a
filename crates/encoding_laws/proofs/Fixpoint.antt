-- What a settled model gives the encoding: groups at rest among n entrants, and clauses that leave nothing to be made true. Assumes nothing.
use mathlib.Core.Path.{◌≡◌, subst}
use mathlib.Core.List.{List, [], ◌∷◌}
use Prim.Native.Nat.{ℕ, suc, ◌-◌, ◌^◌, ◌<◌}
use native.Mathlib.Omega.{arith}
use lib.Dec.{T}
use lib.ListN.{get_or}
use Rattle.model.specs.declared.Literal.{Literal}
use Rattle.model.specs.declared.Group.{Group}
use Rattle.model.specs.declared.Model.{Model}
use Rattle.model.specs.Clauses.{clauses_of}
use Rattle.model.specs.Model.{zero_group, table_of, constraints_of, group_at, group_in_range}
use Rattle.model.specs.Difference.{may_differ}
use Rattle.model.specs.Propagate.{literal_rule, clause_rules, clause_rule, scope, Settled}
use Rattle.model.proofs.Lists.{All, all-imp, all-zip, places-all, every-all}
use Rattle.propagation_laws.proofs.Fixpoint.{Unchanged, all-reduce, run-unchanged, run-fixed}
use Rattle.propagation_laws.proofs.GroupRule.{SettledGroup, table_frame}
use Rattle.propagation_laws.proofs.ConstraintRule.{clause-rules}
use Rattle.propagation_laws.proofs.Ranges.{group-range, in_range_lem}
use Rattle.propagation_laws.proofs.Unchanged.{differs-still, group-still, clauses-still}

-- a group at rest, whose entrants are 1..n
pub record SettledAmong (n : ℕ) (g : Group) : Type 0 where
  pub group : SettledGroup g
  pub small : g.possible < 2 ^ n

module _ (m : Model) (q : Settled m) where
  pub table-settled : All (SettledAmong m.n) (table_of m)
  unfolding group_at
  table-settled =
      all-imp (λ g. T (group_in_range m.n g) × SettledGroup g) (SettledAmong m.n)
      (λ g h. record { group = h.1; small = (group-range m.n g h.0).small }) (table_of m)
      (all-zip (λ g. T (group_in_range m.n g)) SettledGroup (table_of m)
      (every-all (group_in_range m.n) (table_of m) (in_range_lem m q.in_range_lem).groups)
      (places-all SettledGroup zero_group (table_of m)
      (λ i l. let e : suc i - 1 ≡ i = omega arith in
      subst (λ (k : ℕ). SettledGroup (get_or (table_of m) k zero_group)) e (group-still m q.fixpoint (suc i) (omega arith) (omega arith)))))

  -- each code 7 constraint has an entrant who is not settled alike
  pub differs-keep : All (λ c. T (may_differ (table_of m) c)) (constraints_of m)
  differs-keep = differs-still m q.fixpoint

  -- the clause rule changes nothing, for any clause of any constraint, among the entrants for whom it is gone through
  pub clauses-keep : All (λ c. All (λ ls. clause_rule (scope m.n (table_of m) c) ls (table_of m) ≡ table_of m) (clauses_of c)) (constraints_of m)
  unfolding clause_rule
  clauses-keep =
      all-imp (λ c. All (λ ls. Unchanged table_frame (clause_rules (scope m.n (table_of m) c) [] ls) (table_of m)) (clauses_of c))
      (λ c. All (λ ls. clause_rule (scope m.n (table_of m) c) ls (table_of m) ≡ table_of m) (clauses_of c))
      (λ c h. let a = scope m.n (table_of m) c in
      all-imp (λ ls. Unchanged table_frame (clause_rules a [] ls) (table_of m)) (λ ls. clause_rule a ls (table_of m) ≡ table_of m)
      (λ ls k. run-fixed table_frame (clause_rules a [] ls) (table_of m) k) (clauses_of c) h) (constraints_of m) (clauses-still m q.fixpoint)

-- the first literal's rule, of a clause whose rule changes nothing
pub first-keeps : (a : ℕ) (l : Literal) (after : List Literal) (t : List Group) → clause_rule a (l ∷ after) t ≡ t → literal_rule a l after t ≡ t
unfolding clause_rule clause_rules
first-keeps a l after t e =
    (run-unchanged table_frame (clause_rules a [] (l ∷ after)) (all-reduce table_frame (clause_rules a [] (l ∷ after)) (clause-rules a [] (l ∷ after))) t e).0
