-- Passes over all places, whatever the table is, and one test at the end give the definition's answer. Assumes nothing.
use mathlib.Core.Path.{◌≡◌, refl, sym, ap, ◌∙◌, subst}
use Prim.Native.Nat.{ℕ, zero, suc, ◌+◌, ◌*◌, ◌≤◌}
use native.Mathlib.Omega.{arith}
use mathlib.Core.Bool.{Bool, true, false, cond}
use mathlib.Core.List.{List, ◌++◌}
use lib.Dec.{T}
use lib.ListN.{length, take, drop, take-append-drop}
use lib.Seq.{length-take-le}
use Rattle.model.specs.declared.Group.{Group}
use Rattle.model.specs.declared.Constraint.{Constraint}
use Rattle.model.specs.declared.Model.{Model}
use Rattle.model.specs.declared.Propagated.{Propagated}
use Rattle.model.specs.Model.{table_of, constraints_of, with_table, in_range}
use Rattle.model.specs.Propagate.{run, rules, pass, consistent, tenable, same_table, Outcome, contradiction, fixpoint, after_pass, iterate, outcome, refused_propagation, propagated_as, propagated}
use Rattle.model.specs.Demand.{group_within}
use Rattle.model.proofs.Lists.{T-ext, pairwise-length}
use Rattle.propagation_laws.proofs.Fixpoint.{all-reduce, run-reduces}
use Rattle.propagation_laws.proofs.GroupRule.{table_frame}
use Rattle.propagation_laws.proofs.ConstraintRule.{constraint_frame, all-rules}
use Rattle.propagate.proofs.Passes.{s-few, pass-local, pass-first, propagated_in, passes-few}
use Rattle.propagation_laws.proofs.AtTheEnd.{late, at-the-end}
use Rattle.propagate.proofs.Skipping.{loose-start, loose-more, loose-ends}
use Rattle.table.specs.Table.{Whole}
use Rattle.propagate.specs.Skip.{loose, tenable_first, Ran}

abbrev on_table : (List Group → List Group) → Outcome (List Group) → Outcome (List Group)
on_table f contradiction = contradiction
on_table f (fixpoint k t) = fixpoint k (f t)

-- the test of the first places, before they are taken or after
test-first : (s : ℕ) (cs : List Constraint) (o : Outcome (List Group)) → late (tenable cs) (on_table (take s) o) ≡ on_table (take s) (late (tenable_first s cs) o)
test-first s cs contradiction = refl
test-first s cs (fixpoint k t) = go (tenable cs (take s t))
  where
    go : (b : Bool) → cond b (fixpoint k (take s t)) contradiction ≡ on_table (take s) (cond b (fixpoint k t) contradiction)
    go true = refl
    go false = refl

module _ (m : Model) (r : T (in_range m)) where
  abbrev cs : List Constraint
  cs = take m.c m.constraints

  module _ (a b : List Group) (w : Whole a) (e : b ≡ run (rules m.n m.s (take m.c m.constraints)) a) where
    pub next-whole : Whole b
    next-whole =
        let F = constraint_frame cs in
        let rs = rules m.n m.s cs in
        ap length e ∙ pairwise-length group_within (run rs a) a (run-reduces F rs (all-reduce F rs (all-rules m.n m.s cs)) a) ∙ w

    -- what follows the first s places stays
    rest-stays : b ≡ take m.s b ++ drop m.s a
    unfolding pass constraints_of
    rest-stays =
        let x = take m.s a in
        let y = drop m.s a in
        let l = (pass-local m r).on x y (length-take-le m.s a (omega (arith, s-few m r, w))) in
        e ∙ ap (pass m) (sym (take-append-drop m.s a)) ∙ l.0 ∙ ap (λ (z : List Group). z ++ y) (sym (pass-first m r a b w e))

    same_first : same_table (take m.s b) (take m.s a) ≡ same_table b a
    unfolding same_table
    same_first = T-ext (same_table (take m.s b) (take m.s a)) (same_table b a) to from
      where
        to : T (same_table (take m.s b) (take m.s a)) → T (same_table b a)
        to h =
            let q : take m.s b ≡ take m.s a = unfold same_table in table_frame.same-eq (take m.s b) (take m.s a) h in
            let z : b ≡ a = rest-stays ∙ ap (λ (x : List Group). x ++ drop m.s a) q ∙ take-append-drop m.s a in
            subst (λ (x : List Group). T (same_table x a)) (sym z) (unfold same_table in table_frame.same_refl a)

        from : T (same_table b a) → T (same_table (take m.s b) (take m.s a))
        from h =
            let z : b ≡ a = unfold same_table in table_frame.same-eq b a h in
            subst (λ (x : List Group). T (same_table (take m.s x) (take m.s a))) (sym z) (unfold same_table in table_frame.same_refl (take m.s a))

  first-places : (f k : ℕ) (a : List Group) → Whole a
      → iterate (λ y. true) same_table (pass m) f k (take m.s a) ≡ on_table (take m.s) (loose m.n m.s (take m.c m.constraints) f k a)
  unfolding iterate
  first-places zero k a w = refl
  first-places (suc f) k a w =
      sym (ap (λ (y : List Group). after_pass true (same_table y (take m.s a)) k y (iterate (λ y. true) same_table (pass m) f (suc k) y)) (pass-first m r a b w refl))
      ∙ ap (λ (x : Bool). after_pass true x k (take m.s b) (iterate (λ y. true) same_table (pass m) f (suc k) (take m.s b))) (same_first a b w refl)
      ∙ go (first-places f (suc k) b (next-whole a b w refl)) (same_table b a)
    where
      b : List Group
      b = run (rules m.n m.s (take m.c m.constraints)) a

      go : iterate (λ y. true) same_table (pass m) f (suc k) (take m.s b) ≡ on_table (take m.s) (loose m.n m.s (take m.c m.constraints) f (suc k) b)
          → (x : Bool) → after_pass true x k (take m.s b) (iterate (λ y. true) same_table (pass m) f (suc k) (take m.s b))
          ≡ on_table (take m.s) (after_pass true x k b (loose m.n m.s (take m.c m.constraints) f (suc k) b))
      go ih true = refl
      go ih false = ih

  -- the first pass
  module _ (a b : List Group) (w : Whole a) (e : b ≡ run (rules m.n m.s (take m.c m.constraints)) a) (q : Bool) (is : q ≡ same_table (take m.s b) (take m.s a)) where
    pub first-same : q ≡ true → Ran m.n m.s (take m.c m.constraints) (2 * m.s * m.n + 1) 0 a (fixpoint 1 b)
    first-same h = record { outcome = ap (late (tenable_first m.s cs)) (loose-ends m.n m.s cs (2 * m.s * m.n + 1) 0 a b e (omega arith) (sym (is ∙ same_first a b w e) ∙ h)) }

    -- where it leaves the first s places, the model is as it was
    pub as_it_was : q ≡ true → a ≡ m.groups → (o : Propagated) → o ≡ record { refusal = 0; passes = 1; model = m } → o ≡ propagated_as m (fixpoint 1 (take m.s b))
    unfolding with_table
    as_it_was h g o is-o =
        let z : take m.s b ≡ take m.s m.groups = unfold same_table in table_frame.same-eq (take m.s b) (take m.s a) (subst T (sym (sym is ∙ h)) tt) ∙ ap (take m.s) g in
        let whole : take m.s b ++ drop m.s m.groups ≡ m.groups = ap (λ (x : List Group). x ++ drop m.s m.groups) z ∙ take-append-drop m.s m.groups in
        is-o ∙ sym (ap (λ (x : List Group). record { refusal = 0; passes = 1; model = record { n = m.n; s = m.s; c = m.c; groups = x; constraints = m.constraints } }) whole)

    pub first-other : q ≡ false → (o : Outcome (List Group)) → Ran m.n m.s (take m.c m.constraints) (2 * m.s * m.n + 1) 1 b o
        → Ran m.n m.s (take m.c m.constraints) (2 * m.s * m.n + 1) 0 a o
    first-other h o ran = record {
      outcome = ap (late (tenable_first m.s cs)) (loose-more m.n m.s cs (2 * m.s * m.n + 1) 0 a b e (omega arith) (sym (is ∙ same_first a b w e) ∙ h)) ∙ ran.outcome;
    }

  -- the test at the end
  outcome-late : outcome m ≡ late (tenable (constraints_of m)) (iterate (λ y. true) same_table (pass m) (2 * m.s * m.n + 1) 0 (table_of m))
  unfolding outcome pass tenable consistent same_table
  outcome-late =
      let F = constraint_frame (constraints_of m) in
      let rs = rules m.n m.s (constraints_of m) in
      at-the-end F rs (all-reduce F rs (all-rules m.n m.s (constraints_of m))) (2 * m.s * m.n + 1) 0 (table_of m)

  module _ (a : List Group) (w : Whole a) (is : a ≡ m.groups) where
    outcome-is : (o : Outcome (List Group)) → Ran m.n m.s (take m.c m.constraints) (2 * m.s * m.n + 1) 0 a o → outcome m ≡ late (tenable (constraints_of m)) (on_table (take m.s) o)
    unfolding constraints_of
    outcome-is o ran =
        let e : table_of m ≡ take m.s a = unfold table_of in sym (ap (take m.s) is) in
        outcome-late
        ∙ ap (λ (x : List Group). late (tenable (constraints_of m)) (iterate (λ y. true) same_table (pass m) (2 * m.s * m.n + 1) 0 x)) e
        ∙ ap (late (tenable (constraints_of m))) (first-places (2 * m.s * m.n + 1) 0 a w)
        ∙ test-first m.s (constraints_of m) (loose m.n m.s (take m.c m.constraints) (2 * m.s * m.n + 1) 0 a)
        ∙ ap (on_table (take m.s)) (ap (late (tenable_first m.s (constraints_of m))) (loose-start m.n m.s (take m.c m.constraints) (2 * m.s * m.n + 1) a) ∙ ran.outcome)
        ∙ sym (test-first m.s (constraints_of m) o)

    ended : (x : Outcome (List Group)) → outcome m ≡ x → (o : Propagated) → o ≡ propagated_as m x → (o ≡ propagated m) × (o.passes ≤ 2 * m.s * m.n + 1)
    ended x q o e =
        let p : o ≡ propagated m = e ∙ sym (propagated_in m r ∙ ap (propagated_as m) q) in
        (p, subst (λ (y : Propagated). y.passes ≤ 2 * m.s * m.n + 1) (sym p) (passes-few m))

    pub no_fuel : Ran m.n m.s (take m.c m.constraints) (2 * m.s * m.n + 1) 0 a contradiction → (o : Propagated) → o ≡ refused_propagation 21 m
        → (o ≡ propagated m) × (o.passes ≤ 2 * m.s * m.n + 1)
    no_fuel ran o e = ended contradiction (outcome-is contradiction ran) o e

    module _ (k : ℕ) (u : List Group) (ran : Ran m.n m.s (take m.c m.constraints) (2 * m.s * m.n + 1) 0 a (fixpoint k u)) (q : Bool) (t : q ≡ tenable (take m.c m.constraints) (take m.s u)) where
      by-test : outcome m ≡ cond q (fixpoint k (take m.s u)) contradiction
      unfolding constraints_of
      by-test = outcome-is (fixpoint k u) ran ∙ sym (ap (λ (x : Bool). cond x (fixpoint k (take m.s u)) contradiction) t)

      pub not-tenable : q ≡ false → (o : Propagated) → o ≡ refused_propagation 21 m → (o ≡ propagated m) × (o.passes ≤ 2 * m.s * m.n + 1)
      not-tenable f o e = ended contradiction (by-test ∙ ap (λ (x : Bool). cond x (fixpoint k (take m.s u)) contradiction) f) o e

      pub is-settled : q ≡ true → (o : Propagated) → o ≡ propagated_as m (fixpoint k (take m.s u)) → (o ≡ propagated m) × (o.passes ≤ 2 * m.s * m.n + 1)
      is-settled f o e = ended (fixpoint k (take m.s u)) (by-test ∙ ap (λ (x : Bool). cond x (fixpoint k (take m.s u)) contradiction) f) o e
