-- The answers of the closing call, refusal by refusal. Assumes nothing.
use mathlib.Core.Path.{◌≡◌, refl, sym, ap, ◌∙◌}
use mathlib.Core.Bool.{Bool, true, false, not, cond, ◌&&◌}
use mathlib.Core.List.{List}
use Prim.Native.Nat.{ℕ, ◌≤◌}
use native.Mathlib.Omega.{arith}
use borrow.Author.Tests.{eq-eqb, ne_eqb}
use lib.Dec.{T, eqb}
use lib.ListN.{length, take}
use Rattle.model.specs.declared.Model.{Model}
use Rattle.model.specs.declared.Reading.{Reading}
use Rattle.model.specs.declared.Closed.{Closed}
use Rattle.std.specs.List.{list_all}
use Rattle.model.specs.Lists.{stop}
use Rattle.model.specs.Limits.{limits}
use Rattle.model.specs.Model.{table_of, constraints_of, constraint_sized, Whole, in_range}
use Rattle.model.specs.Propagate.{is_fixpoint, unsettled_or}
use Rattle.model.specs.Cnf.{variable_count}
use Rattle.model.specs.Assignment.{is_said}
use Rattle.model.specs.Close.{satisfying, closed_groups, assignment_of, close_refusal, closed}
use Rattle.model.proofs.Lists.{every_take}
use Rattle.model.proofs.Refusals.{settled-rest, rest-settled, unsettled-first}
use Rattle.propagation_laws.proofs.Ranges.{in_range_lem}
use Rattle.solution.specs.Holds.{table_words, clauses_hold, refused_closing}
use Rattle.solution.proofs.Clauses.{words_are, satisfying-is}

-- ---- the refusals, in their order

module _ (m : Model) (r : Reading) (values : List ℕ) where
  refused_as_lem : (x : ℕ) (q : Closed) → q ≡ refused_closing x → close_refusal m r values ≡ x → (x ≡ 0 → ⊥) → q ≡ closed m r values
  unfolding closed refused_closing
  refused_as_lem x q e k n = e ∙ sym (rw (k, ne_eqb x 0 n))

  module _ (u : ℕ) (e : u ≡ unsettled_or m 0) where
    pub close-unsettled : (q : Closed) → q ≡ refused_closing u → (u ≡ 0 → ⊥) → q ≡ closed m r values
    close-unsettled q p n = refused_as_lem u q p (unfold close_refusal in (unsettled-first m (λ z. n (e ∙ z)) _ ∙ sym e)) n

    module _ (z : u ≡ 0) where
      settled : T (in_range m) × T (is_fixpoint m)
      settled = rest-settled m (sym e ∙ z)

      pub few-entrants : m.n ≤ limits.entrants
      few-entrants = (in_range_lem m settled.0).entrants

      pub few-groups : m.s ≤ limits.groups
      few-groups = (in_range_lem m settled.0).group_count

      pub few-constraints : m.c ≤ limits.constraints
      few-constraints = (in_range_lem m settled.0).constraint_count

      -- the refusals after 20 and 22
      own : close_refusal m r values
          ≡ stop (not (eqb (length values) (variable_count m))) 26
          (stop (not (r.closed && list_all is_said values)) 27 (stop (not (satisfying m (assignment_of values))) 28 0))
      unfolding close_refusal
      own = settled-rest m settled.0 settled.1 _

      pub close-26 : (q : Closed) → q ≡ refused_closing 26 → (v : ℕ) → v ≡ variable_count m → (length values ≡ v → ⊥) → q ≡ closed m r values
      close-26 q p v k n = refused_as_lem 26 q p (own ∙ rw (← k, ne_eqb (length values) v n)) (λ x. omega arith)

      module _ (v : ℕ) (k : v ≡ variable_count m) (l : length values ≡ v) where
        pub close-27 : (q : Closed) → q ≡ refused_closing 27 → r.closed ≡ false → q ≡ closed m r values
        close-27 q p c = refused_as_lem 27 q p (own ∙ rw (← k, eq-eqb (length values) v l, c)) (λ x. omega arith)

        module _ (c : r.closed ≡ true) where
          pub close-27-unsaid : (q : Closed) → q ≡ refused_closing 27 → (b : Bool) → b ≡ list_all is_said values → b ≡ false → q ≡ closed m r values
          close-27-unsaid q p b s n = refused_as_lem 27 q p (own ∙ rw (← k, eq-eqb (length values) v l, c, ← s, n)) (λ x. omega arith)

          module _ (b : Bool) (s : b ≡ list_all is_said values) (y : b ≡ true) where
            refusal_is : close_refusal m r values ≡ cond (satisfying m (assignment_of values)) 0 28
            refusal_is = own ∙ rw (← k, eq-eqb (length values) v l, c, ← s, y) (last (satisfying m (assignment_of values)))
              where
                last : (t : Bool) → stop (not t) 28 0 ≡ cond t 0 28
                last true = refl
                last false = refl

            pub close-28 : (q : Closed) → q ≡ refused_closing 28 → satisfying m (assignment_of values) ≡ false → q ≡ closed m r values
            close-28 q p t = refused_as_lem 28 q p (refusal_is ∙ rw t) (λ x. omega arith)

            pub close-0 : (d : List ℕ) → d ≡ closed_groups m (assignment_of values) → satisfying m (assignment_of values) ≡ true
                → record { refusal = 0; groups = d } ≡ closed m r values
            unfolding closed
            close-0 d q t = let z : close_refusal m r values ≡ 0 = refusal_is ∙ rw t in rw (z, q)

-- ---- the words and the verdict on the clauses

module _ (m : Model) (a : List Bool) (found : List ℕ) (e : found ≡ table_words m.n a (take m.s m.groups) m.s) where
  pub found-is : found ≡ closed_groups m a
  unfolding table_of
  found-is = e ∙ words_are m a

  pub verdict-is : (u : ℕ) → u ≡ unsettled_or m 0 → u ≡ 0 → Whole m
      → (b x : Bool) → b ≡ clauses_hold a (take m.s m.groups) (take m.c m.constraints) found m.n m.s m.c → b ≡ x → satisfying m a ≡ x
  unfolding table_of constraints_of
  verdict-is u q z w b x k y =
      let s = rest-settled m (sym q ∙ z) in
      let i = in_range_lem m s.0 in
      satisfying-is m a (record {
        in_range_lem = s.0;
        fixpoint = s.1;
        sized = record { groups = omega (arith, i.group_count, w.groups); constraints = omega (arith, i.constraint_count, w.constraints) };
      }) (every_take constraint_sized m.c m.constraints w.members)
      ∙ ap (λ (d : List ℕ). clauses_hold a (take m.s m.groups) (take m.c m.constraints) d m.n m.s m.c) (sym found-is)
      ∙ sym k ∙ y
