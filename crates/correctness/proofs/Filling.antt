-- Filling and closing undo each other. Assumes nothing.
use mathlib.Core.Path.{◌≡◌, refl, sym, ap, ◌∙◌, subst}
use Prim.Native.Nat.{ℕ, ◌-◌}
use native.Mathlib.Omega.{arith}
use mathlib.Core.Bool.{Bool, true, false, not, ◌&&◌}
use mathlib.Core.List.{List, ◌++◌}
use lib.Dec.{T, eqb, eqb→eq}
use lib.ListN.{length, take, replicate, length-map}
use lib.Seq.{take_at}
use borrow.Author.Tests.{eq-eqb}
use Rattle.model.specs.declared.Model.{Model}
use Rattle.model.specs.declared.Reading.{Reading}
use Rattle.model.specs.declared.Closed.{Closed}
use Rattle.std.specs.List.{list_all}
use Rattle.model.specs.Lists.{stop}
use Rattle.model.specs.Limits.{limits}
use Rattle.model.specs.Model.{constraints_of, constraint_sized, members_sized, Whole, in_range}
use Rattle.model.specs.Propagate.{is_fixpoint, Settled}
use Rattle.model.specs.Cnf.{variable_count}
use Rattle.model.specs.Assignment.{is_said}
use Rattle.model.specs.Close.{satisfying, group_by, groups_by, closed_groups, assignment_of, close_refusal, closed}
use Rattle.model.specs.Solution.{is_solution}
use Rattle.model.specs.Fill.{assignment_for, values_of, fill_refusal, filled_values}
use Rattle.model.specs.Demand.{is_assignment, is_satisfying}
use Rattle.model.proofs.Lists.{T_true, true-T, and_left, and_right, and_both, every_take, values_length}
use Rattle.model.proofs.Refusals.{settled-rest, unsettled-other}
use Rattle.propagation_laws.proofs.Ranges.{in_range_lem}
use Rattle.encoding_laws.proofs.Values.{values-count, values-said, values_assign, assigned_values}
use Rattle.encoding_laws.proofs.Whole.{one-for-one, filled-length, filled-groups, filled-satisfying}
use Rattle.correctness.specs.Entries.{Drawn}
use Rattle.correctness.specs.Filling.{closed_reading, Filled, Refilled, RoundTrips}

-- ---- what a call that is not refused has

not-refused : (b : Bool) (x rest : ℕ) → (x ≡ 0 → ⊥) → stop (not b) x rest ≡ 0 → T b × (rest ≡ 0)
not-refused true x rest n e = (tt, e)
not-refused false x rest n e = absurd (n e)

module _ (m : Model) (z : Whole m) where
  w : T (members_sized m)
  unfolding constraints_of
  w = every_take constraint_sized m.c m.constraints z.members

  settled-whole : T (in_range m) → T (is_fixpoint m) → Settled m
  settled-whole r f =
      let i = in_range_lem m r in
      record {
        in_range_lem = r;
        fixpoint = f;
        sized = record { groups = omega (arith, i.group_count, z.groups); constraints = omega (arith, i.constraint_count, z.constraints) };
      }

  record Fills (d values : List ℕ) : Type 0 where
    settled : Settled m
    solution : T (is_solution m (take m.s d))
    sized : length values ≡ variable_count m

  fills-when : (d values : List ℕ) → fill_refusal m d values ≡ 0 → Fills d values
  unfolding fill_refusal
  fills-when d values e =
      let a = unsettled-other m _ 0 (λ q. omega arith) (λ q. omega arith) e in
      let b = not-refused (is_solution m (take m.s d)) 30 _ (λ q. omega arith) a.2 in
      let c = not-refused (eqb (length values) (variable_count m)) 26 0 (λ q. omega arith) b.1 in
      record {
        settled = settled-whole a.0 a.1;
        solution = b.0;
        sized = eqb→eq (length values) (variable_count m) c.0;
      }

  when-fills : (d values : List ℕ) → Fills d values → fill_refusal m d values ≡ 0
  unfolding fill_refusal
  when-fills d values f =
      settled-rest m f.settled.in_range_lem f.settled.fixpoint _
      ∙ rw (T_true (is_solution m (take m.s d)) f.solution, eq-eqb (length values) (variable_count m) f.sized)

  filled_is : (d values : List ℕ) → fill_refusal m d values ≡ 0 → filled_values m d values ≡ values_of (assignment_for m (take m.s d))
  unfolding filled_values
  filled_is d values e = rw e

  record Closes (r : Reading) (values : List ℕ) : Type 0 where
    settled : Settled m
    sized : length values ≡ variable_count m
    closed : r.closed ≡ true
    said : T (list_all is_said values)
    satisfies : T (satisfying m (assignment_of values))

  closes-when : (r : Reading) (values : List ℕ) → close_refusal m r values ≡ 0 → Closes r values
  unfolding close_refusal
  closes-when r values e =
      let a = unsettled-other m _ 0 (λ q. omega arith) (λ q. omega arith) e in
      let b = not-refused (eqb (length values) (variable_count m)) 26 _ (λ q. omega arith) a.2 in
      let c = not-refused (r.closed && list_all is_said values) 27 _ (λ q. omega arith) b.1 in
      let d = not-refused (satisfying m (assignment_of values)) 28 0 (λ q. omega arith) c.1 in
      record {
        settled = settled-whole a.0 a.1;
        sized = eqb→eq (length values) (variable_count m) b.0;
        closed = T_true r.closed (and_left r.closed (list_all is_said values) c.0);
        said = and_right r.closed (list_all is_said values) c.0;
        satisfies = d.0;
      }

  when-closes : (r : Reading) (values : List ℕ) → Closes r values → closed m r values ≡ record { refusal = 0; groups = closed_groups m (assignment_of values) }
  unfolding closed close_refusal
  when-closes r values c =
      let e : close_refusal m r values ≡ 0 =
      settled-rest m c.settled.in_range_lem c.settled.fixpoint _
      ∙ rw (
        eq-eqb (length values) (variable_count m) c.sized,
        c.closed,
        T_true (list_all is_said values) c.said,
        T_true (satisfying m (assignment_of values)) c.satisfies,
      ) in
      rw e

  -- the groups without the zeros past s
  own-groups : (a : List Bool) → take m.s (closed_groups m a) ≡ groups_by m a
  unfolding closed_groups groups_by
  own-groups a = take_at (groups_by m a) (replicate (limits.groups - m.s) 0) m.s (values_length (group_by m a) 1 m.s)

  is-satisfying : (values : List ℕ) → length values ≡ variable_count m → T (satisfying m (assignment_of values)) → T (is_satisfying m (assignment_of values))
  unfolding is_satisfying is_assignment assignment_of
  is-satisfying values l t =
      let k : length (assignment_of values) ≡ variable_count m = length-map values (λ b. eqb b 1) ∙ l in
      and_both (eqb (length (assignment_of values)) (variable_count m)) (satisfying m (assignment_of values))
      (true-T (eqb (length (assignment_of values)) (variable_count m)) (eq-eqb (length (assignment_of values)) (variable_count m) k)) t

  -- ---- the laws

  module _ (d values : List ℕ) (e : fill_refusal m d values ≡ 0) where
    f : Fills d values
    f = fills-when d values e

    g : List ℕ
    g = take m.s d

    a : List Bool
    a = assignment_for m g

    vs : List ℕ
    vs = filled_values m d values

    is-a : assignment_of vs ≡ a
    unfolding a g vs
    is-a = ap assignment_of (filled_is d values e) ∙ values_assign (assignment_for m g)

    back : groups_by m (assignment_of vs) ≡ g
    back = ap (groups_by m) is-a ∙ (unfold a in filled-groups m f.settled w g (unfold g in f.solution))

    satisfies : T (is_satisfying m (assignment_of vs))
    satisfies = subst (λ (x : List Bool). T (is_satisfying m x)) (sym is-a) (unfold a in filled-satisfying m f.settled w g (unfold g in f.solution))

    all_said : T (list_all is_said vs)
    unfolding vs
    all_said = subst (λ (x : List ℕ). T (list_all is_said x)) (sym (filled_is d values e)) (values-said (assignment_for m (take m.s d)))

    vs-length : length vs ≡ variable_count m
    unfolding vs
    vs-length =
        ap length (filled_is d values e)
        ∙ values-count (assignment_for m (take m.s d))
        ∙ filled-length m f.settled (take m.s d) f.solution

    filled : Filled m d values
    unfolding vs g closed_reading closed_groups is_satisfying is_assignment
    filled = record {
      said = all_said;
      satisfying = satisfies;
      reads-back = back;
      one = λ b t q. (one-for-one m f.settled w).alone b (assignment_of vs) t satisfies (q ∙ sym back);
      closes =
          when-closes closed_reading vs (record {
            settled = f.settled;
            sized = vs-length;
            closed = refl;
            said = all_said;
            satisfies = and_right (eqb (length (assignment_of vs)) (variable_count m)) (satisfying m (assignment_of vs)) satisfies;
          })
          ∙ ap (λ (l : List ℕ). record { refusal = 0; groups = l ++ replicate (limits.groups - m.s) 0 }) back;
    }

  no_other : (d values : List ℕ) → fill_refusal m d values ≡ 30 → (a : List Bool) → T (is_satisfying m a) → groups_by m a ≡ take m.s d → ⊥
  unfolding fill_refusal
  no_other d values e a t q =
      let u = unsettled-other m _ 30 (λ q. omega arith) (λ q. omega arith) e in
      let y = settled-whole u.0 u.1 in
      last (is_solution m (take m.s d)) (eqb (length values) (variable_count m)) (subst (λ (x : List ℕ). T (is_solution m x)) q ((one-for-one m y w).sound a t)) u.2
    where
      last : (b c : Bool) → T b → stop (not b) 30 (stop (not c) 26 0) ≡ 30 → ⊥
      last true true t e = omega arith
      last true false t e = omega arith
      last false c t e = t

  refilled : (r : Reading) (values : List ℕ) → (closed m r values).refusal ≡ 0 → (before : List ℕ) → length before ≡ length values → Refilled m r values before
  unfolding closed
  refilled r values e before l = record { taken = ok; same = filled_is ds before ok ∙ ap values_of again ∙ assigned_values values c.said }
    where
      c : Closes r values
      c = closes-when r values e

      b : List Bool
      b = assignment_of values

      ds : List ℕ
      ds = (closed m r values).groups

      t : T (is_satisfying m b)
      t = is-satisfying values c.sized c.satisfies

      own : take m.s ds ≡ groups_by m b
      own = ap (take m.s) (ap (λ q. q.groups) (when-closes r values c)) ∙ own-groups b

      solved : T (is_solution m (take m.s ds))
      solved = subst (λ (x : List ℕ). T (is_solution m x)) (sym own) ((one-for-one m c.settled w).sound b t)

      ok : fill_refusal m ds before ≡ 0
      ok = when-fills ds before (record { settled = c.settled; solution = solved; sized = l ∙ c.sized })

      again : assignment_for m (take m.s ds) ≡ b
      again =
          (one-for-one m c.settled w).alone (assignment_for m (take m.s ds)) b
          (filled-satisfying m c.settled w (take m.s ds) solved) t (filled-groups m c.settled w (take m.s ds) solved ∙ own)

  pub round-trips : RoundTrips m
  round-trips = record { fills = filled; none = no_other; refills = refilled }

  -- as `close` promises it
  pub closed-drawn : (r : Reading) (values : List ℕ) (a : Closed) → a ≡ closed m r values → a.refusal ≡ 0 → Drawn m a
  unfolding closed
  closed-drawn r values a e z =
      let c : Closes r values = closes-when r values (ap (λ (x : Closed). x.refusal) (sym e) ∙ z) in
      let b = assignment_of values in
      let t = is-satisfying values c.sized c.satisfies in
      let g : a.groups ≡ closed_groups m b = ap (λ (x : Closed). x.groups) (e ∙ when-closes r values c) in
      let own : take m.s a.groups ≡ groups_by m b = ap (take m.s) g ∙ own-groups b in
      record {
        assignment = b;
        satisfying = t;
        groups = g;
        draw = subst (λ (x : List ℕ). T (is_solution m x)) (sym own) ((one-for-one m c.settled w).sound b t);
        alone = λ d u q. (one-for-one m c.settled w).alone d b u t (q ∙ own);
      }
