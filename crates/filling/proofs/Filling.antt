-- The answers of filling, refusal by refusal, and the values that it leaves. Assumes nothing.
use mathlib.Core.Path.{◌≡◌, sym, ap, ◌∙◌}
use mathlib.Core.Bool.{Bool, true, false, not}
use mathlib.Core.List.{List, ◌++◌, append_assoc, append-nil}
use Prim.Native.Nat.{ℕ, ◌+◌}
use native.Mathlib.Omega.{arith}
use borrow.Author.Tests.{eq-eqb, ne_eqb}
use lib.Dec.{T, eqb}
use lib.ListN.{length, take, length-append, drop_of_length-le}
use Rattle.model.specs.declared.Model.{Model}
use Rattle.std.specs.List.{flat_map}
use Rattle.model.specs.Lists.{each_pair, stop}
use Rattle.model.specs.Model.{table_of, constraints_of, Whole, in_range}
use Rattle.model.specs.Propagate.{is_fixpoint, unsettled_or, Settled}
use Rattle.model.specs.Cnf.{variable_count}
use Rattle.model.specs.Solution.{is_solution}
use Rattle.model.specs.Fill.{variable_values, output_values, difference_values, assignment_for, values_of, fill_refusal, filled_values}
use Rattle.model.proofs.Lists.{true-T}
use Rattle.model.proofs.Refusals.{settled-rest, rest-settled, unsettled-first}
use Rattle.propagation_laws.proofs.Ranges.{in_range_lem}
use Rattle.encoding_laws.proofs.Values.{values-count, values-append}
use Rattle.encoding_laws.proofs.Whole.{filled-length}
use Rattle.correctness.specs.Filling.{RoundTrips}
use Rattle.correctness.proofs.Filling.{round-trips}
use Rattle.text.specs.Put.{Wrote}
use Rattle.text.proofs.Writes.{then}

module _ (m : Model) (s : Whole m) (words values : List ℕ) where
  abbrev Answer : ℕ → List ℕ → Type 0
  Answer r after = (r ≡ fill_refusal m words values) × ((after ≡ filled_values m words values) × RoundTrips m)

  refused_as_lem : (x : ℕ) → fill_refusal m words values ≡ x → (x ≡ 0 → ⊥) → Answer x values
  unfolding filled_values
  refused_as_lem x e n = (sym e, (sym (rw (e, ne_eqb x 0 n)), round-trips m s))

  module _ (u : ℕ) (e : u ≡ unsettled_or m 0) where
    pub fill-unsettled : (u ≡ 0 → ⊥) → Answer u values
    fill-unsettled n = refused_as_lem u (unfold fill_refusal in (unsettled-first m (λ z. n (e ∙ z)) _ ∙ sym e)) n

    module _ (z : u ≡ 0) where
      settled : T (in_range m) × T (is_fixpoint m)
      settled = rest-settled m (sym e ∙ z)

      pub ranged : T (in_range m)
      ranged = settled.0

      -- the refusals after 20 and 22
      own : fill_refusal m words values
          ≡ stop (not (is_solution m (take m.s words))) 30 (stop (not (eqb (length values) (variable_count m))) 26 0)
      unfolding fill_refusal
      own = settled-rest m settled.0 settled.1 _

      module _ (b : Bool) (d : b ≡ is_solution m (take m.s words)) where
        pub fill-30 : b ≡ false → Answer 30 values
        fill-30 f = refused_as_lem 30 (own ∙ rw (← d, f)) (λ x. omega arith)

        module _ (y : b ≡ true) (v : ℕ) (k : v ≡ variable_count m) where
          pub fill-26 : (length values ≡ v → ⊥) → Answer 26 values
          fill-26 n = refused_as_lem 26 (own ∙ rw (← d, y, ← k, ne_eqb (length values) v n)) (λ x. omega arith)

          module _ (l : length values ≡ v) where
            abbrev pub variables : List ℕ
            variables = values_of (each_pair (variable_values m.n) (take m.s m.groups) (take m.s words))

            abbrev pub outputs : List ℕ
            outputs = values_of (each_pair (output_values m.n) (take m.s m.groups) (take m.s words))

            abbrev pub differences : List ℕ
            differences = values_of (flat_map (difference_values m.n (take m.s m.groups) (take m.s words)) (take m.c m.constraints))

            whole_is : values_of (assignment_for m (take m.s words)) ≡ (variables ++ outputs) ++ differences
            unfolding assignment_for table_of constraints_of
            whole_is =
                let o = each_pair (output_values m.n) (take m.s m.groups) (take m.s words) in
                let x = flat_map (difference_values m.n (take m.s m.groups) (take m.s words)) (take m.c m.constraints) in
                values-append (each_pair (variable_values m.n) (take m.s m.groups) (take m.s words)) (o ++ x)
                ∙ ap (λ (l : List ℕ). variables ++ l) (values-append o x)
                ∙ sym (append_assoc variables outputs differences)

            parts-length : length ((variables ++ outputs) ++ differences) ≡ length variables + length outputs + length differences
            parts-length = length-append (variables ++ outputs) differences ∙ ap (λ (k : ℕ). k + length differences) (length-append variables outputs)

            pub all-length : length variables + length outputs + length differences ≡ length values
            all-length =
                let i = in_range_lem m settled.0 in
                let q : Settled m = record {
                  in_range_lem = settled.0;
                  fixpoint = settled.1;
                  sized = record { groups = omega (arith, i.group_count, s.groups); constraints = omega (arith, i.constraint_count, s.constraints) };
                } in
                sym parts-length ∙ sym (ap length whole_is) ∙ values-count (assignment_for m (take m.s words))
                ∙ filled-length m q (take m.s words) (true-T (is_solution m (take m.s words)) (sym d ∙ y)) ∙ sym k ∙ sym l

            pub fill-0 : {ys zs us : List ℕ} {j k r : ℕ} → Wrote variables 0 values ys j → Wrote outputs j ys zs k → Wrote differences k zs us r → Answer 0 us
            unfolding filled_values
            fill-0 p q o =
                let x : fill_refusal m words values ≡ 0 = own ∙ rw (← d, y, ← k, eq-eqb (length values) v l) in
                let text = (variables ++ outputs) ++ differences in
                let all = then (then p q) o in (
                  sym x,
                  (
                    all.bytes
                        ∙ ap (λ (t : List ℕ). text ++ t) (drop_of_length-le values {i = 0 + length text} (omega (arith, all-length, parts-length)))
                        ∙ append-nil text
                        ∙ sym (rw x whole_is),
                    round-trips m s,
                  ),
                )
