-- Filling from a slice of words: of the array that it is copied to only the words that were lent are looked at. Assumes nothing.
use mathlib.Core.Path.{◌≡◌, refl, sym, ap, ◌∙◌}
use mathlib.Core.Bool.{Bool, true, false, not, cond, ◌&&◌}
use mathlib.Core.List.{List, map}
use Prim.Native.Nat.{ℕ, zero, suc, ◌≤◌, ◌<◌}
use native.Mathlib.Nat.{zero-add}
use native.Mathlib.Omega.{arith}
use borrow.Author.Tests.{ne_eqb}
use lib.Dec.{T, eqb}
use lib.ListN.{length, take, length-take, length-map}
use lib.Seq.{get_or-take, ext_get_or}
use Rattle.model.specs.declared.Model.{Model}
use Rattle.std.specs.List.{list_all}
use Rattle.model.specs.Lists.{range, pairwise, stop}
use Rattle.model.specs.Limits.{limits}
use Rattle.model.specs.Model.{table_of, constraints_of, in_range, Whole}
use Rattle.model.specs.Propagate.{is_fixpoint, unsettled_or}
use Rattle.model.specs.Cnf.{variable_count}
use Rattle.model.specs.Solution.{allowed, constraint_true, is_solution}
use Rattle.model.specs.Fill.{assignment_for, values_of, fill_refusal, filled_values}
use Rattle.model.proofs.Lists.{true-T, pairwise-length, range_length, get_or-map-range}
use Rattle.model.proofs.Refusals.{unsettled-other}
use Rattle.propagation_laws.proofs.Ranges.{in_range_lem}
use Rattle.words.specs.Words.{word_at, sets_from}

-- ---- the words of groups 1 to s

module _ (d : List ℕ) where
  -- those of the array are those of the slice
  taken : (s : ℕ) → s ≤ limits.groups → s ≤ length d → take s (sets_from d) ≡ take s d
  unfolding sets_from
  taken s few long =
      let xs = map (word_at d) (range 0 limits.groups) in
      let size : length (take s xs) ≡ s = length-take s xs ∙ omega (arith, few, length-map (range 0 limits.groups) (word_at d), range_length 0 limits.groups) in
      let same : length (take s d) ≡ s = length-take s d ∙ omega (arith, long) in
      ext_get_or 0 (take s xs) (take s d) (size ∙ sym same)
      (λ i h.
      let l : i < s = omega (arith, h, size) in
      get_or-take s xs i 0 l ∙ get_or-map-range (word_at d) 0 limits.groups i 0 (omega (arith, l, few)) ∙ ap (word_at d) (zero-add i) ∙ sym (get_or-take s d i 0 l))

  -- fewer than s of them are no draw
  pub no-draw : (m : Model) → T (in_range m) → Whole m → length d < m.s → is_solution m (take m.s d) ≡ false
  unfolding is_solution table_of
  no-draw m r w short = go (pairwise allowed (take m.s m.groups) (take m.s d)) refl
    where
      size : length (take m.s m.groups) ≡ m.s
      size = length-take m.s m.groups ∙ omega (arith, (in_range_lem m r).group_count, w.groups)

      go : (x : Bool) → pairwise allowed (take m.s m.groups) (take m.s d) ≡ x → x && list_all (constraint_true (take m.s d)) (constraints_of m) ≡ false
      go false e = refl
      go true e =
          absurd
          (omega (
            arith,
            short,
            size,
            length-take m.s d,
            pairwise-length allowed (take m.s m.groups) (take m.s d) (true-T (pairwise allowed (take m.s m.groups) (take m.s d)) e),
          ))

-- ---- what is answered

module _ (m : Model) (d e values : List ℕ) (same : T (in_range m) → take m.s d ≡ take m.s e) where
  same-refusal : fill_refusal m d values ≡ fill_refusal m e values
  unfolding fill_refusal unsettled_or
  same-refusal = go (in_range m) refl
    where
      go : (x : Bool) → in_range m ≡ x → stop (not x) 20 (stop (not (is_fixpoint m)) 22 (stop (not (is_solution m (take m.s d))) 30 (stop (not (eqb (length values) (variable_count m))) 26 0)))
          ≡ stop (not x) 20 (stop (not (is_fixpoint m)) 22 (stop (not (is_solution m (take m.s e))) 30 (stop (not (eqb (length values) (variable_count m))) 26 0)))
      go false q = refl
      go true q = rw (same (true-T (in_range m) q)) refl

  accepted : fill_refusal m e values ≡ 0 → T (in_range m)
  unfolding fill_refusal
  accepted q =
      let rest = stop (not (is_solution m (take m.s e))) 30 (stop (not (eqb (length values) (variable_count m))) 26 0) in
      (unsettled-other m rest 0 (λ x. omega arith) (λ x. omega arith) q).0

  same-values : filled_values m d values ≡ filled_values m e values
  unfolding filled_values
  same-values = go (fill_refusal m e values) refl
    where
      go : (x : ℕ) → fill_refusal m e values ≡ x
          → cond (eqb (fill_refusal m d values) 0) (values_of (assignment_for m (take m.s d))) values
          ≡ cond (eqb (fill_refusal m e values) 0) (values_of (assignment_for m (take m.s e))) values
      go zero q = rw (same-refusal, same (accepted q)) refl
      go (suc x) q = rw (same-refusal, q, ne_eqb (suc x) 0 (λ z. omega arith)) refl

pub filled-refusal : (m : Model) (d values : List ℕ) → m.s ≤ length d → fill_refusal m (sets_from d) values ≡ fill_refusal m d values
filled-refusal m d values long = same-refusal m (sets_from d) d values (λ r. taken d m.s (in_range_lem m r).group_count long)

pub filled-values : (m : Model) (d values : List ℕ) → m.s ≤ length d → filled_values m (sets_from d) values ≡ filled_values m d values
filled-values m d values long = same-values m (sets_from d) d values (λ r. taken d m.s (in_range_lem m r).group_count long)
