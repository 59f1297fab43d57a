-- Laws of single values: a variable's truth, how many are true, outputs one by one. Assumes nothing.
use mathlib.Core.Path.{◌≡◌, refl, sym, ap, ◌∙◌}
use mathlib.Core.Bool.{Bool, true, false, cond}
use mathlib.Core.List.{List}
use Prim.Native.Nat.{ℕ, ◌+◌}
use native.Mathlib.Omega.{arith}
use Rattle.std.specs.List.{list_all, range_with_len}
use Rattle.std.specs.Prelude.{count_by}
use Rattle.std.proofs.lemmas.List.Recursion.{is_count_by}
use Rattle.numbering.proofs.Arrays.{ranges}
use Rattle.model.specs.Lists.{total}
use Rattle.model.specs.Close.{truth}
use Rattle.solution.specs.Holds.{true_count, output_is, counts_to}

-- how many of some variables are true, and whether outputs are as they should be, by the library's words
pub counted : (a : List Bool) (v m : ℕ) → count_by (truth a) (range_with_len v m) ≡ true_count a v m
unfolding true_count
counted a v m = sym (is_count_by (total one) (truth a) refl (λ x xs. next (truth a x) (total one xs)) (range_with_len v m)) ∙ ap (total one) (ranges v m)
  where
    one : ℕ → ℕ
    one i = cond (truth a i) 1 0

    next : (b : Bool) (n : ℕ) → cond b 1 0 + n ≡ cond b (1 + n) n
    next true n = refl
    next false n = omega arith

pub compared : (a : List Bool) (o m x : ℕ) → list_all (output_is a o x) (range_with_len 0 m) ≡ counts_to a o m x
unfolding counts_to
compared a o m x = ap (list_all (output_is a o x)) (ranges 0 m)
