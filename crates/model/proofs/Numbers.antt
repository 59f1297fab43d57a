-- One step each of the number that digits stand for, and that up to 9 digits stay below 10 ^ 9. Assumes nothing.
use Prim.Native.Nat.{ℕ, ◌+◌, ◌-◌, ◌*◌, ◌^◌, ◌≤◌, ◌<◌}
use mathlib.Core.Path.{◌≡◌, ap}
use mathlib.Core.List.{List}
use Rattle.std.specs.Prelude.{None, Some}
use native.Mathlib.Nat.{pow-suc, pow-le-pow_right, lt_of_lt_of_le}
use native.Mathlib.Numerals.{add-one}
use native.Mathlib.Omega.{arith}
use borrow.Author.Tests.{le-leb, lt-leb}
use lib.ListN.{length, drop, get_or, drop_of_length-le}
use Rattle.model.specs.Sheet.{digits_after}
use Rattle.model.proofs.Loops.{drop-next}

module _ (l : List ℕ) (i : ℕ) (h : i < length l) where
  pub digits_more : (v : ℕ) → 48 ≤ get_or l i 0 → get_or l i 0 ≤ 57 → digits_after v (drop i l) ≡ digits_after (v * 10 + (get_or l i 0 - 48)) (drop (i + 1) l)
  digits_more v a b = rw (drop-next 0 l i h) (simp (le-leb _ _ a, le-leb _ _ b))

pub ten_le : (i v : ℕ) → v < 10 ^ i → i < 9 → v < 100000000
ten_le i v h k = lt_of_lt_of_le h (pow-le-pow_right {n = 10} (omega arith) (le-8 k))
  where
    le-8 : i < 9 → i ≤ 8
    le-8 k = omega arith
