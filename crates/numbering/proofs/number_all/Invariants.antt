-- `number_all`: the items passed have their first numbers. Assumes nothing.
use mathlib.Core.Path.{◌≡◌}
use mathlib.Core.List.{map}
use Prim.Native.Nat.{ℕ, ◌+◌, ◌-◌, ◌*◌, ◌≤◌}
use lib.ListN.{length, take}
use Rattle.std.specs.Fn.{FnReturnsAt}
use Rattle.model.specs.Lists.{total, range}
use Rattle.model.specs.Limits.{limits}
use Rattle.numbering.proofs.number_all.Given as goal

abbrev pub invariant-loop-i : goal.invariant-loop-i
invariant-loop-i g l = record {
  long : length l.first ≡ g.row.N;
  few : l.next ≤ l.from + l.i * (limits.word * limits.word);
  numbers : (f : g.row.T.Denot → ℕ) → ((x : _) (r : ℕ) → FnReturnsAt g.F.Fn l.count x r → r ≡ f x)
      → (take l.i l.first ≡ map (λ j. l.from + total f (take (j - 1) (take l.s l.items))) (take l.i (range 1 g.row.N))) × (l.next ≡ l.from + total f (take l.i (take l.s l.items)));
}
