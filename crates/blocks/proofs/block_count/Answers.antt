-- `block_count` is the number of the last block, or 0 for a model out of range. Assumes nothing.
use mathlib.Core.Path.{◌≡◌, sym, ◌∙◌}
use mathlib.Core.Bool.{Bool, true, cond}
use Prim.Native.Nat.{ℕ}
use native.Mathlib.Omega.{arith}
use Rattle.model.specs.Model.{in_range}
use Rattle.model.proofs.Lists.{true-T}
use Rattle.propagation_laws.proofs.Ranges.{in_range_lem}
use Rattle.blocks.proofs.Groups.{last_block}
use Rattle.blocks.proofs.block_count.Goals as goal

inside : (b : Bool) (r k : ℕ) → b ≡ true → r ≡ k → r ≡ cond b k 0
inside b r k e q = rw e q

pub overflow_add-result : goal.overflow_add-result
overflow_add-result c =
    let m = c.args.m in
    let r = in_range_lem m (true-T (in_range m) (sym c.in_range.ensures ∙ c.if-not-in_range.false)) in
    omega (arith, c.of_groups-d.ensures.2, r.constraint_count)

pub returns : goal.returns
returns c =
    let m = c.args.m in
    let e = sym c.in_range.ensures ∙ c.if-not-in_range.false in
    let r = in_range_lem m (true-T (in_range m) e) in
    let w = c.whole.ensures in
    let d = c.of_groups-d.ensures in
    record { value = inside _ _ _ e (last_block m r w.0 w.1 _ d.1); upper_bound = omega (arith, d.2, r.constraint_count) }
