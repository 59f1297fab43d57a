use mathlib.Core.Path.{◌≡◌, sym, ap₂, ◌∙◌}
use Prim.Native.Nat.{ℕ, ◌+◌, ◌≤◌, ◌<◌, min}
use native.Mathlib.Decide.{dec_lt}
use native.Mathlib.Omega.{arith}
use mathlib.Core.Bool.{Bool, true, false}
use mathlib.Core.List.{List}
use lib.ListN.{length, get_or, take, length-take}
use lib.Seq.{get_or-take}
use Rattle.model.specs.declared.Group.{Group}
use Rattle.model.specs.Model.{zero_group}
use Rattle.model.specs.Combine.{fits}
use Rattle.combine.specs.Clash.{no_clash, clash_in, first_clash}
use Rattle.combine.proofs.Clashes.{no-first, no_second, clash-here, clash-later}
use Rattle.combine.proofs.clash_among.Invariants.{Rest}
use Rattle.combine.proofs.clash_among.Goals as goal

module _ (xs ys : List Group) (s t i : ℕ) (inv : Rest xs ys s t i) where
  -- one of the two has no group at place i
  past : min (min s t) (length xs) ≤ i → no_clash ≡ first_clash 1 (take s xs) (take t ys)
  past h = go (dec_lt i (length (take s xs)))
    where
      go : Dec (i < length (take s xs)) → no_clash ≡ first_clash 1 (take s xs) (take t ys)
      go (yes k) = sym (inv ∙ no_second (take s xs) (take t ys) i (omega (arith, length-take s xs, length-take t ys)))
      go (no k) = sym (inv ∙ no-first (take s xs) (take t ys) i (omega arith))

  module _ (h : i < s) (k : i < t) (l : i < length xs) (m : i < length ys) where
    inside-xs : i < length (take s xs)
    inside-xs = omega (arith, length-take s xs)

    inside-ys : i < length (take t ys)
    inside-ys = omega (arith, length-take t ys)

    at-xs : get_or (take s xs) i zero_group ≡ get_or xs i zero_group
    at-xs = get_or-take s xs i zero_group h

    at-ys : get_or (take t ys) i zero_group ≡ get_or ys i zero_group
    at-ys = get_or-take t ys i zero_group k

    at_both : (b : Bool) → fits (get_or xs i zero_group) (get_or ys i zero_group) ≡ b → fits (get_or (take s xs) i zero_group) (get_or (take t ys) i zero_group) ≡ b
    at_both b e = ap₂ fits at-xs at-ys ∙ e

    found : fits (get_or xs i zero_group) (get_or ys i zero_group) ≡ false → clash_in (i + 1) (get_or xs i zero_group) (get_or ys i zero_group) ≡ first_clash 1 (take s xs) (take t ys)
    found e = sym (inv ∙ clash-here (take s xs) (take t ys) i inside-xs inside-ys (at_both _ e) ∙ ap₂ (clash_in (i + 1)) at-xs at-ys)

    goes : fits (get_or xs i zero_group) (get_or ys i zero_group) ≡ true → Rest xs ys s t (i + 1)
    goes e = inv ∙ clash-later (take s xs) (take t ys) i inside-xs inside-ys (at_both _ e)

pub returns : goal.returns
returns c =
    let l = c.loop-i in
    c.no_clash.ensures ∙ past c.args.xs.now c.args.ys.now c.args.s c.args.t l.i l.invariant (omega arith)
