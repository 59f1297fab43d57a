use mathlib.Core.Path.{◌≡◌, sym, ap, ◌∙◌}
use mathlib.Core.List.{List, [], ◌∷◌, ◌++◌}
use Prim.Native.Nat.{ℕ, ◌+◌, ◌<◌}
use native.Mathlib.Numerals.{add-one}
use native.Mathlib.Omega.{arith}
use lib.ListN.{length, get_or, set, take}
use lib.Seq.{sets, take-suc, length-take-le}
use Rattle.packing.proofs.Laid.{sets-append}
use Rattle.packing.proofs.put_members.Goals as goal

next : (xs ids : List ℕ) (at i : ℕ) → i < length ids → set (sets xs at (take i ids)) (at + i) (get_or ids i 0) ≡ sets xs at (take (i + 1) ids)
next xs ids at i h =
    let last : take (i + 1) ids ≡ take i ids ++ (get_or ids i 0 ∷ []) = rw (add-one i) (take-suc ids i 0 h) in
    ap (λ (j : ℕ). set (sets xs at (take i ids)) (at + j) (get_or ids i 0)) (sym (length-take-le i ids (omega arith)))
    ∙ sets-append xs (take i ids) (get_or ids i 0 ∷ []) at
    ∙ ap (sets xs at) (sym last)

pub loop-i-preserved : goal.loop-i-preserved
loop-i-preserved c =
    let l = c.loop-i in
    rw (l.invariant, c.from.ensures) (next c.args.words.now c.args.ids.now c.args.at l.i (omega arith))
