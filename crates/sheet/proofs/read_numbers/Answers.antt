use Rattle.model.specs.Limits.{limits}
use Prim.Native.Nat.{ℕ, ◌≤◌, ◌<◌, ◌+◌, ◌-◌}
use mathlib.Core.Path.{◌≡◌, ◌∙◌}
use mathlib.Core.List.{List, ◌++◌, map}
use lib.ListN.{replicate, set}
use Rattle.model.specs.Lists.{range}
use Rattle.model.specs.Sheet.{value_at, first_group, group_count, constraint_from}
use Rattle.sheet.proofs.Laws.{store_next, first-is}
use Rattle.sheet.proofs.Fields.{number-good}
use native.Mathlib.Omega.{arith}
use Rattle.sheet.proofs.read_numbers.Goals as goal

stored : (line : List ℕ) (k a i v : ℕ) (groups : List ℕ) → k ≤ limits.members → i < k → a ≡ first_group line
    → groups ≡ map (λ j. value_at line (first_group line + j)) (range 0 i) ++ replicate (limits.members - i) 0 → v ≡ value_at line (a + i)
    → set groups i v ≡ map (λ j. value_at line (first_group line + j)) (range 0 (i + 1)) ++ replicate (limits.members - (i + 1)) 0
stored line k a i v groups hk hi ha e hv =
    rw (e, hv, ha) (store_next (λ j. value_at line (first_group line + j)) limits.members i (omega arith))

done : (line : List ℕ) (k i : ℕ) (groups : List ℕ) → i ≡ k → k ≡ group_count line
    → groups ≡ map (λ j. value_at line (first_group line + j)) (range 0 i) ++ replicate (limits.members - i) 0
    → groups ≡ map (λ j. value_at line (first_group line + j)) (range 0 (group_count line)) ++ replicate (limits.members - group_count line) 0
done line k i groups hi hk e = e ∙ rw (hi ∙ hk)

pub plain-requires : goal.plain-requires
plain-requires c =
    omega (arith, first-is c.args.line.now _ _ c.requires.k_le_members.2 c.first_group-a.ensures, c.requires.k_le_members.1, c.requires.constraint_line.2)

pub loop-i-preserved : goal.loop-i-preserved
loop-i-preserved c =
    let i = c.loop-i.i in
    let f = first-is c.args.line.now _ _ c.requires.k_le_members.2 c.first_group-a.ensures in
    let v = c.plain.ensures ∙ number-good c.args.line.now c.requires.constraint_line _ (omega (arith, f, c.requires.k_le_members.1)) in
    stored c.args.line.now c.args.k c.first_group-a.result c.loop-i.i c.plain.result c.loop-i.groups c.requires.k_le_members.0 c.loop-i-test.true f c.loop-i.invariant v

pub returns : goal.returns
unfolding constraint_from
returns c = done c.args.line.now c.args.k c.loop-i.i c.loop-i.groups (omega arith) c.requires.k_le_members.1 c.loop-i.invariant
