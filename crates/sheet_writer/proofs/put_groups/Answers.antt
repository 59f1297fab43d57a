use mathlib.Core.Path.{◌≡◌, sym, ap, ap₂, ◌∙◌}
use Prim.Native.Nat.{ℕ, ◌+◌, ◌-◌, ◌<◌}
use mathlib.Core.List.{List}
use native.Mathlib.Omega.{arith}
use lib.ListN.{length, get_or, take}
use lib.Seq.{get_or-take}
use Rattle.model.specs.declared.Group.{Group}
use Rattle.model.specs.Model.{zero_group, group_at}
use Rattle.model.specs.SheetText.{group_fields, line_text}
use Rattle.text.proofs.Writes.{same_text, loop-turn, loop-room}
use Rattle.sheet_writer.specs.Parts.{group_text}
use Rattle.sheet_writer.proofs.put_groups.Goals as goal

line_at : (n s i : ℕ) (gs : List Group) → i < s → line_text (group_fields n (i + 1) (get_or gs i zero_group)) ≡ group_text n (take s gs) (1 + i)
unfolding group_at
line_at n s i gs h =
    let k : 1 + i - 1 ≡ i = omega arith in
    ap₂ (λ (j : ℕ) (g : Group). line_text (group_fields n j g)) {x = i + 1} {y = 1 + i} (omega arith)
    (sym (ap (λ (j : ℕ). get_or (take s gs) j zero_group) k ∙ get_or-take s gs i zero_group h))

pub put_group-k-requires : goal.put_group-k-requires
unfolding zero_group
put_group-k-requires c =
    let l = c.loop-i in
    let f = group_text c.args.n (take c.args.s c.args.groups.now) in
    let t = c.loop-i-test.true in
    record { n_le_entrants = c.requires.n_le_entrants.0; g_in_bounds = omega (arith, loop-room f 1 l.i c.args.s l.invariant t c.requires.s_in_bounds, ap length (line_at c.args.n c.args.s l.i c.args.groups.now t)) }

pub loop-i-preserved : goal.loop-i-preserved
unfolding zero_group
loop-i-preserved c =
    let l = c.loop-i in
    let f = group_text c.args.n (take c.args.s c.args.groups.now) in
    let e = line_at c.args.n c.args.s l.i c.args.groups.now c.loop-i-test.true in
    loop-turn f 1 l.i l.invariant (same_text e c.put_group-k.ensures)
