use mathlib.Core.Path.{◌≡◌, sym, ap, subst, ◌∙◌}
use mathlib.Core.List.{List, [], ◌∷◌}
use Prim.Native.Nat.{ℕ, ◌+◌}
use native.Mathlib.Omega.{arith}
use lib.ListN.{length}
use Rattle.std.specs.List.{flat_map}
use Rattle.model.specs.Lists.{range}
use Rattle.text.specs.Put.{Wrote}
use Rattle.text.proofs.Writes.{same_text, byte, turn, room}
use Rattle.filling.proofs.Values.{output_value, outputs_are}
use Rattle.filling.proofs.put_outputs.Goals as goal

ends : {t xs ys : List ℕ} {a n k : ℕ} → n ≡ k → Wrote t a xs ys n → Wrote t a xs ys k
ends {t} {xs} {ys} {a} e w = subst (λ (k : ℕ). Wrote t a xs ys k) e w

pub bounds-values-at : goal.bounds-values-at
bounds-values-at c =
    omega (arith, room (output_value c.args.x) c.loop-i.i c.args.m c.loop-i.invariant c.loop-i-test.true (omega (arith, c.requires, ap length (outputs_are c.args.m c.args.x))))

pub loop-i-preserved : goal.loop-i-preserved
loop-i-preserved c =
    let l = c.loop-i in
    let r = room (output_value c.args.x) l.i c.args.m l.invariant c.loop-i-test.true (omega (arith, c.requires, ap length (outputs_are c.args.m c.args.x))) in
    let w = byte c.value_of.result (c.args.at + l.i) l.values (omega (arith, r)) in
    let next : c.args.at + l.i + 1 ≡ c.args.at + (l.i + 1) = omega arith in
    ends next (turn (output_value c.args.x) l.i l.invariant (same_text (ap (λ (b : ℕ). b ∷ []) c.value_of.ensures) w))

pub returns : goal.returns
returns c =
    let all : c.loop-i.i ≡ c.args.m = omega arith in
    ends (ap (λ (k : ℕ). c.args.at + k) all)
    (same_text (ap (λ (k : ℕ). flat_map (output_value c.args.x) (range 0 k)) all ∙ sym (outputs_are c.args.m c.args.x)) c.loop-i.invariant)
