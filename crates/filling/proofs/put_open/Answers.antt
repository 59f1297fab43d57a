use mathlib.Core.Path.{◌≡◌, sym, ap, ◌∙◌}
use Prim.Native.Nat.{ℕ}
use native.Mathlib.Omega.{arith}
use lib.ListN.{length}
use Rattle.std.specs.List.{flat_map}
use Rattle.model.specs.Lists.{range}
use Rattle.text.proofs.Writes.{same_text, turn, room}
use Rattle.filling.specs.Parts.{entrant_value}
use Rattle.filling.proofs.Values.{open_are}
use Rattle.filling.proofs.put_open.Goals as goal

pub put_entrant-k-requires-clause-e_in_bounds : goal.put_entrant-k-requires-clause-e_in_bounds
put_entrant-k-requires-clause-e_in_bounds c =
    room (entrant_value c.args.free c.args.w) c.loop-e.e c.args.n c.loop-e.invariant c.loop-e-test.true
    (omega (arith, c.requires.w_in_bounds, ap length (open_are c.args.n c.args.free c.args.w)))

pub loop-e-preserved : goal.loop-e-preserved
loop-e-preserved c = turn (entrant_value _ _) c.loop-e.e c.loop-e.invariant c.put_entrant-k.ensures

pub returns : goal.returns
returns c =
    let all : c.loop-e.e ≡ c.args.n = omega arith in
    same_text (ap (λ (k : ℕ). flat_map (entrant_value c.args.free c.args.w) (range 0 k)) all ∙ sym (open_are c.args.n c.args.free c.args.w)) c.loop-e.invariant
