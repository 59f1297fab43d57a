use Prim.Native.Nat.{ℕ}
use mathlib.Core.Path.{◌≡◌, ap}
use native.Mathlib.Omega.{arith}
use Rattle.model.specs.Limits.{limits}
use Rattle.std.specs.List.{flat_map}
use Rattle.model.specs.Lists.{range}
use Rattle.text.proofs.Writes.{same_text, turn, room}
use Rattle.answer.specs.Groups.{entrant_text, entrants_text}
use Rattle.answer.proofs.put_entrants.Goals as goal

pub put_entrant-n-requires : goal.put_entrant-n-requires
unfolding entrants_text
put_entrant-n-requires c = record { e_lt_word = omega arith; e_in_bounds = room (entrant_text c.args.w) c.loop-e.e limits.word c.loop-e.invariant c.loop-e-test.true c.requires }

pub loop-e-preserved : goal.loop-e-preserved
loop-e-preserved c = turn (entrant_text c.args.w) c.loop-e.e c.loop-e.invariant c.put_entrant-n.ensures

pub returns : goal.returns
unfolding entrants_text
returns c =
    let all : c.loop-e.e ≡ limits.word = omega (arith) in
    same_text (ap (λ (k : ℕ). flat_map (entrant_text c.args.w) (range 0 k)) all) c.loop-e.invariant
