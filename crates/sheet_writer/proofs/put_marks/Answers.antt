use mathlib.Core.Path.{ap}
use Prim.Native.Nat.{ℕ}
use mathlib.Core.List.{List}
use lib.ListN.{length}
use native.Mathlib.Omega.{arith}
use Rattle.model.specs.Text.{field_text}
use Rattle.model.specs.SheetText.{mark_of}
use Rattle.text.proofs.Writes.{wrote, same_text, turn, room}
use Rattle.sheet_writer.proofs.put_marks.Goals as goal

pub loop-e-preserved : goal.loop-e-preserved
loop-e-preserved c =
    let l = c.loop-e in
    let f : ℕ → List ℕ = λ i. field_text (mark_of c.args.g.now i) in
    let e = c.mark.ensures in
    let p = c.put_field-k.ensures in
    let h = room f l.e c.args.n l.invariant c.loop-e-test.true c.requires.n_in_bounds in
    turn f l.e l.invariant (same_text (ap field_text e) (wrote p.value p.buf_after (omega (arith, h, ap length (ap field_text e)))))
