use mathlib.Core.Path.{◌≡◌, sym, ap}
use Prim.Native.Nat.{ℕ, ◌+◌}
use lib.ListN.{length}
use Rattle.model.specs.declared.Formed.{Formed}
use Rattle.std.specs.List.{flat_map}
use Rattle.model.specs.Lists.{range}
use Rattle.cnf.specs.Parts.{pair_text, row_text}
use Rattle.text.proofs.Writes.{then, turn, room, same_text, kept}
use Rattle.cnf.proofs.Nodes.{clause-text, pair-text, pair-length}
use native.Mathlib.Omega.{arith}
use Rattle.cnf.proofs.totalizer.put_row.Goals as goal

pub put_dropped-k-requires : goal.put_dropped-k-requires
unfolding row_text
put_dropped-k-requires c =
    let l = c.loop-q in
    let e = clause-text c.args.t (ap (λ (f : Formed). f.up) c.form-f.ensures) c.put_in.ensures in
    let r = room (pair_text c.args.t c.args.p) l.q (c.args.t.b + 1) l.invariant c.loop-q-test.true c.requires.p_in_bounds in
    omega (arith, ap length e, r, pair-length c.args.t c.args.p l.q)

pub put_dropped-n-requires : goal.put_dropped-n-requires
unfolding row_text
put_dropped-n-requires c =
    let l = c.loop-q in
    let f = c.form-f.ensures in
    let w = c.put_dropped-k.ensures in
    let e = clause-text c.args.t (ap (λ (f : Formed). f.up) f) c.put_in.ensures in
    let h = clause-text c.args.t (ap (λ (f : Formed). f.down) f) c.put_in-in-loop-q.ensures in
    let r = room (pair_text c.args.t c.args.p) l.q (c.args.t.b + 1) l.invariant c.loop-q-test.true c.requires.p_in_bounds in
    omega (arith, ap length e, ap length h, r, pair-length c.args.t c.args.p l.q, w.next, kept w)

pub loop-q-preserved : goal.loop-q-preserved
loop-q-preserved c =
    let l = c.loop-q in
    let f = c.form-f.ensures in
    let e = clause-text c.args.t (ap (λ (f : Formed). f.up) f) c.put_in.ensures in
    let h = clause-text c.args.t (ap (λ (f : Formed). f.down) f) c.put_in-in-loop-q.ensures in
    let w = then (same_text e c.put_dropped-k.ensures) (same_text h c.put_dropped-n.ensures) in
    turn (pair_text c.args.t c.args.p) l.q l.invariant (same_text (sym (pair-text c.args.t c.args.p l.q)) w)

pub returns : goal.returns
unfolding row_text
returns c =
    let e : c.loop-q.q ≡ c.args.t.b + 1 = omega arith in
    same_text (ap (λ (k : ℕ). flat_map (pair_text c.args.t c.args.p) (range 0 k)) e) c.loop-q.invariant
