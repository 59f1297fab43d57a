use mathlib.Core.Path.{◌≡◌, sym, ap}
use Prim.Native.Nat.{ℕ}
use native.Mathlib.Omega.{arith}
use Rattle.std.specs.List.{flat_map}
use Rattle.model.specs.Lists.{range}
use Rattle.text.proofs.Writes.{loop-turn, loop-room, wrote, then, same_text, kept}
use Rattle.cnf.proofs.Constraints.{rising-text, rising-length}
use Rattle.cnf.proofs.write_rising.Invariants.{text}
use Rattle.cnf.proofs.write_rising.Goals as goal

pub loop-i-preserved : goal.loop-i-preserved
loop-i-preserved c =
    let l = c.loop-i in
    let w = c.put_literal-n.ensures in
    let r = loop-room text c.args.x l.i c.args.k l.invariant c.loop-i-test.true (omega (arith, rising-length c.args.x c.args.k, c.requires.k_in_bounds)) in
    loop-turn text c.args.x l.i l.invariant (wrote w.value w.buf_after r)

pub returns : goal.returns
returns c =
    let l = c.loop-i in
    let e : l.i ≡ c.args.k = omega arith in
    let all = same_text (ap (λ (k : ℕ). flat_map text (range c.args.x k)) e) l.invariant in
    let w = c.put_bytes.ensures in
    same_text (sym (rising-text c.args.x c.args.k)) (then all (wrote w.value w.buf_after (omega (arith, rising-length c.args.x c.args.k, c.requires.k_in_bounds, all.next, kept all))))
