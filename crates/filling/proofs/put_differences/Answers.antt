-- `put_differences` writes the X of a constraint, those of the entrants in just one of two words. Assumes nothing.
use mathlib.Core.Path.{sym, ap}
use native.Mathlib.Omega.{arith}
use lib.ListN.{length}
use Rattle.text.proofs.Writes.{done, same_text}
use Rattle.filling.proofs.Pairs.{pair-none, pair-are}
use Rattle.filling.proofs.put_differences.Goals as goal

pub returns-then-c-ne7 : goal.returns-then-c-ne7
returns-then-c-ne7 c =
    same_text (sym (pair-none c.args.n c.args.f c.args.g c.args.words.now c.args.c.now c.if-c-ne7.true)) (done _ _ (omega (arith, c.requires.c_in_bounds)))

pub put_open-requires-clause-w_in_bounds : goal.put_open-requires-clause-w_in_bounds
put_open-requires-clause-w_in_bounds c =
    let text = pair-are c.args.n c.args.f c.args.g c.args.words.now c.args.c.now c.if-c-ne7.false _ _ _ c.either_open-free.ensures c.set_of-v.ensures c.set_of-w.ensures in
    rw c.without.ensures (omega (arith, ap length text, c.requires.c_in_bounds))

pub returns : goal.returns
returns c =
    let text = pair-are c.args.n c.args.f c.args.g c.args.words.now c.args.c.now c.if-c-ne7.false _ _ _ c.either_open-free.ensures c.set_of-v.ensures c.set_of-w.ensures in
    same_text text (rw c.without.ensures at c.put_open.ensures)
