-- `put_head` writes four fields and ends the line. Assumes nothing.
use mathlib.Core.List.{[], ◌∷◌}
use native.Mathlib.Omega.{arith}
use Rattle.sheet_writer.proofs.Writes.{line-room, line-end}
use Rattle.sheet_writer.proofs.put_head.Goals as goal

pub put_fields-k-requires : goal.put_fields-k-requires
put_fields-k-requires c = omega (arith, c.requires, line-room (1 ∷ c.args.n ∷ c.args.s ∷ c.args.c ∷ []))

pub bounds-buf-k : goal.bounds-buf-k
bounds-buf-k c =
    let w = c.put_fields-k in
    omega (arith, c.requires, line-room (1 ∷ c.args.n ∷ c.args.s ∷ c.args.c ∷ []), w.ensures.next, w.auto.buf)

pub returns : goal.returns
returns c =
    line-end (1 ∷ c.args.n ∷ c.args.s ∷ c.args.c ∷ []) c.put_fields-k.ensures ((let w = c.put_fields-k in omega (arith, c.requires, line-room (1 ∷ c.args.n ∷ c.args.s ∷ c.args.c ∷ []), w.ensures.next, w.auto.buf)))
