-- `put_dropped` writes a clause, or nothing. Assumes nothing.
use Rattle.text.proofs.Writes.{wrote}
use Rattle.cnf.proofs.totalizer.put_dropped.Goals as goal

pub returns : goal.returns
returns c =
    let w = c.put_three.ensures in
    wrote w.value w.buf_after c.requires
