-- `put_header` writes block 0, part by part. Assumes nothing.
use mathlib.Core.Path.{◌∙◌}
use native.Mathlib.Omega.{arith}
use Rattle.text.proofs.Writes.{wrote, then, same_text, kept}
use Rattle.numbering.proofs.Models.{variables-is}
use Rattle.counts.proofs.Settled.{settled-listed}
use Rattle.cnf.proofs.Numbers.{header-text, header-length}
use Rattle.cnf.proofs.put_header.Goals as goal

pub returns : goal.returns
returns c =
    let m = c.args.m.now in
    let v = variables-is m c.args.v.now c.requires.settled.1 in
    let n = c.clause_count-c.ensures ∙ settled-listed m c.requires.settled.0 in
    let room = c.requires.m_in_bounds in
    let size = header-length m _ _ v n in
    let a = wrote c.put_bytes-x.ensures.value c.put_bytes-x.ensures.buf_after (omega (arith, room, size)) in
    let b = wrote c.put_number-y.ensures.value c.put_number-y.ensures.buf_after (omega (arith, room, size, a.next, kept a)) in
    let d = wrote c.put_bytes-z.ensures.value c.put_bytes-z.ensures.buf_after (omega (arith, room, size, a.next, kept a, b.next, kept b)) in
    let e = wrote c.put_number-w.ensures.value c.put_number-w.ensures.buf_after (omega (arith, room, size, a.next, kept a, b.next, kept b, d.next, kept d)) in
    let f =
    wrote c.put_bytes.ensures.value c.put_bytes.ensures.buf_after
    (omega (arith, room, size, a.next, kept a, b.next, kept b, d.next, kept d, e.next, kept e)) in
    same_text (header-text m _ _ v n) (then (then (then (then a b) d) e) f)
