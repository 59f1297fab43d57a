-- `write_block` judges, then writes a run of one block. Assumes nothing.
use native.Mathlib.Omega.{arith}
use lib.ListN.{length}
use Rattle.correctness.proofs.Demand3.{written_listed}
use Rattle.cnf.proofs.Entry.{written-refused, buffer_refused, judged-settled, judged-block, written_means, written_by_steps}
use Rattle.cnf.proofs.Runs.{one-refused, one_written, one-buffer}
use Rattle.cnf.proofs.write_block.Goals as goal

pub returns-then-refusal-ne0 : goal.returns-then-refusal-ne0
returns-then-refusal-ne0 c =
    let e = c.judged-refusal.ensures in
    let x = c.if-refusal-ne0.true in
    let room = length c.args.buf.now in
    let w = written-refused c.args.m c.args.b room _ e x in
    let h = buffer_refused c.args.m c.args.b _ _ e x in
    record { value = w; buf_after = h; result_value = written_means c.args.m c.args.b room _ w; by_steps = written_by_steps c.args.m c.args.b c.args.buf.now _ _ w h; listed = λ z. absurd (x z) }

pub write_run-r-requires : goal.write_run-r-requires
write_run-r-requires c =
    let e = c.judged-refusal.ensures in
    let z = c.if-refusal-ne0.false in
    let w = c.whole.ensures in
    (judged-settled c.args.m c.args.b _ e z w.0 w.1, omega arith, judged-block c.args.m c.args.b _ e z)

pub returns-then-r-ne0 : goal.returns-then-r-ne0
returns-then-r-ne0 c =
    let e = c.judged-refusal.ensures in
    let z = c.if-refusal-ne0.false in
    let w = c.whole.ensures in
    let q = judged-settled c.args.m c.args.b _ e z w.0 w.1 in
    let r = c.write_run-r.ensures in
    let x = one-refused c.args.m q c.args.b c.args.buf.now _ r.value c.if-r-ne0.true in
    let y = one-buffer c.args.m q c.args.b c.args.buf.now _ r.value _ r.buf_after in
    record { value = x; buf_after = y; result_value = written_means c.args.m c.args.b (length c.args.buf.now) _ x; by_steps = written_by_steps c.args.m c.args.b c.args.buf.now _ _ x y; listed = written_listed c.args.m q c.args.b c.args.buf.now _ _ x y }

pub returns : goal.returns
returns c =
    let e = c.judged-refusal.ensures in
    let z = c.if-refusal-ne0.false in
    let w = c.whole.ensures in
    let q = judged-settled c.args.m c.args.b _ e z w.0 w.1 in
    let r = c.write_run-r.ensures in
    let x = one_written c.args.m q c.args.b c.args.buf.now _ r.value c.if-r-ne0.false in
    let y = one-buffer c.args.m q c.args.b c.args.buf.now _ r.value _ r.buf_after in
    record { value = x; buf_after = y; result_value = written_means c.args.m c.args.b (length c.args.buf.now) _ x; by_steps = written_by_steps c.args.m c.args.b c.args.buf.now _ _ x y; listed = written_listed c.args.m q c.args.b c.args.buf.now _ _ x y }
