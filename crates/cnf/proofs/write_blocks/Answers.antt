-- `write_blocks` judges once, then writes a run. Assumes nothing.
use mathlib.Core.Path.{sym, ◌∙◌}
use native.Mathlib.Omega.{arith}
use lib.ListN.{length}
use Rattle.propagation_laws.proofs.Ranges.{in_range_lem}
use Rattle.blocks.proofs.Groups.{last_block}
use Rattle.cnf.proofs.Entry.{refused-first, judged-settled, judged-block}
use Rattle.cnf.proofs.Runs.{refused-answer, refused_buffer, to_the_last, run_short, run-listed}
use Rattle.cnf.proofs.write_blocks.Goals as goal

pub returns-then-refusal-ne0 : goal.returns-then-refusal-ne0
returns-then-refusal-ne0 c =
    let j = c.judged-refusal.ensures in
    let x = c.if-refusal-ne0.true in
    let e = j ∙ sym (refused-first c.args.m c.args.b (length c.args.buf.now) (λ z. x (j ∙ z))) in
    record { value = refused-answer c.args.m c.args.b c.args.buf.now _ e x; buf_after = refused_buffer c.args.m c.args.b c.args.buf.now _ e x; length_bound = omega arith; listed_run = λ z. absurd (x z) }

pub overflow_add-d : goal.overflow_add-d
overflow_add-d c =
    let w = c.whole.ensures in
    let q = judged-settled c.args.m c.args.b _ c.judged-refusal.ensures c.if-refusal-ne0.false w.0 w.1 in
    omega (arith, c.of_groups-d.ensures.2, (in_range_lem c.args.m q.in_range_lem).constraint_count)

pub write_run-requires : goal.write_run-requires
write_run-requires c =
    let e = c.judged-refusal.ensures in
    let z = c.if-refusal-ne0.false in
    let w = c.whole.ensures in
    let q = judged-settled c.args.m c.args.b _ e z w.0 w.1 in
    let last = last_block c.args.m (in_range_lem c.args.m q.in_range_lem) w.0 w.1 _ c.of_groups-d.ensures.1 in
    (q, omega (arith, last, judged-block c.args.m c.args.b _ e z), omega (arith, last))

pub returns : goal.returns
returns c =
    let e = c.judged-refusal.ensures in
    let z = c.if-refusal-ne0.false in
    let w = c.whole.ensures in
    let q = judged-settled c.args.m c.args.b _ e z w.0 w.1 in
    let last = last_block c.args.m (in_range_lem c.args.m q.in_range_lem) w.0 w.1 _ c.of_groups-d.ensures.1 in
    let r = to_the_last c.args.m c.args.b c.args.buf.now _ last _ _ c.write_run.ensures.value c.write_run.ensures.buf_after in
    let h = judged-block c.args.m c.args.b _ e z in
    record { value = r.0; buf_after = r.1; length_bound = rw r.0 (run_short c.args.m q c.args.b (length c.args.buf.now) h); listed_run = run-listed c.args.m q c.args.b h c.args.buf.now _ _ r.0 r.1 }
