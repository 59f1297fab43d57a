-- `judged` is the refusal that does not depend on the buffer. Assumes nothing.
use native.Mathlib.Omega.{arith}
use Rattle.propagation_laws.proofs.Ranges.{in_range_lem}
use Rattle.blocks.proofs.Groups.{last_block}
use Rattle.blocks.proofs.Judging.{judge-unsettled, judged-range, judge-23, judge-0}
use Rattle.blocks.proofs.judged.Goals as goal

pub returns-then-refusal-ne0 : goal.returns-then-refusal-ne0
returns-then-refusal-ne0 c = judge-unsettled c.args.m c.args.b _ c.unsettled-refusal.ensures c.if-refusal-ne0.true

pub overflow_add-d : goal.overflow_add-d
overflow_add-d c =
    let m = c.args.m in
    let r = in_range_lem m (judged-range m c.args.b _ c.unsettled-refusal.ensures c.if-refusal-ne0.false) in
    omega (arith, c.of_groups-d.ensures.2, r.constraint_count)

pub returns-then-d-m : goal.returns-then-d-m
returns-then-d-m c =
    let m = c.args.m in
    let u = c.unsettled-refusal.ensures in
    let z = c.if-refusal-ne0.false in
    let w = c.whole.ensures in
    let last = last_block m (in_range_lem m (judged-range m c.args.b _ u z)) w.0 w.1 _ c.of_groups-d.ensures.1 in
    judge-23 m c.args.b _ u z _ last c.if-d-m.true

pub returns : goal.returns
returns c =
    let m = c.args.m in
    let u = c.unsettled-refusal.ensures in
    let z = c.if-refusal-ne0.false in
    let w = c.whole.ensures in
    let last = last_block m (in_range_lem m (judged-range m c.args.b _ u z)) w.0 w.1 _ c.of_groups-d.ensures.1 in
    judge-0 m c.args.b _ u z _ last c.if-d-m.false
