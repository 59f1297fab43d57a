use mathlib.Core.Path.{ap}
use mathlib.Core.List.{[]}
use Prim.Native.Nat.{◌-◌, ◌≤◌, ◌<◌}
use native.Mathlib.Omega.{arith}
use lib.ListN.{length, get_or, take}
use Rattle.model.specs.declared.Constraint.{Constraint}
use Rattle.std.specs.List.{flat_map}
use Rattle.model.specs.Model.{zero_group}
use Rattle.model.specs.Cnf.{constraint_clauses, node_blocks, block_count}
use Rattle.model.specs.Text.{clause_text, header_text}
use Rattle.propagation_laws.proofs.Ranges.{in_range_lem}
use Rattle.encoding_laws.proofs.Bounds.{block-bound}
use Rattle.numbering.proofs.Models.{first-is}
use Rattle.counts.proofs.Settled.{groups-few, entrants-few, constraints-few, table-among}
use Rattle.text.proofs.Writes.{kept, same_text}
use Rattle.cnf.proofs.Settled.{lines_are, blocks-most, header-block, first-length, first_one, here-settled, here-among, here-longer, here-few, place-in-model, here-in-range, x-some, x-among, here-block}
use Rattle.cnf.proofs.Entry.{does-fit, does-not-fit}
use Rattle.cnf.proofs.Runs.{stopped-on, stopped-short, stopped-run, stopped-run-short, group-last, group-run, stopped-answer, first-answer, stopped-buffer}
use Rattle.cnf.proofs.write_run.Goals as goal

-- what stands for a constraint that the array does not have
abbrev none : Constraint
none = record { code = 0; count = 0; groups = [] }

pub overflow_add-stop : goal.overflow_add-stop
overflow_add-stop c = omega (arith, blocks-most c.args.m.now c.requires.0, c.requires.2)

pub loop-x-preserved-then-header_fits : goal.loop-x-preserved-then-header_fits
loop-x-preserved-then-header_fits c =
    stopped-on c.args.m.now c.args.b c.args.end _ _ _ _ _ c.loop-x.invariant c.loop-x-test.true c.requires.0 c.requires.2 _ _
    (same_text (header-block c.args.m.now c.requires.0 c.loop-x.x c.if-x-eq0.true) c.put_header-at.ensures)

pub loop-x-preserved-else-header_fits : goal.loop-x-preserved-else-header_fits
loop-x-preserved-else-header_fits c =
    let l = does-not-fit (header_text c.args.m.now) _ c.header_fits.ensures c.if-header_fits.false in
    stopped-short c.args.m.now c.args.b c.args.end _ _ _ _ _ c.loop-x.invariant c.loop-x-test.true
    (omega (arith, l, ap length (header-block c.args.m.now c.requires.0 c.loop-x.x c.if-x-eq0.true)))

pub group_of-i-requires : goal.group_of-i-requires
group_of-i-requires c =
    let m = c.args.m.now in
    let q = c.requires.0 in
    let e = c.of_groups-d.ensures.0 in
    ((in_range_lem m q.in_range_lem).some-group, groups-few m q, first-length m q _ e, omega (arith, first_one m q _ e, c.if-x-eq0.false))

pub put_group-p-requires : goal.put_group-p-requires
unfolding zero_group
put_group-p-requires c =
    let m = c.args.m.now in
    let q = c.requires.0 in
    let v = c.of_model-v.result in
    let n = c.of_model-v.ensures in
    let d = c.of_groups-d in
    let e = d.ensures.0 in
    let x = c.loop-x.x in
    let o = c.group_of-i in
    let top : x ≤ length (node_blocks m) = omega (arith, lines_are m q _ d.ensures.1, c.if-x-d.true) in
    let w = c.loop-x.invariant.going.wrote in
    let hs = here-settled m q _ e x o.result o.ensures.0 top o.ensures.1 o.ensures.2 v n in
    record { settled_among = (hs.0, o.ensures.1, hs.1); among = here-among m q _ e x o.result o.ensures.0 top o.ensures.1 o.ensures.2 v n; g_bound = (here-few m q _ e x o.result o.ensures.0 top o.ensures.1 o.ensures.2 v n, omega (arith, kept w, w.inside)); none_longer = here-longer m q _ e x o.result o.ensures.0 top o.ensures.1 o.ensures.2 v n }

pub loop-x-preserved-then-x-p : goal.loop-x-preserved-then-x-p
unfolding zero_group
loop-x-preserved-then-x-p c =
    let m = c.args.m.now in
    let q = c.requires.0 in
    let v = c.of_model-v.result in
    let n = c.of_model-v.ensures in
    let d = c.of_groups-d in
    let e = d.ensures.0 in
    let x = c.loop-x.x in
    let o = c.group_of-i in
    let top : x ≤ length (node_blocks m) = omega (arith, lines_are m q _ d.ensures.1, c.if-x-d.true) in
    let p = c.put_group-p in
    let t = group-last m q _ e x o.result o.ensures.0 top o.ensures.1 o.ensures.2 v n c.loop-x.stop p.result.end p.ensures.end_value c.loop-x-test.true in
    let u = group-run m q _ e x o.result o.ensures.0 top o.ensures.1 o.ensures.2 v n c.loop-x.stop p.result.end p.ensures.end_value c.loop-x-test.true p.ensures.ran in
    stopped-run-short m c.args.b c.args.end _ _ _ _ _ c.loop-x.invariant c.loop-x-test.true q c.requires.2 _ _ _ _ t.0 t.2 u c.if-x-p.true

pub loop-x-smaller-else-x-p : goal.loop-x-smaller-else-x-p
unfolding zero_group
loop-x-smaller-else-x-p c =
    let m = c.args.m.now in
    let q = c.requires.0 in
    let v = c.of_model-v.result in
    let n = c.of_model-v.ensures in
    let d = c.of_groups-d in
    let e = d.ensures.0 in
    let x = c.loop-x.x in
    let o = c.group_of-i in
    let top : x ≤ length (node_blocks m) = omega (arith, lines_are m q _ d.ensures.1, c.if-x-d.true) in
    let p = c.put_group-p in
    let t = group-last m q _ e x o.result o.ensures.0 top o.ensures.1 o.ensures.2 v n c.loop-x.stop p.result.end p.ensures.end_value c.loop-x-test.true in
    omega (arith, t.2, c.if-x-p.false, c.loop-x-test.true)

pub loop-x-preserved-else-x-p : goal.loop-x-preserved-else-x-p
unfolding zero_group
loop-x-preserved-else-x-p c =
    let m = c.args.m.now in
    let q = c.requires.0 in
    let v = c.of_model-v.result in
    let n = c.of_model-v.ensures in
    let d = c.of_groups-d in
    let e = d.ensures.0 in
    let x = c.loop-x.x in
    let o = c.group_of-i in
    let top : x ≤ length (node_blocks m) = omega (arith, lines_are m q _ d.ensures.1, c.if-x-d.true) in
    let p = c.put_group-p in
    let t = group-last m q _ e x o.result o.ensures.0 top o.ensures.1 o.ensures.2 v n c.loop-x.stop p.result.end p.ensures.end_value c.loop-x-test.true in
    let u = group-run m q _ e x o.result o.ensures.0 top o.ensures.1 o.ensures.2 v n c.loop-x.stop p.result.end p.ensures.end_value c.loop-x-test.true p.ensures.ran in
    stopped-run m c.args.b c.args.end _ _ _ _ _ c.loop-x.invariant c.loop-x-test.true q c.requires.2 _ _ _ _ t.0 t.2 u c.if-x-p.false

pub bounds-m-j : goal.bounds-m-j
bounds-m-j c =
    let m = c.args.m.now in
    let q = c.requires.0 in
    let v = c.of_model-v.result in
    let e = c.of_model-v.ensures in
    let x = c.loop-x.x in
    let l = lines_are m q _ c.of_groups-d.ensures.1 in
    let h : length (node_blocks m) < x = omega (arith, l, c.if-x-d.false) in
    let k : x ≤ block_count m = omega (arith, c.loop-x.invariant.short, c.loop-x-test.true, c.requires.2) in
    omega (arith, constraints-few m q, place-in-model m q none x h k _ l)

pub bounds-v-j : goal.bounds-v-j
bounds-v-j c =
    let m = c.args.m.now in
    let q = c.requires.0 in
    let v = c.of_model-v.result in
    let e = c.of_model-v.ensures in
    let x = c.loop-x.x in
    let l = lines_are m q _ c.of_groups-d.ensures.1 in
    let h : length (node_blocks m) < x = omega (arith, l, c.if-x-d.false) in
    let k : x ≤ block_count m = omega (arith, c.loop-x.invariant.short, c.loop-x-test.true, c.requires.2) in
    omega (arith, constraints-few m q, place-in-model m q none x h k _ l)

pub constraint_block_fits-requires : goal.constraint_block_fits-requires
constraint_block_fits-requires c =
    let m = c.args.m.now in
    let q = c.requires.0 in
    let v = c.of_model-v.result in
    let e = c.of_model-v.ensures in
    let x = c.loop-x.x in
    let l = lines_are m q _ c.of_groups-d.ensures.1 in
    let h : length (node_blocks m) < x = omega (arith, l, c.if-x-d.false) in
    let k : x ≤ block_count m = omega (arith, c.loop-x.invariant.short, c.loop-x-test.true, c.requires.2) in record { s_le_groups = (groups-few m q, entrants-few m q); all = (table-among m q, first-is m v e); t = (here-in-range m q none x h k _ l, x-some m q none x h k _ l v e, x-among m q none x h k _ l v e); c_len_bound = omega (arith, ap length (here-block m q none x h k _ l v e), block-bound m q x) }

pub put_constraint_block-at-requires : goal.put_constraint_block-at-requires
put_constraint_block-at-requires c =
    let m = c.args.m.now in
    let q = c.requires.0 in
    let v = c.of_model-v.result in
    let e = c.of_model-v.ensures in
    let x = c.loop-x.x in
    let l = lines_are m q _ c.of_groups-d.ensures.1 in
    let h : length (node_blocks m) < x = omega (arith, l, c.if-x-d.false) in
    let k : x ≤ block_count m = omega (arith, c.loop-x.invariant.short, c.loop-x-test.true, c.requires.2) in
    let w = c.loop-x.invariant.going.wrote in
    let fits = does-fit (flat_map clause_text (constraint_clauses m.n (take m.s m.groups) (get_or v.differences (x - c.of_groups-d.result.lines) 0) (get_or m.constraints (x - c.of_groups-d.result.lines) none))) _ c.constraint_block_fits.ensures c.if-constraint_block_fits.true in record { s_le_groups = (groups-few m q, entrants-few m q); all = (table-among m q, first-is m v e); t = (here-in-range m q none x h k _ l, x-some m q none x h k _ l v e, x-among m q none x h k _ l v e); c_in_bounds = omega (arith, fits, kept w, w.inside) }

pub overflow_add-x-then-constraint_block_fits : goal.overflow_add-x-then-constraint_block_fits
overflow_add-x-then-constraint_block_fits c = omega (arith, blocks-most c.args.m.now c.requires.0, c.requires.2, c.loop-x.invariant.short, c.loop-x-test.true)

pub loop-x-preserved-then-constraint_block_fits : goal.loop-x-preserved-then-constraint_block_fits
loop-x-preserved-then-constraint_block_fits c =
    let m = c.args.m.now in
    let q = c.requires.0 in
    let v = c.of_model-v.result in
    let e = c.of_model-v.ensures in
    let x = c.loop-x.x in
    let l = lines_are m q _ c.of_groups-d.ensures.1 in
    let h : length (node_blocks m) < x = omega (arith, l, c.if-x-d.false) in
    let k : x ≤ block_count m = omega (arith, c.loop-x.invariant.short, c.loop-x-test.true, c.requires.2) in
    stopped-on c.args.m.now c.args.b c.args.end _ _ _ _ _ c.loop-x.invariant c.loop-x-test.true c.requires.0 c.requires.2 _ _ (same_text (here-block m q none x h k _ l v e) c.put_constraint_block-at.ensures)

pub loop-x-preserved : goal.loop-x-preserved
loop-x-preserved c =
    let m = c.args.m.now in
    let q = c.requires.0 in
    let v = c.of_model-v.result in
    let e = c.of_model-v.ensures in
    let x = c.loop-x.x in
    let l = lines_are m q _ c.of_groups-d.ensures.1 in
    let h : length (node_blocks m) < x = omega (arith, l, c.if-x-d.false) in
    let k : x ≤ block_count m = omega (arith, c.loop-x.invariant.short, c.loop-x-test.true, c.requires.2) in
    let fits = does-not-fit (flat_map clause_text (constraint_clauses m.n (take m.s m.groups) (get_or v.differences (x - c.of_groups-d.result.lines) 0) (get_or m.constraints (x - c.of_groups-d.result.lines) none))) _ c.constraint_block_fits.ensures c.if-constraint_block_fits.false in
    stopped-short c.args.m.now c.args.b c.args.end _ _ _ _ _ c.loop-x.invariant c.loop-x-test.true (omega (arith, fits, ap length (here-block m q none x h k _ l v e)))

pub returns-then-x-b : goal.returns-then-x-b
returns-then-x-b c =
    let p = c.requires in record { value = first-answer c.args.m.now c.args.b c.args.end _ p.0 p.2 _ _ _ _ c.loop-x.invariant c.loop-x-test.false p.1 c.if-x-b.true; buf_after = stopped-buffer c.args.m.now c.args.b c.args.end _ p.0 p.2 _ _ _ _ c.loop-x.invariant c.loop-x-test.false }

pub returns : goal.returns
returns c =
    let p = c.requires in record { value = stopped-answer c.args.m.now c.args.b c.args.end _ p.0 p.2 _ _ _ _ c.loop-x.invariant c.loop-x-test.false c.if-x-b.false; buf_after = stopped-buffer c.args.m.now c.args.b c.args.end _ p.0 p.2 _ _ _ _ c.loop-x.invariant c.loop-x-test.false }
