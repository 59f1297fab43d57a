-- `put_own` writes a node's own block: its clauses, and the units. Assumes nothing.
use mathlib.Core.Path.{ap}
use Prim.Native.Nat.{◌-◌}
use native.Mathlib.Omega.{arith}
use lib.ListN.{length}
use Rattle.text.proofs.Writes.{then, kept, same_text}
use Rattle.cnf.specs.Parts.{node_text}
use Rattle.cnf.proofs.Trees.{root_among}
use Rattle.cnf.proofs.Subtrees.{own_is, own-length}
use Rattle.cnf.proofs.totalizer.put_own.Goals as goal

pub put_node-x-requires : goal.put_node-x-requires
put_node-x-requires c =
    let t = c.own_node-t in
    let is = ap length (ap node_text t.ensures.0) in
    let len = own-length c.args.m c.args.v c.args.o c.args.low c.args.high (c.args.m - 2) t.result.n t.ensures.2 (omega arith) in
    record { small = t.ensures.1; t_in_bounds = omega (arith, is, len, c.requires.m_in_bounds) }

pub put_units-y-requires : goal.put_units-y-requires
put_units-y-requires c =
    let p = c.requires in
    let t = c.own_node-t in
    let is = ap length (ap node_text t.ensures.0) in
    let e = t.ensures.2 in
    let len = own-length c.args.m c.args.v c.args.o c.args.low c.args.high (c.args.m - 2) t.result.n e (omega arith) in
    let w = c.put_node-x.ensures in record { among = omega (arith, e, p.low_le_m.0, root_among c.args.m c.args.v c.args.o (omega arith) p.le_m.2 p.le_m.3); k_in_bounds = omega (arith, is, len, p.m_in_bounds, w.next, kept w) }

pub put_units-requires : goal.put_units-requires
put_units-requires c =
    let p = c.requires in
    let t = c.own_node-t in
    let is = ap length (ap node_text t.ensures.0) in
    let e = t.ensures.2 in
    let len = own-length c.args.m c.args.v c.args.o c.args.low c.args.high (c.args.m - 2) t.result.n e (omega arith) in
    let w = c.put_node-x.ensures in
    let x = c.put_units-y.ensures in record { among = omega (arith, e, p.low_le_m.1, root_among c.args.m c.args.v c.args.o (omega arith) p.le_m.2 p.le_m.3); k_in_bounds = omega (arith, is, len, p.m_in_bounds, w.next, kept w, x.next, kept x) }

pub returns : goal.returns
returns c =
    let t = c.own_node-t in
    same_text (own_is c.args.m c.args.v c.args.o c.args.low c.args.high (c.args.m - 2) t.result.n t.ensures.2 (omega arith))
    (then (then (same_text (ap node_text t.ensures.0) c.put_node-x.ensures) c.put_units-y.ensures) c.put_units.ensures)
