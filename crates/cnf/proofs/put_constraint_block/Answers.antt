-- `put_constraint_block` writes a constraint's clauses, a code 7 one's last. Assumes nothing.
use mathlib.Core.Path.{sym, ap, ◌∙◌}
use mathlib.Core.List.{List}
use native.Mathlib.Omega.{arith}
use lib.ListN.{length, take}
use Rattle.model.specs.declared.Group.{Group}
use Rattle.text.proofs.Writes.{done, then, same_text, kept}
use Rattle.propagation_laws.proofs.Ranges.{not-seven-entrant}
use Rattle.encoding_laws.proofs.Differences.{six-apart}
use Rattle.counts.proofs.Settled.{among_all, few-members, first-enough, seven_enough, six-says, seven-says}
use Rattle.cnf.proofs.Constraints.{entrants-text, six-text, apart-text, seven-text, seven-size, counted}
use Rattle.cnf.proofs.put_constraint_block.Goals as goal

pub put_constraint-requires : goal.put_constraint-requires
put_constraint-requires c =
    let p = c.requires in
    let r = p.t.0 in
    let k = c.member_count-k.ensures in
    let e = c.members-ms.ensures in
    let six = not-seven-entrant c.args.s c.args.c.now r c.if-c-ne7.true in
    let t : List Group = take c.args.s c.args.groups.now in
    let enough = first-enough c.args.s _ c.args.c.now r k six in
    let says = six-says c.args.s p.s_le_groups.0 c.args.groups.now (among_all c.args.n t p.s_le_groups.1 p.all.0) c.args.first.now p.all.1 c.args.c.now r (omega arith) _ six c.args.x _ k e in
    let text = six-text c.args.x t c.args.c.now c.args.n _ (entrants-text c.args.x t c.args.c.now _ _ says (six-apart t c.args.c.now six) enough c.args.n p.s_le_groups.1) six in
    record { k_le_members = (few-members c.args.s _ c.args.c.now r k, p.s_le_groups.1); members_below = enough; n_in_bounds = omega (arith, ap length text, p.c_in_bounds) }

pub returns-then-c-ne7 : goal.returns-then-c-ne7
returns-then-c-ne7 c =
    let p = c.requires in
    let r = p.t.0 in
    let k = c.member_count-k.ensures in
    let e = c.members-ms.ensures in
    let six = not-seven-entrant c.args.s c.args.c.now r c.if-c-ne7.true in
    let t : List Group = take c.args.s c.args.groups.now in
    let enough = first-enough c.args.s _ c.args.c.now r k six in
    let says = six-says c.args.s p.s_le_groups.0 c.args.groups.now (among_all c.args.n t p.s_le_groups.1 p.all.0) c.args.first.now p.all.1 c.args.c.now r (omega arith) _ six c.args.x _ k e in
    let text = six-text c.args.x t c.args.c.now c.args.n _ (entrants-text c.args.x t c.args.c.now _ _ says (six-apart t c.args.c.now six) enough c.args.n p.s_le_groups.1) six in
    same_text (sym text) c.put_constraint.ensures

pub returns-then-is_apart : goal.returns-then-is_apart
returns-then-is_apart c =
    same_text (sym (apart-text c.args.x (take c.args.s c.args.groups.now) c.args.c.now c.args.n c.if-c-ne7.false (sym c.is_apart.ensures ∙ c.if-is_apart.true))) (done _ _ (omega (arith, c.requires.c_in_bounds)))

pub put_constraint-y-requires : goal.put_constraint-y-requires
put_constraint-y-requires c =
    let p = c.requires in
    let r = p.t.0 in
    let e = c.difference_members-ms.ensures in
    let o = c.differing-o.ensures in
    let seven = c.if-c-ne7.false in
    let clear = sym c.is_apart.ensures ∙ c.if-is_apart.false in
    let t : List Group = take c.args.s c.args.groups.now in
    let enough = seven_enough c.args.c.now seven in
    let says = seven-says c.args.s p.s_le_groups.0 c.args.groups.now (among_all c.args.n t p.s_le_groups.1 p.all.0) c.args.first.now p.all.1 c.args.c.now r (omega arith) _ seven c.args.x p.t.1
    (omega (arith, p.t.2)) _ o e in
    let size = seven-size c.args.x t c.args.c.now c.args.n _ (entrants-text c.args.x t c.args.c.now _ 3 says clear enough c.args.n p.s_le_groups.1) seven p.all.0 clear _ o in
    record { k_le_members = (omega arith, p.s_le_groups.1); members_below = enough; n_in_bounds = omega (arith, size, p.c_in_bounds) }

pub put_rising-requires : goal.put_rising-requires
put_rising-requires c =
    let p = c.requires in
    let r = p.t.0 in
    let e = c.difference_members-ms.ensures in
    let o = c.differing-o.ensures in
    let seven = c.if-c-ne7.false in
    let clear = sym c.is_apart.ensures ∙ c.if-is_apart.false in
    let t : List Group = take c.args.s c.args.groups.now in
    let enough = seven_enough c.args.c.now seven in
    let says = seven-says c.args.s p.s_le_groups.0 c.args.groups.now (among_all c.args.n t p.s_le_groups.1 p.all.0) c.args.first.now p.all.1 c.args.c.now r (omega arith) _ seven c.args.x p.t.1
    (omega (arith, p.t.2)) _ o e in
    let size = seven-size c.args.x t c.args.c.now c.args.n _ (entrants-text c.args.x t c.args.c.now _ 3 says clear enough c.args.n p.s_le_groups.1) seven p.all.0 clear _ o in
    let w = c.put_constraint-y.ensures in
    record { among = omega (arith, p.t.2, counted t c.args.c.now _ o); k_in_bounds = omega (arith, size, p.c_in_bounds, w.next, kept w) }

pub returns : goal.returns
returns c =
    let p = c.requires in
    let r = p.t.0 in
    let e = c.difference_members-ms.ensures in
    let o = c.differing-o.ensures in
    let seven = c.if-c-ne7.false in
    let clear = sym c.is_apart.ensures ∙ c.if-is_apart.false in
    let t : List Group = take c.args.s c.args.groups.now in
    let enough = seven_enough c.args.c.now seven in
    let says = seven-says c.args.s p.s_le_groups.0 c.args.groups.now (among_all c.args.n t p.s_le_groups.1 p.all.0) c.args.first.now p.all.1 c.args.c.now r (omega arith) _ seven c.args.x p.t.1
    (omega (arith, p.t.2)) _ o e in
    let text = seven-text c.args.x t c.args.c.now c.args.n _ (entrants-text c.args.x t c.args.c.now _ 3 says clear enough c.args.n p.s_le_groups.1) seven p.all.0 clear _ o in
    same_text (sym text) (then c.put_constraint-y.ensures c.put_rising.ensures)
