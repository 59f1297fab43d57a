-- `constraint_length` is how many clauses a constraint has. Assumes nothing.
use mathlib.Core.Path.{sym, ◌∙◌}
use native.Mathlib.Omega.{arith}
use lib.ListN.{take}
use Rattle.propagation_laws.proofs.Ranges.{not-seven-entrant}
use Rattle.encoding_laws.proofs.Differences.{six-apart}
use Rattle.counts.proofs.Entrants.{entrants-length, six-length}
use Rattle.counts.proofs.Settled.{among_all, few-clauses, few-members, first-enough, six-says}
use Rattle.counts.proofs.constraint_length.Goals as goal

pub constraint_count-requires : goal.constraint_count-requires
constraint_count-requires c =
    let p = c.requires in
    let k = c.member_count-k.ensures in
    let six = not-seven-entrant c.args.s c.args.c.now p.t c.if-c-eq7.false in
    record { k_le_members = (few-members c.args.s _ c.args.c.now p.t k, p.s_le_groups.1); members_below = first-enough c.args.s _ c.args.c.now p.t k six; count_len_bound = few-clauses c.args.s c.args.c.now p.t }

pub returns : goal.returns
returns c =
    let p = c.requires in
    let k = c.member_count-k.ensures in
    let six = not-seven-entrant c.args.s c.args.c.now p.t c.if-c-eq7.false in
    let e = c.members-ms.ensures in
    let t = take c.args.s c.args.groups.now in
    let says = six-says c.args.s p.s_le_groups.0 c.args.groups.now (among_all c.args.n t p.s_le_groups.1 p.all.0) c.args.first.now p.all.1 c.args.c.now p.t (omega arith) _ six 0 _ k e in (
      c.constraint_count.ensures.0
          ∙ sym (six-length t c.args.c.now six c.args.n _ (entrants-length 0 t c.args.c.now _ _ says (six-apart t c.args.c.now six) (first-enough c.args.s _ c.args.c.now p.t k six) c.args.n p.s_le_groups.1)),
      omega (arith, c.constraint_count.ensures.1),
    )
