-- `difference_length` is how many clauses a code 7 constraint has. Assumes nothing.
use mathlib.Core.Path.{sym, ap, ◌∙◌}
use Prim.Native.Nat.{ℕ, ◌+◌}
use native.Mathlib.Omega.{arith}
use lib.ListN.{take}
use Rattle.counts.proofs.Entrants.{entrants-length, apart-length, seven-length}
use Rattle.counts.proofs.Settled.{among_all, few-clauses, seven_enough, seven-says}
use Rattle.counts.proofs.difference_length.Goals as goal

pub returns-then-is_apart : goal.returns-then-is_apart
returns-then-is_apart c =
    let p = c.requires in
    (apart-length (take c.args.s c.args.groups.now) c.args.c.now p.t.1 c.args.n (sym c.is_apart.ensures ∙ c.if-is_apart.true), omega arith)

pub constraint_count-requires : goal.constraint_count-requires
constraint_count-requires c =
    let p = c.requires in
    record { k_le_members = (omega arith, p.s_le_groups.1); members_below = seven_enough c.args.c.now p.t.1; count_len_bound = few-clauses c.args.s c.args.c.now p.t.0 }

pub returns : goal.returns
returns c =
    let p = c.requires in
    let t = take c.args.s c.args.groups.now in
    let e = c.difference_members-ms.ensures in
    let clear = sym c.is_apart.ensures ∙ c.if-is_apart.false in
    let says = seven-says c.args.s p.s_le_groups.0 c.args.groups.now (among_all c.args.n t p.s_le_groups.1 p.all.0) c.args.first.now p.all.1 c.args.c.now p.t.0 (omega arith) _ p.t.1 1
    (omega arith) (omega arith) _ c.differing-o.ensures e in (
      ap (λ (k : ℕ). k + 1) c.constraint_count.ensures.0
          ∙ seven-length t c.args.c.now p.t.1 c.args.n p.all.0 clear _ (entrants-length 1 t c.args.c.now _ 3 says clear (seven_enough c.args.c.now p.t.1) c.args.n p.s_le_groups.1),
      omega (arith, c.constraint_count.ensures.1),
    )
