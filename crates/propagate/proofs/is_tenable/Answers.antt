-- `is_tenable` looks at the groups, then at the lines. Assumes nothing.
use Rattle.std.proofs.Common.{◌≡◌, true, false, arith}
use Rattle.propagate.proofs.Passes.{tenable-is}
use Rattle.propagate.proofs.is_tenable.Goals as goal

pub returns-then-not-is_consistent : goal.returns-then-not-is_consistent
returns-then-not-is_consistent c =
    let p = c.requires in
    let h : c.is_consistent.result ≡ false = c.if-not-is_consistent.true in
    tenable-is c.args.s p.0 p.1.0 c.args.lines.now p.1.1 c.args.t.now (omega arith) _ c.is_consistent.ensures false (rw h)

pub returns : goal.returns
returns c =
    let p = c.requires in
    let h : c.is_consistent.result ≡ true = c.if-not-is_consistent.false in
    tenable-is c.args.s p.0 p.1.0 c.args.lines.now p.1.1 c.args.t.now (omega arith) _ c.is_consistent.ensures _ (rw h c.may_differ.ensures)
