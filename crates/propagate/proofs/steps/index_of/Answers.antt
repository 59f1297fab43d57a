use Rattle.std.proofs.Common.{arith}
use Rattle.propagate.proofs.Indexing.{rows_next, rows_end, line-in, count-in}
use Rattle.propagate.proofs.steps.index_of.Goals as goal

pub loop-j-preserved : goal.loop-j-preserved
loop-j-preserved c =
    let l = c.loop-j in
    rows_next c.args.lines.now c.requires.1.0 l.j _ _ l.invariant c.loop-j-test.true _ _ c.member_count.ensures c.index_line.ensures

pub index_line-requires : goal.index_line-requires
index_line-requires c =
    let l = c.loop-j in
    let r = line-in c.args.lines.now c.requires.1.0 l.j c.loop-j-test.true _ in
    (omega (arith, c.requires.0, c.loop-j-test.true), count-in _ r _ c.member_count.ensures)

pub returns : goal.returns
returns c =
    let l = c.loop-j in
    rows_end c.args.lines.now c.requires.1.0 c.requires.0 c.requires.1.1 l.j _ l.invariant (omega arith)
