use Rattle.std.proofs.Common.{ap, refl, ◌∙◌, arith}
use Rattle.marks.proofs.Bits.{next-none}
use Rattle.propagation_laws.proofs.AtTheEnd.{late}
use Rattle.propagate.specs.Skip.{tenable_first}
use Rattle.propagate.proofs.Indexing.{line-is}
use Rattle.propagate.proofs.Skipping.{quiet-start, loose_none, lines-begin, lines-go, pass-stops, pass-goes-on, pass-bad}
use Rattle.propagate.proofs.run_marked.Goals as goal

pub loop-k-init : goal.loop-k-init
loop-k-init c = (
  refl,
  (quiet-start c.args.n c.args.s _ _ c.requires.1.0 c.index_of-index.ensures.few, refl),
)

pub loop-j-init : goal.loop-j-init
loop-j-init c =
    let l = c.loop-k in
    let g = c.group_steps-changed.ensures in (
      g.seen,
      record {
        start = _;
        outcome = l.invariant.1.1;
        left = lines-begin c.args.n c.args.s _ _ c.index_of-index.ensures _ _ _ l.invariant.1.0 _ _ _ _ g.group_steps _ (next-none _ _ _ c.next-j.ensures).1;
      },
    )

pub loop-j-smaller : goal.loop-j-smaller
loop-j-smaller c = omega (arith, (next-none _ _ _ c.next-j-in-loop-j.ensures).0, c.loop-j-test.true)

pub loop-j-preserved : goal.loop-j-preserved
loop-j-preserved c =
    let l = c.loop-j in
    let h = c.loop-j-test.true in
    let p = c.line_step-moved.ensures in
    let n = next-none _ _ _ c.next-j-in-loop-j.ensures in (
      p.seen,
      record {
        start = l.invariant.1.start;
        outcome = l.invariant.1.outcome;
        left = lines-go c.args.n c.args.s _ _ c.index_of-index.ensures _ l.j l.changed _ _ _ l.invariant.1.left (omega arith) _
            (line-is c.args.lines.now c.requires.1.1.1.0 l.j (omega arith) _) _ _ _ _ _ p _ n.0 n.1;
      },
    )

pub returns-then-not-changed : goal.returns-then-not-changed
returns-then-not-changed c =
    let l = c.loop-j in
    record {
      outcome = ap (late (tenable_first c.args.s c.args.lines.now))
          (pass-stops c.args.n c.args.s _ c.args.fuel _ c.loop-k.k l.j l.changed _ _ _ l.invariant.1 (omega arith) c.loop-k-test.true c.if-not-changed.true);
    }

pub returns-then-not-is_consistent : goal.returns-then-not-is_consistent
returns-then-not-is_consistent c =
    let l = c.loop-j in
    record {
      outcome = pass-bad c.args.n c.args.s _ c.args.fuel _ c.loop-k.k l.j l.changed _ _ _ l.invariant.1 (omega arith) c.loop-k-test.true c.if-not-changed.false _
          c.is_consistent.ensures c.if-not-is_consistent.true;
    }

pub loop-k-preserved : goal.loop-k-preserved
loop-k-preserved c =
    let l = c.loop-j in
    (l.invariant.0, (l.invariant.1.left.quiet, pass-goes-on c.args.n c.args.s _ c.args.fuel _ c.loop-k.k l.j l.changed _ _ _ l.invariant.1 (omega arith) c.loop-k-test.true c.if-not-changed.false))

pub returns : goal.returns
returns c =
    let l = c.loop-k in
    record {
      outcome = ap (late (tenable_first c.args.s c.args.lines.now)) (l.invariant.1.1 ∙ loose_none c.args.n c.args.s _ c.args.fuel l.k _ (omega arith));
    }
