-- `line_step` is the rule of a line, whose groups are noted then. Assumes nothing.
use Rattle.std.proofs.Common.{◌∙◌, arith}
use Rattle.model.specs.Limits.{limits}
use Rattle.propagation_laws.proofs.Ranges.{constraint-code}
use Rattle.propagate.proofs.Passes.{among_all}
use Rattle.propagate.proofs.Indexing.{count-in}
use Rattle.propagate.proofs.Noting.{line-differ, line-noted, line_quiet}
use Rattle.propagate.proofs.steps.line_step.Goals as goal

pub note_members-changed-requires : goal.note_members-changed-requires
note_members-changed-requires c =
    let p = c.requires in
    let l = c.args.l.now in
    let ok = constraint-code limits.groups l p.1.1.0 in
    let m = c.constraint_rule.ensures.value ∙ among_all c.args.n _ l _ (omega (arith, p.1.0)) c.entrants.ensures in
    let k = c.member_count-count.ensures in (
      count-in l p.1.1.0 _ k,
      line-differ c.args.n c.args.j p.0 l ok p.1.1.1.0 _ _ _ c.args.seen.now.groups c.args.seen.now.lines (omega arith) p.1.1.1.1 m _ k,
    )

pub returns-then-not-changed : goal.returns-then-not-changed
returns-then-not-changed c =
    let p = c.requires in
    let l = c.args.l.now in
    let ok = constraint-code limits.groups l p.1.1.0 in
    let m = c.constraint_rule.ensures.value ∙ among_all c.args.n _ l _ (omega (arith, p.1.0)) c.entrants.ensures in
    line_quiet c.args.n c.args.j p.0 l ok p.1.1.1.0 _ _ _ _ _ (omega arith) p.1.1.1.1 m _ _ _ _ _ _ c.note_members-changed.ensures c.if-not-changed.true (omega arith) c.unmark.ensures

pub returns-else-not-changed : goal.returns-else-not-changed
returns-else-not-changed c =
    let p = c.requires in
    let l = c.args.l.now in
    let ok = constraint-code limits.groups l p.1.1.0 in
    let m = c.constraint_rule.ensures.value ∙ among_all c.args.n _ l _ (omega (arith, p.1.0)) c.entrants.ensures in
    line-noted c.args.n c.args.j p.0 l ok p.1.1.1.0 _ _ _ _ _ (omega arith) p.1.1.1.1 m _ _ _ _ _ c.note_members-changed.ensures
