-- `read_line` judges the group's number, and reads the entrants. Assumes nothing.
use mathlib.Core.Path.{◌∙◌}
use native.Mathlib.Omega.{arith}
use lib.ListN.{length-take}
use Rattle.line_form.proofs.Words.{word-le}
use Rattle.group_lines.proofs.Lines.{no_number, no-group, before, skipped, due}
use Rattle.group_lines.proofs.read_line.Goals as goal

pub slice_bounds-group_in-end : goal.slice_bounds-group_in-end
slice_bounds-group_in-end c = simp length-take (omega (arith, word-le c.args.line.now))

pub returns-then-g-eq0 : goal.returns-then-g-eq0
returns-then-g-eq0 c = no_number c.args.n c.args.s c.args.next c.args.line.now c.word_length-k.result c.word_length-k.ensures c.group_in-g.result c.group_in-g.ensures c.if-g-eq0.true

pub returns-then-s-g : goal.returns-then-s-g
returns-then-s-g c = no-group c.args.n c.args.s c.args.next c.args.line.now c.word_length-k.result c.word_length-k.ensures c.group_in-g.result c.group_in-g.ensures c.if-g-eq0.false c.if-s-g.true

pub returns-then-g-next : goal.returns-then-g-next
returns-then-g-next c = before c.args.n c.args.s c.args.next c.args.line.now c.word_length-k.result c.word_length-k.ensures c.group_in-g.result c.group_in-g.ensures c.if-g-eq0.false c.if-s-g.false c.if-g-next.true

pub returns-then-next-g : goal.returns-then-next-g
returns-then-next-g c = skipped c.args.n c.args.s c.args.next c.args.line.now c.word_length-k.result c.word_length-k.ensures c.group_in-g.result c.group_in-g.ensures c.if-g-eq0.false c.if-s-g.false c.if-g-next.false c.if-next-g.true

pub read_entrants-requires : goal.read_entrants-requires
read_entrants-requires c = (omega (arith, c.word_length-k.ensures, word-le c.args.line.now), c.requires)

pub returns : goal.returns
returns c = c.read_entrants.ensures ∙ due c.args.n c.args.s c.args.next c.args.line.now c.word_length-k.result c.word_length-k.ensures c.group_in-g.result c.group_in-g.ensures c.if-g-eq0.false c.if-s-g.false c.if-g-next.false c.if-next-g.false
