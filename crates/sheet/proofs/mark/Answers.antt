-- `mark` tells a good mark by the last byte of its field. Assumes nothing.
use Rattle.sheet.proofs.Fields.{mark-is}
use Rattle.sheet.proofs.mark.Goals as goal

pub returns-then-b-eq32 : goal.returns-then-b-eq32
returns-then-b-eq32 c =
    (mark-is c.args.line.now c.args.e c.requires.0 c.requires.1 c.requires.2 c.requires.3).0 c.if-b-eq32.true

pub returns : goal.returns
returns c =
    (mark-is c.args.line.now c.args.e c.requires.0 c.requires.1 c.requires.2 c.requires.3).1 c.if-b-eq32.false
