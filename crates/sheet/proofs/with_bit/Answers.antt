-- `with_bit` adds a bit above a word. Assumes nothing.
use Rattle.sheet.proofs.Laws.{or-bit}
use Rattle.sheet.proofs.with_bit.Goals as goal

pub returns-then-on : goal.returns-then-on
returns-then-on c = simp c.if-on.true (or-bit _ _ c.requires.0 c.requires.1)
