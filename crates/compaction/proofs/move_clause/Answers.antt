-- `move_clause` meets its contract: a live clause moves, a forgotten one is passed over. Assumes nothing.
use mathlib.Core.Path.{refl}
use borrow.Author.Rules.{rules}
use Rattle.compaction.proofs.Moves.{dead-past, dead-other, walk-over, walk-on}
use Rattle.compaction.proofs.move_clause.Goals as goal

pub returns-then-index-i : goal.returns-then-index-i
returns-then-index-i c = record { lower_bound = search rules; walk = λ one a top low w. walk-over w low c.requires.2 (dead-past c.args.index.now _ _ _ refl c.if-index-i.true one) }

pub returns-then-index-i-2 : goal.returns-then-index-i-2
returns-then-index-i-2 c = record { lower_bound = search rules; walk = λ one a top low w. walk-over w low c.requires.2 (dead-other c.args.index.now _ _ _ refl _ refl c.if-index-i-2.true) }

pub returns : goal.returns
returns c = record { lower_bound = search rules; walk = λ one a top low w. walk-on w low c.requires.2 _ refl c.if-index-i.false c.if-index-i-2.false one c.requires.0 c.move_down.ensures }
