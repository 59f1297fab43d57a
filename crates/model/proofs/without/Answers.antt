-- `without` takes the complement of 64 bits. Assumes nothing.
use Rattle.model.proofs.Words.{and-not}
use borrow.Author.Rules.{rules}
use Rattle.model.proofs.without.Goals as goal

pub returns : goal.returns
returns c = and-not 64 c.args.a c.args.b (search rules) (search rules)
