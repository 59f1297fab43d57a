-- `members_from`: number by number. Assumes nothing.
use Rattle.std.proofs.Common.{rules, ◌+◌}
use Rattle.model.specs.Limits.{limits}
use Rattle.words.specs.Words.{number_at}
use Rattle.words.proofs.Words.{made}
use Rattle.words.proofs.members_from.Goals as goal

pub returns : goal.returns
returns c = made _ (λ i. number_at c.args.words.now (c.args.at + i)) _ _ limits.members (λ i r q h. search rules) c.from_fn.ensures.items
