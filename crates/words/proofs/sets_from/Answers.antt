-- `sets_from`: word by word. Assumes nothing.
use Rattle.std.proofs.Common.{rules}
use Rattle.model.specs.Limits.{limits}
use Rattle.words.specs.Words.{word_at, sets_from}
use Rattle.words.proofs.Words.{made}
use Rattle.words.proofs.sets_from.Goals as goal

pub returns : goal.returns
unfolding sets_from
returns c = made _ (word_at c.args.words.now) _ _ limits.groups (λ i r q h. search rules) c.from_fn.ensures.items
