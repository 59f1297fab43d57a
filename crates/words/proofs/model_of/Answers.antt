-- `model_of`: three numbers, the groups, the constraints. Assumes nothing.
use Rattle.std.proofs.Common.{rules}
use Rattle.model.specs.Limits.{limits}
use Rattle.words.specs.Words.{group_from, constraint_from, model_of}
use Rattle.words.proofs.Words.{made}
use Rattle.words.proofs.model_of.Goals as goal

pub returns : goal.returns
unfolding model_of
returns c =
    let g = made _ (group_from c.args.words.now) _ _ limits.groups (λ i r q h. search rules) c.from_fn.ensures.items in
    let l = made _ (constraint_from c.args.words.now) _ _ limits.constraints (λ i r q h. search rules) c.from_fn-2.ensures.items in
    rw (c.number_at.ensures, c.number_at-2.ensures, c.number_at-3.ensures, g, l)
