-- `combine` is the definition's answer, and the laws hold of whatever it was given. Assumes nothing.
use mathlib.Core.Path.{sym, ◌∙◌}
use Rattle.model.proofs.Arrays.{whole_of}
use Rattle.combine.proofs.Laws.{combines, sizes}
use Rattle.combine.proofs.Entry.{refused_as_lem, combined_as}
use Rattle.combine.proofs.combine.Goals as goal

pub returns-then-r-ne0 : goal.returns-then-r-ne0
returns-then-r-ne0 c = record { value = refused_as_lem c.args.a c.args.b _ _ c.refusal-r.ensures c.if-r-ne0.true c.zero.ensures; combines = combines c.args.a c.args.b (whole_of c.args.a c.whole.ensures) (whole_of c.args.b c.whole-2.ensures) }

pub combined_model-requires : goal.combined_model-requires
combined_model-requires c =
    sizes c.args.a c.args.b (sym c.refusal-r.ensures ∙ c.if-r-ne0.false)

pub returns : goal.returns
returns c = record { value = combined_as c.args.a c.args.b _ (sym c.refusal-r.ensures ∙ c.if-r-ne0.false) c.combined_model.ensures; combines = combines c.args.a c.args.b (whole_of c.args.a c.whole.ensures) (whole_of c.args.b c.whole-2.ensures) }
