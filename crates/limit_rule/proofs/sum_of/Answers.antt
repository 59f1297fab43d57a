use Rattle.std.proofs.Common.{ap, arith}
use Rattle.model.specs.declared.Group.{Group}
use Rattle.model.specs.Model.{group_at}
use Rattle.limit_rule.proofs.Steps.{total_more}
use Rattle.limit_rule.proofs.sum_of.Goals as goal

pub loop-f-preserved : goal.loop-f-preserved
loop-f-preserved c = (
  omega (arith, c.loop-f.invariant.0, ap (λ (g : Group). g.high) c.group_at.ensures, total_more (λ f. (group_at c.args.t.now f).high) c.args.fs.now c.loop-f.f-index 0 c.loop-f-test.true),
  omega (arith, c.loop-f.invariant.1),
)
