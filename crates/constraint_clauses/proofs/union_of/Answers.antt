use Prim.Native.Nat.{ℕ, ◌+◌}
use mathlib.Core.Path.{ap, ◌∙◌}
use lib.ListN.{get_or, length-take}
use native.Mathlib.Omega.{arith}
use Rattle.std.proofs.lemmas.List.Edits.{get_or-between}
use Rattle.model.specs.Solution.{set_of}
use Rattle.constraint_clauses.proofs.Meanings.{joined-next, joined-done}
use Rattle.constraint_clauses.proofs.union_of.Goals as goal

pub loop-id-preserved : goal.loop-id-preserved
loop-id-preserved c =
    let l = c.loop-id in
    joined-next c.args.words.now c.args.ids.now c.args.k l.w (l.id-index + 1) _ l.invariant (omega arith) (omega arith)
    (c.set_of-w.ensures ∙ ap (set_of c.args.words.now) (get_or-between c.args.ids.now 1 c.min-end.result l.id-index 0 (omega arith) ∙ ap (λ (i : ℕ). get_or c.args.ids.now i 0) (omega arith)))

pub returns : goal.returns
returns c =
    let l = c.loop-id in
    joined-done c.args.words.now c.args.ids.now c.args.k l.w (l.id-index + 1) l.invariant (omega (arith, length-take (c.args.k + 1) c.args.ids.now))
