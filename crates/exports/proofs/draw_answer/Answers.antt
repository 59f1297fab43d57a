-- `draw_answer` lays the groups of the answer. Assumes nothing.
use Rattle.exports.proofs.Answering.{answer-laid}
use Rattle.exports.proofs.draw_answer.Goals as goal

-- the clauses by their names
named : {A B C : Type 0} → A × (B × C) → record { value : A; groups_after : B; draw_of : C }
named p = record { value = p.0; groups_after = p.1.0; draw_of = p.1.1 }

pub returns : goal.returns
returns c =
    let a = c.answer-a.ensures in
    let put = c.close_number-refusal.ensures in
    named (answer-laid _ _ c.args.groups.now _ a.value a.answers _ _ put.value put.groups_after _ c.numbered.ensures)
