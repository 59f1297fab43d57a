-- `read_values` reads a `v` line: form, then its literals. Assumes nothing.
use mathlib.Core.Path.{refl}
use Rattle.literals.proofs.Named.{refuses}
use Rattle.assignment.proofs.Lines.{out-wrong, out-alone, out-refused, out-taken}
use Rattle.assignment.proofs.read_values.Goals as goal

-- the clauses by their names
named : {A B : Type 0} → A × B → record { value : A; values_after : B }
named p = record { value = p.0; values_after = p.1 }

pub returns-in_default : goal.returns-in_default
returns-in_default c =
    let both = out-wrong c.args.reading c.args.line.now c.args.values.now c.requires.1 c.requires.2 c.requires.0 c.line_form.result c.line_form.ensures.value c.in_default.is in
    record { value = both.0; values_after = both.1 }

pub returns-then-line-eq1 : goal.returns-then-line-eq1
returns-then-line-eq1 c = named (out-alone c.args.reading c.args.line.now c.args.values.now c.requires.1 c.requires.2 c.requires.0 c.line_form.result c.line_form.ensures.value
    _ c.in-Some.is c.if-line-eq1.true)

pub returns-in-Err : goal.returns-in-Err
returns-in-Err c =
    let bad = c.in-Err.ensures in
    rw c.number.ensures
    (named (out-refused c.args.reading c.args.line.now c.args.values.now c.requires.1 c.requires.2 c.requires.0 c.line_form.result c.line_form.ensures.value
    _ c.in-Some.is c.if-line-eq1.false _ bad.value _ bad.values_after (refuses c.in-Err.refusal)))

pub returns-in-Ok : goal.returns-in-Ok
returns-in-Ok c =
    let good = c.in-Ok.ensures in
    named (out-taken c.args.reading c.args.line.now c.args.values.now c.requires.1 c.requires.2 c.requires.0 c.line_form.result c.line_form.ensures.value
    _ c.in-Some.is c.if-line-eq1.false _ good.value _ good.values_after refl)
