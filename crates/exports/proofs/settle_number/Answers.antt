-- `settle_number`: refused, too short, or laid. Assumes nothing.
use mathlib.Core.Path.{sym, ◌∙◌}
use Rattle.exports.proofs.Cases.{refused-number, refused-table, short-number, short-table, laid-number, laid_table}
use Rattle.exports.proofs.settle_number.Goals as goal

pub returns-then-p-ne0 : goal.returns-then-p-ne0
returns-then-p-ne0 c =
    let h = c.if-p-ne0.true in
    record { value = c.numbered.ensures ∙ refused-number c.args.p c.args.table.now h; table_after = refused-table c.args.p c.args.table.now h }

pub returns-then-not-put_groups : goal.returns-then-not-put_groups
returns-then-not-put_groups c =
    let z = c.if-p-ne0.false in
    let g = c.put_groups.ensures in
    let h = sym g.value ∙ c.if-not-put_groups.true in record { value = c.numbered-then-not-put_groups.ensures ∙ short-number c.args.p c.args.table.now z (c.requires z) h; table_after = g.table_after ∙ short-table c.args.p c.args.table.now z (c.requires z) h }

pub returns : goal.returns
returns c =
    let z = c.if-p-ne0.false in
    let g = c.put_groups.ensures in
    let h = sym g.value ∙ c.if-not-put_groups.false in record { value = c.numbered-2.ensures ∙ laid-number c.args.p c.args.table.now z (c.requires z) h; table_after = g.table_after ∙ laid_table c.args.p c.args.table.now z (c.requires z) h }
