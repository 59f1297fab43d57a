-- `write_values` writes to an array that holds every text, and copies what fits. Assumes nothing.
use native.Mathlib.Omega.{arith}
use Rattle.answer.specs.Values.{values_text}
use Rattle.answer.proofs.Values.{values_length, many, copied, with_number}
use Rattle.answer.proofs.write_values.Goals as goal

-- the clauses by their names
named : {A B C : Type 0} → A × (B × C) → record { value : A; buf_after : B; result_value : C }
named p = record { value = p.0; buf_after = p.1.0; result_value = p.1.1 }

pub returns-then-values-gt-VARIABLES : goal.returns-then-values-gt-VARIABLES
returns-then-values-gt-VARIABLES c = named (with_number _ _ _ _ (many c.args.values.now (values_text c.args.values.now) c.args.buf.now c.if-values-gt-VARIABLES.true))

pub put_line-n-requires : goal.put_line-n-requires
put_line-n-requires c = record { values_len_bound = c.if-values-gt-VARIABLES.false; values_in_bounds = omega (arith, values_length c.args.values.now c.if-values-gt-VARIABLES.false, c.space-all.ensures) }

pub returns : goal.returns
returns c = named (with_number _ _ _ _ (copied c.args.values.now (values_text c.args.values.now) c.args.buf.now c.if-values-gt-VARIABLES.false c.put_line-n.ensures c.copy_out.ensures.value c.copy_out.ensures.buf_after))
