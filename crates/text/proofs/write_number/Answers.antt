-- `write_number` writes what stands before the last four digits, and these. Assumes nothing.
use mathlib.Core.Path.{sym}
use native.Mathlib.Omega.{arith}
use Rattle.text.proofs.Numbers.{four-digits, more-digits, four-length, more-length}
use Rattle.text.proofs.Writes.{then, same_text, kept}
use Rattle.text.proofs.write_number.Goals as goal

pub write_four-requires : goal.write_four-requires
write_four-requires c = record { v_bound = c.if-v-lt10000.true; at_in_bounds = omega (arith, four-length c.args.v c.if-v-lt1000.false c.if-v-lt10000.true, c.requires) }

pub returns-then-v-lt10000 : goal.returns-then-v-lt10000
returns-then-v-lt10000 c = same_text (sym (four-digits c.args.v c.if-v-lt1000.false c.if-v-lt10000.true)) c.write_four.ensures

pub write_middle-n-requires : goal.write_middle-n-requires
write_middle-n-requires c = record { v_bound = omega arith; v_in_bounds = omega (arith, more-length c.args.v c.if-v-lt10000.false, c.requires) }

pub write_four-requires-2 : goal.write_four-requires-2
write_four-requires-2 c =
    let w = c.write_middle-n.ensures in
    record { v_bound = omega arith; at_in_bounds = omega (arith, more-length c.args.v c.if-v-lt10000.false, c.requires, w.next, kept w) }

pub returns : goal.returns
returns c = same_text (sym (more-digits c.args.v c.if-v-lt10000.false)) (then c.write_middle-n.ensures c.write_four-2.ensures)
