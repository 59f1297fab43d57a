-- `is_in_range` compares a field's number with its range. Assumes nothing.
use borrow.Author.Tests.{le-leb, lt-leb}
use Rattle.line_fault.specs.Fault.{in_range}
use Rattle.line_fault.proofs.is_in_range.Goals as goal

pub returns-then-v-r : goal.returns-then-v-r
unfolding in_range
returns-then-v-r c = rw (← c.field_range-r.ensures, ← c.number_at-v.ensures, lt-leb _ _ c.if-v-r.true)

pub returns : goal.returns
unfolding in_range
returns c = rw (← c.field_range-r.ensures, ← c.number_at-v.ensures, le-leb _ _ c.if-v-r.false)
