-- `read_word` meets its contract. Assumes nothing.
use Rattle.std.proofs.Common.{ap, ◌∙◌}
use Rattle.model.specs.Sheet.{short_number}
use Rattle.loading.proofs.Words.{read-empty, minus-bad, minus-large, minus-word, plain-bad, plain_end, plain-large, plain_word, to_end}
use Rattle.loading.proofs.read_word.Goals as goal

pub returns-then-w-eq0 : goal.returns-then-w-eq0
returns-then-w-eq0 c = read-empty _ c.if-w-eq0.true

pub returns-in_default : goal.returns-in_default
returns-in_default c = minus-bad _ c.if-w-eq45.true _ (c.decimal.ensures ∙ ap short_number (to_end c.args.w.now 1)) c.in_default.is

pub returns-then-v-gt1000000 : goal.returns-then-v-gt1000000
returns-then-v-gt1000000 c = minus-large _ c.if-w-eq45.true _ (c.decimal.ensures ∙ ap short_number (to_end c.args.w.now 1)) _ c.in-Some.is c.if-v-gt1000000.true

pub returns-then-w-eq45 : goal.returns-then-w-eq45
returns-then-w-eq45 c = minus-word _ c.if-w-eq45.true _ (c.decimal.ensures ∙ ap short_number (to_end c.args.w.now 1)) _ c.in-Some.is

pub returns-in_default-decimal : goal.returns-in_default-decimal
returns-in_default-decimal c = plain-bad _ c.if-w-eq45.false _ c.decimal-2.ensures c.in_default-decimal.is

pub returns-then-v-eq0 : goal.returns-then-v-eq0
returns-then-v-eq0 c = plain_end _ c.if-w-eq45.false _ c.decimal-2.ensures _ c.in-Some-decimal.is c.if-v-eq0.true

pub returns-then-v-gt1000000-2 : goal.returns-then-v-gt1000000-2
returns-then-v-gt1000000-2 c = plain-large _ c.if-w-eq45.false _ c.decimal-2.ensures _ c.in-Some-decimal.is c.if-v-gt1000000-2.true

pub returns : goal.returns
returns c = plain_word _ c.if-w-eq45.false _ c.decimal-2.ensures _ c.in-Some-decimal.is c.if-v-eq0.false
