-- `words_form` judges the form of words. Invariant: the form of all is the form of those from place `at` on, after `count` literals. Assumes nothing.
use Prim.Native.Nat.{◌≤◌, ◌+◌, ◌-◌}
use mathlib.Core.Path.{◌≡◌}
use lib.ListN.{length, drop}
use Rattle.model.specs.Assignment.{words_of, say_words}
use Rattle.line_form.specs.Form.{form_from, form_after}
use Rattle.line_form.proofs.words_form.Given as goal

abbrev pub invariant-loop-at : goal.invariant-loop-at
invariant-loop-at l = (l.at ≤ length l.s) × (l.count ≤ l.at) × (form_from (say_words (words_of l.s)) ≡ form_after l.count (say_words (words_of (drop l.at l.s))))

abbrev pub decreases-loop-at : goal.decreases-loop-at
decreases-loop-at l = length l.s + 1 - l.at
