-- `finish` ends a line of which a byte has come. Assumes nothing.
use mathlib.Core.Path.{sym, ◌∙◌}
use Rattle.lines.specs.Cut.{finishing, end_line}
use Rattle.lines.proofs.finish.Goals as goal

pub returns-then-at_start : goal.returns-then-at_start
unfolding finishing
returns-then-at_start c =
    let start = sym c.at_start.ensures ∙ c.if-at_start.true in
    record { value = rw start; values_after = rw start }

pub returns : goal.returns
unfolding finishing end_line
returns c =
    let inside = sym c.at_start.ensures ∙ c.if-at_start.false in
    let ended = c.end_line-end.ensures in
    record { value = rw (inside, ended.value); values_after = rw inside ended.values_after }
