-- `write_three` writes three terms, a 0 and a newline. Assumes nothing.
use mathlib.Core.Path.{sym}
use mathlib.Core.List.{append_assoc}
use native.Mathlib.Omega.{arith}
use Rattle.text.proofs.Writes.{then, two, same_text, kept}
use Rattle.text.proofs.Clauses.{three-text, three-length}
use Rattle.text.proofs.write_three.Goals as goal

pub returns : goal.returns
returns c =
    rw append_assoc
    (then
    (same_text (sym (three-text c.args.x c.args.y c.args.z)) (then (then c.write_term-a.ensures c.write_term-b.ensures) c.write_term-c.ensures))
    (two _ _ _ _ (omega (arith, three-length c.args.x c.args.y c.args.z, kept c.write_term-a.ensures, kept c.write_term-b.ensures, kept c.write_term-c.ensures))))
