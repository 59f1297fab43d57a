-- `put_constraint` writes a constraint's clauses, entrant by entrant. Assumes nothing.
use mathlib.Core.List.{map}
use lib.ListN.{take}
use Rattle.std.specs.List.{flat_map}
use Rattle.model.specs.Lists.{range}
use Rattle.text.specs.Put.{Wrote}
use Rattle.terms.specs.Terms.{member_number}
use Rattle.cnf.specs.Parts.{entrant_text}
use Rattle.cnf.proofs.put_constraint.Given as goal

abbrev pub invariant-loop-e : goal.invariant-loop-e
invariant-loop-e l = Wrote (flat_map (λ i. entrant_text (map (member_number i) (take l.k l.ms)) l.code l.count) (range 0 l.e)) l.at l.initial.buf l.buf l.x
