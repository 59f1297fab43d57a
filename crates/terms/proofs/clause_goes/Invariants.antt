-- `clause_goes` takes one term's length after the other from what is left. Assumes nothing.
use Rattle.std.proofs.Common.{◌≡◌, ◌+◌, ◌-◌, length, take, drop}
use Rattle.std.specs.List.{list_any, flat_map}
use Rattle.model.specs.Totalizer.{holds}
use Rattle.text.specs.Put.{term_text}
use Rattle.terms.specs.Terms.{clause_terms}
use Rattle.terms.proofs.clause_goes.Given as goal

abbrev pub invariant-loop-i : goal.invariant-loop-i
invariant-loop-i l =
    (list_any holds (clause_terms l.ns l.code l.count l.j) ≡ list_any holds (drop l.i (clause_terms l.ns l.code l.count l.j)))
    × (l.left + length (flat_map term_text (take l.i (clause_terms l.ns l.code l.count l.j))) ≡ l.len - l.at)
