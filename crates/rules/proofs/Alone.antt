-- What is asked of code 7 depends on the sets alone. Assumes nothing.
use mathlib.Core.Path.{◌≡◌, sym, ap, ap₂, ◌∙◌}
use Prim.Native.Nat.{ℕ}
use mathlib.Core.Bool.{Bool, not, ◌&&◌}
use mathlib.Core.List.{List}
use lib.Bits.{bit_and, bit_or}
use lib.Dec.{eqb}
use lib.ListN.{get_or, length-map}
use Rattle.model.specs.declared.Group.{Group}
use Rattle.model.specs.declared.Constraint.{Constraint}
use Rattle.model.specs.Limits.{limits}
use Rattle.model.specs.Words.{less}
use Rattle.model.specs.Clauses.{is_difference}
use Rattle.model.specs.Model.{member_at}
use Rattle.model.specs.Difference.{unlike, unlike_in, may_differ}
use Rattle.table.specs.Table.{fixed_of, possible_of, Whole}
use Rattle.table.proofs.Fields.{field-same, zipped-length, zipped-sets}
use Rattle.rules.specs.Among.{MayDiffer}

module _ (c : Constraint) (t u : List Group) (d : fixed_of t ≡ fixed_of u) (e : possible_of t ≡ possible_of u) where
  unlike-same : unlike_in t c ≡ unlike_in u c
  unfolding unlike_in unlike member_at
  unlike-same =
      let p = field-same (λ x. x.possible) t u e in
      let f = field-same (λ x. x.fixed) t u d in
      let a = get_or c.groups 0 0 in
      let b = get_or c.groups 1 0 in
      ap₂ less (ap₂ bit_or (p a) (p b)) (ap₂ bit_and (f a) (f b))

  may-same : may_differ t c ≡ may_differ u c
  unfolding may_differ
  may-same = ap (λ (w : ℕ). not (is_difference c && eqb w 0)) unlike-same

-- so the answer is that of any table with these sets
pub whatever-limits : (r : Bool) (c : Constraint) (t : List Group) → Whole t → r ≡ may_differ t c → MayDiffer r (fixed_of t) (possible_of t) c
whatever-limits r c t w is l h a b =
    let f = length-map t (λ g. g.fixed) in
    let p = length-map t (λ g. g.possible) in
    let whole = zipped-length limits.groups (fixed_of t) (possible_of t) l h (f ∙ w) (p ∙ w) a b in
    let s = zipped-sets (fixed_of t) (possible_of t) l h (whole ∙ sym (f ∙ w)) (p ∙ sym f) in
    is ∙ may-same c t _ (sym s.0) (sym s.1)
