-- `put_constraint` writes the fields before the groups and the groups, and ends the line. Assumes nothing.
use mathlib.Core.Path.{◌≡◌, refl, sym, ap, ◌∙◌}
use Prim.Native.Nat.{ℕ, ◌+◌}
use mathlib.Core.Bool.{Bool, true, false, cond}
use mathlib.Core.List.{List, [], ◌∷◌, ◌++◌}
use native.Mathlib.Omega.{arith}
use lib.Dec.{eqb}
use lib.ListN.{length, take, length-append}
use Rattle.model.specs.declared.Constraint.{Constraint}
use Rattle.std.specs.List.{flat_map}
use Rattle.model.specs.Clauses.{member_count, groups_of}
use Rattle.model.specs.Text.{field_text}
use Rattle.model.specs.SheetText.{constraint_fields}
use Rattle.model.proofs.Lists.{each_append}
use Rattle.text.proofs.Writes.{kept, then, same_text}
use Rattle.sheet_writer.specs.Parts.{code_fields, constraint_text}
use Rattle.sheet_writer.proofs.Writes.{line-room, line-end}
use Rattle.sheet_writer.proofs.put_constraint.Goals as goal

-- the fields in two parts
module _ (x : Constraint) (k : ℕ) (e : k ≡ member_count x.code x.count) where
  abbrev front : List ℕ
  front = flat_map field_text (code_fields x.code x.count)

  abbrev members : List ℕ
  members = flat_map field_text (take k x.groups)

  joined : constraint_fields x ≡ code_fields x.code x.count ++ groups_of x
  unfolding constraint_fields
  joined = go (eqb x.code 6)
    where
      go : (six : Bool) → ◌≡◌ {A = List ℕ} (3 ∷ x.code ∷ cond six (x.count ∷ groups_of x) (groups_of x)) (3 ∷ x.code ∷ (cond six (x.count ∷ []) [] ++ groups_of x))
      go true = refl
      go false = refl

  parts : flat_map field_text (constraint_fields x) ≡ front ++ members
  unfolding groups_of
  parts =
      ap (flat_map field_text) joined
      ∙ each_append field_text (code_fields x.code x.count) (groups_of x)
      ∙ ap (λ (i : ℕ). front ++ flat_map field_text (take i x.groups)) (sym e)

  size : length (constraint_text x) ≡ length front + length members + 1
  size = line-room (constraint_fields x) ∙ ap (λ (i : ℕ). i + 1) (ap length parts ∙ length-append front members)

pub put_code-i-requires : goal.put_code-i-requires
put_code-i-requires c = omega (arith, c.requires.c_in_bounds, size c.args.c.now _ c.member_count-k.ensures)

pub put_fields-j-requires : goal.put_fields-j-requires
put_fields-j-requires c =
    let e = c.member_count-k.ensures in
    let w = c.put_code-i.ensures in
    omega (arith, c.requires.c_in_bounds, size c.args.c.now _ e, w.next, kept w)

pub bounds-buf-j : goal.bounds-buf-j
bounds-buf-j c =
    let v = c.put_code-i.ensures in
    let w = c.put_fields-j.ensures in
    omega (arith, c.requires.c_in_bounds, size c.args.c.now _ c.member_count-k.ensures, v.next, kept v, w.next, kept w)

pub returns : goal.returns
returns c =
    line-end (constraint_fields c.args.c.now)
    (same_text (sym (parts c.args.c.now _ c.member_count-k.ensures)) (then c.put_code-i.ensures c.put_fields-j.ensures))
    ((let v = c.put_code-i.ensures in let w = c.put_fields-j.ensures in omega (arith, c.requires.c_in_bounds, size c.args.c.now _ c.member_count-k.ensures, v.next, kept v, w.next, kept w)))
