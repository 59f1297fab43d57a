-- `put_group` writes four fields and the marks, and ends the line. Assumes nothing.
use mathlib.Core.Path.{◌≡◌, sym, ap, ◌∙◌}
use Prim.Native.Nat.{ℕ, ◌+◌}
use mathlib.Core.List.{List, [], ◌∷◌, ◌++◌, map}
use native.Mathlib.Omega.{arith}
use lib.ListN.{length, length-append}
use Rattle.model.specs.declared.Group.{Group}
use Rattle.std.specs.List.{flat_map}
use Rattle.model.specs.Lists.{range}
use Rattle.model.specs.Text.{field_text}
use Rattle.model.specs.SheetText.{mark_of, group_fields, line_text}
use Rattle.model.proofs.Lists.{each_append, each_map}
use Rattle.text.proofs.Writes.{kept, then, same_text}
use Rattle.sheet_writer.proofs.Writes.{line-room, line-end}
use Rattle.sheet_writer.proofs.put_group.Goals as goal

-- the fields in two parts
module _ (n number : ℕ) (g : Group) where
  abbrev four : List ℕ
  four = flat_map field_text (2 ∷ number ∷ g.low ∷ g.high ∷ [])

  abbrev marks : List ℕ
  marks = flat_map (λ e. field_text (mark_of g e)) (range 0 n)

  parts : flat_map field_text (group_fields n number g) ≡ four ++ marks
  unfolding group_fields
  parts =
      each_append field_text (2 ∷ number ∷ g.low ∷ g.high ∷ []) (map (mark_of g) (range 0 n))
      ∙ ap (λ (l : List ℕ). four ++ l) (each_map field_text (mark_of g) (range 0 n))

  size : length (line_text (group_fields n number g)) ≡ length four + length marks + 1
  size = line-room (group_fields n number g) ∙ ap (λ (k : ℕ). k + 1) (ap length parts ∙ length-append four marks)

pub put_fields-j-requires : goal.put_fields-j-requires
put_fields-j-requires c = omega (arith, c.requires.g_in_bounds, size c.args.n c.args.number c.args.g.now)

pub put_marks-k-requires : goal.put_marks-k-requires
put_marks-k-requires c =
    let w = c.put_fields-j.ensures in
    record { n_le_entrants = c.requires.n_le_entrants; n_in_bounds = omega (arith, c.requires.g_in_bounds, size c.args.n c.args.number c.args.g.now, w.next, kept w) }

pub bounds-buf-k : goal.bounds-buf-k
bounds-buf-k c =
    let v = c.put_fields-j.ensures in
    let w = c.put_marks-k.ensures in
    omega (arith, c.requires.g_in_bounds, size c.args.n c.args.number c.args.g.now, v.next, kept v, w.next, kept w)

pub returns : goal.returns
returns c =
    line-end (group_fields c.args.n c.args.number c.args.g.now)
    (same_text (sym (parts c.args.n c.args.number c.args.g.now)) (then {t = four c.args.n c.args.number c.args.g.now} c.put_fields-j.ensures c.put_marks-k.ensures))
    ((let v = c.put_fields-j.ensures in let w = c.put_marks-k.ensures in omega (arith, c.requires.g_in_bounds, size c.args.n c.args.number c.args.g.now, v.next, kept v, w.next, kept w)))
