-- `put_three` writes the clause of three terms in the rest of a buffer, where there is room. Assumes nothing.
use mathlib.Core.Path.{sym, ◌∙◌}
use mathlib.Core.List.{List, [], ◌∷◌}
use Prim.Native.Nat.{◌+◌}
use native.Mathlib.Omega.{arith}
use borrow.Author.Tests.{leb-true, leb-false}
use lib.ListN.{length}
use Rattle.model.specs.declared.Term.{Term}
use Rattle.std.specs.List.{flat_map}
use Rattle.text.proofs.Writes.{put, no_room_lem, nothing, tail, same_text}
use Rattle.text.specs.Put.{term_text, kept_text}
use Rattle.text.proofs.Clauses.{live, live-length, dead}
use Rattle.text.proofs.put_three.Goals as goal

pub returns-then-one_true : goal.returns-then-one_true
returns-then-one_true c =
    let ts : List Term = c.args.x ∷ c.args.y ∷ c.args.z ∷ [] in
    let both = nothing (kept_text ts) c.args.buf.now c.args.at (dead ts (sym c.one_true.ensures ∙ c.if-one_true.true)) in
    record { value = both.0; buf_after = both.1 }

pub returns-then-three_fits : goal.returns-then-three_fits
returns-then-three_fits c =
    let ts : List Term = c.args.x ∷ c.args.y ∷ c.args.z ∷ [] in
    let h = leb-true (c.args.at + (length (flat_map term_text ts) + 2)) (length c.args.buf.now) (sym c.three_fits.ensures ∙ c.if-three_fits.true) in
    let both = put (same_text (sym (live ts (sym c.one_true.ensures ∙ c.if-one_true.false))) (tail c.args.at (omega (arith, h)) c.write_three-n.ensures)) in
    record { value = both.0; buf_after = both.1 }

pub returns : goal.returns
returns c =
    let ts : List Term = c.args.x ∷ c.args.y ∷ c.args.z ∷ [] in
    let both = no_room_lem (kept_text ts) c.args.buf.now c.args.at
    (omega (
      arith,
      live-length ts (sym c.one_true.ensures ∙ c.if-one_true.false),
      leb-false (c.args.at + (length (flat_map term_text ts) + 2)) (length c.args.buf.now) (sym c.three_fits.ensures ∙ c.if-three_fits.false),
    )) in
    record { value = both.0; buf_after = both.1 }
