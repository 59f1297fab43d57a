-- Texts one after the other make the message of them all. Assumes nothing.
use Prim.Native.Nat.{ℕ, ◌+◌, ◌^◌, ◌≤◌, ◌<◌}
use mathlib.Core.Path.{◌≡◌, refl, sym, ap, ap₂, ◌∙◌}
use mathlib.Core.Bool.{Bool, true, false, cond}
use mathlib.Core.List.{List, [], ◌∷◌, ◌++◌, append_assoc, append-nil}
use native.Mathlib.Omega.{arith}
use borrow.Author.Tests.{le-leb, leb-true}
use lib.Dec.{T, leb, eqb}
use lib.ListN.{length, drop, length-append, length-drop}
use lib.Seq.{take-append_seam, drop-append-add, drop-drop}
use Prim.Native.String.{String}
use Rattle.std.specs.List.{list_all}
use Rattle.model.specs.Text.{decimal}
use Rattle.model.proofs.Lists.{T_true, and_left, and_right}
use Rattle.encoding_laws.proofs.Decimal.{decimal-bound}
use Rattle.text.specs.Put.{placed, place_after}
use Rattle.text.proofs.Writes.{nothing}
use Rattle.report.specs.declared.Message.{Message}
use Rattle.report.specs.declared.Tried.{Tried}
use Rattle.report.specs.declared.Notice.{Notice}
use Rattle.report.specs.declared.Notice.TheVariants.{OutputNotWritten, ListingNotWritten, SheetNotWritten, GroupsTooLong, Sheet, FirstSheet, SecondSheet, AnswerUsage}
use Rattle.report.specs.Messages.{notice_text, bytes, zeros, message, Counted, added, meanings, text_at, meaning_text, reasons, reason_text, fault_starts, fault_start, fault_ends, fault_end, closed_text, tried_text, added_result, added_tried}

-- a text of no more bytes than a message has
message-length : (t : List ℕ) → length t ≤ 160 → length (t ++ drop (length t) zeros) ≡ 160
message-length t h = simp (length-append, length-drop) (omega arith)

pub then : (t u : List ℕ) → length t + length u ≤ 160 → added (message t) u ≡ message (t ++ u)
unfolding message added placed place_after
then t u h =
    let room : leb (length t + length u) 160 ≡ true = le-leb (length t + length u) 160 h in
    let k = message-length t (omega arith) in
    rw (k, room, length-append t u, take-append_seam t (drop (length t) zeros), drop-append-add t (drop (length t) zeros) (length u), drop-drop (length u) (length t) zeros)

-- no text
pub none : (m : Message) → m ≡ added m []
unfolding added
none m = let e = nothing [] m.bytes m.length refl in ap₂ (λ (k : ℕ) (l : List ℕ). record { length = k; bytes = l }) e.0 e.1

-- the texts of a table have up to `most` bytes
pub table-length : (most : ℕ) (es : List (ℕ × String)) (k : ℕ) → T (list_all (λ e. leb (length (bytes e.1)) most) es) → length (text_at es k) ≤ most
table-length most [] k h = omega arith
table-length most (e ∷ es) k h = go (eqb k e.0) (table-length most es k (and_right (leb (length (bytes e.1)) most) _ h))
  where
    go : (t : Bool) → length (text_at es k) ≤ most → length (cond t (bytes e.1) (text_at es k)) ≤ most
    go true rest = leb-true (length (bytes e.1)) most (T_true _ (and_left (leb (length (bytes e.1)) most) _ h))
    go false rest = rest

meaning-length : (refusal : ℕ) → length (meaning_text refusal) ≤ 116
unfolding meaning_text
meaning-length refusal = table-length 116 meanings refusal tt

reason_length : (reason : ℕ) → length (reason_text reason) ≤ 60
unfolding reason_text
reason_length reason = table-length 60 reasons reason tt

start-length : (fault : ℕ) → length (fault_start fault) ≤ 23
unfolding fault_start
start-length fault = table-length 23 fault_starts fault tt

end-length : (fault : ℕ) → length (fault_end fault) ≤ 27
unfolding fault_end
end-length fault = table-length 27 fault_ends fault tt

-- ---- a message that is built text by text: m says t, of up to k bytes

pub record Says (m : Message) (t : List ℕ) (k : ℕ) : Type 0 where
  pub text : k ≤ 160 → m ≡ message t
  pub short : length t ≤ k

pub start : {m : Message} → m ≡ message [] → Says m [] 0
start e = record { text = λ h. e; short = omega arith }

pub more : (u : List ℕ) (j : ℕ) → length u ≤ j → {m r : Message} {t : List ℕ} {k : ℕ} → r ≡ added m u → Says m t k → Says r (t ++ u) (k + j)
more u j h {m} {r} {t} {k} e s = record {
  text = λ room. e ∙ ap (λ (x : Message). added x u) (s.text (omega arith)) ∙ then t u (omega (arith, s.short));
  short = rw (length-append t u) (omega (arith, s.short));
}

pub add-text : (u : List ℕ) {m r : Message} {t : List ℕ} {k : ℕ} → r ≡ added m u → Says m t k → Says r (t ++ u) (k + length u)
add-text u = more u (length u) (omega arith)

pub add-decimal : (v : ℕ) → v < 2 ^ 32 → {m r : Message} {t : List ℕ} {k : ℕ} → r ≡ added m (decimal v) → Says m t k → Says r (t ++ decimal v) (k + 10)
add-decimal v h = more (decimal v) 10 (decimal-bound 9 v (omega arith))

-- a text that another function picks
pub picked : (u : List ℕ) (j : ℕ) → length u ≤ j → {m r : Message} {v t : List ℕ} {k : ℕ} → r ≡ added m v → v ≡ u → Says m t k → Says r (t ++ u) (k + j)
picked u j h {m} e p = more u j h (e ∙ ap (added m) p)

pub add-meaning : (x : ℕ) {m r : Message} {v t : List ℕ} {k : ℕ} → r ≡ added m v → v ≡ meaning_text x → Says m t k → Says r (t ++ meaning_text x) (k + 116)
add-meaning x = picked (meaning_text x) 116 (meaning-length x)

pub add-reason : (x : ℕ) {m r : Message} {v t : List ℕ} {k : ℕ} → r ≡ added m v → v ≡ reason_text x → Says m t k → Says r (t ++ reason_text x) (k + 60)
add-reason x = picked (reason_text x) 60 (reason_length x)

pub add-start : (x : ℕ) {m r : Message} {v t : List ℕ} {k : ℕ} → r ≡ added m v → v ≡ fault_start x → Says m t k → Says r (t ++ fault_start x) (k + 23)
add-start x = picked (fault_start x) 23 (start-length x)

pub add-end : (x : ℕ) {m r : Message} {v t : List ℕ} {k : ℕ} → r ≡ added m v → v ≡ fault_end x → Says m t k → Says r (t ++ fault_end x) (k + 27)
add-end x = picked (fault_end x) 27 (end-length x)

pub add-closed : (closed : Bool) {m r : Message} {v t : List ℕ} {k : ℕ} → r ≡ added m v → v ≡ closed_text closed → Says m t k → Says r (t ++ closed_text closed) (k + 11)
add-closed closed = picked (closed_text closed) 11 (short closed)
  where
    short : (b : Bool) → length (closed_text b) ≤ 11
    short true = unfold closed_text in omega arith
    short false = unfold closed_text in omega arith

pub add-notice : (x : Notice) {m r : Message} {v t : List ℕ} {k : ℕ} → r ≡ added m v → v ≡ notice_text x → Says m t k → Says r (t ++ notice_text x) (k + 39)
add-notice x = picked (notice_text x) 39 (short x)
  where
    short : (n : Notice) → length (notice_text n) ≤ 39
    short OutputNotWritten = unfold notice_text in omega arith
    short ListingNotWritten = unfold notice_text in omega arith
    short SheetNotWritten = unfold notice_text in omega arith
    short GroupsTooLong = unfold notice_text in omega arith
    short Sheet = unfold notice_text in omega arith
    short FirstSheet = unfold notice_text in omega arith
    short SecondSheet = unfold notice_text in omega arith
    short AnswerUsage = unfold notice_text in omega arith

pub said : {m : Message} {t : List ℕ} {k : ℕ} → k ≤ 160 → Says m t k → record { value : m ≡ message t; counted : Counted m }
unfolding message
said {m} {t} {k} h s =
    let here = take-append_seam t (drop (length t) zeros) in
    record { value = s.text h; counted = rw (s.text h) (rw (message-length t (omega (arith, s.short))) (omega (arith, s.short)), rw here) }

-- ---- texts that a test picks

pub same : {m : Message} {t u : List ℕ} {j k : ℕ} → t ≡ u → j ≤ k → Says m t j → Says m u k
same e h s = record { text = λ room. s.text (omega arith) ∙ ap message e; short = rw (sym e) (omega (arith, s.short)) }

module _ (x : Tried) (hr : x.room < 2 ^ 32) (hf : x.refusal < 2 ^ 32) (hl : x.length < 2 ^ 32) where
  add-result : {m r : Message} {t : List ℕ} {k : ℕ} → r ≡ added_result m x → Says m t k
      → Says r (t ++ cond (eqb x.refusal 0) (decimal x.length) (bytes "refused " ++ decimal x.refusal)) (k + 18)
  unfolding added_result
  add-result {m} {r} {t} {k} e s = go (eqb x.refusal 0) e
    where
      go : (b : Bool) → r ≡ cond b (added m (decimal x.length)) (added (added m (bytes "refused ")) (decimal x.refusal))
          → Says r (t ++ cond b (decimal x.length) (bytes "refused " ++ decimal x.refusal)) (k + 18)
      go true e = same refl (omega arith) (add-decimal x.length hl e s)
      go false e =
          same (append_assoc t (bytes "refused ") (decimal x.refusal)) (omega arith)
          (add-decimal x.refusal hf e (add-text (bytes "refused ") refl s))

  pub add-tried : {m r : Message} {t : List ℕ} {k : ℕ} → r ≡ added_tried m x → Says m t k → Says r (t ++ tried_text x) (k + 41)
  unfolding added_tried tried_text
  add-tried {m} {r} {t} {k} e s =
      same (simp append_assoc) (omega arith)
      (add-result e (add-text (bytes " bytes: ") refl (add-decimal x.room hr refl (add-text (bytes "; in ") refl s))))

pub add_none : {m : Message} {t : List ℕ} {k : ℕ} → Says m t k → Says m (t ++ []) k
add_none {t = t} s = same (sym (append-nil t)) (omega arith) s
