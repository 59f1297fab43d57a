-- Whatever the pieces, the reading and the values are those of the lines of all bytes that the space holds. Assumes nothing.
use Prim.Native.Nat.{ℕ, suc, ◌+◌, ◌-◌, ◌≤◌, ◌<◌, min}
use mathlib.Core.Path.{◌≡◌, refl, sym, ap, ◌∙◌}
use mathlib.Core.Bool.{Bool, true, false, cond, not, ◌&&◌}
use mathlib.Core.List.{List, [], ◌∷◌, ◌++◌, append_assoc, append-nil}
use native.Mathlib.Omega.{arith}
use borrow.Author.Tests.{eqb-true, eqb-false, leb-true, leb-false, ltb-true, ltb-false, lt-ltb, le-ltb}
use lib.Dec.{leb, ltb, eqb}
use lib.ListN.{length, take, drop, length-append, length-drop, length-set, take-append-drop, drop_of_length-le}
use lib.Seq.{take_all, take-nil, take-suc-set, take-append-le, set_out, drop-drop}
use native.Mathlib.Numerals.{add-one}
use Rattle.model.specs.declared.Reading.{Reading}
use Rattle.std.specs.List.{flat_map}
use Rattle.model.specs.Lists.{those}
use Rattle.model.specs.Sheet.{lines_of, on_first}
use Rattle.model.specs.Assignment.{line_read, values_after}
use Rattle.model.specs.Demand.{fresh_reading, reading_after, values_after_all}
use Rattle.lines.specs.declared.Cut.{Cut}
use Rattle.lines.specs.declared.Fed.{Fed}
use Rattle.lines.specs.Cut.{Cutting, cutting, line_end, values_at_end, kept_line, end_of, end_line, keep_byte, add_byte, cut_byte, cut_bytes, at_start, cut_end, byte_refusal, Feeding, stopped, feed_from, feeding, finishing}
use Rattle.lines.specs.Lines.{fresh_cut, cut_pieces, ended_lines, unfinished, fitting, ReadFrom}
use Rattle.lines.proofs.Cutting.{newline-cut, other_cut}

-- ---- pieces

pub cut-append : (xs ys : List ℕ) (s : Cutting) → cut_bytes (xs ++ ys) s ≡ cut_bytes ys (cut_bytes xs s)
cut-append [] ys s = refl
cut-append (b ∷ xs) ys s = cut-append xs ys (cut_byte b s)

pub cut-pieces : (ps : List (List ℕ)) (s : Cutting) → cut_pieces ps s ≡ cut_bytes (flat_map (λ p. p) ps) s
cut-pieces [] s = refl
cut-pieces (p ∷ ps) s = cut-pieces ps (cut_bytes p s) ∙ sym (cut-append p (flat_map (λ p. p) ps) s)

-- ---- what is kept of the unfinished line l

record Holds (room : ℕ) (l : List ℕ) (s : Cutting) : Type 0 where
  space : length s.space ≡ room
  held : s.cut.held ≡ min (length l) room
  long : s.cut.long ≡ ltb room (length l)
  kept : kept_line s ≡ take room l

module _ (room : ℕ) (l : List ℕ) (s : Cutting) (h : Holds room l s) where
  starts : Holds room [] (end_line s)
  unfolding end_line line_end
  starts = record { space = h.space; held = omega arith; long = sym (le-ltb room 0 (omega arith)); kept = sym (take-nil room) }

  adds : (b : ℕ) → Holds room (l ++ (b ∷ [])) (add_byte b s)
  unfolding add_byte keep_byte
  adds b = go (ltb (length l) room) refl
    where
      more : length (l ++ (b ∷ [])) ≡ length l + 1
      more = length-append l (b ∷ [])

      inside : length l < room → Holds room (l ++ (b ∷ [])) (add_byte b s)
      inside k =
          let fits : s.cut.held < length s.space = omega (arith, h.space, h.held) in
          rw (lt-ltb _ _ fits)
          (record {
            space = length-set s.space s.cut.held b ∙ h.space;
            held = omega (arith, h.held, more);
            long = h.long ∙ le-ltb room (length l) (omega arith) ∙ sym (le-ltb room _ (omega (arith, more)));
            kept =
                rw (add-one s.cut.held)
                (take-suc-set s.space s.cut.held b fits
                ∙ ap (λ (x : List ℕ). x ++ (b ∷ [])) (h.kept ∙ take_all room l (omega arith))
                ∙ sym (take_all room (l ++ (b ∷ [])) (omega (arith, more))));
          })

      past : room ≤ length l → Holds room (l ++ (b ∷ [])) (add_byte b s)
      past k =
          let full : length s.space ≤ s.cut.held = omega (arith, h.space, h.held) in
          rw (le-ltb _ _ full, set_out s.space s.cut.held b full)
          (record {
            space = h.space;
            held = omega (arith, h.held, more);
            long = sym (lt-ltb room _ (omega (arith, more)));
            kept = h.kept ∙ sym (take-append-le room l (b ∷ []) k);
          })

      go : (t : Bool) → ltb (length l) room ≡ t → Holds room (l ++ (b ∷ [])) (add_byte b s)
      go true e = inside (ltb-true _ _ e)
      go false e = past (ltb-false _ _ e)

-- ---- a line that ends

module _ (room : ℕ) (l : List ℕ) (ls : List (List ℕ)) where
  fits_line : leb (length l) room ≡ true → fitting room (l ∷ ls) ≡ l ∷ fitting room ls
  unfolding fitting
  fits_line e = rw (e, those)

  long-line : leb (length l) room ≡ false → fitting room (l ∷ ls) ≡ fitting room ls
  unfolding fitting
  long-line e = rw (e, those)

module _ (room : ℕ) (l : List ℕ) (s : Cutting) (h : Holds room l s) where
  abbrev reading : Reading
  reading = s.cut.reading

  -- one that the space holds is read
  read-line : length l ≤ room
      → ((end_line s).cut.reading ≡ (line_read reading l s.values).reading) × ((end_line s).values ≡ values_after reading l s.values)
  unfolding end_line line_end values_at_end
  read-line k =
      let whole = h.long ∙ le-ltb room (length l) k in
      let all = h.kept ∙ take_all room l k in
      (rw (whole, all), rw (whole, all))

  -- a longer one changes nothing
  pass-line : room < length l → ((end_line s).cut.reading ≡ reading) × ((end_line s).values ≡ s.values)
  unfolding end_line line_end values_at_end
  pass-line k = let long = h.long ∙ lt-ltb room (length l) k in (rw long, rw long)

  -- so what comes of lines after it comes of all of them from the state before it
  first-line : (ls : List (List ℕ))
      → (reading_after (fitting room (l ∷ ls)) reading s.values ≡ reading_after (fitting room ls) (end_line s).cut.reading (end_line s).values)
      × (values_after_all (fitting room (l ∷ ls)) reading s.values ≡ values_after_all (fitting room ls) (end_line s).cut.reading (end_line s).values)
  unfolding reading_after values_after_all
  first-line ls = go (leb (length l) room) refl
    where
      go : (t : Bool) → leb (length l) room ≡ t
          → (reading_after (fitting room (l ∷ ls)) reading s.values ≡ reading_after (fitting room ls) (end_line s).cut.reading (end_line s).values)
          × (values_after_all (fitting room (l ∷ ls)) reading s.values ≡ values_after_all (fitting room ls) (end_line s).cut.reading (end_line s).values)
      go true e =
          let r = read-line (leb-true _ _ e) in
          let f = fits_line room l ls e in
          (rw (f, r.0, r.1), rw (f, r.0, r.1))
      go false e =
          let p = pass-line (leb-false _ _ e) in
          let f = long-line room l ls e in
          (rw (f, p.0, p.1), rw (f, p.0, p.1))

-- ---- bytes: s is what the lines ls left of a reading and of values, and it holds the unfinished line l

record Stands (room : ℕ) (ls : List (List ℕ)) (l : List ℕ) (r : Reading) (v : List ℕ) (s : Cutting) : Type 0 where
  reading : s.cut.reading ≡ reading_after (fitting room ls) r v
  values : s.values ≡ values_after_all (fitting room ls) r v
  holds : Holds room l s

so_far : (room : ℕ) (bs l : List ℕ) (s : Cutting) → Holds room l s
    → Stands room (ended_lines l bs) (unfinished l bs) s.cut.reading s.values (cut_bytes bs s)
unfolding fitting reading_after values_after_all add_byte keep_byte
so_far room [] l s h = record { reading = refl; values = refl; holds = h }
so_far room (b ∷ bs) l s h = go (eqb b 10) refl (so_far room bs [] (end_line s) (starts room l s h)) (so_far room bs (l ++ (b ∷ [])) (add_byte b s) (adds room l s h b))
  where
    go : (t : Bool) → eqb b 10 ≡ t
        → Stands room (ended_lines [] bs) (unfinished [] bs) (end_line s).cut.reading (end_line s).values (cut_bytes bs (end_line s))
        → Stands room (ended_lines (l ++ (b ∷ [])) bs) (unfinished (l ++ (b ∷ [])) bs) (add_byte b s).cut.reading (add_byte b s).values (cut_bytes bs (add_byte b s))
        → Stands room (ended_lines l (b ∷ bs)) (unfinished l (b ∷ bs)) s.cut.reading s.values (cut_bytes bs (cut_byte b s))
    go true e ended more =
        let f = first-line room l s h (ended_lines [] bs) in
        rw (e, newline-cut b s (eqb-true b 10 e))
        (record { reading = ended.reading ∙ sym f.0; values = ended.values ∙ sym f.1; holds = ended.holds })
    go false e ended more = rw (e, other_cut b s (eqb-false b 10 e)) more

-- ---- the lines of all bytes: those that byte 10 ends, and a last one where bytes stand after it

last_line : List ℕ → List (List ℕ)
last_line [] = []
last_line (b ∷ bs) = (b ∷ bs) ∷ []

-- bytes in front of the first line
before : List ℕ → List (List ℕ) → List (List ℕ)
before l [] = last_line l
before l (x ∷ ls) = (l ++ x) ∷ ls

before-none : (ls : List (List ℕ)) → before [] ls ≡ ls
unfolding before last_line
before-none [] = refl
before-none (x ∷ ls) = refl

before_more : (l : List ℕ) (b : ℕ) (ls : List (List ℕ)) → before (l ++ (b ∷ [])) ls ≡ before l (on_first b ls)
unfolding before last_line
before_more l b (x ∷ ls) = ap (λ (y : List ℕ). y ∷ ls) (append_assoc l (b ∷ []) x)
before_more [] b [] = refl
before_more (a ∷ l) b [] = refl

split-lines : (bs l : List ℕ) → ended_lines l bs ++ last_line (unfinished l bs) ≡ before l (lines_of bs)
unfolding before
split-lines [] l = refl
split-lines (b ∷ bs) l = go (eqb b 10) refl (split-lines bs [] ∙ before-none (lines_of bs)) (split-lines bs (l ++ (b ∷ [])) ∙ before_more l b (lines_of bs))
  where
    go : (t : Bool) → eqb b 10 ≡ t → ended_lines [] bs ++ last_line (unfinished [] bs) ≡ lines_of bs
        → ended_lines (l ++ (b ∷ [])) bs ++ last_line (unfinished (l ++ (b ∷ [])) bs) ≡ before l (on_first b (lines_of bs))
        → ended_lines l (b ∷ bs) ++ last_line (unfinished l (b ∷ bs)) ≡ before l (lines_of (b ∷ bs))
    go true e ended more = rw (e, append-nil l, ended)
    go false e ended more = rw e more

-- ---- the end of the output

those-append : (room : ℕ) (xs ys : List (List ℕ)) → fitting room (xs ++ ys) ≡ fitting room xs ++ fitting room ys
unfolding fitting
those-append room [] ys = refl
those-append room (x ∷ xs) ys = go (leb (length x) room) (those-append room xs ys)
  where
    go : (t : Bool) → fitting room (xs ++ ys) ≡ fitting room xs ++ fitting room ys
        → elim t [ true ↦ x ∷ fitting room (xs ++ ys) | false ↦ fitting room (xs ++ ys) ]
        ≡ elim t [ true ↦ x ∷ fitting room xs | false ↦ fitting room xs ] ++ fitting room ys
    go true ih = ap (λ (l : List (List ℕ)). x ∷ l) ih
    go false ih = ih

reading-append : (xs ys : List (List ℕ)) (r : Reading) (v : List ℕ)
    → (reading_after (xs ++ ys) r v ≡ reading_after ys (reading_after xs r v) (values_after_all xs r v))
    × (values_after_all (xs ++ ys) r v ≡ values_after_all ys (reading_after xs r v) (values_after_all xs r v))
unfolding reading_after values_after_all
reading-append [] ys r v = (refl, refl)
reading-append (x ∷ xs) ys r v = reading-append xs ys (line_read r x v).reading (values_after r x v)

no_line : (room : ℕ) (s : Cutting) → Holds room [] s → cut_end s ≡ s
unfolding cut_end at_start
no_line room s h =
    let held : s.cut.held ≡ 0 = omega (arith, h.held) in
    let long = h.long ∙ le-ltb room 0 (omega arith) in
    rw (held, long)

one_line : (room b : ℕ) (bs : List ℕ) (s : Cutting) → Holds room (b ∷ bs) s → cut_end s ≡ end_line s
unfolding cut_end at_start
one_line room b bs s h = go (eqb s.cut.held 0) refl
  where
    go : (t : Bool) → eqb s.cut.held 0 ≡ t → cond (eqb s.cut.held 0 && not s.cut.long) s (end_line s) ≡ end_line s
    go true e =
        let none = eqb-true s.cut.held 0 e in
        let long = h.long ∙ lt-ltb room (length (b ∷ bs)) (omega (arith, h.held)) in
        rw (e, long)
    go false e = rw e

all_said : (room : ℕ) (ls : List (List ℕ)) (l : List ℕ) (r : Reading) (v : List ℕ) (s : Cutting) → Stands room ls l r v s
    → ((cut_end s).cut.reading ≡ reading_after (fitting room (ls ++ last_line l)) r v)
    × ((cut_end s).values ≡ values_after_all (fitting room (ls ++ last_line l)) r v)
unfolding last_line
all_said room ls [] r v s h = rw (no_line room s h.holds, append-nil ls) (h.reading, h.values)
all_said room ls (b ∷ bs) r v s h =
    let last = first-line room (b ∷ bs) s h.holds [] in
    let both = reading-append (fitting room ls) (fitting room ((b ∷ bs) ∷ [])) r v in
    rw (one_line room b bs s h.holds, those-append room ls ((b ∷ bs) ∷ []), both.0, both.1, sym h.reading, sym h.values)
    (unfold reading_after values_after_all fitting in (sym last.0, sym last.1))

-- ---- all of it: pieces from a fresh start

module _ (ps : List (List ℕ)) (space values : List ℕ) where
  abbrev bytes : List ℕ
  bytes = flat_map (λ p. p) ps

  abbrev pieces : Cutting
  pieces = cut_pieces ps (cutting fresh_cut space values)

  stands : Stands (length space) (ended_lines [] bytes) (unfinished [] bytes) fresh_reading values pieces
  unfolding fresh_cut
  stands =
      rw (cut-pieces ps (cutting fresh_cut space values))
      (so_far (length space) bytes [] (cutting fresh_cut space values)
      (record { space = refl; held = omega arith; long = sym (le-ltb (length space) 0 (omega arith)); kept = sym (take-nil (length space)) }))

  -- the reading and the values are those over the lines of all bytes so far, and the space holds what stands after the last byte 10
  pub lines-so-far : (pieces.cut.reading ≡ reading_after (fitting (length space) (ended_lines [] bytes)) fresh_reading values)
      × (pieces.values ≡ values_after_all (fitting (length space) (ended_lines [] bytes)) fresh_reading values)
      × (kept_line pieces ≡ take (length space) (unfinished [] bytes))
  lines-so-far = (stands.reading, stands.values, stands.holds.kept)

  -- and at the end over the lines of all bytes
  pub all_lines : ((cut_end pieces).cut.reading ≡ reading_after (fitting (length space) (lines_of bytes)) fresh_reading values)
      × ((cut_end pieces).values ≡ values_after_all (fitting (length space) (lines_of bytes)) fresh_reading values)
  all_lines =
      rw (sym (split-lines bytes [] ∙ before-none (lines_of bytes)))
      (all_said (length space) (ended_lines [] bytes) (unfinished [] bytes) fresh_reading values pieces stands)

-- ---- a call: it cuts the bytes that it used, at least one where there are any, and all where no line is refused

pub record Used (k : ℕ) (bs : List ℕ) (s : Cutting) (f : Feeding) : Type 0 where
  pub cut : f.answer.cut ≡ f.after.cut
  pub after : f.after ≡ cut_bytes (take (f.answer.used - k) bs) s
  pub least : k ≤ f.answer.used
  pub most : f.answer.used ≤ k + length bs
  pub some : 0 < length bs → k < f.answer.used
  pub whole : f.answer.refusal ≡ 0 → f.answer.used ≡ k + length bs

used-from : (k : ℕ) (bs : List ℕ) (s : Cutting) → Used k bs s (feed_from k bs s)
used-from k [] s = record {
  cut = refl;
  after = rw (take-nil (k - k));
  least = omega arith;
  most = omega arith;
  some = λ h. absurd (omega arith);
  whole = λ e. omega arith;
}
used-from k (b ∷ bs) s = go (eqb (byte_refusal b s) 0) refl (used-from (k + 1) bs (cut_byte b s))
  where
    go : (t : Bool) → eqb (byte_refusal b s) 0 ≡ t → Used (k + 1) bs (cut_byte b s) (feed_from (k + 1) bs (cut_byte b s)) → Used k (b ∷ bs) s (feed_from k (b ∷ bs) s)
    go true e u =
        let n : (feed_from (k + 1) bs (cut_byte b s)).answer.used - k ≡ suc ((feed_from (k + 1) bs (cut_byte b s)).answer.used - (k + 1)) =
        omega (arith, u.least) in
        rw e
        (record {
          cut = u.cut;
          after = rw n u.after;
          least = omega (arith, u.least);
          most = omega (arith, u.most);
          some = λ h. omega (arith, u.least);
          whole = λ z. omega (arith, u.whole z);
        })
    go false e u =
        let one : k + 1 - k ≡ 1 = omega arith in
        rw e
        (record {
          cut = refl;
          after = rw one;
          least = omega arith;
          most = omega arith;
          some = λ h. omega arith;
          whole = λ z. absurd (eqb-false (byte_refusal b s) 0 e z);
        })

pub used : (piece : List ℕ) (s : Cutting) → Used 0 piece s (feeding piece s)
used piece s = used-from 0 piece s

-- the end of the output, as the call makes it
pub finished : (s : Cutting) → ((finishing s).after ≡ cut_end s) × ((finishing s).answer.cut ≡ (cut_end s).cut)
unfolding finishing cut_end
finished s = go (at_start s.cut)
  where
    go : (t : Bool) → ((cond t (stopped s 0 0 0) (stopped (end_line s) 0 (end_of s).refusal s.cut.number)).after ≡ cond t s (end_line s))
        × ((cond t (stopped s 0 0 0) (stopped (end_line s) 0 (end_of s).refusal s.cut.number)).answer.cut ≡ (cond t s (end_line s)).cut)
    go true = (refl, refl)
    go false = (refl, refl)

-- ---- a caller that feeds a piece part by part: s is what stands after `at` bytes of it

pub record Part (piece : List ℕ) (first s : Cutting) (at : ℕ) : Type 0 where
  pub place : at ≤ length piece
  pub rest : cut_bytes piece first ≡ cut_bytes (drop at piece) s

pub part-first : (piece : List ℕ) (first : Cutting) → Part piece first first 0
part-first piece first = record { place = omega arith; rest = refl }

pub part-last : {piece : List ℕ} {first s : Cutting} {at : ℕ} → Part piece first s at → length piece ≤ at → cut_bytes piece first ≡ s
part-last {piece} {first} {s} {at} h past = h.rest ∙ ap (λ (bs : List ℕ). cut_bytes bs s) (drop_of_length-le piece past)

module _ {piece : List ℕ} {first s : Cutting} {at : ℕ} (h : Part piece first s at) (inside : at < length piece) where
  abbrev fed : Feeding
  fed = feeding (take (length piece - at) (drop at piece)) s

  lent : take (length piece - at) (drop at piece) ≡ drop at piece
  lent = take_all (length piece - at) (drop at piece) (omega (arith, length-drop at piece))

  fed-used : Used 0 (drop at piece) s fed
  fed-used = rw lent (used (drop at piece) s)

  pub part-moves : 0 < fed.answer.used
  part-moves = fed-used.some (omega (arith, length-drop at piece))

  pub part-inside : at + fed.answer.used ≤ length piece
  part-inside = omega (arith, fed-used.most, length-drop at piece)

  part-next : Part piece first fed.after (at + fed.answer.used)
  part-next =
      let u = fed.answer.used in
      let all : u - 0 ≡ u = omega arith in
      record {
        place = part-inside;
        rest =
            h.rest
            ∙ ap (λ (bs : List ℕ). cut_bytes bs s) (sym (take-append-drop u (drop at piece)))
            ∙ cut-append (take u (drop at piece)) (drop u (drop at piece)) s
            ∙ rw (drop-drop u at piece, fed-used.after, all);
      }

  -- what the call left
  pub part-more : (f : Fed) → f ≡ fed.answer → (space values : List ℕ) → space ≡ fed.after.space → values ≡ fed.after.values
      → Part piece first (cutting f.cut space values) (at + f.used)
  part-more f e space values p q = rw (e, p, q, fed-used.cut) part-next

-- what a caller has read, and what it has at the end
pub record Reads (space values : List ℕ) (s : Cutting) : Type 0 where
  pub bytes : List ℕ
  pub after : s ≡ cut_bytes bytes (cutting fresh_cut space values)

pub no_bytes : (space values : List ℕ) (c : Cut) → c ≡ fresh_cut → Reads space values (cutting c space values)
no_bytes space values c e = record { bytes = []; after = rw e }

pub more_bytes : {space values : List ℕ} {s : Cutting} → Reads space values s → (piece : List ℕ) (c : Cut) (l v : List ℕ) → c ≡ (cut_bytes piece s).cut
    → l ≡ (cut_bytes piece s).space → v ≡ (cut_bytes piece s).values → Reads space values (cutting c l v)
more_bytes {space} {values} h piece c l v p q r = record {
  bytes = h.bytes ++ piece;
  after = rw (p, q, r) (ap (cut_bytes piece) h.after ∙ sym (cut-append h.bytes piece (cutting fresh_cut space values)));
}

pub read-from : {space values : List ℕ} {s : Cutting} → Reads space values s → (f : Fed) (v : List ℕ) → f ≡ (finishing s).answer → v ≡ (finishing s).after.values
    → ReadFrom (length space) values v f.cut.reading
read-from {space} {values} {s} h f v p q =
    let e = all_lines (h.bytes ∷ []) space values in
    let nil = append-nil h.bytes in
    record {
      bytes = h.bytes;
      reading = ap (λ (x : Fed). x.cut.reading) p ∙ ap Cut.reading (finished s).1 ∙ rw h.after (rw nil at e.0);
      values = q ∙ ap Cutting.values (finished s).0 ∙ rw h.after (rw nil at e.1);
    }
