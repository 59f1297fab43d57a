-- Laws of writes. Assumes nothing.
use mathlib.Core.Path.{◌≡◌, refl, ap, sym, ◌∙◌, subst}
use mathlib.Core.Bool.{Bool, true, cond}
use mathlib.Core.List.{List, [], ◌∷◌, ◌++◌, append_assoc, append-nil}
use Prim.Native.Nat.{ℕ, suc, ◌+◌, ◌-◌, ◌≤◌, ◌<◌}
use native.Mathlib.Nat.{add-zero, zero-add, add_assoc}
use native.Mathlib.Omega.{arith}
use native.Mathlib.Numerals.{add-one}
use native.Mathlib.Decide.{dec_le, le_ind}
use lib.ListN.{length, take, drop, set, length-set, length-append, length-drop, length-take, take-append-drop, drop_of_length-le}
use borrow.Author.Tests.{le-leb, lt-leb}
use borrow.Rule.Slice.PartMut.{put_mid}
use lib.Dec.{leb}
use lib.Seq.{take_all, drop_at, take_at, drop-drop, set_split}
use Rattle.std.specs.List.{flat_map}
use Rattle.model.specs.Lists.{range}
use Rattle.model.proofs.Lists.{each_append, range_last}
use Rattle.text.specs.Put.{over, Wrote, placed, place_after}

-- ---- a total writer

-- where there is room, it writes
pub wrote : {t xs ys : List ℕ} {a n : ℕ} → n ≡ place_after t a (length xs) → ys ≡ placed t a xs → a + length t ≤ length xs → Wrote t a xs ys n
unfolding placed place_after
wrote {t} {xs} {ys} {a} {n} p q h =
    let l : leb (a + length t) (length xs) ≡ true = le-leb (a + length t) (length xs) h in
    let e : n ≡ a + length t = p ∙ ap (λ (b : Bool). cond b (a + length t) a) l in
    record { next = e; inside = omega arith; bytes = q ∙ ap (λ (b : Bool). cond b (over a t xs) xs) l }

pub put : {t xs ys : List ℕ} {a n : ℕ} → Wrote t a xs ys n → (n ≡ place_after t a (length xs)) × (ys ≡ placed t a xs)
unfolding placed place_after
put {t} {xs} {ys} {a} {n} w =
    let l : leb (a + length t) (length xs) ≡ true = le-leb (a + length t) (length xs) (omega (arith, w.next, w.inside)) in
    (rw l w.next, rw l w.bytes)

-- where there is none, nothing changes
pub no_room_lem : (t xs : List ℕ) (a : ℕ) → length xs < a + length t → (a ≡ place_after t a (length xs)) × (xs ≡ placed t a xs)
unfolding placed place_after
no_room_lem t xs a h = (rw (lt-leb (a + length t) (length xs) h), rw (lt-leb (a + length t) (length xs) h))

-- ---- writes

-- the length stays
pub kept : {t xs ys : List ℕ} {a n : ℕ} → Wrote t a xs ys n → length ys ≡ length xs
kept {t} {xs} {ys} {a} {n} w =
    ap length w.bytes ∙ simp (length-append, length-take, length-drop) (omega (arith, w.next, w.inside))

-- nothing is written
pub done : (a : ℕ) (xs : List ℕ) → a ≤ length xs → Wrote [] a xs xs a
done a xs h = record { next = omega arith; inside = h; bytes = simp (append-nil, add-zero, take-append-drop) }

reach : {t xs ys : List ℕ} {a n : ℕ} → Wrote t a xs ys n → length (take a xs ++ t) ≡ n
reach w = simp (length-append, length-take) (omega (arith, w.next, w.inside))

-- the list before the place, and the one from it on, after a write
pub front : {t xs ys : List ℕ} {a n : ℕ} → Wrote t a xs ys n → take n ys ≡ take a xs ++ t
front {t} {xs} {ys} {a} {n} w = ap (take n) w.bytes ∙ take_at (take a xs ++ t) _ n (reach w)

pub rest : {t xs ys : List ℕ} {a n : ℕ} → Wrote t a xs ys n → drop n ys ≡ drop n xs
rest {t} {xs} {ys} {a} {n} w = ap (drop n) w.bytes ∙ drop_at (take a xs ++ t) _ n (reach w) ∙ ap (λ (m : ℕ). drop m xs) (sym w.next)

-- one write after another
pub then : {t s xs ys zs : List ℕ} {a n k : ℕ} → Wrote t a xs ys n → Wrote s n ys zs k → Wrote (t ++ s) a xs zs k
then {t} {s} {xs} {ys} {zs} {a} {n} {k} v w = record {
  next = rw length-append (omega (arith, v.next, w.next));
  inside = omega (arith, kept v, w.inside);
  bytes = w.bytes ∙ rw (front v, ← drop-drop (length s) n ys, rest v, drop-drop, append_assoc (take a xs) t s, length-append t s, ← add_assoc a (length t) (length s), v.next);
}

-- one byte
pub byte : (b n : ℕ) (ys : List ℕ) → n < length ys → Wrote (b ∷ []) n ys (set ys n b) (n + 1)
byte b n ys h = record { next = refl; inside = omega arith; bytes = rw (set_split ys n b h, add-one, append_assoc) }

-- one byte after what is written
pub snoc : {t xs ys : List ℕ} {a n : ℕ} (b : ℕ) → Wrote t a xs ys n → n < length ys → Wrote (t ++ b ∷ []) a xs (set ys n b) (n + 1)
snoc b w h = then w (byte b _ _ h)

-- two bytes, and three
pub two : (a b n : ℕ) (ys : List ℕ) → n + 2 ≤ length ys → Wrote (a ∷ b ∷ []) n ys (set (set ys n a) (n + 1) b) (n + 2)
two a b n ys h =
    let w = snoc b (byte a n ys (omega arith)) (rw length-set (omega arith)) in
    record { next = omega (arith, w.next); inside = h; bytes = w.bytes }

pub three : (a b d n : ℕ) (ys : List ℕ) → n + 3 ≤ length ys → Wrote (a ∷ b ∷ d ∷ []) n ys (set (set (set ys n a) (n + 1) b) (n + 2) d) (n + 3)
three a b d n ys h =
    let w = snoc d (two a b n ys (omega arith)) (simp length-set (omega arith)) in
    record { next = omega (arith, w.next); inside = h; bytes = w.bytes }

pub same_text : {t s xs ys : List ℕ} {a n : ℕ} → t ≡ s → Wrote t a xs ys n → Wrote s a xs ys n
same_text {t} {s} {xs} {ys} {a} {n} e w = rw e at w

-- the tail that is lent, and a write at its start seen from the whole
pub lent : (a : ℕ) (xs : List ℕ) → take (length xs - a) (drop a xs) ≡ drop a xs
lent a xs = take_all (length xs - a) (drop a xs) (omega (arith, length-drop a xs))

pub lent_length : (a : ℕ) (xs : List ℕ) → length (take (length xs - a) (drop a xs)) ≡ length xs - a
lent_length a xs = ap length (lent a xs) ∙ length-drop a xs

pub tail : {t xs zs : List ℕ} {n : ℕ} (a : ℕ) → a ≤ length xs → Wrote t 0 (take (length xs - a) (drop a xs)) zs n
    → Wrote t a xs (put_mid a (length xs - a) xs zs) (a + n)
tail {t} {xs} {zs} {n} a h w = record {
  next = omega (arith, w.next);
  inside = omega (arith, w.inside, lent_length a xs);
  bytes = rw (w.bytes, lent a xs, drop_of_length-le (drop a xs) {i = length xs - a} (omega (arith, length-drop a xs)), zero-add, drop-drop)
      (ap (λ (l : List ℕ). take a xs ++ l) (append-nil (t ++ drop (a + length t) xs)) ∙ sym (append_assoc (take a xs) t (drop (a + length t) xs)));
}

-- a total writer of nothing
pub nothing : (t xs : List ℕ) (a : ℕ) → t ≡ [] → (a ≡ place_after t a (length xs)) × (xs ≡ placed t a xs)
nothing t xs a e =
    subst (λ (u : List ℕ). (a ≡ place_after u a (length xs)) × (xs ≡ placed u a xs)) (sym e)
    (elim (dec_le a (length xs)) [ yes h ↦ put (done a xs h) | no h ↦ no_room_lem [] xs a (omega arith) ])

-- ---- a loop that writes f a, f (a + 1), ..

pub each_last : {A : Type 0} (f : ℕ → List A) (a k : ℕ) → flat_map f (range a (k + 1)) ≡ flat_map f (range a k) ++ f (a + k)
each_last f a k =
    ap (λ (n : ℕ). flat_map f (range a n)) (add-one k)
    ∙ ap (flat_map f) (range_last a k)
    ∙ each_append f (range a k) ((a + k) ∷ [])
    ∙ ap (λ l. flat_map f (range a k) ++ l) (append-nil (f (a + k)))

module _ (f : ℕ → List ℕ) (a : ℕ) where
  last-length : (k : ℕ) → length (flat_map f (range a (suc k))) ≡ length (flat_map f (range a k)) + length (f (a + k))
  last-length k =
      ap (λ (n : ℕ). length (flat_map f (range a n))) (sym (add-one k))
      ∙ ap length (each_last f a k)
      ∙ length-append (flat_map f (range a k)) (f (a + k))

  below : (k e : ℕ) → k < e → length (flat_map f (range a k)) + length (f (a + k)) ≤ length (flat_map f (range a e))
  below k e h =
      le_ind {n = suc k} (λ (m : ℕ). length (flat_map f (range a k)) + length (f (a + k)) ≤ length (flat_map f (range a m)))
      (omega (arith, last-length k)) (λ m hm ih. omega (arith, last-length m)) e h

  pub loop-turn : (k : ℕ) {xs ys zs : List ℕ} {at n m : ℕ} → Wrote (flat_map f (range a k)) at xs ys n → Wrote (f (a + k)) n ys zs m
      → Wrote (flat_map f (range a (k + 1))) at xs zs m
  loop-turn k v w = same_text (sym (each_last f a k)) (then v w)

  pub loop-room : (k e : ℕ) {xs ys : List ℕ} {at n : ℕ} → Wrote (flat_map f (range a k)) at xs ys n → k < e
      → at + length (flat_map f (range a e)) ≤ length xs → n + length (f (a + k)) ≤ length ys
  loop-room k e w h r = omega (arith, below k e h, kept w, w.next)

-- the same from 0 on
module _ (f : ℕ → List ℕ) (k : ℕ) where
  at-k : f (0 + k) ≡ f k
  at-k = ap f (zero-add k)

  pub turn : {xs ys zs : List ℕ} {at n m : ℕ} → Wrote (flat_map f (range 0 k)) at xs ys n → Wrote (f k) n ys zs m
      → Wrote (flat_map f (range 0 (k + 1))) at xs zs m
  turn v w = loop-turn f 0 k v (same_text (sym at-k) w)

  pub room : (e : ℕ) {xs ys : List ℕ} {at n : ℕ} → Wrote (flat_map f (range 0 k)) at xs ys n → k < e
      → at + length (flat_map f (range 0 e)) ≤ length xs → n + length (f k) ≤ length ys
  room e w h r = omega (arith, loop-room f 0 k e w h r, ap length at-k)
