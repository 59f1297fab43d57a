-- The blocks of a tree as those of its halves and its own, and a run of them. Assumes nothing.
use mathlib.Core.Path.{◌≡◌, refl, sym, ap, ◌∙◌}
use mathlib.Core.Bool.{true, false}
use mathlib.Core.List.{List, [], ◌++◌, append-nil}
use Prim.Native.Nat.{ℕ, ◌+◌, ◌-◌, ◌/◌, ◌≤◌, ◌<◌}
use native.Mathlib.Nat.{le_trans}
use native.Mathlib.Omega.{arith}
use native.Mathlib.Decide.{dec_lt}
use lib.ListN.{length}
use Rattle.std.specs.List.{flat_map}
use Rattle.model.specs.Lists.{range}
use Rattle.model.specs.Totalizer.{shape, root_output, tree_output_count}
use Rattle.text.specs.Put.{Wrote}
use Rattle.cnf.specs.Run.{Ran}
use Rattle.cnf.specs.Parts.{node_text, node_at, unit_text, tree_text, NoLonger}
use Rattle.cnf.proofs.Trees.{left_is, right_is, below-text, root-text, root-length}
use Rattle.cnf.proofs.Fits.{ran-full, ran-one, ran-from, ran-short, ran_then, ran-same}

-- ---- places: M is where the right half starts, N the node's own, E the end, y and z where the halves ended

least-left : (a b : ℕ) → a ≤ b → a - (a - b) ≡ a
least-left a b h = omega arith

least_right : (a b : ℕ) → b ≤ a → a - (a - b) ≡ b
least_right a b h = omega arith

least-most : (a b : ℕ) → a - (a - b) ≤ a
least-most a b = omega arith

-- a half was not done
short : (x y M E : ℕ) → x ≤ y → y < M → M < E → (y < x + (M - (M - E) - x)) × (M - (M - E) - x + (E - M) ≡ E - x)
short x y M E h l k = rw (least-left M E (omega arith)) (omega arith, omega arith)

-- both were gone through
joined : (x y M N E : ℕ) → x ≤ y → y ≤ x + (M - (M - E) - x) → M ≤ y → M ≤ N
    → (y ≡ x + (M - (M - E) - x)) × (M - (M - E) - x + (N - (N - E) - y) ≡ N - (N - E) - x)
joined x y M N E h t l k = go (dec_lt x M) (dec_lt E M)
  where
    reach : M ≤ E → M ≤ N - (N - E)
    reach e = omega arith

    left : (j : ℕ) → x < M → M ≤ j → y ≤ x + (M - x) → (y ≡ x + (M - x)) × (M - x + (j - y) ≡ j - x)
    left j a b c = (omega arith, omega arith)

    past : (i j : ℕ) → i ≤ M → M ≤ x → y ≤ x + (i - x) → (y ≡ x + (i - x)) × (i - x + (j - y) ≡ j - x)
    past i j a b c = (omega arith, omega arith)

    go : Dec (x < M) → Dec (E < M) → (y ≡ x + (M - (M - E) - x)) × (M - (M - E) - x + (N - (N - E) - y) ≡ N - (N - E) - x)
    go (yes a) (yes b) = let c : y ≤ x + (E - x) = rw (least_right M E (omega arith)) at t in absurd (omega (arith, c))
    go (yes a) (no b) =
        let c : y ≤ x + (M - x) = rw (least-left M E (omega arith)) at t in
        rw (least-left M E (omega arith)) (left (N - (N - E)) a (reach (omega arith)) c)
    go (no a) b = past (M - (M - E)) (N - (N - E)) (least-most M E) (omega arith) t

-- the node's own is next
own : (x z N E : ℕ) → z ≤ x + (N - (N - E) - x) → N ≤ z → N < E → E ≤ N + 1 → x < E
    → (z ≡ N) × (z ≡ x + (N - (N - E) - x)) × (N - (N - E) - x + 1 ≡ E - x)
own x z N E t l h k s =
    let c : z ≤ x + (N - x) = rw (least-left N E (omega arith)) at t in
    rw (least-left N E (omega arith)) (omega arith, omega arith, omega arith)

under : (i y k N : ℕ) → y ≤ i → i < y + (k - y) → k ≤ N → i < N
under i y k N h l t = omega arith

right_place : (i first a : ℕ) → 1 ≤ a → first + (a - 1) ≤ i → (i - (first + (a - 1)) ≡ i - first + 1 - a) × (a ≤ i - first + 1)
right_place i first a h l = (omega arith, omega arith)

right_last : (i first m : ℕ) → 2 ≤ m → first ≤ i → i < first + (m - 2) → i - first + 2 < m
right_last i first m h l k = omega arith

halves-before : (m : ℕ) → 2 ≤ m → m / 2 - 1 ≤ m - 2
halves-before m h = omega arith

add-le : (f : ℕ) {a b : ℕ} → a ≤ b → f + a ≤ f + b
add-le f h = omega arith

one_more : (f m : ℕ) → 2 ≤ m → f + (m - 1) ≤ f + (m - 2) + 1
one_more f m h = omega arith

added : (f n : ℕ) → f + n - f ≡ n
added f n = omega arith

-- ---- a block is its node's clauses; in the root's the units follow

module _ (m v o L U : ℕ) where
  pub below-is : (k : ℕ) → k + 2 < m → node_text (node_at m v o k) ≡ tree_text m v o L U k
  unfolding tree_text
  below-is k h = below-text m v o L U k h

  module _ (k first : ℕ) (e : first ≡ root_output (shape m) v o) (h : k + 2 ≡ m) where
    pub own_is : (node_text (node_at m v o k) ++ flat_map (unit_text true first) (range 0 L)) ++ flat_map (unit_text false first) (range U (m - U)) ≡ tree_text m v o L U k
    unfolding tree_text
    own_is = root-text m v o L U k first e h

    pub own-length : length (tree_text m v o L U k)
        ≡ length (node_text (node_at m v o k)) + length (flat_map (unit_text true first) (range 0 L)) + length (flat_map (unit_text false first) (range U (m - U)))
    unfolding tree_text
    own-length = root-length m v o L U k first e h

-- a half has no units
plain : (m v o k : ℕ) → k + 2 ≤ m → node_text (node_at m v o k) ≡ tree_text m v o 0 m k
plain m v o k h = go (dec_lt (k + 2) m)
  where
    go : Dec (k + 2 < m) → node_text (node_at m v o k) ≡ tree_text m v o 0 m k
    go (yes l) = below-is m v o 0 m k l
    go (no l) =
        let r = root_output (shape m) v o in
        let z : m - m ≡ 0 = omega arith in
        sym (append-nil (node_text (node_at m v o k)))
        ∙ sym (append-nil (node_text (node_at m v o k) ++ []))
        ∙ ap (λ (n : ℕ). (node_text (node_at m v o k) ++ []) ++ flat_map (unit_text false r) (range m n)) (sym z)
        ∙ own_is m v o 0 m k r refl (omega arith)

module _ (m v o L U : ℕ) (two : 2 ≤ m) where
  pub left-text : (k : ℕ) → k + 1 < m / 2 → tree_text (m / 2) v o 0 (m / 2) k ≡ tree_text m v o L U k
  left-text k h =
      sym (plain (m / 2) v o k (omega arith))
      ∙ ap node_text (left_is m v o _ _ _ _ two refl refl refl refl k h)
      ∙ below-is m v o L U k (omega arith)

  pub right-text : (p k : ℕ) → p ≡ o + tree_output_count (m / 2) → m / 2 ≤ k + 1 → k + 2 < m
      → tree_text (m - m / 2) (v + m / 2) p 0 (m - m / 2) (k + 1 - m / 2) ≡ tree_text m v o L U k
  right-text p k e l h =
      sym (plain (m - m / 2) (v + m / 2) p (k + 1 - m / 2) (omega arith))
      ∙ ap node_text (right_is m v o p _ _ _ two e refl refl refl k l h)
      ∙ below-is m v o L U k h

  -- so none of a half's is longer
  pub left-longer : (most : ℕ) → NoLonger most m v o L U → NoLonger most (m / 2) v o 0 (m / 2)
  left-longer most h k l = omega (arith, ap length (left-text k (omega arith)), h k (omega arith))

  pub right-longer : (most p : ℕ) → p ≡ o + tree_output_count (m / 2) → NoLonger most m v o L U → NoLonger most (m - m / 2) (v + m / 2) p 0 (m - m / 2)
  right-longer most p e h k l =
      let i : k + (m / 2 - 1) + 1 - m / 2 ≡ k = omega arith in
      let t = right-text p (k + (m / 2 - 1)) e (omega arith) (omega arith) in
      omega (arith, ap length t, ap (λ (j : ℕ). length (tree_text (m - m / 2) (v + m / 2) p 0 (m - m / 2) j)) i, h (k + (m / 2 - 1)) (omega arith))

  -- ---- a run

  module _ (first x end p : ℕ) (low : first ≤ x) (some : x < end) (high : end ≤ first + (m - 1)) (e : p ≡ o + tree_output_count (m / 2)) where
    abbrev middle : ℕ
    middle = first + (m / 2 - 1)

    abbrev last : ℕ
    last = first + (m - 2)

    abbrev least : ℕ → ℕ → ℕ
    least a b = a - (a - b)

    abbrev all : ℕ → List ℕ
    all i = tree_text m v o L U (i - first)

    abbrev lefts : ℕ → List ℕ
    lefts i = tree_text (m / 2) v o 0 (m / 2) (i - first)

    abbrev rights : ℕ → List ℕ
    rights i = tree_text (m - m / 2) (v + m / 2) p 0 (m - m / 2) (i - middle)

    half : 1 ≤ m / 2
    half = omega (arith, two)

    before : middle ≤ last
    before = add-le first (halves-before m two)

    top : end ≤ last + 1
    top = le_trans high (one_more first m two)

    from_first : last - first ≡ m - 2
    from_first = added first (m - 2)

    module _ {at y a i : ℕ} {xs ys : List ℕ} (ei : i ≡ least middle end) (u₀ : Ran lefts (i - x) x at xs ys y a) where
      u : Ran lefts (least middle end - x) x at xs ys y a
      u = rw ei at u₀

      left-ran : Ran all (least middle end - x) x at xs ys y a
      left-ran = ran-same lefts all (λ i g h. left-text (i - first) (omega arith)) u

      -- the left half was not done, or no more is asked for
      pub ran-left : y < middle → Ran all (end - x) x at xs ys y a
      ran-left h = go (dec_lt middle end)
        where
          go : Dec (middle < end) → Ran all (end - x) x at xs ys y a
          go (yes l) = let t = short x y middle end (ran-from lefts u).0 h l in ran-short all left-ran (end - middle) (end - x) t.0 t.1
          go (no l) = let k = least_right middle end (omega arith) in rw k at left-ran

      module _ {z b j : ℕ} {zs : List ℕ} (h : middle ≤ y) (ej : j ≡ least last end) (w₀ : Ran rights (j - y) y a ys zs z b) where
        w : Ran rights (least last end - y) y a ys zs z b
        w = rw ej at w₀

        right-ran : Ran all (least last end - y) y a ys zs z b
        right-ran =
            ran-same rights all
            (λ i g l.
            (let t = right_place i first (m / 2) half (le_trans h g) in
            let f : first ≤ i = le_trans (le_trans low (ran-from lefts u).0) g in
            ap (λ (n : ℕ). tree_text (m - m / 2) (v + m / 2) p 0 (m - m / 2) n) t.0
            ∙ right-text p (i - first) e t.1 (right_last i first m two f (under i y (least last end) last g l (least-most last end)))))
            w

        both : (y ≡ x + (least middle end - x)) × (least middle end - x + (least last end - y) ≡ least last end - x)
        both = joined x y middle last end (ran-from lefts u).0 (ran-from lefts u).1 h before

        both-ran : Ran all (least last end - x) x at xs zs z b
        both-ran = ran_then all left-ran (least last end - y) (least last end - x) both.0 both.1 right-ran

        -- the right half was not done
        pub ran-right : z < last → Ran all (end - x) x at xs zs z b
        ran-right l = go (dec_lt last end)
          where
            go : Dec (last < end) → Ran all (end - x) x at xs zs z b
            go (yes n) = let t = short x z last end (ran-from all both-ran).0 l n in ran-short all both-ran (end - last) (end - x) t.0 t.1
            go (no n) = let k = least_right last end (omega arith) in rw k at both-ran

        -- the node's own is not asked for
        pub ran-halves : end ≤ last → Ran all (end - x) x at xs zs z b
        ran-halves n = let k = least_right last end n in rw k at both-ran

        module _ (l : last ≤ z) (n : last < end) where
          due : (z ≡ last) × (z ≡ x + (least last end - x)) × (least last end - x + 1 ≡ end - x)
          due = own x z last end (ran-from all both-ran).1 l n top some

          pub own-place : z ≡ last
          own-place = due.0

          own-number : z - first ≡ m - 2
          own-number = ap (λ (i : ℕ). i - first) due.0 ∙ from_first

          own-text : tree_text m v o L U (m - 2) ≡ all z
          own-text = ap (tree_text m v o L U) (sym own-number)

          -- it was written
          pub ran-own : {q r : ℕ} {ws : List ℕ} → Wrote (tree_text m v o L U (m - 2)) b zs ws r → q ≡ z + 1 → Ran all (end - x) x at xs ws q r
          ran-own t s = ran_then all both-ran 1 (end - x) due.1 due.2 (ran-one all (rw own-text at t) s)

          -- it does not fit
          pub ran-no-own : b ≤ length zs → length zs - b < length (tree_text m v o L U (m - 2)) → Ran all (end - x) x at xs zs z b
          ran-no-own i t = ran_then all both-ran 1 (end - x) due.1 due.2 (ran-full all 1 i (omega (arith, ap length own-text)))
