-- Laws of the limit steps: a limit that is there already, and what each kind of step has, every step of a code has. Assumes nothing.
use mathlib.Core.Path.{◌≡◌}
use Prim.Native.Nat.{ℕ, ◌≤◌, min, max}
use native.Mathlib.Omega.{arith}
use mathlib.Core.List.{List, [], ◌∷◌, ◌++◌, map}
use lib.ListN.{get_or, drop}
use Rattle.model.specs.declared.Group.{Group}
use Rattle.model.specs.LimitRules.{raised, lowered, low_at_least, high_at_most, high_at_most_sum, low_first, high_first, union_limits, limits_of}
use Rattle.model.proofs.Lists.{All, all_append, all_map, all-imp, all_get_d, all_drop}

pub raised-same : (v : ℕ) (g : Group) → v ≤ g.low → raised v g ≡ g
unfolding raised
raised-same v g h = let e : max g.low v ≡ g.low = omega arith in (λ i. record { fixed = g.fixed; possible = g.possible; low = e i; high = g.high })

pub lowered-same : (v : ℕ) (g : Group) → g.high ≤ v → lowered v g ≡ g
unfolding lowered
lowered-same v g h = let e : min g.high v ≡ g.high = omega arith in (λ i. record { fixed = g.fixed; possible = g.possible; low = g.low; high = e i })

-- every step of a code, where its groups are as each kind of step asks
module _ (P : (List Group → List Group) → Type 0) (In : ℕ → Type 0) (none : In 0)
    (low : (g f : ℕ) → In g → In f → P (low_at_least g f)) (high : (f g : ℕ) → In f → In g → P (high_at_most f g))
    (sum : (h : ℕ) (fs : List ℕ) → In h → All In fs → P (high_at_most_sum h fs)) where
  low-first : (f g : ℕ) → In f → In g → All P (low_first f g)
  unfolding low_first
  low-first f g i j = (low g f j i, (high f g i j, tt))

  high-first : (h f : ℕ) → In h → In f → All P (high_first h f)
  unfolding high_first
  high-first h f i j = (high h f i j, (low f h j i, tt))

  union-limits : (h : ℕ) (fs : List ℕ) → In h → All In fs → All P (union_limits h fs)
  unfolding union_limits
  union-limits h fs i k =
      all_append P (map (low_at_least h) fs ++ map (λ f. high_at_most f h) fs) (high_at_most_sum h fs ∷ [])
      (all_append P (map (low_at_least h) fs) (map (λ f. high_at_most f h) fs)
      (all_map P (low_at_least h) fs (all-imp In (λ f. P (low_at_least h f)) (λ f j. low h f i j) fs k))
      (all_map P (λ f. high_at_most f h) fs (all-imp In (λ f. P (high_at_most f h)) (λ f j. high f h j i) fs k)))
      (sum h fs i k, tt)

  pub all-limits : (code : ℕ) (gs : List ℕ) → All In gs → All P (limits_of code gs)
  unfolding limits_of
  all-limits code gs k =
      let at : (i : ℕ) → In (get_or gs i 0) = all_get_d In 0 none gs k in
      let a = get_or gs 0 0 in
      let b = get_or gs 1 0 in
      let c = get_or gs 2 0 in
      let union = union-limits a (drop 1 gs) (at 0) (all_drop In 1 gs k) in
      let rows : List (List (List Group → List Group)) =
      [] ∷ (low_first a b ++ low_first b a) ∷ low_first a b ∷ (high_first a b ++ high_first a c) ∷ union_limits a (drop 1 gs) ∷ high_first a b ∷ union_limits a (drop 1 gs) ∷ [] in
      all_get_d (All P) [] tt rows (
        tt,
        (
          all_append P (low_first a b) (low_first b a) (low-first a b (at 0) (at 1)) (low-first b a (at 1) (at 0)),
          (
            low-first a b (at 0) (at 1),
            (
              all_append P (high_first a b) (high_first a c) (high-first a b (at 0) (at 1)) (high-first a c (at 0) (at 2)),
              (union, (high-first a b (at 0) (at 1), (union, tt))),
            ),
          ),
        ),
      )
      code
