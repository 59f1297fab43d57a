-- One limit, the sum over a union's members, and the rounds of a union. Assumes nothing.
use mathlib.Core.Path.{◌≡◌, sym, ap, ◌∙◌}
use Prim.Native.Nat.{ℕ, ◌+◌, ◌-◌, ◌<◌, min, max}
use native.Mathlib.Numerals.{add-one}
use native.Mathlib.Omega.{arith}
use mathlib.Core.List.{List, [], ◌∷◌, ◌++◌, map}
use lib.ListN.{length, get_or, take}
use lib.Seq.{take-suc}
use Rattle.model.specs.declared.Group.{Group}
use Rattle.model.specs.Lists.{total, on_place}
use Rattle.model.specs.Model.{group_at}
use Rattle.model.specs.LimitRules.{raised, lowered, low_at_least, high_at_most, high_at_most_sum, union_limits}
use Rattle.model.specs.Propagate.{run}
use Rattle.model.proofs.Lists.{total-append}
use Rattle.table.proofs.Rules.{run-append}

pub raised_to : (v : ℕ) (g : Group) → g.low < v → record { fixed = g.fixed; possible = g.possible; low = v; high = g.high } ≡ raised v g
unfolding raised
raised_to v g h = let e : v ≡ max g.low v = omega arith in (λ i. record { fixed = g.fixed; possible = g.possible; low = e i; high = g.high })

pub lowered_to : (v : ℕ) (g : Group) → v < g.high → record { fixed = g.fixed; possible = g.possible; low = g.low; high = v } ≡ lowered v g
unfolding lowered
lowered_to v g h = let e : v ≡ min g.high v = omega arith in (λ i. record { fixed = g.fixed; possible = g.possible; low = g.low; high = e i })

-- one more of a sum
pub total_more : {A : Type 0} (value : A → ℕ) (xs : List A) (i : ℕ) (d : A) → i < length xs → total value (take (i + 1) xs) ≡ total value (take i xs) + value (get_or xs i d)
total_more value xs i d h =
    ap (total value) (ap (λ (n : ℕ). take n xs) (add-one i) ∙ take-suc xs i d h) ∙ total-append value (take i xs) (get_or xs i d ∷ []) ∙ (omega arith)

-- the three rounds
pub union_made : (h sum : ℕ) (fs : List ℕ) (t u v w : List Group) → u ≡ run (map (low_at_least h) fs) t → v ≡ run (map (λ f. high_at_most f h) fs) u
    → sum ≡ total (λ f. (group_at v f).high) fs → w ≡ on_place (h - 1) (lowered sum) v → w ≡ run (union_limits h fs) t
unfolding union_limits high_at_most_sum
union_made h sum fs t u v w a b s e =
    let low = map (low_at_least h) fs in
    let high = map (λ f. high_at_most f h) fs in
    e
    ∙ ap (λ (n : ℕ). on_place (h - 1) (lowered n) v) s
    ∙ ap (high_at_most_sum h fs) (b ∙ ap (run high) a ∙ sym (run-append low high t))
    ∙ sym (run-append (low ++ high) (high_at_most_sum h fs ∷ []) t)
