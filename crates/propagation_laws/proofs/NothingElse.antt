-- That the line rule of code 7 changes nothing but the one entrant who is left.
use mathlib.Core.Path.{◌≡◌}
use Prim.Native.Nat.{ℕ, ◌-◌, ◌≤◌}
use mathlib.Core.List.{List}
use lib.ListN.{length}
use Rattle.model.specs.declared.Group.{Group}
use Rattle.model.specs.Words.{bit}
use Rattle.model.specs.Model.{group_at}

-- e is settled in a group: fixed, or not possible
abbrev pub SettledIn : ℕ → Group → Type 0
SettledIn e r = bit e r.possible ≤ bit e r.fixed

-- nothing else changes: t before, u after, w the one left, f and g the numbers of the two groups
pub record NothingElse (w f g : ℕ) (t u : List Group) : Type 0 where
  -- other groups
  pub groups : (k : ℕ) → (k - 1 ≡ f - 1 → ⊥) → (k - 1 ≡ g - 1 → ⊥) → group_at u k ≡ group_at t k
  pub size : length u ≡ length t
  -- limits
  pub low : (k : ℕ) → (group_at u k).low ≡ (group_at t k).low
  pub high : (k : ℕ) → (group_at u k).high ≡ (group_at t k).high
  -- other entrants
  pub fixed : (e k : ℕ) → bit e w ≡ 0 → bit e (group_at u k).fixed ≡ bit e (group_at t k).fixed
  pub possible : (e k : ℕ) → bit e w ≡ 0 → bit e (group_at u k).possible ≡ bit e (group_at t k).possible
  -- nobody is fixed but where he is barred in the other group, or barred but where he is fixed in the other
  pub fixed-first : (e : ℕ) → bit e (group_at t g).possible ≡ 1 → bit e (group_at u f).fixed ≡ bit e (group_at t f).fixed
  pub barred-first : (e : ℕ) → bit e (group_at t g).fixed ≡ 0 → bit e (group_at u f).possible ≡ bit e (group_at t f).possible
  pub fixed-second : (e : ℕ) → bit e (group_at t f).possible ≡ 1 → bit e (group_at u g).fixed ≡ bit e (group_at t g).fixed
  pub barred-second : (e : ℕ) → bit e (group_at t f).fixed ≡ 0 → bit e (group_at u g).possible ≡ bit e (group_at t g).possible
  -- an entrant settled in both
  pub both : ((e : ℕ) → bit e w ≡ 1 → SettledIn e (group_at t f) × SettledIn e (group_at t g)) → u ≡ t
