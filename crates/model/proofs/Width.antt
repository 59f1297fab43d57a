-- How many groups a sheet may have, by its entrants. Assumes nothing.
use mathlib.Core.Path.{◌≡◌}
use mathlib.Core.Bool.{Bool, true, false, cond}
use Prim.Native.Nat.{ℕ, ◌≤◌, ◌<◌}
use native.Mathlib.Omega.{arith}
use borrow.Author.Tests.{le-leb, lt-leb}
use lib.Dec.{leb}
use Rattle.model.specs.Limits.{limits, groups_for}

-- never more than a sheet may have at all
pub groups_for_lem : (n : ℕ) → groups_for n ≤ limits.groups
unfolding groups_for
groups_for_lem n = go (leb n limits.narrow)
  where
    go : (b : Bool) → cond b limits.groups limits.wide ≤ limits.groups
    go true = omega arith
    go false = omega arith

pub groups-narrow : (n : ℕ) → n ≤ limits.narrow → groups_for n ≡ limits.groups
unfolding groups_for
groups-narrow n h = rw (le-leb n limits.narrow h)

pub groups-wide : (n : ℕ) → limits.narrow < n → groups_for n ≡ limits.wide
unfolding groups_for
groups-wide n h = rw (lt-leb n limits.narrow h)

-- a number of groups beside the most that may be had, however that was worked out
pub over : {x s y : ℕ} → x < s → x ≡ y → leb s y ≡ false
over {x} {s} {y} h e = lt-leb s y (omega arith)

pub under : {x s y : ℕ} → s ≤ x → x ≡ y → leb s y ≡ true
under {x} {s} {y} h e = le-leb s y (omega arith)
