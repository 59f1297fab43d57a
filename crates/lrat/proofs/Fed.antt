-- The bytes fed so far keep what holds, and the slices their lengths. Assumes nothing.
use Rattle.std.proofs.Common.{◌≡◌, ℕ, List, length}
use Rattle.refutation.specs.declared.State.{State}
use Rattle.refutation.specs.Sound.{Keeps}

pub record Fed (s : State) (store index marks : List ℕ) (s' : State) (store' index' marks' : List ℕ) : Type 0 where
  pub kept : Keeps s store index marks s' store' index' marks'
  pub words : length store' ≡ length store
  pub numbers : length index' ≡ length index
  pub literals : length marks' ≡ length marks
