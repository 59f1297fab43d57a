-- The text of the header's line, part by part. Assumes nothing.
use mathlib.Core.Path.{◌≡◌, sym, ap, ◌∙◌}
use mathlib.Core.List.{List, [], ◌∷◌, ◌++◌}
use Prim.Native.Nat.{ℕ, ◌+◌}
use native.Mathlib.Omega.{arith}
use lib.ListN.{length, length-append}
use Rattle.model.specs.declared.Model.{Model}
use Rattle.model.specs.Cnf.{variable_count, clause_count}
use Rattle.model.specs.Text.{decimal, header_text}

abbrev title : List ℕ
title = 112 ∷ 32 ∷ 99 ∷ 110 ∷ 102 ∷ 32 ∷ []

module _ (m : Model) (v c : ℕ) (p : v ≡ variable_count m) (q : c ≡ clause_count m) where
  pub header-text : (((title ++ decimal v) ++ (32 ∷ [])) ++ decimal c) ++ (10 ∷ []) ≡ header_text m
  unfolding header_text
  header-text = rw (p, q)

  pub header-length : length (header_text m) ≡ 6 + length (decimal v) + 1 + length (decimal c) + 1
  header-length = ap length (sym header-text) ∙ simp length-append (omega arith)
