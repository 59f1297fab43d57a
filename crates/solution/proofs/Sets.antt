-- Laws of a group's word, entrant by entrant. Assumes nothing.
use mathlib.Core.Path.{◌≡◌, sym, ap, ◌∙◌}
use mathlib.Core.Bool.{Bool, true, false, cond}
use mathlib.Core.List.{List}
use Prim.Native.Nat.{ℕ, ◌+◌, ◌/◌, ◌%◌, ◌^◌}
use native.Mathlib.Numerals.{add-one}
use lib.Count.{ones}
use borrow.Author.Tests.{eq-eqb, ne_eqb}
use Rattle.model.specs.declared.Group.{Group}
use Rattle.model.specs.Words.{bit, has, word_where}
use Rattle.model.specs.Cnf.{open_of}
use Rattle.model.specs.Close.{truth}
use Rattle.model.proofs.Words.{size-ones}
use Rattle.solution.specs.Holds.{in_group, word_of}

-- ---- an entrant of a group

module _ (a : List Bool) (g : Group) (v e : ℕ) where
  pub in-fixed : g.fixed / 2 ^ e % 2 ≡ 1 → true ≡ in_group a g v e
  unfolding has bit
  in-fixed h = rw (eq-eqb (g.fixed / 2 ^ e % 2) 1 h)

  module _ (n : g.fixed / 2 ^ e % 2 ≡ 1 → ⊥) where
    pub in-open : (o : ℕ) → o ≡ open_of g → o / 2 ^ e % 2 ≡ 1 → (d : ℕ) → d ≡ 2 ^ e → (b : Bool) → b ≡ truth a (v + ones (o % d)) → b ≡ in_group a g v e
    unfolding has bit
    in-open o p h d q b k =
        rw p at k ∙ ap (λ (x : ℕ). truth a (v + ones (open_of g % x))) q
        ∙ ap (λ (x : ℕ). truth a (v + x)) (sym (size-ones (open_of g % 2 ^ e)))
        ∙ rw (ne_eqb (g.fixed / 2 ^ e % 2) 1 n, eq-eqb (open_of g / 2 ^ e % 2) 1 (rw p at h))

    pub in-none : (o : ℕ) → o ≡ open_of g → (o / 2 ^ e % 2 ≡ 1 → ⊥) → false ≡ in_group a g v e
    unfolding has bit
    in-none o p h = rw (ne_eqb (g.fixed / 2 ^ e % 2) 1 n, ne_eqb (open_of g / 2 ^ e % 2) 1 (rw p at h))

-- one entrant more
pub word_next : (a : List Bool) (g : Group) (v e : ℕ) → word_of (e + 1) a g v ≡ word_of e a g v + cond (in_group a g v e) (2 ^ e) 0
unfolding word_of word_where
word_next a g v e = ap (λ (k : ℕ). word_where (in_group a g v) k) (add-one e)
