-- Laws of groups: the answers of one group's test, and the loops over the table. Assumes nothing.
use mathlib.Core.Path.{◌≡◌, sym, ap, ap₂, ◌∙◌}
use mathlib.Core.Bool.{Bool, true, false}
use mathlib.Core.List.{List, ◌∷◌, ◌++◌, map}
use Prim.Native.Nat.{ℕ, suc, ◌+◌, ◌-◌, ◌≤◌, ◌<◌}
use native.Mathlib.Omega.{arith}
use lib.Count.{ones}
use lib.ListN.{get_or, set, take, replicate}
use lib.Seq.{set_at, append_snoc, get_or-take}
use borrow.Author.Tests.{le-leb, lt-leb}
use Rattle.model.specs.declared.Group.{Group}
use Rattle.std.specs.List.{list_all}
use Rattle.model.specs.Lists.{range}
use Rattle.model.specs.Limits.{limits}
use Rattle.model.specs.Model.{zero_group, group_at}
use Rattle.model.specs.Totalizer.{shape}
use Rattle.model.specs.Cnf.{open_count, counted, first_variable, first_output}
use Rattle.model.specs.Solution.{set_of}
use Rattle.model.proofs.Words.{size-ones}
use Rattle.model.proofs.Lists.{values-append, values_length}
use Rattle.model.proofs.Loops.{range-goes, range-stops}
use Rattle.encoding_laws.specs.Division.{tree_clauses}
use Rattle.encoding_laws.proofs.Truth.{all_true}
use Rattle.solution.specs.Holds.{word_of, word_at, table_words, group_holds, group_holds_at}

-- ---- one group

module _ (a : List Bool) (g : Group) (w v o : ℕ) where
  pub too_few : ones w < g.low → false ≡ group_holds a g w v o
  unfolding group_holds
  too_few h = rw (size-ones w, lt-leb g.low (ones w) h)

  module _ (h : g.low ≤ ones w) where
    pub too_many_lem : g.high < ones w → false ≡ group_holds a g w v o
    unfolding group_holds
    too_many_lem k = rw (size-ones w, le-leb g.low (ones w) h, lt-leb (ones w) g.high k)

    module _ (k : ones w ≤ g.high) where
      pub no-tree : counted g ≡ false → true ≡ group_holds a g w v o
      unfolding group_holds
      no-tree e = rw (size-ones w, le-leb g.low (ones w) h, le-leb (ones w) g.high k, e)

      pub tree-decides : counted g ≡ true → (m : ℕ) → m ≡ open_count g → (b : Bool) → b ≡ all_true a (tree_clauses (shape m) v o) → b ≡ group_holds a g w v o
      unfolding group_holds
      tree-decides e m q b r =
          r ∙ ap (λ (k : ℕ). all_true a (tree_clauses (shape k) v o)) q
          ∙ rw (size-ones w, le-leb g.low (ones w) h, le-leb (ones w) g.high k, e)

-- ---- a place of the table

pub group-is : (t : List Group) (s i : ℕ) → i < s → get_or t i zero_group ≡ group_at (take s t) (1 + i)
unfolding group_at
group-is t s i h =
    let q : i ≡ 1 + i - 1 = omega arith in
    sym (get_or-take s t i zero_group h) ∙ ap (λ (k : ℕ). get_or (take s t) k zero_group) q

word-is : (d : List ℕ) (i : ℕ) → get_or d i 0 ≡ set_of d (1 + i)
unfolding set_of
word-is d i = ap (λ (k : ℕ). get_or d k 0) (omega arith)

-- ---- the words, from the front

module _ (n : ℕ) (a : List Bool) (t : List Group) where
  pub word-at : (i v x : ℕ) (g : Group) → g ≡ group_at t (1 + i) → v ≡ first_variable t (1 + i) → x ≡ word_of n a g v → x ≡ word_at n a t (1 + i)
  unfolding word_at
  word-at i v x g p q e = e ∙ ap₂ (word_of n a) p q

  pub words-next : (r : List ℕ) (i x : ℕ) → r ≡ table_words n a t i → i < limits.groups → x ≡ word_at n a t (1 + i) → set r i x ≡ table_words n a t (i + 1)
  unfolding table_words
  words-next r i x inv h e =
      let W = word_at n a t in
      let k : limits.groups - i ≡ suc (limits.groups - (i + 1)) = omega arith in
      let zs : List ℕ = replicate (limits.groups - (i + 1)) 0 in
      ap (λ (l : List ℕ). set l i x) (inv ∙ ap (λ (j : ℕ). map W (range 1 i) ++ replicate j 0) k)
      ∙ set_at (map W (range 1 i)) 0 zs x i (values_length W 1 i)
      ∙ ap (λ (y : ℕ). map W (range 1 i) ++ y ∷ zs) e
      ∙ sym (append_snoc (map W (range 1 i)) (W (1 + i)) zs)
      ∙ ap (λ (l : List ℕ). l ++ zs) (sym (values-append W 1 i 1))

-- ---- the test of each group, in order

module _ (a : List Bool) (t : List Group) (d : List ℕ) where
  pub holds_at : (i v o : ℕ) (g : Group) (b : Bool) → g ≡ group_at t (1 + i) → v ≡ first_variable t (1 + i) → o ≡ first_output t (1 + i)
      → b ≡ group_holds a g (get_or d i 0) v o → b ≡ group_holds_at a t d (1 + i)
  unfolding group_holds_at
  holds_at i v o g b p q r e = e ∙ ap₂ (λ (g : Group) (w : ℕ). group_holds a g w v o) p (word-is d i) ∙ ap₂ (group_holds a (group_at t (1 + i)) (set_of d (1 + i))) q r

  abbrev pub Rest : ℕ → ℕ → Type 0
  Rest s i = list_all (group_holds_at a t d) (range 1 s) ≡ list_all (group_holds_at a t d) (range (1 + i) (1 + s - (1 + i)))

  module _ (s i : ℕ) (inv : Rest s i) where
    pub rest-stops : (b : Bool) → b ≡ group_holds_at a t d (1 + i) → i < s → b ≡ false → false ≡ list_all (group_holds_at a t d) (range 1 s)
    rest-stops b e h f = sym (range-stops (group_holds_at a t d) (list_all (group_holds_at a t d) (range 1 s)) (1 + s) (1 + i) inv (omega arith) (sym e ∙ f))

    pub rest_goes : (b : Bool) → b ≡ group_holds_at a t d (1 + i) → i < s → b ≡ true → Rest s (i + 1)
    rest_goes b e h f =
        let q : 1 + i + 1 ≡ 1 + (i + 1) = omega arith in
        range-goes (group_holds_at a t d) (list_all (group_holds_at a t d) (range 1 s)) (1 + s) (1 + i) inv (omega arith) (sym e ∙ f)
        ∙ ap (λ (k : ℕ). list_all (group_holds_at a t d) (range k (1 + s - k))) q
