-- Laws of a draw's test: group by group, and a constraint by the sets of its groups. Assumes nothing.
use mathlib.Core.Path.{◌≡◌, refl, sym, ap, ap₂}
use mathlib.Core.Bool.{Bool, false, ◌&&◌}
use mathlib.Core.List.{List, [], ◌∷◌, map}
use Prim.Native.Nat.{ℕ, zero, suc, ◌-◌, ◌≤◌, ◌<◌}
use native.Mathlib.Omega.{arith}
use lib.Bits.{bit_and}
use lib.Count.{ones}
use lib.Dec.{T, leb, leb→le}
use lib.ListN.{length, get_or, take}
use lib.Seq.{get_or-take}
use borrow.Author.Tests.{eq-eqb, ne_eqb, le-leb, lt-leb}
use Rattle.model.specs.declared.Group.{Group}
use Rattle.model.specs.declared.Constraint.{Constraint}
use Rattle.std.specs.List.{list_all, zip}
use Rattle.model.specs.Lists.{pairwise, between}
use Rattle.model.specs.Limits.{limits}
use Rattle.model.specs.Words.{inside}
use Rattle.model.specs.Clauses.{member_count, groups_of}
use Rattle.model.specs.Model.{constraint_sized, constraint_in_range}
use Rattle.model.specs.Solution.{allowed, meaning, set_of, constraint_true}
use Rattle.model.proofs.Lists.{and_left, and_right, between_le}
use Rattle.model.proofs.Words.{size-ones}
use Rattle.filling.specs.Parts.{sets_true}
use Rattle.propagation_laws.proofs.Ranges.{groups-in, member-group}

-- ---- a group

module _ (g : Group) (w : ℕ) where
  pub lacks-fixed : (bit_and g.fixed w ≡ g.fixed → ⊥) → false ≡ allowed g w
  unfolding allowed inside
  lacks-fixed n = rw (ne_eqb (bit_and g.fixed w) g.fixed n)

  module _ (f : bit_and g.fixed w ≡ g.fixed) where
    pub not-possible : (bit_and w g.possible ≡ w → ⊥) → false ≡ allowed g w
    unfolding allowed inside
    not-possible n = rw (eq-eqb (bit_and g.fixed w) g.fixed f, ne_eqb (bit_and w g.possible) w n)

    module _ (p : bit_and w g.possible ≡ w) where
      pub few : ones w < g.low → false ≡ allowed g w
      unfolding allowed inside
      few h = rw (eq-eqb (bit_and g.fixed w) g.fixed f, eq-eqb (bit_and w g.possible) w p, size-ones w, lt-leb g.low (ones w) h)

      pub enough : g.low ≤ ones w → (b : Bool) → b ≡ leb (ones w) g.high → b ≡ allowed g w
      unfolding allowed inside
      enough h b e = rw (eq-eqb (bit_and g.fixed w) g.fixed f, eq-eqb (bit_and w g.possible) w p, size-ones w, le-leb g.low (ones w) h) e

-- ---- groups 1 to s

pub zipped : (groups : List Group) (words : List ℕ) (s : ℕ) → s ≤ length groups → s ≤ length words
    → list_all (λ p. allowed p.0 p.1) (take s (zip groups words)) ≡ pairwise allowed (take s groups) (take s words)
zipped [] [] zero h k = refl
zipped [] (w ∷ ws) zero h k = refl
zipped (g ∷ gs) [] zero h k = refl
zipped (g ∷ gs) (w ∷ ws) zero h k = refl
zipped [] ws (suc s) h k = absurd (omega arith)
zipped (g ∷ gs) [] (suc s) h k = absurd (omega arith)
zipped (g ∷ gs) (w ∷ ws) (suc s) h k = ap (λ (b : Bool). allowed g w && b) (zipped gs ws s (omega arith) (omega arith))

-- ---- a constraint

module _ (s : ℕ) (d : List ℕ) where
  own : (g : ℕ) → (1 ≤ g) × (g ≤ s) → set_of d g ≡ set_of (take s d) g
  own g h = let h0 = h.0 in let h1 = h.1 in unfold set_of in sym (get_or-take s d (g - 1) 0 (omega arith))

  own-sets : (gs : List ℕ) → T (list_all (between 1 s) gs) → map (set_of d) gs ≡ map (set_of (take s d)) gs
  own-sets [] t = refl
  own-sets (g ∷ gs) t =
      ap₂ (λ (w : ℕ) (ws : List ℕ). w ∷ ws) (own g (between_le 1 s g (and_left (between 1 s g) (list_all (between 1 s) gs) t)))
      (own-sets gs (and_right (between 1 s g) (list_all (between 1 s) gs) t))

  module _ (c : Constraint) (t : T (constraint_in_range s c)) where
    -- its groups are among the first s
    pub constraint-is : meaning c.code (map (set_of d) (take (member_count c.code c.count) c.groups)) ≡ constraint_true (take s d) c
    unfolding constraint_true groups_of
    constraint-is = ap (meaning c.code) (own-sets (groups_of c) (groups-in s c t))

    -- code 7: so are its two groups
    pub two-own : T (constraint_sized c) → c.code ≡ 7 → (i : ℕ) → i < 2 → set_of d (get_or c.groups i 0) ≡ set_of (take s d) (get_or c.groups i 0)
    two-own sized seven i h =
        let two : member_count c.code c.count ≡ 2 = unfold member_count in ap (λ (k : ℕ). member_count k c.count) seven in
        own (get_or c.groups i 0) (member-group s c t i (omega arith) (leb→le limits.members (length c.groups) sized))

  pub constraints-are : (cs : List Constraint) → T (list_all (constraint_in_range s) cs) → list_all (sets_true d) cs ≡ list_all (constraint_true (take s d)) cs
  constraints-are [] t = refl
  constraints-are (c ∷ cs) t =
      ap₂ (λ (a b : Bool). a && b) (constraint-is c (and_left (constraint_in_range s c) (list_all (constraint_in_range s) cs) t))
      (constraints-are cs (and_right (constraint_in_range s c) (list_all (constraint_in_range s) cs) t))
