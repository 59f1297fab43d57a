-- Laws of a totalizer's text: the node's clauses as rows, which node is the k-th, the units, a block. Assumes nothing.
use mathlib.Core.Path.{◌≡◌, refl, sym, ap, ap₂, ◌∙◌}
use mathlib.Core.Bool.{Bool, true, false}
use mathlib.Core.List.{List, [], ◌∷◌, ◌++◌, map, append-nil, append_assoc}
use Prim.Native.Nat.{ℕ, zero, suc, ◌+◌, ◌-◌, ◌/◌, ◌≤◌, ◌<◌}
use native.Mathlib.Numerals.{add-one}
use native.Mathlib.Omega.{arith}
use native.Mathlib.Decide.{dec_lt}
use lib.Dec.{eqb}
use lib.ListN.{length, get_or, length-append}
use borrow.Author.Tests.{eq-eqb, ne_eqb}
use Rattle.model.specs.declared.Literal.{Literal}
use Rattle.model.specs.declared.Literal.TheVariants.{Pos, Neg}
use Rattle.model.specs.declared.Node.{Node}
use Rattle.model.specs.declared.Term.TheVariants.{Fails, Open}
use Rattle.std.specs.List.{flat_map}
use Rattle.model.specs.Lists.{range}
use Rattle.model.specs.Totalizer.{Shape, keep, dropped, row_clauses, node_clauses, shape, root_output, unit, unit_clauses, totalizer_blocks, tree_output_count}
use Rattle.model.specs.Text.{clause_text}
use Rattle.model.proofs.Lists.{each_append, each-each, each_map, each-range_ext}
use Rattle.encoding_laws.proofs.Totalizer.{root-step, shape_one}
use Rattle.encoding_laws.proofs.Counts.{outputs-count, output-count-step}
use Rattle.encoding_laws.proofs.Blocks.{node-left, node-right, node-root, units_at, totalizer-block}
use Rattle.cnf.specs.Parts.{pair_text, row_text, node_text, zero_node, node_at, signed, unit_text, Among, Small}
use Rattle.text.specs.Put.{kept_text}

-- ---- a node

node-text : (t : Node) → flat_map clause_text (node_clauses t) ≡ node_text t
unfolding node_clauses row_clauses node_text row_text pair_text
node-text t =
    each-each clause_text (row_clauses t) (range 0 (suc t.a))
    ∙ each-range_ext (λ p. flat_map clause_text (row_clauses t p)) (row_text t) 0 (suc t.a) (λ p _ _. row p)
    ∙ ap (λ (k : ℕ). flat_map (row_text t) (range 0 k)) (sym (add-one t.a))
  where
    row : (p : ℕ) → flat_map clause_text (row_clauses t p) ≡ row_text t p
    row p =
        each-each clause_text (dropped t p) (range 0 (suc t.b))
        ∙ ap (λ (k : ℕ). flat_map (pair_text t p) (range 0 k)) (sym (add-one t.b))

-- ---- the tree's root

pub root-one : (m v o : ℕ) → m < 2 → root_output (shape m) v o ≡ v
root-one m v o h = ap (λ (s : Shape). root_output s v o) (shape_one m (omega arith))

pub root-more : (m v o : ℕ) → 2 ≤ m → root_output (shape m) v o + m ≡ o + tree_output_count m
root-more m v o h = root-step m v o h ∙ ap (λ (k : ℕ). o + k) (outputs-count m)

-- by the end of the tree's outputs
pub root_by : (m v o end r : ℕ) → end ≡ o + tree_output_count m → (m < 2 → r ≡ v) → (2 ≤ m → r + m ≡ end) → r ≡ root_output (shape m) v o
root_by m v o end r e one more = go (dec_lt m 2)
  where
    go : Dec (m < 2) → r ≡ root_output (shape m) v o
    go (yes h) = one h ∙ sym (root-one m v o h)
    go (no h) = omega (arith, more (omega arith), root-more m v o (omega arith))

pub root-room : (m v o end : ℕ) → end ≡ o + tree_output_count m → 2 ≤ m → m ≤ end
root-room m v o end e h = omega (arith, root-more m v o h)

pub root_among : (m v o : ℕ) → 1 ≤ m → Among v m → Among o (tree_output_count m) → Among (root_output (shape m) v o) m
root_among zero v o h x y = elim h [ ]
root_among (suc zero) v o h x y = omega (arith, root-one 1 v o (omega arith))
root_among (suc (suc m)) v o h x y = omega (arith, root-more (suc (suc m)) v o (omega arith))

-- ---- node k

-- the node over the halves of m
abbrev node_of : (m c d n : ℕ) → Node
node_of m c d n = record { c = c; a = m / 2; d = d; b = m - m / 2; n = n }

module _ (m v o p own c d : ℕ) (h : 2 ≤ m) (hp : p ≡ o + tree_output_count (m / 2)) (hown : own ≡ p + tree_output_count (m - m / 2))
    (hc : c ≡ root_output (shape (m / 2)) v o) (hd : d ≡ root_output (shape (m - m / 2)) (v + m / 2) p) where
  pub left_is : (k : ℕ) → k + 1 < m / 2 → node_at (m / 2) v o k ≡ node_at m v o k
  unfolding node_at
  left_is k l = sym (node-left m v o h k zero_node l)

  pub right_is : (k : ℕ) → m / 2 ≤ k + 1 → k + 2 < m → node_at (m - m / 2) (v + m / 2) p (k + 1 - m / 2) ≡ node_at m v o k
  unfolding node_at
  right_is k l r = rw hp (sym (node-right m v o h k zero_node l r))

  pub root_is : (k : ℕ) → k + 2 ≡ m → node_of m c d own ≡ node_at m v o k
  unfolding node_at
  root_is k e = rw (hown, hc, hd, hp) (sym (node-root m v o h k zero_node e))

  pub outputs-more : tree_output_count m ≡ m + tree_output_count (m / 2) + tree_output_count (m - m / 2)
  outputs-more = output-count-step m h

  pub small : Among v m → Among o (tree_output_count m) → Small (node_of m c d own)
  small x y = record {
    lefts = rw hc (root_among (m / 2) v o (omega arith) (omega arith) (omega (arith, outputs-more)));
    rights = rw hd (root_among (m - m / 2) (v + m / 2) p (omega arith) (omega arith) (omega (arith, outputs-more)));
    owns = omega (arith, outputs-more);
  }

-- ---- the units

-- a clause of one literal, as one of three terms
pub unit_kept : (l : Literal) → kept_text (Open l ∷ Fails ∷ Fails ∷ []) ≡ clause_text (l ∷ [])
unfolding kept_text keep
unit_kept l = append-nil (clause_text (l ∷ []))

pub unit-is : (s : Bool) (first i : ℕ) → clause_text (signed s (first + i) ∷ []) ≡ unit_text s first i
unfolding unit_text unit
unit-is s first i = refl

units_text : (first m L U : ℕ)
    → flat_map clause_text (unit_clauses first m L U) ≡ flat_map (unit_text true first) (range 0 L) ++ flat_map (unit_text false first) (range U (m - U))
unfolding unit_clauses unit_text
units_text first m L U =
    each_append clause_text (map (unit Pos first) (range 0 L)) (map (unit Neg first) (range U (m - U)))
    ∙ ap₂ (λ (x y : List ℕ). x ++ y) (each_map clause_text (unit Pos first) (range 0 L)) (each_map clause_text (unit Neg first) (range U (m - U)))

-- ---- a block of a totalizer: of a node below the root, and of the root

module _ (m v o L U k : ℕ) where
  abbrev block_of : List (List Literal)
  block_of = get_or (totalizer_blocks m v o L U) k []

  pub below-text : k + 2 < m → node_text (node_at m v o k) ≡ flat_map clause_text block_of
  unfolding node_at units_at
  below-text h =
      let none : eqb (k + 2) m ≡ false = ne_eqb (k + 2) m (λ e. omega arith) in
      let is : block_of ≡ node_clauses (node_at m v o k) =
      totalizer-block m v o L U k zero_node (omega arith) ∙ rw none (append-nil (node_clauses (node_at m v o k))) in
      sym (ap (flat_map clause_text) is ∙ node-text (node_at m v o k))

  module _ (first : ℕ) (e : first ≡ root_output (shape m) v o) (h : k + 2 ≡ m) where
    pub root-text : (node_text (node_at m v o k) ++ flat_map (unit_text true first) (range 0 L)) ++ flat_map (unit_text false first) (range U (m - U)) ≡ flat_map clause_text block_of
    unfolding node_at units_at
    root-text =
        let us = unit_clauses (root_output (shape m) v o) m L U in
        let is : block_of ≡ node_clauses (node_at m v o k) ++ us = totalizer-block m v o L U k zero_node (omega arith) ∙ rw (eq-eqb (k + 2) m h) in
        sym (ap (flat_map clause_text) is
        ∙ each_append clause_text (node_clauses (node_at m v o k)) us
        ∙ ap₂ (λ (x y : List ℕ). x ++ y) (node-text (node_at m v o k)) (ap (λ (n : ℕ). flat_map clause_text (unit_clauses n m L U)) (sym e) ∙ units_text first m L U)
        ∙ sym (append_assoc (node_text (node_at m v o k)) (flat_map (unit_text true first) (range 0 L)) (flat_map (unit_text false first) (range U (m - U)))))

    pub root-length : length (flat_map clause_text block_of)
        ≡ length (node_text (node_at m v o k)) + length (flat_map (unit_text true first) (range 0 L)) + length (flat_map (unit_text false first) (range U (m - U)))
    root-length =
        ap length (sym root-text)
        ∙ length-append (node_text (node_at m v o k) ++ flat_map (unit_text true first) (range 0 L)) (flat_map (unit_text false first) (range U (m - U)))
        ∙ ap (λ (n : ℕ). n + length (flat_map (unit_text false first) (range U (m - U)))) (length-append (node_text (node_at m v o k)) (flat_map (unit_text true first) (range 0 L)))
