-- The text of a group's block. Assumes nothing.
use mathlib.Core.Path.{◌≡◌, refl, ap}
use mathlib.Core.Bool.{Bool, true, false, cond}
use mathlib.Core.List.{[]}
use Prim.Native.Nat.{ℕ, ◌+◌, ◌-◌, ◌≤◌, ◌<◌}
use native.Mathlib.Omega.{arith}
use lib.ListN.{length, get_or}
use Rattle.model.specs.declared.Group.{Group}
use Rattle.std.specs.List.{flat_map}
use Rattle.model.specs.Limits.{limits}
use Rattle.model.specs.Totalizer.{totalizer_blocks, tree_output_count}
use Rattle.model.specs.Cnf.{open_count, counted, outputs_of}
use Rattle.model.specs.Text.{clause_text}
use Rattle.encoding_laws.specs.Division.{nodes_of}
use Rattle.encoding_laws.proofs.Fixpoint.{SettledAmong}
use Rattle.encoding_laws.proofs.Bounds.{most_bytes}
use Rattle.numbering.specs.declared.Totalizer.{Totalizer}
use Rattle.numbering.specs.Numbering.{totalizer_of}
use Rattle.numbering.proofs.Totalizers.{totalizer-parts, some-outputs}
use Rattle.counts.proofs.Groups.{low-few, high-few}
use Rattle.cnf.specs.Parts.{tree_text, NoLonger, group_block_text, NoneLonger, Among}

pub nodes-few : (g : Group) → nodes_of g ≤ open_count g
unfolding nodes_of
nodes-few g = go (counted g)
  where
    go : (b : Bool) → cond b (open_count g - 1) 0 ≤ open_count g
    go true = omega arith
    go false = omega arith

-- a group that has a block has a totalizer with such a node
pub has-node : (g : Group) (k : ℕ) → k < nodes_of g → (counted g ≡ true) × (k + 2 ≤ open_count g)
unfolding nodes_of
has-node g k h = go (counted g) refl h
  where
    go : (b : Bool) → counted g ≡ b → k < cond b (open_count g - 1) 0 → (counted g ≡ true) × (k + 2 ≤ open_count g)
    go true e l = (e, omega arith)
    go false e l = absurd (omega arith)

-- what its parts ask, by the totalizer that was worked out
module _ (g : Group) (r : Totalizer) (e : r ≡ totalizer_of g) where
  pub node-asks : (v o k : ℕ) → k < nodes_of g → Among v (open_count g) → Among o (outputs_of g)
      → (k + 2 ≤ r.size) × Among v r.size × Among o (tree_output_count r.size)
  node-asks v o k l a b =
      let p = totalizer-parts g r e in
      let n = has-node g k l in
      (omega (arith, p.0, n.1), omega (arith, p.0, a), omega (arith, ap tree_output_count p.0, some-outputs g n.0, b))

  pub units-ask : SettledAmong limits.entrants g → (r.low ≤ r.size) × (r.high ≤ r.size)
  units-ask s = let p = totalizer-parts g r e in (omega (arith, p.0, p.1, low-few g s), omega (arith, p.0, p.2, high-few g s))

  pub block-text : (v o k : ℕ) → flat_map clause_text (get_or (totalizer_blocks r.size v o r.low r.high) k []) ≡ group_block_text g v o k
  unfolding group_block_text
  block-text v o k = let p = totalizer-parts g r e in rw (p.0, p.1, p.2)

  pub tree-text : (v o k : ℕ) → tree_text r.size v o r.low r.high k ≡ group_block_text g v o k
  unfolding tree_text
  tree-text v o k = block-text v o k

  -- it has a block for each node
  pub nodes-are : (k : ℕ) → k < nodes_of g → nodes_of g ≡ r.size - 1
  unfolding nodes_of
  nodes-are k l = let p = totalizer-parts g r e in rw ((has-node g k l).0, p.0)

  pub tree-longer : (most v o k : ℕ) → k < nodes_of g → most ≡ most_bytes r.size → NoneLonger (most_bytes (open_count g)) g v o → NoLonger most r.size v o r.low r.high
  tree-longer most v o k l q h i t =
      let p = totalizer-parts g r e in
      omega (arith, ap length (tree-text v o i), h i (omega (arith, nodes-are k l)), q, ap most_bytes p.0)
