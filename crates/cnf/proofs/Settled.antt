-- What a settled model gives the block writer: each block's text. Assumes nothing.
use mathlib.Core.Path.{◌≡◌, sym, ap, ◌∙◌, subst}
use mathlib.Core.List.{List, [], ◌∷◌}
use Prim.Native.Nat.{ℕ, zero, suc, ◌+◌, ◌-◌, ◌*◌, ◌≤◌, ◌<◌}
use native.Mathlib.Nat.{le_refl, le_trans, mul-le-mul}
use native.Mathlib.Omega.{arith}
use native.Mathlib.Decide.{dec_lt}
use lib.Dec.{T, eqb-suc-zero}
use lib.ListN.{length, get_or, take, length-take, length-map}
use lib.Seq.{get_or-take, take_all}
use Rattle.model.specs.declared.Group.{Group}
use Rattle.model.specs.declared.Constraint.{Constraint}
use Rattle.model.specs.declared.Model.{Model}
use Rattle.std.specs.List.{flat_map}
use Rattle.model.specs.Lists.{total, range}
use Rattle.model.specs.Limits.{limits}
use Rattle.model.specs.Model.{zero_group, zero_constraint, group_at, table_of, constraints_of, constraint_in_range}
use Rattle.model.specs.Propagate.{Settled}
use Rattle.model.specs.Totalizer.{totalizer_blocks}
use Rattle.model.specs.Cnf.{open_count, at_least, at_most, outputs_of, table_variables, variable_count, first_variable, first_output, difference_count, first_difference, group_blocks, constraint_clauses, line_clauses, node_blocks, block_clauses, block_count}
use Rattle.model.specs.Text.{clause_text, header_text, block_text}
use Rattle.model.proofs.Lists.{all-place, all_get_d, all-imp, total-le, total-place, total-append, every-getD, get_or-map_in, get_or-other, range-get_or, range_length}
use Rattle.propagation_laws.proofs.Ranges.{in_range_lem}
use Rattle.encoding_laws.specs.Division.{nodes_of, first_block}
use Rattle.encoding_laws.proofs.Fixpoint.{SettledAmong}
use Rattle.encoding_laws.proofs.Groups.{table-length}
use Rattle.encoding_laws.proofs.Blocks.{node-blocks, group-block, line-block}
use Rattle.encoding_laws.proofs.Whole.{open_few}
use Rattle.encoding_laws.proofs.Bounds.{most_bytes, variables-bound, group-bytes}
use Rattle.numbering.specs.declared.Numbering.{Numbering}
use Rattle.numbering.specs.Numbering.{numbering_of}
use Rattle.numbering.proofs.Arrays.{next-take}
use Rattle.numbering.proofs.Models.{first-is, outputs_are, differences-are, variable-from, output-from, difference-from}
use Rattle.counts.proofs.Settled.{groups-settled, groups-few, constraints-few}
use Rattle.blocks.specs.Blocks.{first_blocks}
use Rattle.cnf.specs.Parts.{group_block_text, NoneLonger, Among}
use Rattle.cnf.proofs.Groups.{nodes-few, has-node}

-- ---- the blocks

module _ (m : Model) (q : Settled m) where
  abbrev table : List Group
  table = table_of m

  body-text : (b : ℕ) → 1 ≤ b → block_text m b ≡ flat_map clause_text (block_clauses m b)
  unfolding block_text
  body-text zero h = absurd (omega arith)
  body-text (suc b) h = rw (eqb-suc-zero b)

  -- group i + 1, by its place in the array
  module _ (i : ℕ) (h : i < m.s) where
    group-is : get_or m.groups i zero_group ≡ group_at table (1 + i)
    unfolding table_of group_at
    group-is = let e : i ≡ 1 + i - 1 = omega arith in sym (get_or-take m.s m.groups i zero_group h) ∙ ap (λ (j : ℕ). get_or table j zero_group) e

    group-among : Among (first_variable table (1 + i)) (open_count (group_at table (1 + i))) × Among (first_output table (1 + i)) (outputs_of (group_at table (1 + i)))
    unfolding first_variable first_output group_at variable_count table_variables
    group-among =
        let p = total-place open_count table (1 + i - 1) zero_group (omega (arith, table-length m q.sized)) in
        let r = total-place outputs_of table (1 + i - 1) zero_group (omega (arith, table-length m q.sized)) in
        let v = variables-bound m q in
        (omega (arith, p, v), omega (arith, r, v))

    group-settled : SettledAmong limits.entrants (group_at table (1 + i))
    unfolding group_at
    group-settled = all-place (SettledAmong limits.entrants) zero_group table (groups-settled m q) (1 + i - 1) (omega (arith, table-length m q.sized))

    -- its blocks end where the next group's start
    blocks_end : first_block table (2 + i) ≡ first_block table (1 + i) + nodes_of (group_at table (1 + i))
    unfolding first_block group_at
    blocks_end =
        let l : i < length table = omega (arith, table-length m q.sized) in
        let a : take (2 + i - 1) table ≡ take (i + 1) table = ap (λ (j : ℕ). take j table) {x = 2 + i - 1} {y = i + 1} (omega arith) in
        let b : take (1 + i - 1) table ≡ take i table = ap (λ (j : ℕ). take j table) {x = 1 + i - 1} {y = i} (omega arith) in
        let c : get_or table (1 + i - 1) zero_group ≡ get_or table i zero_group = ap (λ (j : ℕ). get_or table j zero_group) {x = 1 + i - 1} {y = i} (omega arith) in
        rw (a, b, c)
        (ap (λ (k : ℕ). 1 + k) (ap (total nodes_of) (next-take table i zero_group l) ∙ total-append nodes_of (take i table) (get_or table i zero_group ∷ [])) ∙ omega arith)

  -- block k of that group
  group-text : (i : ℕ) → i < m.s → (k : ℕ) → k < nodes_of (group_at table (1 + i))
      → group_block_text (group_at table (1 + i)) (first_variable table (1 + i)) (first_output table (1 + i)) k ≡ block_text m (first_block table (1 + i) + k)
  unfolding group_block_text group_blocks first_block
  group-text i h k l =
      let g = 1 + i in
      let e = (has-node (group_at table g) k l).0 in
      let is : get_or (group_blocks table g) k [] ≡ get_or (totalizer_blocks (open_count (group_at table g)) (first_variable table g) (first_output table g) (at_least (group_at table g)) (at_most (group_at table g))) k [] = rw e in
      sym (body-text (first_block table g + k) (omega arith) ∙ ap (flat_map clause_text) (group-block m q.sized g k (omega arith) (omega arith) l ∙ is))

  group-most : (i : ℕ) → i < m.s → (k : ℕ) → k < nodes_of (group_at table (1 + i))
      → length (group_block_text (group_at table (1 + i)) (first_variable table (1 + i)) (first_output table (1 + i)) k) ≤ most_bytes (open_count (group_at table (1 + i)))
  unfolding group_block_text group_blocks
  group-most i h k l =
      let g = 1 + i in
      let e = (has-node (group_at table g) k l).0 in
      let all = all_get_d (λ b. length (flat_map clause_text b) ≤ most_bytes (open_count (group_at table g))) [] (omega arith) (group_blocks table g) (group-bytes m q g (omega arith) (omega arith)) k in
      rw e at all

  -- constraint j of the array, whatever stands for a missing one
  module _ (d : Constraint) where
    constraint-is : (j : ℕ) → j < m.c → get_or (constraints_of m) j zero_constraint ≡ get_or m.constraints j d
    unfolding constraints_of
    constraint-is j h =
        get_or-take m.c m.constraints j zero_constraint h ∙ get_or-other m.constraints j zero_constraint d (omega (arith, q.sized.constraints))

    constraint_good : (j : ℕ) → j < m.c → T (constraint_in_range m.s (get_or m.constraints j d))
    unfolding constraints_of
    constraint_good j h =
        subst (λ (c : Constraint). T (constraint_in_range m.s c)) (constraint-is j h)
        (every-getD (constraint_in_range m.s) (constraints_of m) zero_constraint j (in_range_lem m q.in_range_lem).constraints
        (omega (arith, length-take m.c m.constraints, q.sized.constraints)))

    -- its block, after those of the groups
    block-constraint : (j : ℕ) → j < m.c
        → flat_map clause_text (constraint_clauses m.n table (first_difference (1 + table_variables table) m (1 + j)) (get_or m.constraints j d))
        ≡ block_text m (1 + length (node_blocks m) + j)
    unfolding line_clauses
    block-constraint j h =
        let k : ℕ = length (node_blocks m) in
        let e : 1 + k + j - k ≡ 1 + j = omega arith in
        let f : 1 + j - 1 ≡ j = omega arith in
        sym (body-text (1 + k + j) (omega arith)
        ∙ ap (flat_map clause_text) (line-block m (1 + k + j) (omega arith) ∙ ap (line_clauses m) e
        ∙ ap (λ (c : Constraint). constraint_clauses m.n table (first_difference (1 + table_variables table) m (1 + j)) c)
        (ap (λ (i : ℕ). get_or (constraints_of m) i zero_constraint) f ∙ constraint-is j h)))

    -- its X are among those that a listing may have
    difference-among : (j : ℕ) → j < m.c
        → Among (1 + table_variables table + total (difference_count table) (take j (constraints_of m))) (difference_count table (get_or m.constraints j d))
    unfolding variable_count constraints_of
    difference-among j h =
        let cs = take m.c m.constraints in
        let p = total-place (difference_count table) cs j zero_constraint (omega (arith, length-take m.c m.constraints, q.sized.constraints)) in
        let is = ap (difference_count table) (constraint-is j h) in
        omega (arith, p, is, variables-bound m q)

-- ---- what the entry's parts ask of a settled model

module _ (m : Model) (q : Settled m) where
  -- the first line's block
  pub lines_are : (lines : ℕ) → lines ≡ 1 + total nodes_of (take m.s m.groups) → lines ≡ 1 + length (node_blocks m)
  unfolding table_of
  lines_are lines e = omega (arith, node-blocks m q.sized)

  -- no more blocks than any listing may have
  pub blocks-most : block_count m ≤ limits.groups * limits.word + limits.constraints
  unfolding block_count
  blocks-most =
      let t = table_of m in
      let i = in_range_lem m q.in_range_lem in
      let few : total nodes_of t ≤ length t * limits.word =
      total-le nodes_of limits.word t
      (all-imp (SettledAmong limits.entrants) (λ g. nodes_of g ≤ limits.word) (λ g s. le_trans (nodes-few g) (open_few limits.entrants g s)) t (groups-settled m q)) in
      let more : length t * limits.word ≤ limits.groups * limits.word =
      mul-le-mul {n₂ = limits.groups} {m₂ = limits.word} (omega (arith, table-length m q.sized, i.group_count)) (le_refl limits.word) in
      omega (arith, node-blocks m q.sized, few, more, i.constraint_count)

  pub header-block : (b : ℕ) → b ≡ 0 → header_text m ≡ block_text m b
  unfolding block_text
  header-block b e = rw e

  -- a node's block b, of group i + 1, where the groups' first blocks are `first`
  module _ (first : List ℕ) (e : first ≡ first_blocks (take m.s m.groups)) where
    first-at : (i : ℕ) → i < limits.groups → get_or first i 0 ≡ first_block (table_of m) (1 + i)
    unfolding first_blocks table_of
    first-at i l =
        ap (λ (xs : List ℕ). get_or xs i 0) e
        ∙ get_or-map_in (first_block (take m.s m.groups)) (range 1 limits.groups) i 0 0 (omega (arith, range_length 1 limits.groups))
        ∙ ap (first_block (take m.s m.groups)) (range-get_or 1 limits.groups i 0 l)

    pub first-length : length first ≡ limits.groups
    unfolding first_blocks
    first-length = ap length e ∙ length-map (range 1 limits.groups) (first_block (take m.s m.groups)) ∙ range_length 1 limits.groups

    pub first_one : get_or first 0 0 ≡ 1
    unfolding first_block
    first_one = first-at 0 (omega arith)

    module _ (b i : ℕ) (h : i < m.s) (top : b ≤ length (node_blocks m)) (low : get_or first i 0 ≤ b) (high : i + 1 < m.s → b < get_or first (i + 1) 0) where
      abbrev table' : List Group
      table' = table_of m

      few : i < limits.groups
      few = omega (arith, groups-few m q)

      before-next : b < first_block table' (2 + i)
      unfolding first_block
      before-next = go (dec_lt (i + 1) m.s)
        where
          go : Dec (i + 1 < m.s) → b < 1 + total nodes_of (take (2 + i - 1) table')
          go (yes l) =
              let x : get_or first (i + 1) 0 ≡ 1 + total nodes_of (take (1 + (i + 1) - 1) table') = first-at (i + 1) (omega (arith, groups-few m q)) in
              let y : take (1 + (i + 1) - 1) table' ≡ take (2 + i - 1) table' = ap (λ (j : ℕ). take j table') {x = 1 + (i + 1) - 1} {y = 2 + i - 1} (omega arith) in
              omega (arith, x, ap (total nodes_of) y, high l)
          go (no l) =
              let y : take (2 + i - 1) table' ≡ table' = take_all (2 + i - 1) table' (omega (arith, table-length m q.sized)) in
              omega (arith, node-blocks m q.sized, ap (total nodes_of) y)

      node-there : b - get_or first i 0 < nodes_of (group_at table' (1 + i))
      node-there = omega (arith, before-next, blocks_end m q i h, first-at i few)

      module _ (v : Numbering) (n : v ≡ numbering_of m) where
        abbrev here : Group
        here = get_or m.groups i zero_group

        v-is : get_or v.first i 0 ≡ first_variable table' (1 + i)
        unfolding table_of
        v-is = variable-from (table_of m) v.first i few (first-is m v n)

        o_is : get_or v.outputs i 0 ≡ first_output table' (1 + i)
        unfolding table_of
        o_is = output-from (table_of m) v.outputs i few (outputs_are m v n)

        pub here-settled : SettledAmong limits.entrants here × (b - get_or first i 0 < nodes_of here)
        here-settled = rw (group-is m q i h) (group-settled m q i h, node-there)

        pub here-among : Among (get_or v.first i 0) (open_count here) × Among (get_or v.outputs i 0) (outputs_of here)
        here-among = rw (v-is, o_is, group-is m q i h) (group-among m q i h)

        -- and of the others of that group
        pub here-texts : (j : ℕ) → get_or first i 0 ≤ j → j < get_or first i 0 + nodes_of here
            → group_block_text here (get_or v.first i 0) (get_or v.outputs i 0) (j - get_or first i 0) ≡ block_text m j
        here-texts j l k =
            let n : j - get_or first i 0 < nodes_of (group_at table' (1 + i)) = omega (arith, ap nodes_of (group-is m q i h)) in
            let is : first_block table' (1 + i) + (j - get_or first i 0) ≡ j = omega (arith, first-at i few) in
            rw (v-is, o_is, group-is m q i h) (group-text m q i h (j - get_or first i 0) n ∙ ap (block_text m) is)

        pub here-longer : NoneLonger (most_bytes (open_count here)) here (get_or v.first i 0) (get_or v.outputs i 0)
        here-longer k l =
            let n : k < nodes_of (group_at table' (1 + i)) = omega (arith, ap nodes_of (group-is m q i h)) in
            rw (v-is, o_is, group-is m q i h) (group-most m q i h k n)

        pub here-few : get_or first i 0 + open_count here ≤ limits.variables
        here-few =
            let w = open_few limits.entrants here here-settled.0 in
            omega (arith, w, low, top, blocks-most, nodes_in)
          where
            nodes_in : length (node_blocks m) ≤ block_count m
            nodes_in = unfold block_count in omega arith

  -- a line's block
  module _ (d : Constraint) (b : ℕ) (h : length (node_blocks m) < b) (k : b ≤ block_count m) (lines : ℕ) (e : lines ≡ 1 + length (node_blocks m)) where
    pub place-in-model : b - lines < m.c
    unfolding block_count
    place-in-model = omega arith

    pub here-in-range : T (constraint_in_range m.s (get_or m.constraints (b - lines) d))
    here-in-range = constraint_good m q d (b - lines) place-in-model

    module _ (v : Numbering) (n : v ≡ numbering_of m) where
      x-is : get_or v.differences (b - lines) 0 ≡ 1 + table_variables (table_of m) + total (difference_count (table_of m)) (take (b - lines) (constraints_of m))
      unfolding table_of constraints_of
      x-is =
          difference-from (1 + table_variables (table_of m)) (table_of m) (constraints_of m) v.differences (b - lines)
          (omega (arith, place-in-model, constraints-few m q)) (differences-are m v n)

      pub x-some : 1 ≤ get_or v.differences (b - lines) 0
      x-some = omega (arith, x-is)

      pub x-among : Among (get_or v.differences (b - lines) 0) (difference_count (take m.s m.groups) (get_or m.constraints (b - lines) d))
      unfolding table_of
      x-among = rw x-is (difference-among m q d (b - lines) place-in-model)

      pub here-block : flat_map clause_text (constraint_clauses m.n (take m.s m.groups) (get_or v.differences (b - lines) 0) (get_or m.constraints (b - lines) d))
          ≡ block_text m b
      unfolding table_of first_difference
      here-block =
          let i : b - lines ≡ 1 + (b - lines) - 1 = omega arith in
          let is : 1 + length (node_blocks m) + (b - lines) ≡ b = omega arith in
          ap (λ (x : ℕ). flat_map clause_text (constraint_clauses m.n (table_of m) x (get_or m.constraints (b - lines) d)))
          (x-is ∙ ap (λ (j : ℕ). 1 + table_variables (table_of m) + total (difference_count (table_of m)) (take j (constraints_of m))) i)
          ∙ block-constraint m q d (b - lines) place-in-model
          ∙ ap (block_text m) is
