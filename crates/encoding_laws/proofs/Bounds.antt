-- "65,536 bytes hold each block; V is at most 59,392": each bound first as a formula of n, s, c and the tree's own T and A, the numbers of the paper last.
-- Assumes nothing.
use mathlib.Core.Path.{◌≡◌, refl, sym, ap, ap₂, ◌∙◌, subst}
use mathlib.Core.Bool.{Bool, true, false, cond}
use mathlib.Core.List.{List, [], ◌∷◌, ◌++◌, map}
use Prim.Native.Nat.{ℕ, zero, suc, ◌+◌, ◌-◌, ◌*◌, ◌/◌, ◌^◌, ◌≤◌, ◌<◌}
use native.Mathlib.Nat.{le_refl, le_trans, le_of_eq, mul_comm, mul-add, mul-le-mul}
use native.Mathlib.Omega.{arith}
use native.Mathlib.Decide.{dec_le}
use lib.Dec.{T, eqb-suc-zero}
use lib.ListN.{length, get_or, length-append, length-map}
use Rattle.model.specs.declared.Literal.{Literal}
use Rattle.model.specs.declared.Literal.TheVariants.{Pos, Neg}
use Rattle.model.specs.declared.Term.{Term}
use Rattle.model.specs.declared.Term.TheVariants.{Holds, Fails, Open}
use Rattle.model.specs.declared.Node.{Node}
use Rattle.model.specs.declared.Group.{Group}
use Rattle.model.specs.declared.Constraint.{Constraint}
use Rattle.model.specs.declared.Model.{Model}
use Rattle.std.specs.List.{list_any, flat_map}
use Rattle.model.specs.Lists.{total, range}
use Rattle.model.specs.Limits.{limits, groups_for}
use Rattle.model.specs.Clauses.{short_clauses, union_clauses, member_clauses}
use Rattle.model.specs.Model.{zero_group, zero_constraint, group_at, table_of, constraints_of, constraint_in_range}
use Rattle.model.specs.Difference.{is_apart}
use Rattle.model.specs.Propagate.{Settled}
use Rattle.model.specs.Totalizer.{holds, literals, keep, formed, node_terms, put_in, dropped, row_clauses, node_clauses, Shape, leaf, node, shape, leaves, outputs, root_output, node_over, nodes, unit, unit_clauses, tree_blocks, totalizer_blocks, clause_count_in, tree_clause_count, output_count_in, tree_output_count}
use Rattle.model.specs.Cnf.{open_count, at_least, at_most, counted, outputs_of, first_variable, first_output, table_variables, is_open_difference, difference_count, first_difference, variable_count, difference, constraint_term, term_of, clauses_at, last_clause, group_blocks, constraint_clauses, line_clauses, node_blocks, block_clauses, group_clause_count, clause_count}
use Rattle.model.specs.Text.{decimal, literal_text, clause_text, header_text, block_text}
use Rattle.model.specs.Assignment.{variable}
use Rattle.model.proofs.Lists.{length-each, each_append, each-each, total-map, total_const, total-le, total_mono, each_all, All, all_both, all-imp, all-map-iff, all_of, all-each, all-place, all_get_d, all-zip, every-all, range_all, range_length}
use Rattle.encoding_laws.proofs.Counts.{node-length, units_length, clause-count-step, output-count-step}
use Rattle.encoding_laws.proofs.Groups.{table-length, constraints-length, constraint-count}
use Rattle.encoding_laws.proofs.Blocks.{group-joined, line-block, node_block}
use Rattle.encoding_laws.proofs.Steps.{tree_nodes}
use Rattle.model.proofs.Width.{groups-narrow, groups-wide}
use Rattle.model.proofs.Codes.{by_code, by_seven, is_code, count-in}
use Rattle.encoding_laws.specs.Division.{tree_clauses, totalizer_clauses, group_clauses}
use Rattle.encoding_laws.specs.Steps.{NodeOf}
use Rattle.propagation_laws.proofs.Ranges.{in_range_lem, constraint-code}
use Rattle.encoding_laws.proofs.Fixpoint.{SettledAmong, table-settled}
use Rattle.encoding_laws.proofs.Differences.{count-le}
use Rattle.encoding_laws.proofs.Whole.{limits_of_lem, open_few}
use Rattle.encoding_laws.proofs.Ranges.{In, VariablesIn, constraint-in, group-variables, constraint-variables}
use Rattle.encoding_laws.proofs.Decimal.{decimal-bound}

-- ---- A and T grow with the size of the tree

outputs-first : (m : ℕ) → m ≤ 1 → tree_output_count m ≤ tree_output_count (suc m)
unfolding tree_output_count output_count_in
outputs-first zero h = omega arith
outputs-first (suc zero) h = omega arith
outputs-first (suc (suc k)) h = absurd (omega arith)

clauses-first : (m : ℕ) → m ≤ 1 → tree_clause_count m ≤ tree_clause_count (suc m)
unfolding tree_clause_count clause_count_in
clauses-first zero h = omega arith
clauses-first (suc zero) h = omega arith
clauses-first (suc (suc k)) h = absurd (omega arith)

module _ (m : ℕ) (two : 2 ≤ m) where
  -- a size one larger has the right half for its left, and one more than the left half for its right
  left-half : suc m / 2 ≡ m - m / 2
  left-half = omega arith

  right-half : suc m - suc m / 2 ≡ suc (m / 2)
  right-half = omega arith

  outputs-next : tree_output_count (m / 2) ≤ tree_output_count (suc (m / 2)) → tree_output_count m ≤ tree_output_count (suc m)
  outputs-next ih =
      let y : tree_output_count (suc m) ≡ suc m + tree_output_count (m - m / 2) + tree_output_count (suc (m / 2)) =
      output-count-step (suc m) (omega arith) ∙ ap₂ (λ (i j : ℕ). suc m + tree_output_count i + tree_output_count j) left-half right-half in
      omega (arith, output-count-step m two, y, ih)

  clauses-next : tree_clause_count (m / 2) ≤ tree_clause_count (suc (m / 2)) → tree_clause_count m ≤ tree_clause_count (suc m)
  clauses-next ih =
      let a = m / 2 in
      let b = m - m / 2 in
      let y : tree_clause_count (suc m) ≡ tree_clause_count b + tree_clause_count (suc a) + 2 * ((b + 1) * (suc a + 1)) - 2 =
      clause-count-step (suc m) (omega arith)
      ∙ ap₂ (λ (i j : ℕ). tree_clause_count i + tree_clause_count j + 2 * ((i + 1) * (j + 1)) - 2) left-half right-half in
      let z : (a + 1) * (b + 1) ≤ (b + 1) * (suc a + 1) = le_trans (le_of_eq (mul_comm (a + 1) (b + 1))) (mul-le-mul (le_refl (b + 1)) (omega arith)) in
      omega (arith, clause-count-step m two, y, ih, z)

-- what holds of sizes 0 and 1, and of a size where it holds of its left half, holds of every size
by_halves : (P : ℕ → Type 0) → ((m : ℕ) → m ≤ 1 → P m) → ((m : ℕ) → 2 ≤ m → P (m / 2) → P m) → (m : ℕ) → P m
by_halves P one more m = go m m (le_refl m)
  where
    go : (f m : ℕ) → m ≤ f → P m
    go zero m h = one m (omega arith)
    go (suc f) m h = elim (dec_le 2 m) [ yes l ↦ more m l (go f (m / 2) (omega arith)) | no l ↦ one m (omega arith) ]

-- a number that never falls from one size to the next
rising : (f : ℕ → ℕ) → ((m : ℕ) → f m ≤ f (suc m)) → (m d : ℕ) → f m ≤ f (m + d)
rising f next m zero = le_of_eq (ap f (omega arith))
rising f next m (suc d) = le_trans (rising f next m d) (le_trans (next (m + d)) (le_of_eq (ap f (omega arith))))

up_to : (f : ℕ → ℕ) → ((m : ℕ) → f m ≤ f (suc m)) → (m n : ℕ) → m ≤ n → f m ≤ f n
up_to f next m n h = let e : m + (n - m) ≡ n = omega arith in subst (λ (k : ℕ). f m ≤ f k) e (rising f next m (n - m))

pub outputs_mono : (m n : ℕ) → m ≤ n → tree_output_count m ≤ tree_output_count n
outputs_mono = up_to tree_output_count (by_halves (λ m. tree_output_count m ≤ tree_output_count (suc m)) outputs-first outputs-next)

pub clauses_mono : (m n : ℕ) → m ≤ n → tree_clause_count m ≤ tree_clause_count n
clauses_mono = up_to tree_clause_count (by_halves (λ m. tree_clause_count m ≤ tree_clause_count (suc m)) clauses-first clauses-next)

-- ---- a group among n entrants

module _ (n : ℕ) (r : Group) (s : SettledAmong n r) where
  outputs-few : outputs_of r ≤ tree_output_count n
  unfolding outputs_of
  outputs-few = go (counted r)
    where
      go : (b : Bool) → cond b (tree_output_count (open_count r)) 0 ≤ tree_output_count n
      go true = outputs_mono (open_count r) n (open_few n r s)
      go false = omega arith

  clause-count-few : group_clause_count r ≤ tree_clause_count n + n
  unfolding group_clause_count
  clause-count-few = go (counted r)
    where
      go : (b : Bool) → cond b (tree_clause_count (open_count r) + at_least r + (open_count r - at_most r)) 0 ≤ tree_clause_count n + n
      go true =
          let l = limits_of_lem r s.group in
          omega (arith, clauses_mono (open_count r) n (open_few n r s), open_few n r s, l.low-high, l.high-open)
      go false = omega arith

-- V is at most s·(n + A(n)) + c·n
pub variables-formula : (m : Model) → Settled m → variable_count m ≤ m.s * (m.n + tree_output_count m.n) + m.c * m.n
unfolding variable_count table_variables
variables-formula m q =
    let t = table_of m in
    let n = m.n in
    let a : ℕ = tree_output_count n in
    let x = total-le open_count n t (all-imp (SettledAmong n) (λ g. open_count g ≤ n) (open_few n) t (table-settled m q)) in
    let y = total-le outputs_of a t (all-imp (SettledAmong n) (λ g. outputs_of g ≤ a) (outputs-few n) t (table-settled m q)) in
    let e : length t * n + length t * a ≡ m.s * (n + a) = sym (mul-add (length t) n a) ∙ ap (λ (k : ℕ). k * (n + a)) (table-length m q.sized) in
    let z = total-le (difference_count t) n (constraints_of m) (all_of (λ c. difference_count t c ≤ n) (count-le n t (table-settled m q)) (constraints_of m)) in
    let f : length (constraints_of m) * n ≡ m.c * n = ap (λ (k : ℕ). k * n) (constraints-length m q.sized) in
    omega (arith, x, y, e, z, f)

-- a block of a totalizer's node, by its clauses: of a tree of at most n leaves, with u units
abbrev Sizes : ℕ → ℕ → List (List Literal) → Type 0
Sizes n u b = 2 * length b + 4 ≤ (n + 2) * (n + 2) + 2 * u

-- four times a product is no more than the square of the sum
four : (x y : ℕ) → 4 * (x * y) ≤ (x + y) * (x + y)
four x y = go (dec_le x y)
  where
    more : (x d : ℕ) → 4 * (x * (x + d)) ≤ (x + (x + d)) * (x + (x + d))
    more x d = omega arith

    go : Dec (x ≤ y) → 4 * (x * y) ≤ (x + y) * (x + y)
    go (yes h) = let e : x + (y - x) ≡ y = omega arith in subst (λ (k : ℕ). 4 * (x * k) ≤ (x + k) * (x + k)) e (more x (y - x))
    go (no h) =
        let e : y + (x - y) ≡ x = omega arith in
        let q = subst (λ (k : ℕ). 4 * (y * k) ≤ (y + k) * (y + k)) e (more y (x - y)) in
        omega (arith, q)

node-size : (n : ℕ) (t : Node) → NodeOf n t → Sizes n 0 (node_clauses t)
node-size n t h =
    let x : ℕ = suc t.a in
    let y : ℕ = suc t.b in
    let square : (x + y) * (x + y) ≤ (n + 2) * (n + 2) = mul-le-mul (omega (arith, h.most)) (omega (arith, h.most)) in
    omega (arith, node-length t, four x y, square)

tree_sizes : (n : ℕ) (s : Shape) (v o : ℕ) (units : List (List Literal)) → All (NodeOf n) (nodes s v o) → All (Sizes n (length units)) (tree_blocks s v o units)
unfolding nodes tree_blocks
tree_sizes n leaf v o units h = tt
tree_sizes n (node l r) v o units h =
    let ns = nodes l v o ++ nodes r (v + leaves l) (o + outputs l) in
    let own = node_clauses (node_over l r v o) in
    let k = (all_both (NodeOf n) ns (node_over l r v o ∷ [])).0 h in
    let root = node-size n (node_over l r v o) k.1.0 in
    (all_both (Sizes n (length units)) (map node_clauses ns) ((own ++ units) ∷ [])).1 (
      (all-map-iff (Sizes n (length units)) node_clauses ns).1
          (all-imp (NodeOf n) (λ t. Sizes n (length units) (node_clauses t)) (λ t q. let z = node-size n t q in omega (arith, z)) ns k.0),
      (omega (arith, length-append own units, root), tt),
    )

-- a group's: its units are no more than its open entrants
group-sizes : (n : ℕ) (t : List Group) (g : ℕ) → SettledAmong n (group_at t g) → All (Sizes (open_count (group_at t g)) (open_count (group_at t g))) (group_blocks t g)
unfolding group_blocks totalizer_blocks
group-sizes n t g s = go (counted r)
  where
    r : Group
    r = group_at t g

    k : ℕ
    k = open_count r

    v : ℕ
    v = first_variable t g

    o : ℕ
    o = first_output t g

    us : List (List Literal)
    us = unit_clauses (root_output (shape k) v o) k (at_least r) (at_most r)

    go : (b : Bool) → All (Sizes k k) (cond b (tree_blocks (shape k) v o us) [])
    go true =
        let l = limits_of_lem r s.group in
        let u : length us ≤ k = omega (arith, units_length (root_output (shape k) v o) k (at_least r) (at_most r), l.low-high, l.high-open) in
        all-imp (Sizes k (length us)) (Sizes k k) (λ b q. omega arith) (tree_blocks (shape k) v o us) (tree_sizes k (shape k) v o us (tree_nodes k v o))
    go false = tt

-- ---- the numbers, at the largest n, s and c

-- digits of a variable; bytes of a literal with its sign and its space, of a clause of three literals, and of an entrant's clauses of the longest code
abbrev digit_count : ℕ
digit_count = 5

abbrev literal_bytes : ℕ
literal_bytes = digit_count + 2

abbrev clause_bytes : ℕ → ℕ
clause_bytes k = literal_bytes * k + 2

abbrev entrant_bytes : ℕ
entrant_bytes = clause_bytes limits.members + (limits.members - 1) * clause_bytes 2

-- no block of a tree of m leaves has more bytes
unfoldable pub most_bytes : ℕ → ℕ
most_bytes m = clause_bytes 3 * ((m + 2) * (m + 2) / 2 + m)

few-digits : limits.variables < 10 ^ digit_count
few-digits = omega arith

module _ (n : ℕ) (few : n ≤ limits.entrants) where
  -- the corners: 256 groups of 32 entrants, and 96 of 64
  most-variables : (s c : ℕ) → s ≤ groups_for n → c ≤ limits.constraints → s * (n + tree_output_count n) + c * n ≤ limits.variables
  most-variables s c h k = go (dec_le n limits.narrow)
    where
      corner : (n₁ s₁ : ℕ) → n ≤ n₁ → s ≤ s₁ → s₁ * (n₁ + tree_output_count n₁) + limits.constraints * n₁ ≤ limits.variables
          → s * (n + tree_output_count n) + c * n ≤ limits.variables
      corner n₁ s₁ l r most =
          let a : s * (n + tree_output_count n) ≤ s₁ * (n₁ + tree_output_count n₁) = mul-le-mul r (omega (arith, outputs_mono n n₁ l)) in
          let b : c * n ≤ limits.constraints * n₁ = mul-le-mul k l in
          omega (arith, a, b, most)

      narrow : limits.groups * (limits.narrow + tree_output_count limits.narrow) + limits.constraints * limits.narrow ≤ limits.variables
      narrow = unfold tree_output_count output_count_in in omega arith

      wide : limits.wide * (limits.entrants + tree_output_count limits.entrants) + limits.constraints * limits.entrants ≤ limits.variables
      wide = unfold tree_output_count output_count_in in omega arith

      go : Dec (n ≤ limits.narrow) → s * (n + tree_output_count n) + c * n ≤ limits.variables
      go (yes l) = corner limits.narrow limits.groups l (subst (λ (g : ℕ). s ≤ g) (groups-narrow n l) h) narrow
      go (no l) = corner limits.entrants limits.wide few (subst (λ (g : ℕ). s ≤ g) (groups-wide n (omega arith)) h) wide

  pub most-bytes-fit : most_bytes n ≤ limits.block
  unfolding most_bytes
  most-bytes-fit =
      let square : (n + 2) * (n + 2) ≤ (limits.entrants + 2) * (limits.entrants + 2) =
      mul-le-mul {n₂ = limits.entrants + 2} {m₂ = limits.entrants + 2} (omega arith) (omega arith) in
      omega (arith, square)

  most-constraint-bytes : n * entrant_bytes + clause_bytes n ≤ limits.block
  most-constraint-bytes = omega arith

  -- a totalizer has no more clauses than a block may have bytes
  pub group-clauses-bound : (r : Group) → SettledAmong n r → group_clause_count r ≤ limits.block
  group-clauses-bound r s =
      let most : tree_clause_count limits.entrants + limits.entrants ≤ limits.block = unfold tree_clause_count clause_count_in in omega arith in
      omega (arith, clause-count-few n r s, clauses_mono n limits.entrants few, most)

-- "V is at most 59,392"
pub variables-bound : (m : Model) → Settled m → variable_count m ≤ limits.variables
variables-bound m q =
    let r = in_range_lem m q.in_range_lem in
    le_trans (variables-formula m q) (most-variables m.n r.entrants m.s m.c r.group_limit r.constraint_count)

-- ---- text, of clauses whose variables are short

abbrev Short : Literal → Type 0
Short l = variable l < 10 ^ digit_count

literal-bytes : (l : Literal) → Short l → length (literal_text l) ≤ literal_bytes
unfolding literal_text
literal-bytes (Pos v) h = omega (arith, length-append (decimal v) (32 ∷ []), decimal-bound 4 v h)
literal-bytes (Neg v) h = omega (arith, length-append (decimal v) (32 ∷ []), decimal-bound 4 v h)

clause-bytes : (c : List Literal) → All Short c → length (clause_text c) ≤ clause_bytes (length c)
unfolding clause_text
clause-bytes c h =
    let e = length-each literal_text c in
    let x = total-le (λ l. length (literal_text l)) literal_bytes c (all-imp Short (λ l. length (literal_text l) ≤ literal_bytes) literal-bytes c h) in
    omega (arith, length-append (flat_map literal_text c) (48 ∷ 10 ∷ []), e, x)

-- a block within its bytes
abbrev Fits : List (List Literal) → Type 0
Fits b = length (flat_map clause_text b) ≤ limits.block

-- ---- a group's blocks: clauses of at most three literals

abbrev Three : List Literal → Type 0
Three c = length c ≤ 3

literals-length : (ts : List Term) → length (literals ts) ≤ length ts
literals-length [] = omega arith
literals-length (Holds ∷ ts) = omega (arith, literals-length ts)
literals-length (Fails ∷ ts) = omega (arith, literals-length ts)
literals-length (Open l ∷ ts) = omega (arith, literals-length ts)

keep-three : (ts : List Term) → length ts ≤ 3 → All Three (keep ts)
unfolding keep
keep-three ts h = go (list_any holds ts)
  where
    go : (b : Bool) → All Three (cond b [] (literals ts ∷ []))
    go true = tt
    go false = (omega (arith, literals-length ts), tt)

dropped-three : (t : Node) (p q : ℕ) → All Three (dropped t p q)
unfolding dropped put_in node_terms
dropped-three t p q =
    all-each Three keep (put_in t p q) (
      keep-three (node_terms t (formed p q).up) (omega arith),
      (keep-three (node_terms t (formed p q).down) (omega arith), tt),
    )

node-three : (t : Node) → All Three (node_clauses t)
unfolding node_clauses row_clauses
node-three t =
    all-each Three (row_clauses t) (range 0 (suc t.a))
    (all_of (λ p. All Three (row_clauses t p))
    (λ p. all-each Three (dropped t p) (range 0 (suc t.b)) (all_of (λ q. All Three (dropped t p q)) (dropped-three t p) (range 0 (suc t.b))))
    (range 0 (suc t.a)))

tree_three : (s : Shape) (v o : ℕ) → All Three (tree_clauses s v o)
unfolding tree_clauses
tree_three s v o = all-each Three node_clauses (nodes s v o) (all_of (λ t. All Three (node_clauses t)) node-three (nodes s v o))

group-three : (t : List Group) (g : ℕ) → All Three (group_clauses t g)
unfolding group_clauses totalizer_clauses unit_clauses unit
group-three t g = go (counted r)
  where
    r : Group
    r = group_at t g

    v : ℕ
    v = first_variable t g

    o : ℕ
    o = first_output t g

    n : ℕ
    n = root_output (shape (open_count r)) v o

    go : (b : Bool) → All Three (cond b (totalizer_clauses (open_count r) v o (at_least r) (at_most r)) [])
    go true =
        (all_both Three (tree_clauses (shape (open_count r)) v o) (unit_clauses n (open_count r) (at_least r) (at_most r))).1 (
          tree_three (shape (open_count r)) v o,
          (all_both Three (map (unit Pos n) (range 0 (at_least r))) (map (unit Neg n) (range (at_most r) (open_count r - at_most r)))).1 (
            (all-map-iff Three (unit Pos n) (range 0 (at_least r))).1 (all_of (λ i. Three (unit Pos n i)) (λ i. omega arith) (range 0 (at_least r))),
            (all-map-iff Three (unit Neg n) (range (at_most r) (open_count r - at_most r))).1
                (all_of (λ i. Three (unit Neg n i)) (λ i. omega arith) (range (at_most r) (open_count r - at_most r))),
          ),
        )
    go false = tt

clauses-bytes : (cs : List (List Literal)) → All (All Short) cs → All Three cs → length (flat_map clause_text cs) ≤ length cs * clause_bytes 3
clauses-bytes cs h k =
    let e = length-each clause_text cs in
    let x =
    total-le (λ c. length (clause_text c)) (clause_bytes 3) cs
    (all-imp (λ c. All Short c × Three c) (λ c. length (clause_text c) ≤ clause_bytes 3) (λ c p. let q = p.1 in omega (arith, clause-bytes c p.0)) cs
    (all-zip (All Short) Three cs h k)) in
    omega (arith, e, x)

-- ---- a constraint's block

abbrev bytes_of : List Literal → ℕ
bytes_of ls = clause_bytes (length ls)

-- no more bytes for an entrant than the longest code has
Modest : Constraint → Type 0
Modest c = total bytes_of (member_clauses c.code c.count) ≤ entrant_bytes

modest : (s : ℕ) (c : Constraint) → T (constraint_in_range s c) → Modest c
unfolding member_clauses short_clauses union_clauses Modest
modest s c t =
    let P : ℕ → Type 0 = λ code. (code ≡ 6 → c.count ≤ limits.members - 1) → total bytes_of (member_clauses code c.count) ≤ entrant_bytes in
    by_seven P
    (by_code P (λ h. omega arith) (λ h. omega arith) (λ h. omega arith) (λ h. omega arith) (λ h. omega arith)
    (λ h. let k = h refl in
    omega (
      arith,
      length-append (map Pos (range 1 c.count)) (Neg 0 ∷ []),
      length-map (range 1 c.count) Pos,
      range_length 1 c.count,
      total-map bytes_of (λ i. Neg i ∷ Pos 0 ∷ []) (range 1 c.count),
      total_const (λ i. bytes_of (Neg i ∷ Pos 0 ∷ [])) (clause_bytes 2) 1 c.count (λ j l u. refl),
    )))
    (λ h. omega arith)
    c.code (is_code c.code c.count (constraint-code s c t)) (count-in c.code c.count (constraint-code s c t))

kept-bytes : (ts : List Term) → All (All Short) (keep ts) → length (flat_map clause_text (keep ts)) ≤ clause_bytes (length ts)
unfolding keep
kept-bytes ts h = go (list_any holds ts) h
  where
    go : (b : Bool) → All (All Short) (cond b [] (literals ts ∷ [])) → length (flat_map clause_text (cond b [] (literals ts ∷ []))) ≤ clause_bytes (length ts)
    go true h = omega arith
    go false h = omega (arith, clause-bytes (literals ts) h.0, length-append (clause_text (literals ts)) [], literals-length ts)

module _ (t : List Group) (x : ℕ) (c : Constraint) where
  entrant-bytes : (e : ℕ) → Modest c → All (All Short) (clauses_at x t c e) → length (flat_map clause_text (clauses_at x t c e)) ≤ entrant_bytes
  unfolding clauses_at Modest
  entrant-bytes e k h = go (is_apart t c) h
    where
      cs : List (List Literal)
      cs = member_clauses c.code c.count

      f : List Literal → List (List Literal)
      f ls = keep (map (term_of (constraint_term x t c e)) ls)

      go : (b : Bool) → All (All Short) (cond b [] (flat_map f cs)) → length (flat_map clause_text (cond b [] (flat_map f cs))) ≤ entrant_bytes
      go true h = omega arith
      go false h =
          let p = ap length (each-each clause_text f cs) ∙ length-each (λ ls. flat_map clause_text (f ls)) cs in
          let q =
          total_mono (λ ls. length (flat_map clause_text (f ls))) bytes_of cs
          (all-imp (λ ls. All (All Short) (f ls)) (λ ls. length (flat_map clause_text (f ls)) ≤ bytes_of ls)
          (λ ls q. let w = kept-bytes (map (term_of (constraint_term x t c e)) ls) q in omega (arith, length-map ls (term_of (constraint_term x t c e)))) cs
          (each_all (All Short) f cs h)) in
          omega (arith, p, q)

  -- the last clause has a literal for each entrant at most
  last-bytes : (n : ℕ) → All (All Short) (last_clause n x t c) → length (flat_map clause_text (last_clause n x t c)) ≤ clause_bytes n
  unfolding last_clause
  last-bytes n h = go (is_open_difference t c) h
    where
      go : (b : Bool) → All (All Short) (cond b (keep (map (difference x t c) (range 0 n))) [])
          → length (flat_map clause_text (cond b (keep (map (difference x t c) (range 0 n))) [])) ≤ clause_bytes n
      go true h = omega (arith, kept-bytes (map (difference x t c) (range 0 n)) h, length-map (range 0 n) (difference x t c), range_length 0 n)
      go false h = omega arith

  constraint-bytes : (n : ℕ) → Modest c → All (All Short) (constraint_clauses n t x c)
      → length (flat_map clause_text (constraint_clauses n t x c)) ≤ n * entrant_bytes + clause_bytes n
  unfolding constraint_clauses
  constraint-bytes n k h =
      let es = flat_map (clauses_at x t c) (range 0 n) in
      let parts = (all_both (All Short) es (last_clause n x t c)).0 h in
      let p = ap length (each-each clause_text (clauses_at x t c) (range 0 n)) ∙ length-each (λ e. flat_map clause_text (clauses_at x t c e)) (range 0 n) in
      let q =
      total-le (λ e. length (flat_map clause_text (clauses_at x t c e))) entrant_bytes (range 0 n)
      (all-imp (λ e. All (All Short) (clauses_at x t c e)) (λ e. length (flat_map clause_text (clauses_at x t c e)) ≤ entrant_bytes) (λ e q. entrant-bytes e k q) (range 0 n)
      (each_all (All Short) (clauses_at x t c) (range 0 n) parts.0)) in
      let w = last-bytes n parts.1 in
      omega (
        arith,
        p,
        q,
        range_length 0 n,
        ap length (each_append clause_text es (last_clause n x t c)),
        length-append (flat_map clause_text es) (flat_map clause_text (last_clause n x t c)),
      )

-- every clause has bytes
clauses-few : (cs : List (List Literal)) → length cs ≤ length (flat_map clause_text cs)
unfolding clause_text
clauses-few [] = omega arith
clauses-few (c ∷ cs) =
    omega (arith, length-append (clause_text c) (flat_map clause_text cs), length-append (flat_map literal_text c) (48 ∷ 10 ∷ []), clauses-few cs)

-- ---- every block

module _ (m : Model) (q : Settled m) where
  few : m.n ≤ limits.entrants
  few = (in_range_lem m q.in_range_lem).entrants

  shorts : (cs : List (List Literal)) → VariablesIn m cs → All (All Short) cs
  shorts cs h =
      all-imp (All (In 1 (suc (variable_count m)))) (All Short)
      (λ c k. all-imp (In 1 (suc (variable_count m))) Short (λ l p. let u = p.1 in omega (arith, variables-bound m q, few-digits)) c k) cs h

  -- a group's blocks, of every node that its tree has
  module _ (g : ℕ) (h : 1 ≤ g) (k : g ≤ m.s) where
    among : SettledAmong m.n (group_at (table_of m) g)
    unfolding group_at
    among = all-place (SettledAmong m.n) zero_group (table_of m) (table-settled m q) (g - 1) (omega (arith, table-length m q.sized))

    pub open-most : most_bytes (open_count (group_at (table_of m) g)) ≤ limits.block
    open-most =
        let few : open_count (group_at (table_of m) g) ≤ limits.entrants = le_trans (open_few m.n (group_at (table_of m) g) among) few in
        most-bytes-fit (open_count (group_at (table_of m) g)) few

    pub group-bytes : All (λ b. length (flat_map clause_text b) ≤ most_bytes (open_count (group_at (table_of m) g))) (group_blocks (table_of m) g)
    unfolding most_bytes
    group-bytes =
        let t = table_of m in
        let bs = group_blocks t g in
        let c : ℕ = open_count (group_at t g) in
        let e = sym (group-joined t g among.group) in
        let short = each_all (All Short) (λ b. b) bs (subst (All (All Short)) e (shorts (group_clauses t g) (group-variables m q g h k))) in
        let three = each_all Three (λ b. b) bs (subst (All Three) e (group-three t g)) in
        all-imp (λ b. All (All Short) b × (All Three b × Sizes c c b)) (λ b. length (flat_map clause_text b) ≤ clause_bytes 3 * ((c + 2) * (c + 2) / 2 + c))
        (λ b p. let w = p.1.1 in omega (arith, clauses-bytes b p.0 p.1.0, w)) bs
        (all-zip (All (All Short)) (λ b. All Three b × Sizes c c b) bs short (all-zip (All Three) (Sizes c c) bs three (group-sizes m.n t g among)))

  node-bytes : All Fits (node_blocks m)
  unfolding node_blocks
  node-bytes =
      all-each Fits (group_blocks (table_of m)) (range 1 m.s)
      (range_all (λ g. All Fits (group_blocks (table_of m) g)) 1 m.s
      (λ g l h. let k : g ≤ m.s = omega arith in
      all-imp (λ b. length (flat_map clause_text b) ≤ most_bytes (open_count (group_at (table_of m) g))) Fits (λ b w. le_trans w (open-most g l k))
      (group_blocks (table_of m) g) (group-bytes g l k)))

  all-modest : All Modest (constraints_of m)
  all-modest =
      all-imp (λ c. T (constraint_in_range m.s c)) Modest (modest m.s) (constraints_of m)
      (every-all (constraint_in_range m.s) (constraints_of m) (in_range_lem m q.in_range_lem).constraints)

  zero-modest : Modest zero_constraint
  unfolding zero_constraint member_clauses short_clauses Modest
  zero-modest = omega arith

  -- of constraint j
  line-bytes : (j : ℕ) → Fits (line_clauses m j)
  unfolding line_clauses
  line-bytes j =
      let x = first_difference (1 + table_variables (table_of m)) m j in
      let c = get_or (constraints_of m) (j - 1) zero_constraint in
      le_trans (constraint-bytes (table_of m) x c m.n (all_get_d Modest zero_constraint zero-modest (constraints_of m) all-modest (j - 1))
      (shorts (constraint_clauses m.n (table_of m) x c) (constraint-variables m q j)))
      (most-constraint-bytes m.n few)

  -- the number of a constraint's clauses, wherever its X are numbered from
  constraint-clauses-bound : (c : Constraint) → Modest c → length (constraint_clauses m.n (table_of m) 0 c) ≤ limits.block
  constraint-clauses-bound c k =
      let t = table_of m in
      let s = table-settled m q in
      let hi : ℕ = suc (table_variables t) + difference_count t c in
      let cs = constraint_clauses m.n t 1 c in
      let i = constraint-in m.n t s hi (omega arith) 1 c (omega arith) (omega arith) m.n in
      let below : table_variables t ≤ variable_count m = unfold variable_count in omega arith in
      let top : hi ≤ 10 ^ digit_count = omega (arith, variables-bound m q, count-le m.n t s c, few, below) in
      let h : All (All Short) cs = all-imp (All (In 1 hi)) (All Short) (λ c k. all-imp (In 1 hi) Short (λ l p. let u = p.1 in omega arith) c k) cs i in
      omega (arith, constraint-count t c 0 1 m.n, clauses-few cs, constraint-bytes t 1 c m.n k h, most-constraint-bytes m.n few)

  -- C: no block has more clauses than bytes
  count-bound : clause_count m ≤ (m.s + m.c) * limits.block
  unfolding clause_count
  count-bound =
      let t = table_of m in
      let x =
      total-le group_clause_count limits.block t
      (all-imp (SettledAmong m.n) (λ g. group_clause_count g ≤ limits.block) (group-clauses-bound m.n few) t (table-settled m q)) in
      let y =
      total-le (λ c. length (constraint_clauses m.n t 0 c)) limits.block (constraints_of m)
      (all-imp Modest (λ c. length (constraint_clauses m.n t 0 c) ≤ limits.block) constraint-clauses-bound (constraints_of m) all-modest) in
      omega (arith, x, y, table-length m q.sized, constraints-length m q.sized)

  header-bytes : length (header_text m) ≤ limits.block
  unfolding header_text
  header-bytes =
      let vs = decimal (variable_count m) in
      let ks = decimal (clause_count m) in
      let h : List ℕ = 112 ∷ 32 ∷ 99 ∷ 110 ∷ 102 ∷ 32 ∷ [] in
      let i = in_range_lem m q.in_range_lem in
      omega (
        arith,
        length-append (h ++ vs ++ (32 ∷ []) ++ ks) (10 ∷ []),
        length-append (h ++ vs ++ (32 ∷ [])) ks,
        length-append (h ++ vs) (32 ∷ []),
        length-append h vs,
        decimal-bound 4 (variable_count m) (omega (arith, variables-bound m q, few-digits)),
        decimal-bound 8 (clause_count m) (omega (arith, count-bound, i.group_count, i.constraint_count)),
      )

  -- "65,536 bytes hold each block"
  pub block-bound : (b : ℕ) → length (block_text m b) ≤ limits.block
  unfolding block_text
  block-bound zero = header-bytes
  block-bound (suc b) = rw (eqb-suc-zero b) (go (dec_le (suc b) (length (node_blocks m))))
    where
      go : Dec (suc b ≤ length (node_blocks m)) → Fits (block_clauses m (suc b))
      go (yes h) = rw (node_block m (suc b) h) (all_get_d Fits [] (omega arith) (node_blocks m) node-bytes (suc b - 1))
      go (no h) = rw (line-block m (suc b) (omega arith)) (line-bytes (suc b - length (node_blocks m)))
