-- The clauses of the listing hold exactly when each group's and each constraint's test does. Assumes nothing.
use mathlib.Core.Path.{◌≡◌, refl, sym, ap, ap₂, ◌∙◌, subst}
use mathlib.Core.Logic.{◌⊎◌, inl, inr}
use mathlib.Core.Bool.{Bool, true, false, cond, not, ◌&&◌, ◌||◌}
use mathlib.Core.List.{List, [], ◌++◌, map}
use Prim.Native.Nat.{ℕ, ◌+◌, ◌-◌, ◌≤◌, ◌<◌}
use native.Mathlib.Omega.{arith}
use borrow.Author.Tests.{le-leb, lt-leb}
use lib.Dec.{T, leb, eqb, le→leb, leb→le}
use lib.ListN.{length, get_or, take, replicate, get_or-append}
use Rattle.model.specs.declared.Group.{Group}
use Rattle.model.specs.declared.Constraint.{Constraint}
use Rattle.model.specs.declared.Model.{Model}
use Rattle.std.specs.List.{list_all}
use Rattle.model.specs.Lists.{total, range, between}
use Rattle.model.specs.Limits.{limits}
use Rattle.model.specs.Words.{full, less, size, has, word_where}
use Rattle.model.specs.Clauses.{by_entrant, member_count, member_clauses, is_difference}
use Rattle.model.specs.Model.{zero_group, zero_constraint, group_at, table_of, constraints_of, constraint_sized, members_sized, constraint_in_range}
use Rattle.model.specs.Difference.{is_apart}
use Rattle.model.specs.Propagate.{Settled}
use Rattle.model.specs.Totalizer.{shape}
use Rattle.model.specs.Cnf.{open_of, open_count, at_least, at_most, counted, first_variable, variable_of, table_variables, differing, difference_count, first_difference, membership, constraint_clauses, line_clauses}
use Rattle.model.specs.Solution.{set_of}
use Rattle.model.specs.Close.{truth, term_true, clause_true, satisfying, group_by, groups_by, closed_groups}
use Rattle.model.specs.Fill.{count, one_of, member_set}
use Rattle.model.proofs.Words.{bit-zero, bit-less, bit_ext, has_where, word_ext}
use Rattle.model.proofs.Lists.{T-ext, T_true, and_left, and_right, and_both, between_le, every_append, every-each, every_map, every-getD, every-range_ext, range-append, All, all-place, values-make, values_length, get_or-map-range}
use Rattle.model.proofs.Codes.{entrant-or-seven}
use Rattle.encoding_laws.specs.Division.{tree_clauses, totalizer_clauses, group_clauses, clauses_by_group}
use Rattle.propagation_laws.proofs.Ranges.{in_range_lem, constraint-code, member_below}
use Rattle.propagation_laws.proofs.Meaning.{clauses_for}
use Rattle.encoding_laws.proofs.Truth.{all_true}
use Rattle.encoding_laws.proofs.Tree.{count-le, values_from, tree-iff}
use Rattle.encoding_laws.proofs.Totalizer.{totalizer_iff}
use Rattle.encoding_laws.proofs.Groups.{table-length, constraints-length}
use Rattle.encoding_laws.proofs.Blocks.{by-group-parts}
use Rattle.encoding_laws.proofs.Fixpoint.{SettledAmong, table-settled}
use Rattle.encoding_laws.proofs.Row.{in_row, row_word, row-size}
use Rattle.encoding_laws.proofs.Differences.{six-difference, is-difference, difference_word}
use Rattle.encoding_laws.proofs.Whole.{OpenLimits, limits_of_lem, counted-pos, uncounted, open_apart, open_lt, fixed-lt, member-true, constraint-entrants, constraint-says}
use Rattle.constraint_clauses.specs.Holds.{clause_holds}
use Rattle.constraint_clauses.proofs.Entrants.{clauses-are}
use Rattle.solution.specs.Holds.{in_group, word_of, word_at, table_words, group_holds, group_holds_at, word_of_difference, difference_holds, constraint_holds, constraint_holds_at, clauses_hold}

-- ---- a group that is at its fixpoint

module _ (n : ℕ) (a : List Bool) (r : Group) (v o w : ℕ) (s : SettledAmong n r) (e : w ≡ word_of n a r v) where
  x : ℕ
  x = count (values_from a v (open_count r))

  word_size : size w ≡ size r.fixed + x
  unfolding word_of row_word open_count x
  word_size = ap size e ∙ row-size (truth a) n r.fixed (open_of r) v (fixed-lt n r s) (open_lt n r s) (open_apart r s.group)

  few : x ≤ open_count r
  unfolding x
  few = rw (values_length (truth a) v (open_count r)) at (count-le (values_from a v (open_count r)))

  in-limits : r.low ≤ size w → size w ≤ r.high → T (between r.low r.high (size w))
  in-limits h k = and_both (leb r.low (size w)) (leb (size w) r.high) (le→leb r.low (size w) h) (le→leb (size w) r.high k)

  pub group-true : group_holds a r w v o ≡ all_true a (cond (counted r) (totalizer_clauses (open_count r) v o (at_least r) (at_most r)) [])
  unfolding group_holds counted x
  group-true = go (counted r) refl
    where
      l : OpenLimits r
      l = limits_of_lem r s.group

      m : ℕ
      m = open_count r

      b : Bool
      b = between r.low r.high (size w)

      go : (c : Bool) → counted r ≡ c
          → (b && cond c (all_true a (tree_clauses (shape m) v o)) true) ≡ all_true a (cond c (totalizer_clauses m v o (at_least r) (at_most r)) [])
      go true q =
          let h1 : 1 ≤ m = counted-pos (at_least r) (at_most r) m l.low-open (subst T (sym q) tt) in
          let tree = all_true a (tree_clauses (shape m) v o) in
          let i = totalizer_iff a m v o (at_least r) (at_most r) h1 l.low-open l.high-open in
          T-ext (b && tree) (all_true a (totalizer_clauses m v o (at_least r) (at_most r)))
          (λ t. let k = between_le r.low r.high (size w) (and_left b tree t) in
          let k0 = k.0 in
          let k1 = k.1 in
          i.1 ((tree-iff a (shape m) v o).0 (and_right b tree t), (omega (arith, word_size, l.low-is), omega (arith, word_size, l.high_is))))
          (λ t. let k = i.0 t in
          let k0 = k.1.0 in
          let k1 = k.1.1 in
          and_both b tree (in-limits (omega (arith, word_size, l.low-is)) (omega (arith, word_size, l.high_is))) ((tree-iff a (shape m) v o).1 k.0))
      go false q =
          let u = uncounted (at_least r) (at_most r) m (subst (λ b. T (not b)) (sym q) tt) in
          let u0 = u.0 in
          let u1 = u.1 in
          rw (T_true b (in-limits (omega (arith, word_size, l.low-is)) (omega (arith, word_size, l.high_is, few))))

-- ---- the words of the table

module _ (m : Model) (a : List Bool) where
  word-by : (g : ℕ) → word_at m.n a (table_of m) g ≡ group_by m a g
  unfolding word_at word_of group_by
  word-by g =
      let r = group_at (table_of m) g in
      word_ext (in_group a r (first_variable (table_of m) g)) (λ e. term_true a (membership (table_of m) e g)) m.n (λ e l. sym (member-true a (table_of m) g e))

  pub words_are : table_words m.n a (table_of m) m.s ≡ closed_groups m a
  unfolding table_words closed_groups groups_by
  words_are =
      ap (λ (l : List ℕ). l ++ replicate (limits.groups - m.s) 0)
      (values-make (word_at m.n a (table_of m)) (group_by m a) 1 1 m.s (λ k h. word-by (1 + k)))

  word_in : (i : ℕ) → i < m.s → get_or (closed_groups m a) i 0 ≡ group_by m a (1 + i)
  unfolding closed_groups groups_by
  word_in i h =
      get_or-append (map (group_by m a) (range 1 m.s)) (replicate (limits.groups - m.s) 0) 0 i (omega (arith, values_length (group_by m a) 1 m.s))
      ∙ get_or-map-range (group_by m a) 1 m.s i 0 h

  -- a group's number counts from 1, and 0 reads as 1
  same-group : (g e : ℕ) → membership (table_of m) e (1 + (g - 1)) ≡ membership (table_of m) e g
  unfolding membership variable_of group_at first_variable
  same-group g e = let q : 1 + (g - 1) - 1 ≡ g - 1 = omega arith in rw q

  set-has : (g e : ℕ) → 1 ≤ m.s → g ≤ m.s → e < m.n → has (set_of (closed_groups m a) g) e ≡ term_true a (membership (table_of m) e g)
  unfolding set_of group_by
  set-has g e p h l =
      ap (λ (w : ℕ). has w e) (word_in (g - 1) (omega arith))
      ∙ has_where (λ e. term_true a (membership (table_of m) e (1 + (g - 1)))) m.n e l
      ∙ ap (term_true a) (same-group g e)

  set_is : (g : ℕ) → 1 ≤ m.s → g ≤ m.s → set_of (closed_groups m a) g ≡ set_of (groups_by m a) g
  unfolding set_of groups_by
  set_is g p h = word_in (g - 1) (omega arith) ∙ sym (get_or-map-range (group_by m a) 1 m.s (g - 1) 0 (omega arith))

-- ---- a constraint

module _ (m : Model) (a : List Bool) (some : 1 ≤ m.s) where
  six-true : (x : ℕ) (c : Constraint) → T (constraint_in_range m.s c) → T (by_entrant c.code)
      → all_true a (constraint_clauses m.n (table_of m) x c)
      ≡ list_all (clause_holds (closed_groups m a) c.groups (full m.n)) (member_clauses c.code c.count)
  unfolding clauses_for
  six-true x c t six =
      let cs = member_clauses c.code c.count in
      let d = closed_groups m a in
      constraint-entrants m a x c d six (λ i e l h. set-has m a (get_or c.groups i 0) e some (member_below m.s c t i l) h)
      ∙ sym (clauses-are m.n d c.groups cs)

  word-true : (x : ℕ) (c : Constraint) → word_of m.n a record { fixed = 0; possible = differing (table_of m) c; low = 0; high = 0 } x ≡ difference_word a m.n x (table_of m) c
  unfolding word_of open_of row_word
  word-true x c =
      let o = differing (table_of m) c in
      let z : less o 0 ≡ o = bit_ext (less o 0) o (λ i. omega (arith, bit-less i o 0, bit-zero i)) in
      ap (λ (k : ℕ). word_where (in_row (truth a) 0 k x) m.n) z

  constraint-true : All (SettledAmong m.n) (table_of m) → (x : ℕ) (c : Constraint) → T (constraint_in_range m.s c) → T (constraint_sized c)
      → all_true a (constraint_clauses m.n (table_of m) x c) ≡ constraint_holds a (table_of m) (closed_groups m a) m.n x c
  unfolding constraint_holds difference_holds word_of_difference
  constraint-true s x c t wide = go (entrant-or-seven c.code c.count (constraint-code m.s c t))
    where
      member_is : c.code ≡ 7 → (i : ℕ) → i < 2 → member_set (closed_groups m a) c i ≡ member_set (groups_by m a) c i
      member_is seven i h =
          let two : member_count c.code c.count ≡ 2 = ap (λ (k : ℕ). member_count k c.count) seven ∙ (unfold member_count in refl) in
          set_is m a (get_or c.groups i 0) some (member_below m.s c t i (omega arith))

      go : T (by_entrant c.code) ⊎ (c.code ≡ 7)
          → all_true a (constraint_clauses m.n (table_of m) x c)
          ≡ cond (is_difference c) (difference_holds a (table_of m) (closed_groups m a) m.n x c)
          (list_all (clause_holds (closed_groups m a) c.groups (full m.n)) (member_clauses c.code c.count))
      go (inl six) = rw (six-difference (table_of m) c six) (six-true x c t six)
      go (inr seven) =
          constraint-says m a s x c t (leb→le limits.members (length c.groups) wide)
          ∙ rw (is-difference (table_of m) c seven)
          (sym (ap₂ (λ (w o : ℕ). is_apart (table_of m) c || (eqb w o && not (eqb w 0))) (word-true x c)
          (ap₂ one_of (member_is seven 0 (omega arith)) (member_is seven 1 (omega arith)))))

-- ---- the listing

-- a test of n numbers from i on, and one of those from j on
every-from : (p r : ℕ → Bool) (i j n : ℕ) → ((k : ℕ) → k < n → p (i + k) ≡ r (j + k)) → list_all p (range i n) ≡ list_all r (range j n)
every-from p r i j n h =
    sym (every_map (λ (b : Bool). b) p (range i n)) ∙ ap (list_all (λ (b : Bool). b)) (values-make p r i j n h) ∙ every_map (λ (b : Bool). b) r (range j n)

module _ (m : Model) (a : List Bool) (q : Settled m) where
  group_at_lem : (g : ℕ) → 1 ≤ g → g ≤ m.s → all_true a (group_clauses (table_of m) g) ≡ group_holds_at a (table_of m) (closed_groups m a) g
  unfolding group_holds_at group_clauses group_at word_at set_of
  group_at_lem g h k =
      let e : 1 + (g - 1) ≡ g = omega arith in
      sym (group-true m.n a (group_at (table_of m) g) (first_variable (table_of m) g) _ (set_of (closed_groups m a) g)
      (all-place (SettledAmong m.n) zero_group (table_of m) (table-settled m q) (g - 1) (omega (arith, table-length m q.sized)))
      (word_in m a (g - 1) (omega arith) ∙ ap (group_by m a) e ∙ sym (word-by m a g)))

  constraint-at : T (members_sized m) → (i : ℕ) → i < m.c
      → all_true a (line_clauses m (1 + m.s + i - m.s)) ≡ constraint_holds_at a (table_of m) (constraints_of m) (closed_groups m a) m.n (0 + i)
  unfolding line_clauses constraint_holds_at first_difference
  constraint-at wide i h =
      let t = table_of m in
      let cs = constraints_of m in
      let r = in_range_lem m q.in_range_lem in
      let l : 0 + i < length cs = omega (arith, constraints-length m q.sized) in
      let at : ℕ → Bool = λ k. all_true a (constraint_clauses m.n t (1 + table_variables t + total (difference_count t) (take k cs)) (get_or cs k zero_constraint)) in
      ap at {x = 1 + m.s + i - m.s - 1} {y = 0 + i} (omega arith)
      ∙ constraint-true m a r.some-group (table-settled m q) _ (get_or cs (0 + i) zero_constraint)
      (every-getD (constraint_in_range m.s) cs zero_constraint (0 + i) r.constraints l) (every-getD constraint_sized cs zero_constraint (0 + i) wide l)

  pub satisfying-is : T (members_sized m) → satisfying m a ≡ clauses_hold a (table_of m) (constraints_of m) (closed_groups m a) m.n m.s m.c
  unfolding satisfying clauses_hold clauses_by_group
  satisfying-is wide =
      let at : ℕ → Bool = λ b. all_true a (clauses_by_group m b) in
      ap (all_true a) (sym (by-group-parts m q))
      ∙ every-each (clause_true a) (clauses_by_group m) (range 1 (m.s + m.c))
      ∙ ap (list_all at) (range-append 1 m.s m.c)
      ∙ every_append at (range 1 m.s) (range (1 + m.s) m.c)
      ∙ ap₂ (λ (x y : Bool). x && y)
      (every-range_ext at (group_holds_at a (table_of m) (closed_groups m a)) 1 m.s (λ g h k. rw (le-leb g m.s (omega arith)) (group_at_lem g h (omega arith))))
      (every-from at (constraint_holds_at a (table_of m) (constraints_of m) (closed_groups m a) m.n) (1 + m.s) 0 m.c
      (λ i h. rw (lt-leb (1 + m.s + i) m.s (omega arith)) (constraint-at wide i h)))
