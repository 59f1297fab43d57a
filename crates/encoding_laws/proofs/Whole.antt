-- The satisfying assignments and the solutions match one for one. Assumes nothing.
use mathlib.Core.Path.{◌≡◌, refl, sym, ap, ap₂, ◌∙◌, subst}
use mathlib.Core.Logic.{◌↔◌, ◌⊎◌, inl, inr}
use mathlib.Core.Bool.{Bool, true, false, not, ◌&&◌, ◌||◌, cond, beq}
use mathlib.Core.List.{List, [], ◌∷◌, ◌++◌, map, append-nil}
use Prim.Native.Nat.{ℕ, zero, suc, ◌+◌, ◌-◌, ◌%◌, ◌^◌, ◌≤◌, ◌<◌}
use native.Mathlib.Omega.{arith}
use native.Mathlib.Decide.{dec_lt}
use lib.Dec.{T, leb, ltb, eqb, leb→le, le→leb, ltb→lt, lt→ltb, nltb→le, eqb→eq, eqb_refl}
use lib.Arith.{le→nltb}
use lib.Pow.{pow_pos}
use lib.ListN.{length, get_or, take, drop, length-append, length-drop, take-append-drop}
use lib.Seq.{drop-cons, take_all, take_at, drop_at}
use Rattle.model.specs.declared.Literal.{Literal}
use Rattle.model.specs.declared.Literal.TheVariants.{Pos, Neg}
use Rattle.model.specs.declared.Term.{Term}
use Rattle.model.specs.declared.Term.TheVariants.{Holds, Fails, Open}
use Rattle.model.specs.declared.Group.{Group}
use Rattle.model.specs.declared.Constraint.{Constraint}
use Rattle.model.specs.declared.Model.{Model}
use Rattle.std.specs.List.{list_all, list_any, flat_map}
use Rattle.model.specs.Lists.{pairwise, each_pair, total, range, between}
use Rattle.model.specs.Limits.{limits}
use Rattle.model.specs.Words.{less, size, inside, bit, has}
use Rattle.model.specs.Clauses.{by_entrant, member_count, member_clauses, is_difference}
use Rattle.model.specs.Model.{zero_group, group_at, member_at, table_of, constraints_of, members_sized, constraint_in_range}
use Rattle.model.specs.Difference.{apart, is_apart}
use Rattle.model.specs.Propagate.{Settled}
use Rattle.model.specs.Totalizer.{shape, tree_output_count}
use Rattle.model.specs.Cnf.{open_of, open_count, at_least, at_most, counted, outputs_of, first_variable, first_output, variable_of, table_variables, differing, difference_count, variable_count, membership, difference, constraint_term, term_of, clauses_at, last_clause, constraint_clauses, clauses}
use Rattle.model.specs.Solution.{allowed, set_of, constraint_true, is_solution}
use Rattle.model.specs.Close.{truth, term_true, clause_true, satisfying, group_by, groups_by}
use Rattle.model.specs.Fill.{count, open_values, variable_values, tree_values, output_values, one_of, member_set, difference_values, assignment_for}
use Rattle.model.specs.Demand.{is_assignment, is_satisfying}
use Rattle.model.proofs.Words.{bit-zero, bit-or, bit_ext, size-zero, Sub, sub-inside, inside-sub, sub-less, sub-le, size-le, size_less, bit-less, bit_le, has-less, word_ext, where_lt, has_where}
use Rattle.model.proofs.Lists.{T_true, T_false, and_left, and_right, and_both, every_append, every-each, every_map, every-ext, any-map, any-ext, any-all_ext, every-range_ext, length-each, total_ext, values-make, values-append, values_length, append-iff, All, all-zip, all-map-iff, all_of, all_get_d, range_all, every-all, get_or-map_in, range-get_or, range_length}
use Rattle.encoding_laws.proofs.Truth.{all_true, all_true-append, T_and, opposite-true, keep-true, kept-true}
use Rattle.encoding_laws.proofs.Tree.{tree_values-length, values_from, count-le}
use Rattle.encoding_laws.proofs.Totalizer.{totalizer_iff, leaves-shape}
use Rattle.encoding_laws.proofs.Counts.{outputs-count}
use Rattle.encoding_laws.proofs.Groups.{table-length, over_constraints, over_groups, numbered}
use Rattle.encoding_laws.proofs.Blocks.{clauses-parts}
use Rattle.propagation_laws.proofs.GroupRule.{SettledGroup}
use Rattle.propagation_laws.proofs.Ranges.{in_range_lem, constraint-code, member-group}
use Rattle.propagation_laws.proofs.Meaning.{literal_for, clauses_for, clauses_hold, over_entrant, same-clauses, meaning-below, difference-sets}
use Rattle.encoding_laws.proofs.Fixpoint.{SettledAmong, table-settled}
use Rattle.model.proofs.Codes.{entrant-or-seven}
use Rattle.encoding_laws.specs.Division.{totalizer_clauses, group_clauses}
use Rattle.encoding_laws.proofs.Differences.{six-difference, six-apart, six-differing, six-last, six-member, zero_settled, differing-lt, apart-differing, apart-clauses, is-difference, apart_some, apart-bits, differing-bits, open-last, four, one-bits, one_has, one-lt, one_none, equal_words, four-true, difference_word, difference-has, some-true}
use Rattle.encoding_laws.proofs.Row.{in_row, row_word, Apart, Holding, row-size, row-values, row_of, row-holding, open_length}

-- ---- one group

-- L and U of a group at rest
pub record OpenLimits (r : Group) : Type 0 where
  pub low-open : at_least r ≤ open_count r
  pub high-open : at_most r ≤ open_count r
  pub low-high : at_least r ≤ at_most r
  pub low-is : at_least r + size r.fixed ≡ r.low
  pub high_is : at_most r + size r.fixed ≡ r.high

pub limits_of_lem : (r : Group) → SettledGroup r → OpenLimits r
unfolding at_least at_most open_count open_of
limits_of_lem r s =
    let e = size_less r.possible r.fixed s.fits in
    record {
      low-open = omega (arith, s.least, s.order, s.most);
      high-open = omega (arith, s.least, s.order, s.most);
      low-high = omega (arith, s.order);
      low-is = omega (arith, s.least);
      high_is = omega (arith, s.least, s.order);
    }

pub counted-pos : (L U m : ℕ) → L ≤ m → T (ltb 0 L || ltb U m) → 1 ≤ m
counted-pos L U m h t = go (dec_lt 0 L)
  where
    go : Dec (0 < L) → 1 ≤ m
    go (yes l) = omega arith
    go (no l) = let k = ltb→lt U m (rw (T_false (ltb 0 L) (le→nltb 0 L (omega arith))) at t) in omega arith

pub uncounted : (L U m : ℕ) → T (not (ltb 0 L || ltb U m)) → (L ≤ 0) × (m ≤ U)
uncounted L U m t = go (dec_lt 0 L)
  where
    go : Dec (0 < L) → (L ≤ 0) × (m ≤ U)
    go (yes l) = absurd (rw (T_true (ltb 0 L) (lt→ltb 0 L l)) at t)
    go (no l) = (omega arith, nltb→le U m (rw (T_false (ltb 0 L) (le→nltb 0 L (omega arith))) at t))

pub open_apart : (r : Group) → SettledGroup r → Apart r.fixed (open_of r)
unfolding open_of
open_apart r s = record { bits = λ e. omega (arith, bit-less e r.possible r.fixed, s.fits.at e, bit_le e r.possible) }

pub open_lt : (n : ℕ) (r : Group) → SettledAmong n r → open_of r < 2 ^ n
unfolding open_of
open_lt n r s = let h = sub-le (sub-less r.possible r.fixed) in omega (arith, s.small)

pub open_few : (n : ℕ) (r : Group) → SettledAmong n r → open_count r ≤ n
unfolding open_count
open_few n r s = size-le n (open_of r) (open_lt n r s)

pub fixed-lt : (n : ℕ) (r : Group) → SettledAmong n r → r.fixed < 2 ^ n
fixed-lt n r s = let h = sub-le s.group.fits in omega (arith, s.small)

-- the values of a group's outputs
unfoldable fill_of : Group → List Bool → List Bool
fill_of r xs = cond (counted r) (tree_values (shape (open_count r)) xs) []

length-fill_of : (r : Group) (xs : List Bool) → length (fill_of r xs) ≡ outputs_of r
unfolding fill_of outputs_of
length-fill_of r xs = go (counted r)
  where
    go : (b : Bool) → length (cond b (tree_values (shape (open_count r)) xs) []) ≡ cond b (tree_output_count (open_count r)) 0
    go true = tree_values-length (shape (open_count r)) xs ∙ outputs-count (open_count r)
    go false = refl

-- a group's clauses, and its word
unfoldable clauses_from : Group → ℕ → ℕ → List (List Literal)
clauses_from r v o = cond (counted r) (totalizer_clauses (open_count r) v o (at_least r) (at_most r)) []

unfoldable word_from : ℕ → List Bool → Group → ℕ → ℕ → ℕ
word_from n a r v o = row_word (truth a) n r.fixed (open_of r) v

module _ (n : ℕ) (a : List Bool) (r : Group) (v o : ℕ) (s : SettledAmong n r) where
  word_size : size (word_from n a r v o) ≡ size r.fixed + count (values_from a v (open_count r))
  unfolding word_from open_count
  word_size = row-size (truth a) n r.fixed (open_of r) v (fixed-lt n r s) (open_lt n r s) (open_apart r s.group)

  InLimits : Type 0
  InLimits = (r.low ≤ size (word_from n a r v o)) × (size (word_from n a r v o) ≤ r.high)

  group-iff : T (all_true a (clauses_from r v o)) ↔ ((values_from a o (outputs_of r) ≡ fill_of r (values_from a v (open_count r))) × InLimits)
  unfolding clauses_from outputs_of fill_of counted InLimits
  group-iff = go (counted r) refl
    where
      m : ℕ
      m = open_count r

      x : ℕ
      x = count (values_from a v m)

      l : OpenLimits r
      l = limits_of_lem r s.group

      hx : x ≤ m
      hx = rw (values_length (truth a) v m) at (count-le (values_from a v m))

      go : (b : Bool) → counted r ≡ b
          → T (all_true a (cond b (totalizer_clauses m v o (at_least r) (at_most r)) []))
          ↔ ((values_from a o (cond b (tree_output_count m) 0) ≡ cond b (tree_values (shape m) (values_from a v m)) []) × InLimits)
      go true c =
          let h1 : 1 ≤ m = counted-pos (at_least r) (at_most r) m l.low-open (subst T (sym c) tt) in
          let w = totalizer_iff a m v o (at_least r) (at_most r) h1 l.low-open l.high-open in (
            λ t. let q = w.0 t in
                let q0 = q.1.0 in
                let q1 = q.1.1 in
                (rw (outputs-count m, leaves-shape m h1) at q.0, (omega (arith, word_size, l.low-is), omega (arith, word_size, l.high_is))),
            λ h. let h0 = h.1.0 in
                let h1' = h.1.1 in
                w.1 (rw (outputs-count m, leaves-shape m h1) h.0, (omega (arith, word_size, l.low-is), omega (arith, word_size, l.high_is))),
          )
      go false c =
          let w = uncounted (at_least r) (at_most r) m (subst (λ b. T (not b)) (sym c) tt) in
          let w0 = w.0 in
          let w1 = w.1 in
          (λ t. (refl, (omega (arith, word_size, l.low-is), omega (arith, word_size, l.high_is, hx))), λ h. tt)

  allowed-iff : T (allowed r (word_from n a r v o)) ↔ InLimits
  unfolding allowed InLimits word_from open_of
  allowed-iff =
      let w = word_from n a r v o in
      let h : Holding r.fixed (open_of r) w = row-holding (truth a) n r.fixed (open_of r) v (fixed-lt n r s) in
      let i = inside r.fixed w && inside w r.possible in
      let fw : Sub r.fixed w = record { at = λ e. h.low e } in
      let wp : Sub w r.possible = record { at = λ e. omega (arith, h.high e, bit-less e r.possible r.fixed, s.group.fits.at e) } in (
        λ t. let b = and_right i (between r.low r.high (size w)) t in (
          leb→le r.low (size w) (and_left (leb r.low (size w)) (leb (size w) r.high) b),
          leb→le (size w) r.high (and_right (leb r.low (size w)) (leb (size w) r.high) b),
        ),
        λ l. and_both i (between r.low r.high (size w))
            (and_both (inside r.fixed w) (inside w r.possible) (sub-inside r.fixed w fw) (sub-inside w r.possible wp))
            (and_both (leb r.low (size w)) (leb (size w) r.high) (le→leb r.low (size w) l.0) (le→leb (size w) r.high l.1)),
      )

-- an allowed word is between the fixed and the possible entrants
allowed_holding : (n : ℕ) (r : Group) (w : ℕ) → SettledAmong n r → T (allowed r w) → Holding r.fixed (open_of r) w × (w < 2 ^ n)
unfolding allowed open_of
allowed_holding n r w s t =
    let i = inside r.fixed w && inside w r.possible in
    let h = and_left i (between r.low r.high (size w)) t in
    let fw = inside-sub r.fixed w (and_left (inside r.fixed w) (inside w r.possible) h) in
    let wp = inside-sub w r.possible (and_right (inside r.fixed w) (inside w r.possible) h) in
    let l = sub-le wp in (
      record {
        low = λ e. fw.at e;
        high = λ e. omega (arith, wp.at e, bit-less e r.possible r.fixed, s.group.fits.at e);
      },
      omega (arith, s.small),
    )

-- a group's term for an entrant, by the group's words
pub member-true : (a : List Bool) (t : List Group) (g e : ℕ)
    → term_true a (membership t e g) ≡ in_row (truth a) (group_at t g).fixed (open_of (group_at t g)) (first_variable t g) e
unfolding membership variable_of open_of
member-true a t g e = go (has r.fixed e) refl (has r.possible e) refl
  where
    r : Group
    r = group_at t g

    x : ℕ
    x = first_variable t g + size (open_of r % 2 ^ e)

    go : (f : Bool) → has r.fixed e ≡ f → (p : Bool) → has r.possible e ≡ p
        → term_true a (cond f Holds (cond p (Open (Pos x)) Fails)) ≡ (f || (has (open_of r) e && truth a x))
    go true k p q = refl
    go false k true q = sym (ap (λ (b : Bool). b && truth a x) (has-less r.possible r.fixed e ∙ ap₂ (λ (u w : Bool). u && not w) q k))
    go false k false q = sym (ap (λ (b : Bool). b && truth a x) (has-less r.possible r.fixed e ∙ ap₂ (λ (u w : Bool). u && not w) q k))

-- ---- all groups

-- the values of all outputs, from those of the groups' variables
abbrev fill_all : List Group → List Bool → List Bool
fill_all [] xs = []
fill_all (r ∷ rs) xs = fill_of r (take (open_count r) xs) ++ fill_all rs (drop (open_count r) xs)

length-fill_all : (t : List Group) (xs : List Bool) → length (fill_all t xs) ≡ total outputs_of t
length-fill_all [] xs = refl
length-fill_all (r ∷ rs) xs =
    length-append (fill_of r (take (open_count r) xs)) (fill_all rs (drop (open_count r) xs))
    ∙ ap₂ (λ (a b : ℕ). a + b) (length-fill_of r (take (open_count r) xs)) (length-fill_all rs (drop (open_count r) xs))

-- the values of the groups' variables, from the sets
abbrev variables_by : ℕ → List Group → List ℕ → List Bool
variables_by n = each_pair (variable_values n)

values-total : (n : ℕ) (t : List Group) (d : List ℕ) → All (SettledAmong n) t → T (pairwise allowed t d) → length (variables_by n t d) ≡ total open_count t
unfolding open_count
values-total n [] [] s h = refl
values-total n [] (w ∷ ws) s h = absurd h
values-total n (r ∷ rs) [] s h = absurd h
values-total n (r ∷ rs) (w ∷ ws) s h =
    length-append (open_values n (open_of r) w) (variables_by n rs ws)
    ∙ ap₂ (λ (a b : ℕ). a + b) (open_length n (open_of r) w (open_lt n r s.0))
    (values-total n rs ws s.1 (and_right (allowed r w) (pairwise allowed rs ws) h))

-- the values of all outputs, from the sets
outputs_by : (n : ℕ) (t : List Group) (d : List ℕ) → All (SettledAmong n) t → T (pairwise allowed t d)
    → fill_all t (variables_by n t d) ≡ each_pair (output_values n) t d
unfolding fill_of output_values open_count
outputs_by n [] [] s h = refl
outputs_by n [] (w ∷ ws) s h = absurd h
outputs_by n (r ∷ rs) [] s h = absurd h
outputs_by n (r ∷ rs) (w ∷ ws) s h =
    let xs = variable_values n r w in
    let l : length xs ≡ open_count r = open_length n (open_of r) w (open_lt n r s.0) in
    ap₂ (λ (p q : List Bool). fill_of r p ++ fill_all rs q) (take_at xs (variables_by n rs ws) (open_count r) l) (drop_at xs (variables_by n rs ws) (open_count r) l)
    ∙ ap₂ (λ (p q : List Bool). p ++ q) (ap (λ (k : ℕ). cond (counted r) (tree_values (shape k) xs) []) (sym l))
    (outputs_by n rs ws s.1 (and_right (allowed r w) (pairwise allowed rs ws) h))

module _ (n : ℕ) (a : List Bool) where
  words-values : (t : List Group) (v o : ℕ) → All (SettledAmong n) t → variables_by n t (over_groups (word_from n a) t v o) ≡ values_from a v (total open_count t)
  unfolding word_from open_count
  words-values [] v o s = refl
  words-values (r ∷ rs) v o s =
      ap₂ (λ (x y : List Bool). x ++ y) (row-values (truth a) n r.fixed (open_of r) v (open_lt n r s.0) (open_apart r s.0.group))
      (words-values rs (v + open_count r) (o + outputs_of r) s.1)
      ∙ sym (values-append (truth a) v (open_count r) (total open_count rs))

  words_of : (t : List Group) (d : List ℕ) (v o : ℕ) → All (SettledAmong n) t → T (pairwise allowed t d)
      → values_from a v (total open_count t) ≡ variables_by n t d → over_groups (word_from n a) t v o ≡ d
  unfolding word_from open_count
  words_of [] [] v o s h e = refl
  words_of [] (w ∷ ws) v o s h e = absurd h
  words_of (r ∷ rs) [] v o s h e = absurd h
  words_of (r ∷ rs) (w ∷ ws) v o s h e =
      let k : ℕ = open_count r in
      let q = allowed_holding n r w s.0 (and_left (allowed r w) (pairwise allowed rs ws) h) in
      let p =
      (append-iff (values_from a v k) (values_from a (v + k) (total open_count rs)) (open_values n (open_of r) w) (variables_by n rs ws)
      (values_length (truth a) v k ∙ sym (open_length n (open_of r) w (open_lt n r s.0)))).0
      (sym (values-append (truth a) v k (total open_count rs)) ∙ e) in
      ap₂ (λ (x : ℕ) (xs : List ℕ). x ∷ xs)
      (row_of (truth a) n r.fixed (open_of r) v w (fixed-lt n r s.0) (open_lt n r s.0) q.1 (open_apart r s.0.group) q.0 p.0)
      (words_of rs ws (v + k) (o + outputs_of r) s.1 (and_right (allowed r w) (pairwise allowed rs ws) h) p.1)

  groups-iff : (t : List Group) (v o : ℕ) → All (SettledAmong n) t
      → T (list_all (all_true a) (over_groups clauses_from t v o))
      ↔ ((values_from a o (total outputs_of t) ≡ fill_all t (values_from a v (total open_count t))) × T (pairwise allowed t (over_groups (word_from n a) t v o)))
  groups-iff [] v o s = (λ t. (refl, tt), λ h. tt)
  groups-iff (r ∷ rs) v o s =
      let k : ℕ = open_count r in
      let j : ℕ = outputs_of r in
      let xs = values_from a v k in
      let ys = values_from a (v + k) (total open_count rs) in
      let len = values_length (truth a) v k in
      let g = group-iff n a r v o s.0 in
      let l = allowed-iff n a r v o s.0 in
      let b = groups-iff rs (v + k) (o + j) s.1 in
      let c = T_and (all_true a (clauses_from r v o)) (list_all (all_true a) (over_groups clauses_from rs (v + k) (o + j))) in
      let w = T_and (allowed r (word_from n a r v o)) (pairwise allowed rs (over_groups (word_from n a) rs (v + k) (o + j))) in
      let z =
      append-iff (values_from a o j) (values_from a (o + j) (total outputs_of rs)) (fill_of r xs) (fill_all rs ys)
      (values_length (truth a) o j ∙ sym (length-fill_of r xs)) in
      let ours : values_from a o (j + total outputs_of rs) ≡ values_from a o j ++ values_from a (o + j) (total outputs_of rs) =
      values-append (truth a) o j (total outputs_of rs) in
      let theirs : fill_all (r ∷ rs) (values_from a v (k + total open_count rs)) ≡ fill_of r xs ++ fill_all rs ys =
      ap (fill_all (r ∷ rs)) (values-append (truth a) v k (total open_count rs))
      ∙ ap₂ (λ (p q : List Bool). fill_of r p ++ fill_all rs q) (take_at xs ys k len) (drop_at xs ys k len) in (
        λ t. let p = c.0 t in
            let q = g.0 p.0 in
            let u = b.0 p.1 in
            (ours ∙ z.1 (q.0, u.0) ∙ sym theirs, w.1 (l.1 q.1, u.1)),
        λ h. let p = z.0 (sym ours ∙ h.0 ∙ theirs) in
            let q = w.0 h.1 in
            c.1 (g.1 (p.0, l.0 q.0), b.1 (p.1, q.1)),
      )

-- ---- constraints

pub no-values : (n w : ℕ) → open_values n 0 w ≡ []
no-values n w = empty (open_values n 0 w) (open_length n 0 w (pow_pos n) ∙ size-zero)
  where
    empty : (xs : List Bool) → length xs ≡ 0 → xs ≡ []
    empty [] h = refl
    empty (x ∷ xs) h = absurd (omega arith)

differences-length : (n : ℕ) (t : List Group) → All (SettledAmong n) t → (d : List ℕ) (c : Constraint) → length (difference_values n t d c) ≡ difference_count t c
unfolding difference_values difference_count
differences-length n t s d c = open_length n (differing t c) (one_of (member_set d c 0) (member_set d c 1)) (differing-lt n t s c)

differences-total : (n : ℕ) (t : List Group) → All (SettledAmong n) t → (d : List ℕ) (cs : List Constraint)
    → length (flat_map (difference_values n t d) cs) ≡ total (difference_count t) cs
differences-total n t s d cs =
    length-each (difference_values n t d) cs ∙ total_ext (λ c. length (difference_values n t d c)) (difference_count t) (differences-length n t s d) cs

module _ (m : Model) (a : List Bool) where
  -- bit e of the set of a group is its term's truth
  group-has : (g e : ℕ) → 1 ≤ g → g ≤ m.s → e < m.n → has (set_of (groups_by m a) g) e ≡ term_true a (membership (table_of m) e g)
  unfolding set_of groups_by group_by
  group-has g e h k l =
      ap (λ (w : ℕ). has w e)
      (get_or-map_in (group_by m a) (range 1 m.s) (g - 1) 0 0 (omega (arith, range_length 1 m.s))
      ∙ ap (group_by m a) (range-get_or 1 m.s (g - 1) 0 (omega arith) ∙ omega arith))
      ∙ has_where (λ e. term_true a (membership (table_of m) e g)) m.n e l

  sets-small : All (λ w. w < 2 ^ m.n) (groups_by m a)
  unfolding groups_by group_by
  sets-small =
      (all-map-iff (λ w. w < 2 ^ m.n) (group_by m a) (range 1 m.s)).1
      (all_of (λ g. group_by m a g < 2 ^ m.n) (λ g. where_lt (λ e. term_true a (membership (table_of m) e g)) m.n) (range 1 m.s))

  set-small : (g : ℕ) → set_of (groups_by m a) g < 2 ^ m.n
  unfolding set_of
  set-small g = all_get_d (λ w. w < 2 ^ m.n) 0 (pow_pos m.n) (groups_by m a) sets-small (g - 1)

  -- ---- codes 1 to 6

  -- a constraint's clauses for one entrant, by the members' terms
  pub entrant-true : (x : ℕ) (c : Constraint) (e : ℕ) → T (by_entrant c.code)
      → all_true a (clauses_at x (table_of m) c e)
      ≡ clauses_for (λ i. term_true a (membership (table_of m) e (get_or c.groups i 0))) (member_clauses c.code c.count)
  unfolding clauses_at clauses_for
  entrant-true x c e six =
      let cs = member_clauses c.code c.count in
      rw (six-apart (table_of m) c six)
      (kept-true a (term_of term) cs
      ∙ every-ext (list_any (λ l. term_true a (term_of term l))) (list_any (literal_for v)) (any-ext (λ l. term_true a (term_of term l)) (literal_for v) one) cs)
    where
      term : ℕ → Term
      term = constraint_term x (table_of m) c e

      v : ℕ → Bool
      v i = term_true a (membership (table_of m) e (get_or c.groups i 0))

      one : (l : Literal) → term_true a (term_of term l) ≡ literal_for v l
      one (Pos i) = unfold literal_for in ap (term_true a) (six-member (table_of m) c six x e i)
      one (Neg i) = unfold literal_for in opposite-true a (term i) ∙ ap (λ (y : Term). not (term_true a y)) (six-member (table_of m) c six x e i)

  -- where the sets d have each group's terms for bits, for all entrants
  pub constraint-entrants : (x : ℕ) (c : Constraint) (d : List ℕ) → T (by_entrant c.code)
      → ((i e : ℕ) → i < member_count c.code c.count → e < m.n
      → has (set_of d (get_or c.groups i 0)) e ≡ term_true a (membership (table_of m) e (get_or c.groups i 0)))
      → all_true a (constraint_clauses m.n (table_of m) x c)
      ≡ list_all (λ e. clauses_for (λ i. has (set_of d (get_or c.groups i 0)) e) (member_clauses c.code c.count)) (range 0 m.n)
  unfolding constraint_clauses
  constraint-entrants x c d six bits =
      ap (all_true a) (ap (λ (l : List (List Literal)). flat_map (clauses_at x (table_of m) c) (range 0 m.n) ++ l) (six-last (table_of m) c six m.n x)
      ∙ append-nil (flat_map (clauses_at x (table_of m) c) (range 0 m.n)))
      ∙ every-each (clause_true a) (clauses_at x (table_of m) c) (range 0 m.n)
      ∙ every-range_ext (λ e. all_true a (clauses_at x (table_of m) c e))
      (λ e. clauses_for (λ i. has (set_of d (get_or c.groups i 0)) e) (member_clauses c.code c.count)) 0 m.n
      (λ e _ h. entrant-true x c e six
      ∙ same-clauses (λ i. term_true a (membership (table_of m) e (get_or c.groups i 0))) (λ i. has (set_of d (get_or c.groups i 0)) e) c.code c.count six
      (λ i l. sym (bits i e l (omega arith))))

  constraint-true : (x : ℕ) (c : Constraint) → T (constraint_in_range m.s c) → T (by_entrant c.code) → limits.members ≤ length c.groups
      → all_true a (constraint_clauses m.n (table_of m) x c) ≡ constraint_true (groups_by m a) c
  unfolding clauses_hold
  constraint-true x c t six wide =
      constraint-entrants x c d six
      (λ i e l h. let g = member-group m.s c t i l wide in group-has (get_or c.groups i 0) e g.0 g.1 h)
      ∙ sym (meaning-below c (constraint-code m.s c t) six wide m.n d set-small
      ∙ every-ext (clauses_hold d c) (λ e. clauses_for (λ i. has (set_of d (get_or c.groups i 0)) e) (member_clauses c.code c.count))
      (λ e. over_entrant (λ g. has (set_of d g) e) c six) (range 0 m.n))
    where
      d : List ℕ
      d = groups_by m a

  -- ---- code 7

  -- the set of a group holds the fixed entrants and otherwise open ones only
  set-holding : All (SettledAmong m.n) (table_of m) → (g : ℕ) → 1 ≤ g → g ≤ m.s → (e : ℕ)
      → (bit e (group_at (table_of m) g).fixed ≤ bit e (set_of (groups_by m a) g)) × (bit e (set_of (groups_by m a) g) ≤ bit e (group_at (table_of m) g).possible)
  unfolding set_of groups_by group_by row_word open_of
  set-holding s g h k e =
      let t = table_of m in
      let q : Group = group_at t g in
      let st : SettledAmong m.n q = unfold group_at in all_get_d (SettledAmong m.n) zero_group (zero_settled m.n) t s (g - 1) in
      let is : set_of (groups_by m a) g ≡ row_word (truth a) m.n q.fixed (open_of q) (first_variable t g) =
      get_or-map_in (group_by m a) (range 1 m.s) (g - 1) 0 0 (omega (arith, range_length 1 m.s))
      ∙ ap (group_by m a) (range-get_or 1 m.s (g - 1) 0 (omega arith) ∙ omega arith)
      ∙ word_ext (λ e. term_true a (membership t e g)) (in_row (truth a) q.fixed (open_of q) (first_variable t g)) m.n (λ e l. member-true a t g e) in
      let w = row-holding (truth a) m.n q.fixed (open_of q) (first_variable t g) (fixed-lt m.n q st) in
      rw is (w.low e, omega (arith, w.high e, bit-less e q.possible q.fixed, st.group.fits.at e))

  module _ (s : All (SettledAmong m.n) (table_of m)) (c : Constraint) (t : T (constraint_in_range m.s c)) (wide : limits.members ≤ length c.groups) (seven : c.code ≡ 7) where
    pub F : ℕ
    F = member_set (groups_by m a) c 0

    pub G : ℕ
    G = member_set (groups_by m a) c 1

    member-in : (i : ℕ) → i < 2 → (1 ≤ get_or c.groups i 0) × (get_or c.groups i 0 ≤ m.s)
    member-in i h =
        let two : member_count c.code c.count ≡ 2 = rw seven (unfold member_count in refl) in
        member-group m.s c t i (omega arith) wide

    -- the sets by bits
    F-bits : (e : ℕ) → (bit e (member_at (table_of m) c 0).fixed ≤ bit e F) × (bit e F ≤ bit e (member_at (table_of m) c 0).possible)
    unfolding member_at F
    F-bits e = let g = member-in 0 (omega arith) in set-holding s (get_or c.groups 0 0) g.0 g.1 e

    G-bits : (e : ℕ) → (bit e (member_at (table_of m) c 1).fixed ≤ bit e G) × (bit e G ≤ bit e (member_at (table_of m) c 1).possible)
    unfolding member_at G
    G-bits e = let g = member-in 1 (omega arith) in set-holding s (get_or c.groups 1 0) g.0 g.1 e

    is_true : constraint_true (groups_by m a) c ≡ not (eqb (one_of F G) 0)
    unfolding F G
    is_true = difference-sets c seven wide (groups_by m a) ∙ ap not (sym (one_none F G))

    -- an entrant who differs already is in just one of the sets
    apart-true : is_apart (table_of m) c ≡ true → T (constraint_true (groups_by m a) c)
    unfolding apart
    apart-true e = rw is_true (go (eqb (one_of F G) 0) refl)
      where
        f : Group
        f = member_at (table_of m) c 0

        g : Group
        g = member_at (table_of m) c 1

        go : (b : Bool) → eqb (one_of F G) 0 ≡ b → T (not b)
        go false p = tt
        go true p =
            let z : one_of F G ≡ 0 = eqb→eq (one_of F G) 0 (subst T (sym p) tt) in
            let n : apart f g ≡ 0 = bit_ext (apart f g) 0 (λ i. omega (
              arith,
              bit-or i (less f.fixed g.possible) (less g.fixed f.possible),
              bit-less i f.fixed g.possible,
              bit-less i g.fixed f.possible,
              bit-zero i,
              one-bits i F G,
              ap (bit i) z,
              (F-bits i).0,
              (F-bits i).1,
              (G-bits i).0,
              (G-bits i).1,
            )) in
            subst (λ (w : ℕ). T (not (eqb w 0))) n (apart_some (table_of m) c seven e)

    module _ (x : ℕ) (clear : is_apart (table_of m) c ≡ false) where
      pub W : ℕ
      W = difference_word a m.n x (table_of m) c

      W-lt : W < 2 ^ m.n
      unfolding W row_word
      W-lt = where_lt (in_row (truth a) 0 (differing (table_of m) c) x) m.n

      D-lt : one_of F G < 2 ^ m.n
      unfolding F G
      D-lt = one-lt m.n F G (set-small (get_or c.groups 0 0)) (set-small (get_or c.groups 1 0))

      at-entrant : (e : ℕ) → e < m.n → all_true a (clauses_at x (table_of m) c e) ≡ beq (has W e) (has (one_of F G) e)
      unfolding W F G
      at-entrant e h =
          let p = member-in 0 (omega arith) in
          let q = member-in 1 (omega arith) in
          ap (all_true a) (four x (table_of m) c seven clear e)
          ∙ four-true a (membership (table_of m) e (get_or c.groups 0 0)) (membership (table_of m) e (get_or c.groups 1 0)) (difference x (table_of m) c e)
          ∙ ap₂ beq (difference-has a m.n x (table_of m) c e h)
          (ap₂ (λ (u v : Bool). (u || v) && not (u && v)) (sym (group-has (get_or c.groups 0 0) e p.0 p.1 h)) (sym (group-has (get_or c.groups 1 0) e q.0 q.1 h))
          ∙ sym (one_has e F G))

      -- the clauses say that the X are those of just one set, and that there is one
      pub clauses-say : all_true a (constraint_clauses m.n (table_of m) x c) ≡ (eqb W (one_of F G) && not (eqb W 0))
      unfolding constraint_clauses
      clauses-say =
          every_append (clause_true a) (flat_map (clauses_at x (table_of m) c) (range 0 m.n)) (last_clause m.n x (table_of m) c)
          ∙ ap₂ ◌&&◌
          (every-each (clause_true a) (clauses_at x (table_of m) c) (range 0 m.n)
          ∙ every-range_ext (λ e. all_true a (clauses_at x (table_of m) c e)) (λ e. beq (has W e) (has (one_of F G) e)) 0 m.n (λ e _ h. at-entrant e (omega arith))
          ∙ sym (equal_words m.n W (one_of F G) W-lt D-lt))
          (ap (all_true a) (open-last (table_of m) c seven clear m.n x)
          ∙ keep-true a (map (difference x (table_of m) c) (range 0 m.n))
          ∙ any-map (term_true a) (difference x (table_of m) c) (range 0 m.n)
          ∙ any-all_ext (λ e. term_true a (difference x (table_of m) c e)) (has W) (range 0 m.n)
          (range_all (λ e. term_true a (difference x (table_of m) c e) ≡ has W e) 0 m.n (λ e _ h. unfold W in difference-has a m.n x (table_of m) c e (omega arith)))
          ∙ some-true m.n W W-lt)

      none_apart : Apart 0 (differing (table_of m) c)
      none_apart = record { bits = λ e. omega (arith, bit-zero e, bit_le e (differing (table_of m) c)) }

      -- an entrant in just one set is open in one group
      D-holding : Holding 0 (differing (table_of m) c) (one_of F G)
      D-holding = record {
        low = λ e. omega (arith, bit-zero e);
        high = λ e. omega (
          arith,
          bit-zero e,
          one-bits e F G,
          (F-bits e).0,
          (F-bits e).1,
          (G-bits e).0,
          (G-bits e).1,
          (apart-bits (table_of m) c seven clear e).0,
          (apart-bits (table_of m) c seven clear e).1,
          differing-bits (table_of m) c seven clear e,
          bit_le e (member_at (table_of m) c 0).possible,
          bit_le e (member_at (table_of m) c 1).possible,
        );
      }

      open-iff : T (all_true a (constraint_clauses m.n (table_of m) x c))
          ↔ ((values_from a x (difference_count (table_of m) c) ≡ difference_values m.n (table_of m) (groups_by m a) c) × T (constraint_true (groups_by m a) c))
      unfolding difference_count difference_values F G
      open-iff =
          let o = differing (table_of m) c in
          let lt = differing-lt m.n (table_of m) s c in
          let b = T_and (eqb W (one_of F G)) (not (eqb W 0)) in
          let v : open_values m.n o W ≡ values_from a x (size o) = unfold W in row-values (truth a) m.n 0 o x lt none_apart in (
            λ h. let q = b.0 (subst T clauses-say h) in
                let e : W ≡ one_of F G = eqb→eq W (one_of F G) q.0 in
                (sym v ∙ ap (open_values m.n o) e, subst T (sym is_true) (subst (λ (w : ℕ). T (not (eqb w 0))) e q.1)),
            λ h. let e : W ≡ one_of F G = unfold W in row_of (truth a) m.n 0 o x (one_of F G) (pow_pos m.n) lt D-lt none_apart D-holding h.0 in
                subst T (sym clauses-say)
                (b.1 (subst (λ (w : ℕ). T (eqb w (one_of F G))) (sym e) (eqb_refl (one_of F G)), subst (λ (w : ℕ). T (not (eqb w 0))) (sym e) (subst T is_true h.1))),
          )

  -- for the closing call, one test a constraint: nothing where an entrant differs already; else the X are those of just one set, and there is one
  pub constraint-says : All (SettledAmong m.n) (table_of m) → (x : ℕ) (c : Constraint) → T (constraint_in_range m.s c) → limits.members ≤ length c.groups
      → all_true a (constraint_clauses m.n (table_of m) x c)
      ≡ cond (is_difference c)
      (is_apart (table_of m) c
      || (eqb (difference_word a m.n x (table_of m) c) (one_of (member_set (groups_by m a) c 0) (member_set (groups_by m a) c 1))
      && not (eqb (difference_word a m.n x (table_of m) c) 0)))
      (constraint_true (groups_by m a) c)
  unfolding F G W
  constraint-says s x c t wide = go (entrant-or-seven c.code c.count (constraint-code m.s c t))
    where
      test : Bool
      test =
          eqb (difference_word a m.n x (table_of m) c) (one_of (member_set (groups_by m a) c 0) (member_set (groups_by m a) c 1))
          && not (eqb (difference_word a m.n x (table_of m) c) 0)

      by_apart : c.code ≡ 7 → (b : Bool) → is_apart (table_of m) c ≡ b → all_true a (constraint_clauses m.n (table_of m) x c) ≡ (b || test)
      by_apart seven true e = ap (all_true a) (apart-clauses (table_of m) c seven e m.n x)
      by_apart seven false e = clauses-say s c t wide seven x e

      go : T (by_entrant c.code) ⊎ (c.code ≡ 7)
          → all_true a (constraint_clauses m.n (table_of m) x c) ≡ cond (is_difference c) (is_apart (table_of m) c || test) (constraint_true (groups_by m a) c)
      go (inl six) = rw (six-difference (table_of m) c six) (constraint-true x c t six wide)
      go (inr seven) = rw (is-difference (table_of m) c seven) (by_apart seven (is_apart (table_of m) c) refl)

  -- ---- a constraint: its X are determined by the sets, and it is true

  pub constraint-iff : All (SettledAmong m.n) (table_of m) → (x : ℕ) (c : Constraint) → T (constraint_in_range m.s c) → limits.members ≤ length c.groups
      → T (all_true a (constraint_clauses m.n (table_of m) x c))
      ↔ ((values_from a x (difference_count (table_of m) c) ≡ difference_values m.n (table_of m) (groups_by m a) c) × T (constraint_true (groups_by m a) c))
  constraint-iff s x c t wide = go (entrant-or-seven c.code c.count (constraint-code m.s c t))
    where
      Iff : Type 0
      Iff = T (all_true a (constraint_clauses m.n (table_of m) x c))
          ↔ ((values_from a x (difference_count (table_of m) c) ≡ difference_values m.n (table_of m) (groups_by m a) c) × T (constraint_true (groups_by m a) c))

      -- no X
      none : differing (table_of m) c ≡ 0 → values_from a x (difference_count (table_of m) c) ≡ difference_values m.n (table_of m) (groups_by m a) c
      none e = unfold difference_count difference_values in rw (e, size-zero) (sym (no-values m.n (one_of (member_set (groups_by m a) c 0) (member_set (groups_by m a) c 1))))

      by_apart : c.code ≡ 7 → (b : Bool) → is_apart (table_of m) c ≡ b → Iff
      by_apart seven true e = (
        λ h. (none (apart-differing (table_of m) c seven e), apart-true s c t wide seven e),
        λ h. rw (apart-clauses (table_of m) c seven e m.n x) tt,
      )
      by_apart seven false e = open-iff s c t wide seven x e

      go : T (by_entrant c.code) ⊎ (c.code ≡ 7) → Iff
      go (inl six) = (
        λ h. (none (six-differing (table_of m) c six), subst T (constraint-true x c t six wide) h),
        λ h. subst T (sym (constraint-true x c t six wide)) h.1,
      )
      go (inr seven) = by_apart seven (is_apart (table_of m) c) refl

  constraints-iff : All (SettledAmong m.n) (table_of m) → (cs : List Constraint) (x : ℕ)
      → All (λ c. T (constraint_in_range m.s c) × T (leb limits.members (length c.groups))) cs
      → T (all_true a (over_constraints (table_of m) (constraint_clauses m.n (table_of m)) cs x))
      ↔ ((values_from a x (total (difference_count (table_of m)) cs) ≡ flat_map (difference_values m.n (table_of m) (groups_by m a)) cs)
      × T (list_all (constraint_true (groups_by m a)) cs))
  constraints-iff s [] x h = (λ t. (refl, tt), λ t. tt)
  constraints-iff s (c ∷ cs) x h =
      let t = table_of m in
      let k : ℕ = difference_count t c in
      let d = groups_by m a in
      let one = constraint-iff s x c h.0.0 (leb→le limits.members (length c.groups) h.0.1) in
      let rest = constraints-iff s cs (x + k) h.1 in
      let p = all_true-append a (constraint_clauses m.n t x c) (over_constraints t (constraint_clauses m.n t) cs (x + k)) in
      let w = T_and (constraint_true d c) (list_all (constraint_true d) cs) in
      let z =
      append-iff (values_from a x k) (values_from a (x + k) (total (difference_count t) cs)) (difference_values m.n t d c) (flat_map (difference_values m.n t d) cs)
      (values_length (truth a) x k ∙ sym (differences-length m.n t s d c)) in
      let ours : values_from a x (k + total (difference_count t) cs) ≡ values_from a x k ++ values_from a (x + k) (total (difference_count t) cs) =
      values-append (truth a) x k (total (difference_count t) cs) in (
        λ y. let q = p.0 y in
            let u = one.0 q.0 in
            let v = rest.0 q.1 in
            (ours ∙ z.1 (u.0, v.0), w.1 (u.1, v.1)),
        λ y. let q = z.0 (sym ours ∙ y.0) in
            let u = w.0 y.1 in
            p.1 (one.1 (q.0, u.0), rest.1 (q.1, u.1)),
      )

-- ---- the whole

-- each satisfying assignment reads back as a solution, and each solution is read back from exactly one
pub record OneForOne (m : Model) : Type 0 where
  pub sound : (a : List Bool) → T (is_satisfying m a) → T (is_solution m (groups_by m a))
  pub found : (d : List ℕ) → T (is_solution m d) → (a : List Bool) × T (is_satisfying m a) × (groups_by m a ≡ d)
  pub alone : (a b : List Bool) → T (is_satisfying m a) → T (is_satisfying m b) → groups_by m a ≡ groups_by m b → a ≡ b

-- an assignment's values from a variable on
values_are : (xs : List Bool) (i n : ℕ) → i + n ≤ length xs → map (λ v. get_or xs v false) (range i n) ≡ take n (drop i xs)
values_are xs i zero h = refl
values_are xs i (suc n) h = rw (drop-cons xs i false (omega arith), values_are xs (suc i) n (omega arith))

-- the assignment of a solution has a value for each variable
pub filled-length : (m : Model) → Settled m → (d : List ℕ) → T (is_solution m d) → length (assignment_for m d) ≡ variable_count m
unfolding assignment_for is_solution variable_count table_variables
filled-length m q d hd =
    let t = table_of m in
    let settled = table-settled m q in
    let hp = and_left (pairwise allowed t d) (list_all (constraint_true d) (constraints_of m)) hd in
    let os = each_pair (output_values m.n) t d in
    let xs = flat_map (difference_values m.n t d) (constraints_of m) in
    length-append (variables_by m.n t d) (os ++ xs)
    ∙ omega (
      arith,
      values-total m.n t d settled hp,
      length-append os xs,
      ap length (sym (outputs_by m.n t d settled hp)) ∙ length-fill_all t (variables_by m.n t d),
      differences-total m.n t settled d (constraints_of m),
    )

module _ (m : Model) (q : Settled m) (wide : T (members_sized m)) where
  opens : ℕ
  opens = total open_count (table_of m)

  settled : All (SettledAmong m.n) (table_of m)
  settled = table-settled m q

  sets-are : (a : List Bool) → groups_by m a ≡ over_groups (word_from m.n a) (table_of m) 1 (1 + opens)
  unfolding groups_by group_by word_from row_word opens
  sets-are a =
      let t = table_of m in
      ap (map (group_by m a)) (ap (range 1) (sym (table-length m q.sized)))
      ∙ values-make (group_by m a) (λ g. word_from m.n a (group_at t g) (first_variable t g) (first_output t g)) 1 1 (length t)
      (λ k h. let r = group_at t (1 + k) in
      word_ext (λ e. term_true a (membership t e (1 + k))) (in_row (truth a) r.fixed (open_of r) (first_variable t (1 + k))) m.n
      (λ e l. member-true a t (1 + k) e))
      ∙ numbered (word_from m.n a) t

  clauses-are : (a : List Bool) → T (all_true a (flat_map (group_clauses (table_of m)) (range 1 m.s))) ↔ T (list_all (all_true a) (over_groups clauses_from (table_of m) 1 (1 + opens)))
  unfolding group_clauses clauses_from opens
  clauses-are a =
      let e : all_true a (flat_map (group_clauses (table_of m)) (range 1 m.s)) ≡ list_all (all_true a) (over_groups clauses_from (table_of m) 1 (1 + opens)) =
      every-each (clause_true a) (group_clauses (table_of m)) (range 1 m.s)
      ∙ sym (every_map (all_true a) (group_clauses (table_of m)) (range 1 m.s))
      ∙ ap (λ (k : ℕ). list_all (all_true a) (map (group_clauses (table_of m)) (range 1 k))) (sym (table-length m q.sized))
      ∙ ap (list_all (all_true a)) (numbered clauses_from (table_of m)) in
      (λ h. subst T e h, λ h. subst T (sym e) h)

  constraints-good : All (λ c. T (constraint_in_range m.s c) × T (leb limits.members (length c.groups))) (constraints_of m)
  constraints-good =
      all-zip (λ c. T (constraint_in_range m.s c)) (λ c. T (leb limits.members (length c.groups))) (constraints_of m)
      (every-all (constraint_in_range m.s) (constraints_of m) (in_range_lem m q.in_range_lem).constraints)
      (every-all (λ c. leb limits.members (length c.groups)) (constraints_of m) wide)

  -- the values after the open marks: those of the outputs and of the X
  extras : List ℕ → List Bool → List Bool
  extras d xs = fill_all (table_of m) xs ++ flat_map (difference_values m.n (table_of m) d) (constraints_of m)

  outs : ℕ
  outs = total outputs_of (table_of m)

  exes : ℕ
  exes = total (difference_count (table_of m)) (constraints_of m)

  open-part : (a : List Bool) → length a ≡ variable_count m → values_from a 1 opens ≡ take opens a
  unfolding opens variable_count table_variables
  open-part a h = values_are (false ∷ a) 1 opens (omega arith)

  extra-part : (a : List Bool) → length a ≡ variable_count m → values_from a (1 + opens) outs ++ values_from a (1 + table_variables (table_of m)) exes ≡ drop opens a
  unfolding opens outs exes variable_count table_variables
  extra-part a h =
      let e : 1 + opens ≡ suc opens = omega arith in
      let f : 1 + opens + outs ≡ 1 + table_variables (table_of m) = omega arith in
      ap (λ (k : ℕ). values_from a (1 + opens) outs ++ values_from a k exes) (sym f)
      ∙ sym (values-append (truth a) (1 + opens) outs exes)
      ∙ ap (λ (k : ℕ). values_from a k (outs + exes)) e
      ∙ values_are (false ∷ a) (suc opens) (outs + exes) (omega arith)
      ∙ take_all (outs + exes) (drop opens a) (rw length-drop (omega arith))

  -- an assignment satisfies exactly when its outputs and X are filled in and its sets are a solution
  main-iff : (a : List Bool) → length a ≡ variable_count m
      → T (satisfying m a) ↔ ((drop opens a ≡ extras (groups_by m a) (take opens a)) × T (is_solution m (groups_by m a)))
  unfolding satisfying is_solution opens extras outs exes
  main-iff a h =
      let t = table_of m in
      let gs = flat_map (group_clauses t) (range 1 m.s) in
      let cs = over_constraints t (constraint_clauses m.n t) (constraints_of m) (1 + table_variables t) in
      let xs = flat_map (difference_values m.n t (groups_by m a)) (constraints_of m) in
      let w = all_true-append a gs cs in
      let e : all_true a (clauses m) ≡ all_true a (gs ++ cs) = ap (all_true a) (clauses-parts m q) in
      let g = groups-iff m.n a t 1 (1 + opens) settled in
      let k = constraints-iff m a settled (constraints_of m) (1 + table_variables t) constraints-good in
      let p = extra-part a h in
      let o = ap (fill_all t) (open-part a h) in
      let y =
      append-iff (values_from a (1 + opens) outs) (values_from a (1 + table_variables t) exes) (fill_all t (take opens a)) xs
      (values_length (truth a) (1 + opens) outs ∙ sym (length-fill_all t (take opens a))) in
      let d : pairwise allowed t (groups_by m a) ≡ pairwise allowed t (over_groups (word_from m.n a) t 1 (1 + opens)) = ap (pairwise allowed t) (sets-are a) in
      let b = T_and (pairwise allowed t (groups_by m a)) (list_all (constraint_true (groups_by m a)) (constraints_of m)) in (
        λ s. let c = w.0 (subst T e s) in
            let u = g.0 ((clauses-are a).0 c.0) in
            let v = k.0 c.1 in
            (sym p ∙ y.1 (u.0 ∙ o, v.0), b.1 (subst T (sym d) u.1, v.1)),
        λ s. let c = y.0 (p ∙ s.0) in
            let u = b.0 s.1 in
            subst T (sym e) (w.1 ((clauses-are a).1 (g.1 (c.0 ∙ sym o, subst T d u.0)), k.1 (c.1, u.1))),
      )

  length-is : (a : List Bool) → T (is_satisfying m a) → length a ≡ variable_count m
  unfolding is_satisfying is_assignment
  length-is a t = eqb→eq (length a) (variable_count m) (and_left (eqb (length a) (variable_count m)) (satisfying m a) t)

  parts : (a : List Bool) → T (is_satisfying m a) → (drop opens a ≡ extras (groups_by m a) (take opens a)) × T (is_solution m (groups_by m a))
  unfolding is_satisfying is_assignment
  parts a t = (main-iff a (length-is a t)).0 (and_right (eqb (length a) (variable_count m)) (satisfying m a) t)

  -- the assignment of a solution is satisfying, and reads back as it
  module _ (d : List ℕ) (hd : T (is_solution m d)) where
    xs : List Bool
    xs = variables_by m.n (table_of m) d

    hp : T (pairwise allowed (table_of m) d)
    unfolding is_solution
    hp = and_left (pairwise allowed (table_of m) d) (list_all (constraint_true d) (constraints_of m)) hd

    whole_is : assignment_for m d ≡ xs ++ extras d xs
    unfolding xs assignment_for extras
    whole_is = ap (λ (l : List Bool). xs ++ (l ++ flat_map (difference_values m.n (table_of m) d) (constraints_of m))) (sym (outputs_by m.n (table_of m) d settled hp))

    hx : length xs ≡ opens
    unfolding opens xs
    hx = values-total m.n (table_of m) d settled hp

    tk : take opens (assignment_for m d) ≡ xs
    tk = ap (take opens) whole_is ∙ take_at xs (extras d xs) opens hx

    dr : drop opens (assignment_for m d) ≡ extras d xs
    dr = ap (drop opens) whole_is ∙ drop_at xs (extras d xs) opens hx

    pub filled-groups : groups_by m (assignment_for m d) ≡ d
    unfolding opens xs
    filled-groups = sets-are (assignment_for m d) ∙ words_of m.n (assignment_for m d) (table_of m) d 1 (1 + opens) settled hp (open-part (assignment_for m d) (filled-length m q d hd) ∙ tk)

    pub filled-satisfying : T (is_satisfying m (assignment_for m d))
    unfolding is_satisfying is_assignment
    filled-satisfying =
        let a = assignment_for m d in
        and_both (eqb (length a) (variable_count m)) (satisfying m a) (subst (λ (k : ℕ). T (eqb (length a) k)) (filled-length m q d hd) (eqb_refl (length a)))
        ((main-iff a (filled-length m q d hd)).1 (dr ∙ sym (ap₂ extras filled-groups tk), subst (λ (x : List ℕ). T (is_solution m x)) (sym filled-groups) hd))

  pub one-for-one : OneForOne m
  unfolding opens
  one-for-one = record { sound = λ a h. (parts a h).1; found = λ d h. (assignment_for m d, filled-satisfying d h, filled-groups d h); alone = alone' }
    where
      alone' : (a b : List Bool) → T (is_satisfying m a) → T (is_satisfying m b) → groups_by m a ≡ groups_by m b → a ≡ b
      alone' a b h k e = sym (take-append-drop opens a) ∙ ap₂ (λ (x y : List Bool). x ++ y) tk dr ∙ take-append-drop opens b
        where
          opened : (a : List Bool) → T (is_satisfying m a) → variables_by m.n (table_of m) (groups_by m a) ≡ take opens a
          opened a h =
              ap (variables_by m.n (table_of m)) (sets-are a) ∙ words-values m.n a (table_of m) 1 (1 + opens) settled ∙ open-part a (length-is a h)

          tk : take opens a ≡ take opens b
          tk = sym (opened a h) ∙ ap (variables_by m.n (table_of m)) e ∙ opened b k

          dr : drop opens a ≡ drop opens b
          dr = (parts a h).0 ∙ ap₂ extras e tk ∙ sym (parts b k).0
