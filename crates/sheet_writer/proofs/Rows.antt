-- The lines of a model in range: none is refused, and each tells what it was written from. Assumes nothing.
use mathlib.Core.Path.{◌≡◌, refl, sym, ap, ◌∙◌}
use Prim.Native.Nat.{ℕ, suc, ◌+◌, ◌-◌, ◌^◌, ◌≤◌, ◌<◌}
use native.Mathlib.Omega.{arith}
use native.Mathlib.Decide.{dec_lt}
use mathlib.Core.Bool.{Bool, true, false, cond, not, ◌&&◌, ◌||◌}
use mathlib.Core.List.{List, ◌∷◌, map}
use borrow.Author.Tests.{le-leb, eq-eqb, eqb-true}
use lib.Dec.{T, leb, eqb}
use lib.ListN.{length, get_or, take, replicate, length-take}
use lib.Seq.{take_all, take_at}
use Rattle.model.specs.declared.Group.{Group}
use Rattle.model.specs.declared.Constraint.{Constraint}
use Rattle.model.specs.declared.Model.{Model}
use Rattle.std.specs.List.{list_all, flat_map}
use Rattle.model.specs.Lists.{between, distinct, range}
use Rattle.model.specs.Words.{has, word_where}
use Rattle.model.specs.Limits.{limits, groups_for}
use Rattle.model.specs.Clauses.{member_count, groups_of}
use Rattle.model.specs.Model.{code_in_range, constraint_in_range}
use Rattle.model.specs.Sheet.{value_at, form_refusal, head_refusal, with_head, mark_at, group_refusal, group_from, first_group, count_from, group_count, constraint_from, constraint_refusal}
use Rattle.model.specs.Text.{field_text}
use Rattle.model.specs.SheetText.{head_fields, mark_of, group_fields, constraint_fields, clean_constraint}
use Rattle.model.proofs.Lists.{T_true, and_right, between_le, le-between, every-all, All, all-imp, all_map, all_of, range-every, values_length, values-make, get_or-map-range, take_places}
use Rattle.model.proofs.Codes.{is_code, count-in, member-bound}
use Rattle.model.proofs.Words.{Sub, sub-has, sub-le, has_ext, has-past, has_where, where_lt, word_ext}
use Rattle.propagation_laws.proofs.Ranges.{GroupRange, InRange, constraint-code, groups-in}
use Rattle.sheet_writer.proofs.Fields.{Short, row-fields, row-value, row-mark, row-form}

-- ---- the head

module _ (m : Model) (r : InRange m) where
  pub head-short : All Short (head_fields m)
  unfolding head_fields
  head-short =
      (omega arith, (omega (arith, r.entrants), (omega (arith, r.group_count), (omega (arith, r.constraint_count), tt))))

  pub head-form : form_refusal (flat_map field_text (head_fields m)) ≡ 0
  unfolding head_fields
  head-form = row-form (head_fields m) head-short (omega arith)

  pub head_good : head_refusal (flat_map field_text (head_fields m)) ≡ 0
  unfolding head_refusal head_fields
  head_good =
      let v = row-value (head_fields m) head-short in
      rw (
        v 0,
        v 1,
        v 2,
        v 3,
        row-fields (head_fields m) head-short,
        T_true (between 1 limits.entrants m.n) (le-between 1 limits.entrants m.n r.some-entrant r.entrants),
        T_true (between 1 (groups_for m.n) m.s) (le-between 1 (groups_for m.n) m.s r.some-group r.group_limit),
        le-leb m.c limits.constraints r.constraint_count,
      )

  pub head-tells : (z : Model) → with_head (flat_map field_text (head_fields m)) z
      ≡ record { n = m.n; s = m.s; c = m.c; groups = z.groups; constraints = z.constraints }
  unfolding with_head head_fields
  head-tells z = let v = row-value (head_fields m) head-short in rw (v 1, v 2, v 3)

-- ---- a group line

-- a word is the word of its own bits
word-has : (w n : ℕ) → w < 2 ^ n → word_where (has w) n ≡ w
word-has w n h = has_ext (word_where (has w) n) w (λ e. go e (dec_lt e n))
  where
    go : (e : ℕ) → Dec (e < n) → has (word_where (has w) n) e ≡ has w e
    go e (yes l) = has_where (has w) n e l
    go e (no l) = has-past n (word_where (has w) n) e (where_lt (has w) n) (omega arith) ∙ sym (has-past n w e h (omega arith))

mark-small : (g : Group) (e : ℕ) → mark_of g e ≤ 2
unfolding mark_of
mark-small g e = go (has g.fixed e) (has g.possible e)
  where
    go : (f p : Bool) → cond f 2 (cond p 1 0) ≤ 2
    go true p = omega arith
    go false true = omega arith
    go false false = omega arith

mark-fixed : (g : Group) (e : ℕ) → eqb (mark_of g e) 2 ≡ has g.fixed e
unfolding mark_of
mark-fixed g e = go (has g.fixed e) (has g.possible e)
  where
    go : (f p : Bool) → eqb (cond f 2 (cond p 1 0)) 2 ≡ f
    go true p = refl
    go false true = refl
    go false false = refl

mark-possible : (g : Group) → Sub g.fixed g.possible → (e : ℕ) → not (eqb (mark_of g e) 0) ≡ has g.possible e
unfolding mark_of
mark-possible g s e = go (has g.fixed e) (has g.possible e) (sub-has g.fixed g.possible s e)
  where
    go : (f p : Bool) → (T f → T p) → not (eqb (cond f 2 (cond p 1 0)) 0) ≡ p
    go true true h = refl
    go true false h = absurd (h tt)
    go false true h = refl
    go false false h = refl

module _ (n number : ℕ) (g : Group) (r : GroupRange n g) (few : n ≤ limits.entrants) (low : number ≤ limits.groups) where
  abbrev fields : List ℕ
  fields = group_fields n number g

  pub group-short : All Short fields
  unfolding group_fields
  group-short = (
    omega arith,
    (
      omega arith,
      (
        omega (arith, r.order, r.top),
        (
          omega (arith, r.top),
          all_map Short (mark_of g) (range 0 n) (all_of (λ e. Short (mark_of g e)) (λ e. omega (arith, mark-small g e)) (range 0 n)),
        ),
      ),
    ),
  )

  pub group-form : form_refusal (flat_map field_text fields) ≡ 0
  unfolding group_fields
  group-form = row-form fields group-short (omega arith)

  pub group-count : length fields ≡ 4 + n
  unfolding group_fields
  group-count = omega (arith, values_length (mark_of g) 0 n)

  mark-at : (e : ℕ) → e < n → mark_at (flat_map field_text fields) e ≡ mark_of g e
  unfolding group_fields
  mark-at e h =
      let k : 4 + e ≡ suc (suc (suc (suc e))) = omega arith in
      row-mark fields group-short e ∙ ap (λ (i : ℕ). get_or fields i 0) k ∙ get_or-map-range (mark_of g) 0 n e 0 h ∙ ap (mark_of g) (omega arith)

  pub group-good : group_refusal n number (flat_map field_text fields) ≡ 0
  unfolding group_refusal group_fields
  group-good =
      let v = row-value fields group-short in
      let marks : list_all (λ e. leb (mark_at (flat_map field_text fields) e) 2) (range 0 n) ≡ true =
      T_true _ (range-every (λ e. leb (mark_at (flat_map field_text fields) e) 2) 0 n
      (λ e _ h. rw (mark-at e (omega arith), le-leb (mark_of g e) 2 (mark-small g e)) tt)) in
      rw (
        v 0,
        v 1,
        v 2,
        v 3,
        row-fields fields group-short ∙ group-count,
        eq-eqb (4 + n) (4 + n) refl,
        le-leb g.low g.high r.order,
        le-leb g.high n r.top,
        marks,
        eq-eqb number number refl,
      )

  pub group-tells : group_from n (flat_map field_text fields) ≡ g
  unfolding group_from group_fields
  group-tells =
      let v = row-value fields group-short in
      let fixed : word_where (λ e. eqb (mark_at (flat_map field_text fields) e) 2) n ≡ g.fixed =
      word_ext _ (has g.fixed) n (λ e h. ap (λ (x : ℕ). eqb x 2) (mark-at e h) ∙ mark-fixed g e)
      ∙ word-has g.fixed n (omega (arith, sub-le r.fits, r.small)) in
      let possible : word_where (λ e. not (eqb (mark_at (flat_map field_text fields) e) 0)) n ≡ g.possible =
      word_ext _ (has g.possible) n (λ e h. ap (λ (x : ℕ). not (eqb x 0)) (mark-at e h) ∙ mark-possible g r.fits e)
      ∙ word-has g.possible n r.small in
      rw (fixed, possible, v 2, v 3)

-- ---- a constraint line

module _ (s : ℕ) (c : Constraint) (t : T (constraint_in_range s c)) (few : s ≤ limits.groups) where
  code : T (code_in_range c.code c.count)
  code = constraint-code s c t

  pub constraint-short : All Short (constraint_fields c)
  unfolding constraint_fields
  constraint-short = (omega arith, (omega (arith, (between_le 1 7 c.code (is_code c.code c.count code)).1), go (eqb c.code 6) refl))
    where
      groups : All Short (groups_of c)
      groups = all-imp (λ g. T (between 1 s g)) Short (λ g h. omega (arith, (between_le 1 s g h).1)) (groups_of c) (every-all (between 1 s) (groups_of c) (groups-in s c t))

      go : (b : Bool) → eqb c.code 6 ≡ b → All Short (cond b (c.count ∷ groups_of c) (groups_of c))
      go true e = (omega (arith, count-in c.code c.count code (eqb-true c.code 6 e)), groups)
      go false e = groups

  -- at most as many fields as a line of code 6 and count 16 has
  pub constraint-few : length (constraint_fields c) ≤ 3 + limits.members
  unfolding constraint_fields groups_of
  constraint-few = go (eqb c.code 6)
    where
      members : length (take (member_count c.code c.count) c.groups) ≤ limits.members
      members = omega (arith, length-take (member_count c.code c.count) c.groups, member-bound c.code c.count code)

      go : (b : Bool) → suc (suc (length (cond b (c.count ∷ groups_of c) (groups_of c)))) ≤ 3 + limits.members
      go true = omega (arith, members)
      go false = omega (arith, members)

-- the same where its list has room for as many groups as it may have
module _ (s : ℕ) (c : Constraint) (t : T (constraint_in_range s c)) (few : s ≤ limits.groups) (wide : limits.members ≤ length c.groups) where
  abbrev k : ℕ
  k = member_count c.code c.count

  abbrev line : List ℕ
  line = flat_map field_text (constraint_fields c)

  short : All Short (constraint_fields c)
  short = constraint-short s c t few

  members : length (groups_of c) ≡ k
  unfolding groups_of
  members = length-take k c.groups ∙ omega (arith, member-bound c.code c.count (code s c t few))

  pub constraint-form : form_refusal line ≡ 0
  unfolding constraint_fields
  constraint-form = row-form (constraint_fields c) short (omega arith)

  v : (i : ℕ) → value_at line i ≡ get_or (constraint_fields c) i 0
  v = row-value (constraint_fields c) short

  the_code : value_at line 1 ≡ c.code
  unfolding constraint_fields
  the_code = v 1

  the-count : count_from line ≡ cond (eqb c.code 6) c.count 0
  unfolding count_from constraint_fields
  the-count = rw (the_code, v 2) (go (eqb c.code 6))
    where
      go : (b : Bool) → cond b (get_or (cond b (c.count ∷ groups_of c) (groups_of c)) 0 0) 0 ≡ cond b c.count 0
      go true = refl
      go false = refl

  same-members : member_count c.code (cond (eqb c.code 6) c.count 0) ≡ k
  unfolding member_count
  same-members = go (eqb c.code 6) _
    where
      go : (b : Bool) (other : ℕ) → cond b (cond b c.count 0 + 1) other ≡ cond b (c.count + 1) other
      go true other = refl
      go false other = refl

  the_members : group_count line ≡ k
  unfolding group_count
  the_members = rw (the_code, the-count) same-members

  pub constraint-count : length (constraint_fields c) ≡ cond (eqb c.code 6) 3 2 + k
  unfolding constraint_fields
  constraint-count = go (eqb c.code 6)
    where
      go : (b : Bool) → suc (suc (length (cond b (c.count ∷ groups_of c) (groups_of c)))) ≡ cond b 3 2 + k
      go true = omega (arith, members)
      go false = omega (arith, members)

  first_group_lem : first_group line ≡ cond (eqb c.code 6) 3 2
  unfolding first_group
  first_group_lem = rw the_code

  member-at : (i : ℕ) → value_at line (first_group line + i) ≡ get_or (groups_of c) i 0
  unfolding constraint_fields
  member-at i = rw (first_group_lem, v (cond (eqb c.code 6) 3 2 + i)) (go (eqb c.code 6))
    where
      go : (b : Bool) → get_or (3 ∷ c.code ∷ cond b (c.count ∷ groups_of c) (groups_of c)) (cond b 3 2 + i) 0 ≡ get_or (groups_of c) i 0
      go true = ap (λ (j : ℕ). get_or (3 ∷ c.code ∷ c.count ∷ groups_of c) j 0) {x = 3 + i} {y = suc (suc (suc i))} (omega arith)
      go false = ap (λ (j : ℕ). get_or (3 ∷ c.code ∷ groups_of c) j 0) {x = 2 + i} {y = suc (suc i)} (omega arith)

  the-groups : map (λ i. value_at line (first_group line + i)) (range 0 k) ≡ groups_of c
  the-groups =
      values-make (λ i. value_at line (first_group line + i)) (λ i. get_or (groups_of c) i 0) 0 0 k (λ i _. member-at (0 + i))
      ∙ sym (take_places 0 (groups_of c) k (omega (arith, members)))
      ∙ take_all k (groups_of c) (omega (arith, members))

  pub constraint-tells : constraint_from line ≡ clean_constraint c
  unfolding constraint_from clean_constraint
  constraint-tells = rw (the_members, the-groups, the_code, the-count)

  clean-groups : groups_of (clean_constraint c) ≡ groups_of c
  clean-groups =
      unfold groups_of clean_constraint in rw same-members (take_at (groups_of c) (replicate (limits.members - k) 0) k members)

  clean-code : code_in_range c.code (cond (eqb c.code 6) c.count 0) ≡ true
  unfolding code_in_range
  clean-code = T_true _ (go (eqb c.code 6) (between 1 7 c.code) (code s c t few))
    where
      go : (b x : Bool) → T (x && (not b || between 2 (limits.members - 1) c.count))
          → T (x && (not b || between 2 (limits.members - 1) (cond b c.count 0)))
      go true x h = h
      go false x h = h

  pub constraint_good : constraint_refusal s line ≡ 0
  unfolding constraint_refusal
  constraint_good =
      rw (
        constraint-tells,
        clean-groups,
        v 0 ∙ first,
        the_code,
        the-count,
        clean-code,
        row-fields (constraint_fields c) short ∙ constraint-count,
        first_group_lem,
        the_members,
        eq-eqb (cond (eqb c.code 6) 3 2 + k) (cond (eqb c.code 6) 3 2 + k) refl,
        T_true (list_all (between 1 s) (groups_of c)) (groups-in s c t),
        T_true (distinct (groups_of c)) all-different,
      )
    where
      first : get_or (constraint_fields c) 0 0 ≡ 3
      first = unfold constraint_fields in refl

      all-different : T (distinct (groups_of c))
      all-different = unfold constraint_in_range in and_right (code_in_range c.code c.count && list_all (between 1 s) (groups_of c)) (distinct (groups_of c)) t
