-- A constraint's clauses for an entrant, over the members that it asks for. Assumes nothing.
use Rattle.std.proofs.Common.{◌≡◌, ℕ, zero, suc, ◌+◌, ◌-◌, ◌%◌, ◌^◌, ◌<◌, ◌≤◌, Bool, true, false, cond, T, List, [], ◌∷◌, ◌++◌, map, length, get_or, take, set, replicate, sym, refl, ap, ◌∙◌, ap₂, mod-eq_of_lt, arith, length-append, length-take, get_or-take, take_at, ne_eqb}
use lib.ListN.{length-map, length-replicate}
use Rattle.model.specs.declared.Literal.{Literal}
use Rattle.model.specs.declared.Literal.TheVariants.{Pos, Neg}
use Rattle.model.specs.declared.Term.TheVariants.{Holds, Fails, Open}
use Rattle.model.specs.declared.Group.{Group}
use Rattle.model.specs.declared.Constraint.{Constraint}
use Rattle.std.specs.List.{list_all, flat_map}
use Rattle.model.specs.Lists.{range, between}
use Rattle.model.specs.Limits.{limits}
use Rattle.model.specs.Words.{less, size, has}
use Rattle.model.specs.Clauses.{by_entrant, member_clauses}
use Rattle.model.specs.Model.{zero_group, group_at}
use Rattle.model.specs.Difference.{is_apart}
use Rattle.model.specs.Totalizer.{opposite_term, keep}
use Rattle.model.specs.Cnf.{first_variable, variable_of, open_of, differing, membership, constraint_term, term_of, clauses_at}
use Rattle.model.specs.Assignment.{variable}
use Rattle.model.proofs.Words.{size-ones, below-few}
use Rattle.model.proofs.Lists.{between_le, every-getD, each_map, each-range_ext, get_or-map_in, places, take_places}
use Rattle.encoding_laws.proofs.Differences.{six-member, is-difference, difference-member}
use Rattle.numbering.specs.Numbering.{first_variables}
use Rattle.numbering.proofs.Arrays.{take_set_next}
use Rattle.numbering.proofs.Models.{variable-from}
use Rattle.terms.specs.declared.Member.{Member}
use Rattle.terms.specs.Terms.{first_of, no_member, member_at, member_of, difference_member, absent, present, member_number, number_at, number_term, literal_term, clause_of, clause_terms, MembersBelow}
use Rattle.terms.proofs.Arrays.{place_in, number_in, term-absent, term-present, term-open}

pub values-map : {A B : Type 0} (f g : A → B) (d : A) (xs : List A) → ((i : ℕ) → i < length xs → f (get_or xs i d) ≡ g (get_or xs i d)) → map f xs ≡ map g xs
values-map f g d [] h = refl
values-map {A} {B} f g d (x ∷ xs) h =
    ap₂ (λ (y : B) (ys : List B). y ∷ ys) (h 0 (omega arith)) (values-map f g d xs (λ i l. h (suc i) (omega arith)))

-- ---- the members, from the array of groups

pub first-front : {A B : Type 0} (f : A → B) (d : B) (n k : ℕ) (xs : List A) → k ≤ length xs → take k (first_of f d n k xs) ≡ map f (take k xs)
first-front f d n k xs h = take_at (map f (take k xs)) (replicate (n - k) d) k (length-map (take k xs) f ∙ length-take k xs ∙ omega arith)

number-at : (ids : List ℕ) (s k i : ℕ) → T (list_all (between 1 s) (take k ids)) → i < length (take k ids)
    → (1 ≤ get_or (take k ids) i 0) × (get_or (take k ids) i 0 ≤ s)
number-at ids s k i t h = between_le 1 s (get_or (take k ids) i 0) (every-getD (between 1 s) (take k ids) 0 i t h)

member_is : (t : List Group) (s g : ℕ) (first : List ℕ) → first ≡ first_variables (take s t) → 1 ≤ g → g ≤ s → s ≤ limits.groups
    → member_at t first g ≡ member_of (take s t) g
unfolding member_at member_of group_at
member_is t s g first e h k n =
    let q : 1 + (g - 1) ≡ g = omega arith in
    rw (← place_in g h (omega arith), get_or-take s t (g - 1) zero_group (omega arith), variable-from (take s t) first (g - 1) (omega arith) e, q)

pub members_are : (t : List Group) (first ids : List ℕ) (s k : ℕ) → first ≡ first_variables (take s t) → T (list_all (between 1 s) (take k ids)) → s ≤ limits.groups
    → map (member_at t first) (take k ids) ≡ map (member_of (take s t)) (take k ids)
members_are t first ids s k e h n =
    values-map (member_at t first) (member_of (take s t)) 0 (take k ids)
    (λ i l. let a = number-at ids s k i h l in member_is t s (get_or (take k ids) i 0) first e a.0 a.1 n)

-- ---- the numbers past the first k matter to no clause

number-first : (ns : List ℕ) (k i : ℕ) → i < k → number_at ns i ≡ number_at (take k ns) i
unfolding number_at
number-first ns k i h = rw (get_or-take k ns i absent h)

literal-first : (ns : List ℕ) (k : ℕ) (l : Literal) → variable l < k → literal_term ns l ≡ literal_term (take k ns) l
literal-first ns k (Pos i) h = ap number_term (number-first ns k i h)
literal-first ns k (Neg i) h = ap (λ (x : ℕ). opposite_term (number_term x)) (number-first ns k i h)

pub clause-first : (ns us : List ℕ) (k code count : ℕ) → MembersBelow k code count → take k ns ≡ us → (j : ℕ) → j < length (member_clauses code count)
    → clause_terms ns code count j ≡ clause_terms us code count j
unfolding clause_terms
clause-first ns us k code count w e j h =
    values-map (literal_term ns) (literal_term us) (Pos 0) (clause_of code count j)
    (λ i l. literal-first ns k (get_or (clause_of code count j) i (Pos 0)) (w.below j i h l)
    ∙ ap (λ (x : List ℕ). literal_term x (get_or (clause_of code count j) i (Pos 0))) e)

-- ---- what the definitions say of an entrant

-- a member's number, where its variables are small: an open one is neither absent nor present
number-term : (m : Member) (e : ℕ) → 1 ≤ m.first → m.first ≤ suc limits.variables → e < limits.entrants
    → number_term (member_number e m)
    ≡ cond (has m.fixed e) Holds (cond (has m.possible e) (Open (Pos (m.first + size (less m.possible m.fixed % 2 ^ e)))) Fails)
unfolding member_number
number-term m e one small h =
    let w = less m.possible m.fixed in
    let v = m.first + size (w % 2 ^ e) in
    let few : v < present = omega (arith, size-ones (w % 2 ^ e), below-few w e (2 ^ e) refl) in
    let fits : v < 2 ^ 32 = omega arith in
    rw (mod-eq_of_lt fits) (go v (has m.fixed e) (has m.possible e) (sym (term-open v (λ q. omega arith) (λ q. omega arith))))
  where
    go : (v : ℕ) (f p : Bool) → number_term v ≡ Open (Pos v) → number_term (cond f present (cond p v absent)) ≡ cond f Holds (cond p (Open (Pos v)) Fails)
    go v true p q = sym (term-present present refl)
    go v false true q = q
    go v false false q = sym (term-absent absent refl)

-- the first k members of a constraint, whose X are numbered from x on, say of every entrant what the definitions say
pub record Saying (x : ℕ) (t : List Group) (c : Constraint) (ms : List Member) (k : ℕ) : Type 0 where
  pub term : (e i : ℕ) → e < limits.entrants → i < k → number_term (number_at (map (member_number e) ms) i) ≡ constraint_term x t c e i

module _ (t : List Group) (small : (g : ℕ) → first_variable t g ≤ suc limits.variables) where
  one-or-more : (g : ℕ) → 1 ≤ first_variable t g
  unfolding first_variable
  one-or-more g = omega arith

  member-term : (e g : ℕ) → e < limits.entrants → number_term (member_number e (member_of t g)) ≡ membership t e g
  unfolding member_of membership variable_of open_of
  member-term e g h = number-term (member_of t g) e (one-or-more g) (small g) h

  -- a member among others
  group-term : (ms : List Member) (e i g : ℕ) → e < limits.entrants → i < limits.members → i < length ms → get_or ms i (member_of t 0) ≡ member_of t g
      → number_term (number_at (map (member_number e) ms) i) ≡ membership t e g
  group-term ms e i g h few l is =
      ap number_term
      (sym (number_in (map (member_number e) ms) i few) ∙ get_or-map_in (member_number e) ms i (member_of t 0) absent l ∙ ap (member_number e) is)
      ∙ member-term e g h

  module _ (c : Constraint) (wide : length c.groups ≡ limits.members) where
    -- codes 1 to 6: the members are groups
    pub six-saying : T (by_entrant c.code) → (x k : ℕ) → k ≤ limits.members → Saying x t c (map (member_of t) (take k c.groups)) k
    six-saying six x k few = record {
      term = λ e i h l.
          let a : i < length (take k c.groups) = omega (arith, length-take k c.groups) in
          group-term (map (member_of t) (take k c.groups)) e i (get_or c.groups i 0) h (omega arith) (omega (arith, length-map (take k c.groups) (member_of t)))
          (get_or-map_in (member_of t) (take k c.groups) i 0 (member_of t 0) a ∙ ap (member_of t) (get_or-take k c.groups i 0 l))
          ∙ sym (six-member t c six x e i);
    }

    -- code 7: two groups, and X
    module _ (seven : c.code ≡ 7) (x : ℕ) (one : 1 ≤ x) (few : x ≤ suc limits.variables) where
      abbrev X : Member
      X = difference_member x (differing t c)

      abbrev three : List Member
      three = member_of t (get_or c.groups 0 0) ∷ member_of t (get_or c.groups 1 0) ∷ X ∷ []

      group_of : (e i : ℕ) → i < 2 → membership t e (get_or c.groups i 0) ≡ constraint_term x t c e i
      unfolding constraint_term
      group_of e i l = rw (is-difference t c seven, ne_eqb i 2 (λ q. omega arith))

      difference-of : (e : ℕ) → e < limits.entrants → number_term (member_number e X) ≡ constraint_term x t c e 2
      unfolding constraint_term difference_member
      difference-of e h = number-term X e one few h ∙ sym (difference-member x t c e) ∙ rw (is-difference t c seven)

      pub seven-saying : Saying x t c three 3
      seven-saying = record { term = λ e i h l. go e h i l }
        where
          go : (e : ℕ) → e < limits.entrants → (i : ℕ) → i < 3 → number_term (number_at (map (member_number e) three) i) ≡ constraint_term x t c e i
          go e h zero l = group-term three e 0 (get_or c.groups 0 0) h (omega arith) (omega arith) refl ∙ group_of e 0 (omega arith)
          go e h (suc zero) l = group-term three e 1 (get_or c.groups 1 0) h (omega arith) (omega arith) refl ∙ group_of e 1 (omega arith)
          go e h (suc (suc zero)) l = ap number_term (sym (number_in (map (member_number e) three) 2 (omega arith))) ∙ difference-of e h
          go e h (suc (suc (suc i))) l = absurd (omega arith)

      -- the first three of the array are these
      pub seven-members : (first : List ℕ) (groups : List Group) (s : ℕ) → t ≡ take s groups → first ≡ first_variables t
          → T (list_all (between 1 s) (take 2 c.groups)) → s ≤ limits.groups → (ms : List Member)
          → ms ≡ set (first_of (member_at groups first) no_member limits.members 2 c.groups) 2 X → take 3 ms ≡ three
      seven-members first groups s e f named many ms q =
          let r = first_of (member_at groups first) no_member limits.members 2 c.groups in
          let two : length (map (member_at groups first) (take 2 c.groups)) ≡ 2 = length-map (take 2 c.groups) (member_at groups first) ∙ length-take 2 c.groups ∙ omega arith in
          let long : length r ≡ limits.members =
          length-append (map (member_at groups first) (take 2 c.groups)) (replicate (limits.members - 2) no_member) ∙ omega (arith, two, length-replicate {A = Member} (limits.members - 2) no_member) in
          ap (take 3) q
          ∙ take_set_next r 2 X (omega arith)
          ∙ ap (λ (l : List Member). l ++ X ∷ [])
          (first-front (member_at groups first) no_member limits.members 2 c.groups (omega arith)
          ∙ members_are groups first c.groups s 2 (f ∙ ap first_variables e) named many
          ∙ ap (λ (u : List Group). map (member_of u) (take 2 c.groups)) (sym e)
          ∙ ap (map (member_of t)) (take_places 0 c.groups 2 (omega arith)))

-- ---- its clauses, one after the other

each-places : {A B : Type 0} (f : A → List B) (d : A) (xs : List A) → flat_map f xs ≡ flat_map (λ j. f (get_or xs j d)) (range 0 (length xs))
each-places f d xs =
    ap (flat_map f) (sym (places 0 xs d))
    ∙ each_map f (λ j. get_or xs (j - 0) d) (range 0 (length xs))
    ∙ each-range_ext (λ j. f (get_or xs (j - 0) d)) (λ j. f (get_or xs j d)) 0 (length xs) (λ j _ _. ap (λ (i : ℕ). f (get_or xs i d)) (omega arith))

module _ (x : ℕ) (t : List Group) (c : Constraint) (ms : List Member) (k : ℕ) (says : Saying x t c ms k) (clear : is_apart t c ≡ false)
    (w : MembersBelow k c.code c.count) (e : ℕ) (h : e < limits.entrants) where
  abbrev kept_at : ℕ → List (List Literal)
  kept_at j = keep (clause_terms (map (member_number e) ms) c.code c.count j)

  literal-is : (l : Literal) → variable l < k → term_of (constraint_term x t c e) l ≡ literal_term (map (member_number e) ms) l
  literal-is (Pos i) l = sym (says.term e i h l)
  literal-is (Neg i) l = ap opposite_term (sym (says.term e i h l))

  clause-is : (j : ℕ) → j < length (member_clauses c.code c.count) → keep (map (term_of (constraint_term x t c e)) (clause_of c.code c.count j)) ≡ kept_at j
  unfolding clause_terms
  clause-is j l =
      ap keep
      (values-map (term_of (constraint_term x t c e)) (literal_term (map (member_number e) ms)) (Pos 0) (clause_of c.code c.count j)
      (λ i m. literal-is (get_or (clause_of c.code c.count j) i (Pos 0)) (w.below j i l m)))

  pub entrant-is : clauses_at x t c e ≡ flat_map kept_at (range 0 (length (member_clauses c.code c.count)))
  unfolding clauses_at clause_of
  entrant-is =
      rw clear
      (each-places (λ ls. keep (map (term_of (constraint_term x t c e)) ls)) [] (member_clauses c.code c.count)
      ∙ each-range_ext (λ j. keep (map (term_of (constraint_term x t c e)) (clause_of c.code c.count j))) kept_at 0
      (length (member_clauses c.code c.count)) (λ j _ l. clause-is j (omega arith)))
