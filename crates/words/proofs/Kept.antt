-- Of a model in range each number that counts is the word that was handed over. Assumes nothing.
use mathlib.Core.Path.{◌≡◌, refl, sym, ap, ◌∙◌, subst}
use mathlib.Core.Bool.{Bool, true, false, cond}
use mathlib.Core.List.{List, [], map}
use Prim.Native.Nat.{ℕ, ◌+◌, ◌≤◌, ◌<◌}
use native.Mathlib.Nat.{zero-add}
use native.Mathlib.Omega.{arith}
use borrow.Author.Tests.{ltb-false, lt-ltb, le-ltb}
use lib.Dec.{T, ltb}
use lib.ListN.{length, get_or, take, length-take, length-map}
use lib.Seq.{get_or-take}
use Rattle.model.specs.declared.Group.{Group}
use Rattle.model.specs.declared.Constraint.{Constraint}
use Rattle.std.specs.List.{list_all}
use Rattle.model.specs.Lists.{range}
use Rattle.model.specs.Limits.{limits}
use Rattle.model.specs.Clauses.{member_count}
use Rattle.model.specs.Model.{in_range, table_of, constraints_of, group_in_range, code_in_range, constraint_in_range}
use Rattle.model.proofs.Lists.{range_length, every-getD, between_le, get_or-map-range}
use Rattle.model.proofs.Codes.{is_code, count-in, member-bound}
use Rattle.propagation_laws.proofs.Ranges.{GroupRange, group-range, constraint-code, member_below, InRange, in_range_lem}
use Rattle.packing.specs.Packing.{model_size}
use Rattle.words.specs.Words.{word_at, number, number_at, group_at, constraint_at, group_from, constraint_from, model_of, model_from, Kept, HandedOver}

-- a number that is small is its word
small : (w : ℕ) → number w ≤ 65536 → number w ≡ w
unfolding number
small w h = go (ltb w 4294967296) refl h
  where
    go : (x : Bool) → ltb w 4294967296 ≡ x → cond x w 4294967295 ≤ 65536 → cond x w 4294967295 ≡ w
    go true e h = refl
    go false e h = absurd (omega (arith, h))

-- ---- a list made place by place

module _ {A : Type 0} (f : ℕ → A) (k : ℕ) where
  place : (i : ℕ) (d : A) → i < k → get_or (map f (range 0 k)) i d ≡ f i
  place i d h = get_or-map-range f 0 k i d h ∙ ap f (zero-add i)

  -- a test that the first s pass
  passes : (p : A → Bool) (s i : ℕ) → s ≤ k → i < s → T (list_all p (take s (map f (range 0 k)))) → T (p (f i))
  passes p s i l h t =
      let xs = map f (range 0 k) in
      let long : length xs ≡ k = length-map (range 0 k) f ∙ range_length 0 k in
      subst (λ (x : A). T (p x)) (get_or-take s xs i (f 0) h ∙ place i (f 0) (omega (arith, l, h)))
      (every-getD p (take s xs) (f 0) i t (omega (arith, length-take s xs, long, l, h)))

-- ---- the words of a model

module _ (words : List ℕ) (t : T (in_range (model_of words))) (whole : model_size ≤ length words) where
  r : InRange (model_of words)
  r = in_range_lem (model_of words) t

  n≤ : number_at words 0 ≤ limits.entrants
  unfolding model_of
  n≤ = r.entrants

  s≤ : number_at words 1 ≤ limits.groups
  unfolding model_of
  s≤ = r.group_count

  c≤ : number_at words 2 ≤ limits.constraints
  unfolding model_of
  c≤ = r.constraint_count

  group_in_lem : (i : ℕ) → i < number_at words 1 → GroupRange (number_at words 0) (group_from words i)
  unfolding model_of table_of
  group_in_lem i h =
      group-range (number_at words 0) (group_from words i)
      (passes (group_from words) limits.groups (group_in_range (number_at words 0)) (number_at words 1) i s≤ h r.groups)

  constraint-in : (j : ℕ) → j < number_at words 2 → T (constraint_in_range (number_at words 1) (constraint_from words j))
  unfolding model_of constraints_of
  constraint-in j h = passes (constraint_from words) limits.constraints (constraint_in_range (number_at words 1)) (number_at words 2) j c≤ h r.constraints

  group-is : (i : ℕ) (g : Group) → i < number_at words 1 → get_or (model_of words).groups i g ≡ group_from words i
  unfolding model_of
  group-is i g h = place (group_from words) limits.groups i g (omega (arith, h, s≤))

  constraint-is : (j : ℕ) (c : Constraint) → j < number_at words 2 → get_or (model_of words).constraints j c ≡ constraint_from words j
  unfolding model_of
  constraint-is j c h = place (constraint_from words) limits.constraints j c (omega (arith, h, c≤))

  module _ (j : ℕ) (h : j < number_at words 2) where
    abbrev c : Constraint
    c = constraint_from words j

    code_in : T (code_in_range c.code c.count)
    code_in = constraint-code (number_at words 1) c (constraint-in j h)

    code-kept : c.code ≡ word_at words (constraint_at j)
    code-kept = small (word_at words (constraint_at j)) (omega (arith, (between_le 1 7 c.code (is_code c.code c.count code_in)).1))

    count_kept : c.code ≡ 6 → c.count ≡ word_at words (constraint_at j + 1)
    count_kept six = small (word_at words (constraint_at j + 1)) (omega (arith, count-in c.code c.count code_in six))

    member_is : (i : ℕ) → i < member_count c.code c.count → get_or c.groups i 0 ≡ number_at words (constraint_at j + 2 + i)
    member_is i l =
        place (λ i. number_at words (constraint_at j + 2 + i)) limits.members i 0 (omega (arith, l, member-bound c.code c.count code_in))

    member-kept : (i : ℕ) → i < member_count c.code c.count → get_or c.groups i 0 ≡ word_at words (constraint_at j + 2 + i)
    member-kept i l =
        let below = member_below (number_at words 1) c (constraint-in j h) i l in
        let e = member_is i l in
        e ∙ small (word_at words (constraint_at j + 2 + i)) (omega (arith, below, e, s≤))

  kept : Kept words (model_of words)
  unfolding model_of
  kept = record {
    whole = whole;
    entrants = small (word_at words 0) (omega (arith, n≤));
    group_count = small (word_at words 1) (omega (arith, s≤));
    constraint_count = small (word_at words 2) (omega (arith, c≤));
    low = λ i g h. let q = group_in_lem i h in ap (λ (x : Group). x.low) (group-is i g h) ∙ small (word_at words (group_at i + 2)) (omega (arith, q.order, q.top, n≤));
    high = λ i g h. let q = group_in_lem i h in ap (λ (x : Group). x.high) (group-is i g h) ∙ small (word_at words (group_at i + 3)) (omega (arith, q.top, n≤));
    code = λ j c h. ap (λ (x : Constraint). x.code) (constraint-is j c h) ∙ code-kept j h;
    count = λ j c h. subst (λ (x : Constraint). x.code ≡ 6 → x.count ≡ word_at words (constraint_at j + 1)) (sym (constraint-is j c h)) (count_kept j h);
    member = λ j i c h.
        subst (λ (x : Constraint). i < member_count x.code x.count → get_or x.groups i 0 ≡ word_at words (constraint_at j + 2 + i)) (sym (constraint-is j c h))
        (member-kept j h i);
  }

-- ---- whatever is handed over

none : T (in_range (model_of [])) → ⊥
unfolding model_of number
none t = absurd (omega (arith, (in_range_lem (model_of []) t).some-entrant))

pub handed_over : (words : List ℕ) → HandedOver words (model_from words)
unfolding HandedOver model_from
handed_over words = go (ltb (length words) model_size) refl
  where
    go : (x : Bool) → ltb (length words) model_size ≡ x → T (in_range (model_of (cond x [] words))) → Kept words (model_of (cond x [] words))
    go true e t = absurd (none t)
    go false e t = kept words t (ltb-false (length words) model_size e)

-- ---- what the code finds

module _ (words : List ℕ) where
  pub short-model : length words < model_size → model_of [] ≡ model_from words
  unfolding model_from
  short-model h = rw (lt-ltb (length words) model_size h)

  pub long-model : model_size ≤ length words → model_of words ≡ model_from words
  unfolding model_from
  long-model h = rw (le-ltb (length words) model_size h)
