-- A field of the right form has the number that the last four bits of its bytes stand for. Assumes nothing.
use Prim.Native.Nat.{ℕ, ◌+◌, ◌-◌, ◌*◌, ◌/◌, ◌%◌, ◌≤◌, ◌<◌}
use mathlib.Core.Path.{◌≡◌, refl, sym, ap, subst, ◌∙◌}
use mathlib.Core.Bool.{Bool, true, false, cond, not, ◌&&◌, ◌||◌}
use mathlib.Core.List.{List, [], ◌∷◌, ◌++◌}
use Rattle.std.specs.Prelude.{Option, None, Some}
use native.Mathlib.Omega.{arith}
use borrow.Author.Tests.{eqb-true, eqb-false, ltb-true, ltb-false, le-leb, lt-leb, lt-ltb}
use lib.Dec.{leb, ltb, eqb}
use lib.ListN.{length, get_or}
use Rattle.model.specs.declared.Field.{Field}
use Rattle.model.specs.declared.Field.TheVariants.{Number, Blank, Bad}
use Rattle.std.specs.List.{list_all}
use Rattle.model.specs.Lists.{range, between, stop}
use Rattle.model.specs.Sheet.{field_at, after_spaces, digits_after, number_of, as_field, field_value, field_refusal, field_number, value_at, is_mark_column, good_field, form_refusal, mark_at, first_group, group_count}
use Rattle.model.proofs.Lists.{every-range, true-T, T_true, between_le}
use Rattle.model.proofs.Loops.{drop-next}
use Rattle.sheet.specs.Line.{good_mark, plain_value, GroupLine, ConstraintLine}

-- ---- the bytes of a field

digit-plain : (d : ℕ) → between 48 57 d ≡ true → d % 16 ≡ d - 48
digit-plain d h = let b = between_le 48 57 d (true-T _ h) in omega (arith, b.0, b.1)

digits-plain : (v w : ℕ) (ds : List ℕ) → digits_after v ds ≡ Some w → plain_value v ds ≡ w
digits-plain v w [] e = cc
digits-plain v w (d ∷ ds) e = go (between 48 57 d) refl (digits-plain (v * 10 + (d - 48)) w ds)
  where
    go : (b : Bool) → between 48 57 d ≡ b → (digits_after (v * 10 + (d - 48)) ds ≡ Some w → plain_value (v * 10 + (d - 48)) ds ≡ w)
        → plain_value (v * 10 + d % 16) ds ≡ w
    go true h ih = rw (digit-plain d h) (ih (rw h at e))
    go false h ih = let f : None ≡ Some w = rw h at e in let z : ◌≡◌ {A = ℕ} 0 1 = cc in absurd (omega arith)

spaces-plain : (f : List ℕ) → plain_value 0 f ≡ plain_value 0 (after_spaces f)
spaces-plain [] = refl
spaces-plain (b ∷ bs) = go (eqb b 32) refl (spaces-plain bs)
  where
    go : (t : Bool) → eqb b 32 ≡ t → plain_value 0 bs ≡ plain_value 0 (after_spaces bs)
        → plain_value (0 * 10 + b % 16) bs ≡ plain_value 0 (cond t (after_spaces bs) (b ∷ bs))
    go true h ih = rw (eqb-true b 32 h) ih
    go false h ih = refl

-- ---- a field by its case

module _ (f : List ℕ) where
  -- what it has after its spaces
  number_digits : (w : ℕ) → field_value f ≡ Number w → (length (after_spaces f) ≡ 0 → ⊥) × (digits_after 0 (after_spaces f) ≡ Some w)
  unfolding field_value number_of
  number_digits w e =
      let d = after_spaces f in
      go (eqb (length f) 4) (eqb (length d) 0) refl (ltb 1 (length d) && eqb (get_or d 0 0) 48) (digits_after 0 d) e
    where
      go : (a b : Bool) → eqb (length (after_spaces f)) 0 ≡ b → (q : Bool) (o : Option ℕ)
          → cond (not a) Bad (cond b Blank (as_field (cond b None (cond q None o)))) ≡ Number w → (length (after_spaces f) ≡ 0 → ⊥) × (o ≡ Some w)
      go false b h q o e = let z : ◌≡◌ {A = ℕ} 0 1 = cc in absurd (omega arith)
      go true true h q o e = let z : ◌≡◌ {A = ℕ} 0 1 = cc in absurd (omega arith)
      go true false h true o e = let z : ◌≡◌ {A = ℕ} 0 1 = cc in absurd (omega arith)
      go true false h false None e = let z : ◌≡◌ {A = ℕ} 0 1 = cc in absurd (omega arith)
      go true false h false (Some v) e = (eqb-false (length (after_spaces f)) 0 h, cc)

  number-plain : (w : ℕ) → field_value f ≡ Number w → plain_value 0 f ≡ w
  number-plain w e = spaces-plain f ∙ digits-plain 0 w (after_spaces f) (number_digits w e).1

  blank-spaces : field_value f ≡ Blank → length (after_spaces f) ≡ 0
  unfolding field_value
  blank-spaces e = go (eqb (length f) 4) (eqb (length (after_spaces f)) 0) refl (number_of (after_spaces f)) e
    where
      go : (a b : Bool) → eqb (length (after_spaces f)) 0 ≡ b → (o : Option ℕ) → cond (not a) Bad (cond b Blank (as_field o)) ≡ Blank → length (after_spaces f) ≡ 0
      go false b h o e = let z : ◌≡◌ {A = ℕ} 0 1 = cc in absurd (omega arith)
      go true true h o e = eqb-true (length (after_spaces f)) 0 h
      go true false h None e = let z : ◌≡◌ {A = ℕ} 0 1 = cc in absurd (omega arith)
      go true false h (Some v) e = let z : ◌≡◌ {A = ℕ} 0 1 = cc in absurd (omega arith)

  blank-plain : field_value f ≡ Blank → plain_value 0 f ≡ 0
  blank-plain e = spaces-plain f ∙ empty (after_spaces f) (blank-spaces e)
    where
      empty : (d : List ℕ) → length d ≡ 0 → plain_value 0 d ≡ 0
      empty [] h = refl
      empty (x ∷ xs) h = absurd (omega arith)

field_plain : (f : List ℕ) → field_refusal (field_value f) false ≡ 0 → plain_value 0 f ≡ field_number (field_value f) false
field_plain f = go (field_value f) refl
  where
    go : (x : Field) → field_value f ≡ x → field_refusal x false ≡ 0 → plain_value 0 f ≡ field_number x false
    go (Number w) e h = number-plain f w e
    go Blank e h = absurd (omega arith)
    go Bad e h = absurd (omega arith)

mark-plain : (f : List ℕ) → field_refusal (field_value f) true ≡ 0 → leb (plain_value 0 f) 2 ≡ leb (field_number (field_value f) true) 2
mark-plain f = go (field_value f) refl
  where
    go : (x : Field) → field_value f ≡ x → field_refusal x true ≡ 0 → leb (plain_value 0 f) 2 ≡ leb (field_number x true) 2
    go (Number w) e h = rw (number-plain f w e)
    go Blank e h = rw (blank-plain f e)
    go Bad e h = absurd (omega arith)

-- ---- the last byte of a field

space-none : (v : ℕ) (xs : List ℕ) → digits_after v (xs ++ 32 ∷ []) ≡ None
space-none v [] = refl
space-none v (x ∷ xs) = go (between 48 57 x) (space-none (v * 10 + (x - 48)) xs)
  where
    go : (b : Bool) → digits_after (v * 10 + (x - 48)) (xs ++ 32 ∷ []) ≡ None → cond b (digits_after (v * 10 + (x - 48)) (xs ++ 32 ∷ [])) None ≡ None
    go true ih = ih
    go false ih = refl

-- a number's is no space
spaced-none : (xs : List ℕ) → (length (after_spaces (xs ++ 32 ∷ [])) ≡ 0 → ⊥) → digits_after 0 (after_spaces (xs ++ 32 ∷ [])) ≡ None
spaced-none [] h = absurd (h refl)
spaced-none (x ∷ xs) h = go (eqb x 32) (spaced-none xs) h
  where
    rest : List ℕ
    rest = xs ++ 32 ∷ []

    go : (b : Bool) → ((length (after_spaces rest) ≡ 0 → ⊥) → digits_after 0 (after_spaces rest) ≡ None)
        → (length (cond b (after_spaces rest) (x ∷ rest)) ≡ 0 → ⊥) → digits_after 0 (cond b (after_spaces rest) (x ∷ rest)) ≡ None
    go true ih h = ih h
    go false ih h = space-none 0 (x ∷ xs)

-- a blank's is one
spaced-last : (xs : List ℕ) (d : ℕ) → length (after_spaces (xs ++ d ∷ [])) ≡ 0 → d ≡ 32
spaced-last [] d h = go (eqb d 32) refl h
  where
    go : (b : Bool) → eqb d 32 ≡ b → length (cond b [] (d ∷ [])) ≡ 0 → d ≡ 32
    go true e h = eqb-true d 32 e
    go false e h = absurd (omega arith)
spaced-last (x ∷ xs) d h = go (eqb x 32) (spaced-last xs d) h
  where
    go : (b : Bool) → (length (after_spaces (xs ++ d ∷ [])) ≡ 0 → d ≡ 32) → length (cond b (after_spaces (xs ++ d ∷ [])) (x ∷ (xs ++ d ∷ []))) ≡ 0 → d ≡ 32
    go true ih h = ih h
    go false ih h = absurd (omega arith)

-- a mark of at most 2
module _ (a b c d : ℕ) where
  abbrev bytes : List ℕ
  bytes = a ∷ b ∷ c ∷ d ∷ []

  number-ends : (w : ℕ) → field_value bytes ≡ Number w → d ≡ 32 → ⊥
  number-ends w e h =
      let n = number_digits bytes w e in
      let q : bytes ≡ (a ∷ b ∷ c ∷ []) ++ 32 ∷ [] = ap {B = List ℕ} (λ x. a ∷ b ∷ c ∷ x ∷ []) h in
      let f : None ≡ Some w = sym (spaced-none (a ∷ b ∷ c ∷ []) (subst (λ (l : List ℕ). length (after_spaces l) ≡ 0 → ⊥) q n.0)) ∙ ap (λ (l : List ℕ). digits_after 0 (after_spaces l)) (sym q) ∙ n.1 in
      let z : ◌≡◌ {A = ℕ} 0 1 = cc in omega arith

  mark-last : field_refusal (field_value bytes) true ≡ 0 → field_number (field_value bytes) true ≤ 2
      → (d ≡ 32 → 1 ≡ field_number (field_value bytes) true) × ((d ≡ 32 → ⊥) → d % 16 ≡ field_number (field_value bytes) true)
  mark-last = go (field_value bytes) refl
    where
      go : (x : Field) → field_value bytes ≡ x → field_refusal x true ≡ 0 → field_number x true ≤ 2
          → (d ≡ 32 → 1 ≡ field_number x true) × ((d ≡ 32 → ⊥) → d % 16 ≡ field_number x true)
      go (Number w) e h l = (λ s. absurd (number-ends w e s), λ s. omega (arith, number-plain bytes w e))
      go Blank e h l = (λ s. refl, λ s. absurd (s (spaced-last (a ∷ b ∷ c ∷ []) d (blank-spaces bytes e))))
      go Bad e h l = absurd (omega arith)

-- ---- a field of a line

module _ (l : List ℕ) (i : ℕ) (h : i < length l / 4) where
  pub field-bytes : field_at l i ≡ get_or l (i * 4) 0 ∷ get_or l (i * 4 + 1) 0 ∷ get_or l (i * 4 + 2) 0 ∷ get_or l (i * 4 + 3) 0 ∷ []
  unfolding field_at
  field-bytes =
      let a = i * 4 in
      let two : a + 1 + 1 ≡ a + 2 = omega arith in
      let three : a + 2 + 1 ≡ a + 3 = omega arith in
      rw (lt-ltb i (length l / 4) h, drop-next 0 l a (omega arith), drop-next 0 l (a + 1) (omega arith), two, drop-next 0 l (a + 2) (omega arith), three, drop-next 0 l (a + 3) (omega arith))

  module _ (form : form_refusal l ≡ 0) where
    good : good_field l i ≡ true
    unfolding form_refusal
    good = go (eqb (length l) 0) (eqb (length l % 4) 0) (list_all (good_field l) (range 0 (length l / 4))) refl form
      where
        go : (a b c : Bool) → list_all (good_field l) (range 0 (length l / 4)) ≡ c → stop a 3 (stop (not b) 3 (stop (not c) 4 0)) ≡ 0 → good_field l i ≡ true
        go true b c e z = absurd (omega arith)
        go false false c e z = absurd (omega arith)
        go false true false e z = absurd (omega arith)
        go false true true e z = T_true (good_field l i) (every-range (good_field l) 0 (length l / 4) (true-T _ e) i (omega arith) (omega arith))

    -- where it is no mark column
    pub value-plain : is_mark_column l i ≡ false → plain_value 0 (field_at l i) ≡ value_at l i
    unfolding value_at good_field
    value-plain m = field_plain (field_at l i) (eqb-true _ 0 (rw m at good))

    pub mark-byte : is_mark_column l i ≡ true → field_number (field_value (field_at l i)) true ≤ 2 → (let d = get_or l (i * 4 + 3) 0 in
        (d ≡ 32 → 1 ≡ field_number (field_value (field_at l i)) true) × ((d ≡ 32 → ⊥) → d % 16 ≡ field_number (field_value (field_at l i)) true))
    unfolding good_field
    mark-byte m few =
        let e : field_refusal (field_value (field_at l i)) true ≡ 0 = eqb-true _ 0 (rw m at good) in
        rw field-bytes (mark-last _ _ _ _ (rw field-bytes at e) (rw field-bytes at few))

    pub good-plain : is_mark_column l i ≡ true → leb (plain_value 0 (field_at l i)) 2 ≡ leb (field_number (field_value (field_at l i)) true) 2
    unfolding good_field
    good-plain m = mark-plain (field_at l i) (eqb-true _ 0 (rw m at good))

-- ---- a mark of a group line, and a number of a constraint line

-- whether a plain value is above 2, byte by byte
above : (p q r d : ℕ) (b : Bool) → (((not (eqb (p % 16) 0) || not (eqb (q % 16) 0)) || not (eqb (r % 16) 0)) || ltb 2 (d % 16)) ≡ b
    → leb (plain_value 0 (p ∷ q ∷ r ∷ d ∷ [])) 2 ≡ not b
above p q r d b e = go (eqb (p % 16) 0) refl (eqb (q % 16) 0) refl (eqb (r % 16) 0) refl (ltb 2 (d % 16)) refl e
  where
    go : (x : Bool) → eqb (p % 16) 0 ≡ x → (y : Bool) → eqb (q % 16) 0 ≡ y → (z : Bool) → eqb (r % 16) 0 ≡ z → (w : Bool) → ltb 2 (d % 16) ≡ w
        → (((not x || not y) || not z) || w) ≡ b → leb (plain_value 0 (p ∷ q ∷ r ∷ d ∷ [])) 2 ≡ not b
    go false h y i z j w k e = rw (← e) (lt-leb (plain_value 0 (p ∷ q ∷ r ∷ d ∷ [])) 2 (let n = eqb-false (p % 16) 0 h in omega arith))
    go true h false i z j w k e = rw (← e) (lt-leb (plain_value 0 (p ∷ q ∷ r ∷ d ∷ [])) 2 (let n = eqb-false (q % 16) 0 i in omega arith))
    go true h true i false j w k e = rw (← e) (lt-leb (plain_value 0 (p ∷ q ∷ r ∷ d ∷ [])) 2 (let n = eqb-false (r % 16) 0 j in omega arith))
    go true h true i true j true k e = rw (← e) (lt-leb (plain_value 0 (p ∷ q ∷ r ∷ d ∷ [])) 2 (omega (arith, ltb-true 2 (d % 16) k)))
    go true h true i true j false k e =
        rw (← e) (le-leb (plain_value 0 (p ∷ q ∷ r ∷ d ∷ [])) 2 (omega (arith, eqb-true (p % 16) 0 h, eqb-true (q % 16) 0 i, eqb-true (r % 16) 0 j, ltb-false 2 (d % 16) k)))

pub mark-good : (n : ℕ) (l : List ℕ) → GroupLine n l → (e : ℕ) → e < n → (b : Bool)
    → (((not (eqb (get_or l (e * 4 + 16) 0 % 16) 0) || not (eqb (get_or l (e * 4 + 16 + 1) 0 % 16) 0)) || not (eqb (get_or l (e * 4 + 16 + 2) 0 % 16) 0)) || ltb 2 (get_or l (e * 4 + 16 + 3) 0 % 16)) ≡ b
    → good_mark l e ≡ not b
unfolding mark_at is_mark_column
mark-good n l g e h b t =
    let i = 4 + e in
    let at : i * 4 ≡ e * 4 + 16 = omega arith in
    let few : i < length l / 4 = omega (arith, g.2) in
    sym (good-plain l i few g.0 (rw (g.1, le-leb 4 i (omega arith))))
    ∙ ap (λ (f : List ℕ). leb (plain_value 0 f) 2) (field-bytes l i few ∙ ap (λ (k : ℕ). get_or l k 0 ∷ get_or l (k + 1) 0 ∷ get_or l (k + 2) 0 ∷ get_or l (k + 3) 0 ∷ []) at)
    ∙ above (get_or l (e * 4 + 16) 0) (get_or l (e * 4 + 16 + 1) 0) (get_or l (e * 4 + 16 + 2) 0) (get_or l (e * 4 + 16 + 3) 0) b t

pub mark-is : (l : List ℕ) (e : ℕ) → form_refusal l ≡ 0 → value_at l 0 ≡ 2 → 4 + e < length l / 4 → mark_at l e ≤ 2
    → (let d = get_or l (e * 4 + 19) 0 in (d ≡ 32 → 1 ≡ mark_at l e) × ((d ≡ 32 → ⊥) → d % 16 ≡ mark_at l e))
unfolding mark_at is_mark_column
mark-is l e form two h few =
    let at : (4 + e) * 4 + 3 ≡ e * 4 + 19 = omega arith in
    rw at at (mark-byte l (4 + e) h form (rw (two, le-leb 4 (4 + e) (omega arith))) few)

pub number-good : (l : List ℕ) → ConstraintLine l → (i : ℕ) → i < first_group l + group_count l → plain_value 0 (field_at l i) ≡ value_at l i
unfolding is_mark_column
number-good l g i h = value-plain l i (omega (arith, g.2)) g.0 (rw g.1 (and-false (leb 4 i)))
  where
    and-false : (b : Bool) → (b && false) ≡ false
    and-false true = refl
    and-false false = refl
