-- A table by its fields: what a change of a place makes of each, rules that read and write two of them alone, and the table that four lists make. Assumes nothing.
use mathlib.Core.Path.{◌≡◌, refl, sym, ap, ap₂, ◌∙◌}
use Prim.Native.Nat.{ℕ, zero, suc, ◌-◌, ◌<◌}
use native.Mathlib.Omega.{arith}
use mathlib.Core.List.{List, [], ◌∷◌, map}
use lib.ListN.{length, get_or, set}
use Rattle.model.specs.declared.Group.{Group}
use Rattle.model.specs.Lists.{on_place}
use Rattle.model.specs.Model.{zero_group, group_at}
use Rattle.model.specs.Propagate.{run}
use Rattle.model.proofs.Lists.{All}
use Rattle.table.specs.Table.{group, zipped, fixed_of, possible_of, lows, highs}

-- ---- a field

module _ (q : Group → ℕ) where
  -- of a table with one place changed
  pub field-place : (r : Group → Group) (s : ℕ → ℕ) → ((x : Group) → q (r x) ≡ s (q x)) → (i : ℕ) (t : List Group) → map q (on_place i r t) ≡ on_place i s (map q t)
  field-place r s h i [] = refl
  field-place r s h zero (x ∷ t) = ap {B = List ℕ} (λ y. y ∷ map q t) (h x)
  field-place r s h (suc i) (x ∷ t) = ap {B = List ℕ} (λ u. q x ∷ u) (field-place r s h i t)

  pub field-kept : (r : Group → Group) → ((x : Group) → q (r x) ≡ q x) → (i : ℕ) (t : List Group) → map q (on_place i r t) ≡ map q t
  field-kept r h i [] = refl
  field-kept r h zero (x ∷ t) = ap {B = List ℕ} (λ y. y ∷ map q t) (h x)
  field-kept r h (suc i) (x ∷ t) = ap {B = List ℕ} (λ u. q x ∷ u) (field-kept r h i t)

  -- of one group
  at-place : (i : ℕ) (t : List Group) → q (get_or t i zero_group) ≡ get_or (map q t) i (q zero_group)
  at-place i [] = refl
  at-place zero (x ∷ t) = refl
  at-place (suc i) (x ∷ t) = at-place i t

  pub field-at : (t : List Group) (g : ℕ) → q (group_at t g) ≡ get_or (map q t) (g - 1) (q zero_group)
  unfolding group_at
  field-at t g = at-place (g - 1) t

  pub field-same : (t u : List Group) → map q t ≡ map q u → (g : ℕ) → q (group_at t g) ≡ q (group_at u g)
  field-same t u e g = field-at t g ∙ ap (λ l. get_or l (g - 1) (q zero_group)) e ∙ sym (field-at u g)

-- ---- rules of two fields alone

-- the fields a and b stay, and what becomes of x and y depends on x and y alone
pub record Alone (a b x y : Group → ℕ) (r : List Group → List Group) : Type 0 where
  pub a-stays : (t : List Group) → map a (r t) ≡ map a t
  pub b-stays : (t : List Group) → map b (r t) ≡ map b t
  pub x-same : (t u : List Group) → map x t ≡ map x u → map y t ≡ map y u → map x (r t) ≡ map x (r u)
  pub y-same : (t u : List Group) → map x t ≡ map x u → map y t ≡ map y u → map y (r t) ≡ map y (r u)

module _ (a b x y : Group → ℕ) where
  -- a change of one place by a value
  pub place-alone : (f : ℕ → Group → Group) (value : List Group → ℕ) (sx sy : ℕ → ℕ → ℕ) → ((v : ℕ) (g : Group) → a (f v g) ≡ a g) → ((v : ℕ) (g : Group) → b (f v g) ≡ b g)
      → ((v : ℕ) (g : Group) → x (f v g) ≡ sx v (x g)) → ((v : ℕ) (g : Group) → y (f v g) ≡ sy v (y g))
      → ((t u : List Group) → map x t ≡ map x u → map y t ≡ map y u → value t ≡ value u)
      → (i : ℕ) → Alone a b x y (λ t. on_place i (f (value t)) t)
  place-alone f value sx sy ka kb mx my same i = record {
    a-stays = λ t. field-kept a (f (value t)) (ka (value t)) i t;
    b-stays = λ t. field-kept b (f (value t)) (kb (value t)) i t;
    x-same = λ t u d e.
        field-place x (f (value t)) (sx (value t)) (mx (value t)) i t
        ∙ ap₂ (λ (v : ℕ) (l : List ℕ). on_place i (sx v) l) (same t u d e) d
        ∙ sym (field-place x (f (value u)) (sx (value u)) (mx (value u)) i u);
    y-same = λ t u d e.
        field-place y (f (value t)) (sy (value t)) (my (value t)) i t
        ∙ ap₂ (λ (v : ℕ) (l : List ℕ). on_place i (sy v) l) (same t u d e) e
        ∙ sym (field-place y (f (value u)) (sy (value u)) (my (value u)) i u);
  }

  -- such rules in order
  pub run-alone : (rs : List (List Group → List Group)) → All (Alone a b x y) rs → Alone a b x y (run rs)
  run-alone [] h = record { a-stays = λ t. refl; b-stays = λ t. refl; x-same = λ t u d e. d; y-same = λ t u d e. e }
  run-alone (r ∷ rs) h =
      let p = h.0 in
      let q = run-alone rs h.1 in
      record {
        a-stays = λ t. q.a-stays (r t) ∙ p.a-stays t;
        b-stays = λ t. q.b-stays (r t) ∙ p.b-stays t;
        x-same = λ t u d e. q.x-same (r t) (r u) (p.x-same t u d e) (p.y-same t u d e);
        y-same = λ t u d e. q.y-same (r t) (r u) (p.x-same t u d e) (p.y-same t u d e);
      }

-- ---- four lists

pub zipped_fields : (t : List Group) → zipped (fixed_of t) (possible_of t) (lows t) (highs t) ≡ t
unfolding zipped
zipped_fields [] = refl
zipped_fields (g ∷ t) = ap {B = List Group} (λ u. g ∷ u) (zipped_fields t)

pub zipped-length : (n : ℕ) (f p l h : List ℕ) → length f ≡ n → length p ≡ n → length l ≡ n → length h ≡ n → length (zipped f p l h) ≡ n
unfolding zipped
zipped-length n [] p l h a b c d = a
zipped-length n (x ∷ f) [] l h a b c d = b
zipped-length n (x ∷ f) (y ∷ p) [] h a b c d = c
zipped-length n (x ∷ f) (y ∷ p) (z ∷ l) [] a b c d = d
zipped-length zero (x ∷ f) (y ∷ p) (z ∷ l) (u ∷ h) a b c d = absurd (omega arith)
zipped-length (suc n) (x ∷ f) (y ∷ p) (z ∷ l) (u ∷ h) a b c d = ap suc (zipped-length n f p l h (omega arith) (omega arith) (omega arith) (omega arith))

none-there : (l : List ℕ) → length l ≡ 0 → [] ≡ l
none-there [] e = refl
none-there (x ∷ l) e = absurd (omega arith)

-- the lists are read off again
pub zipped-sets : (f p l h : List ℕ) → length (zipped f p l h) ≡ length f → length p ≡ length f → (fixed_of (zipped f p l h) ≡ f) × (possible_of (zipped f p l h) ≡ p)
unfolding zipped
zipped-sets (x ∷ f) (y ∷ p) (z ∷ l) (u ∷ h) a b =
    let q = zipped-sets f p l h (omega arith) (omega arith) in
    (ap {B = List ℕ} (λ k. x ∷ k) q.0, ap {B = List ℕ} (λ k. y ∷ k) q.1)
zipped-sets f p l h a b = (none-there f (omega arith), none-there p (omega arith))

pub zipped-limits : (f p l h : List ℕ) → length (zipped f p l h) ≡ length l → length h ≡ length l → (lows (zipped f p l h) ≡ l) × (highs (zipped f p l h) ≡ h)
unfolding zipped
zipped-limits (x ∷ f) (y ∷ p) (z ∷ l) (u ∷ h) a b =
    let q = zipped-limits f p l h (omega arith) (omega arith) in
    (ap {B = List ℕ} (λ k. z ∷ k) q.0, ap {B = List ℕ} (λ k. u ∷ k) q.1)
zipped-limits f p l h a b = (none-there l (omega arith), none-there h (omega arith))

-- of two sets what stands past the limits is not seen
pub zipped_again : (f p l h l₁ h₁ : List ℕ) → length (zipped f p l h) ≡ length l₁ → zipped (fixed_of (zipped f p l h)) (possible_of (zipped f p l h)) l₁ h₁ ≡ zipped f p l₁ h₁
unfolding zipped
zipped_again [] p l h l₁ h₁ a = refl
zipped_again (x ∷ f) [] l h l₁ h₁ a = refl
zipped_again (x ∷ f) (y ∷ p) [] h [] h₁ a = refl
zipped_again (x ∷ f) (y ∷ p) [] h (z₁ ∷ l₁) h₁ a = absurd (omega arith)
zipped_again (x ∷ f) (y ∷ p) (z ∷ l) [] [] h₁ a = refl
zipped_again (x ∷ f) (y ∷ p) (z ∷ l) [] (z₁ ∷ l₁) h₁ a = absurd (omega arith)
zipped_again (x ∷ f) (y ∷ p) (z ∷ l) (u ∷ h) [] h₁ a = refl
zipped_again (x ∷ f) (y ∷ p) (z ∷ l) (u ∷ h) (z₁ ∷ l₁) [] a = refl
zipped_again (x ∷ f) (y ∷ p) (z ∷ l) (u ∷ h) (z₁ ∷ l₁) (u₁ ∷ h₁) a =
    ap {B = List Group} (λ t. record { fixed = x; possible = y; low = z₁; high = u₁ } ∷ t) (zipped_again f p l h l₁ h₁ (omega arith))

-- what is read
pub zipped-at : (f p l h : List ℕ) (i : ℕ) → i < length (zipped f p l h)
    → get_or (zipped f p l h) i zero_group ≡ group (get_or f i 0) (get_or p i 0) (get_or l i 0) (get_or h i 0)
unfolding zipped
zipped-at [] p l h i k = absurd (omega arith)
zipped-at (a ∷ f) [] l h i k = absurd (omega arith)
zipped-at (a ∷ f) (b ∷ p) [] h i k = absurd (omega arith)
zipped-at (a ∷ f) (b ∷ p) (c ∷ l) [] i k = absurd (omega arith)
zipped-at (a ∷ f) (b ∷ p) (c ∷ l) (d ∷ h) zero k = refl
zipped-at (a ∷ f) (b ∷ p) (c ∷ l) (d ∷ h) (suc i) k = zipped-at f p l h i (omega arith)

-- a store to each
pub zipped-set : (f p l h : List ℕ) (i a b c d : ℕ)
    → zipped (set f i a) (set p i b) (set l i c) (set h i d) ≡ on_place i (λ g. group a b c d) (zipped f p l h)
unfolding zipped
zipped-set [] p l h i a b c d = refl
zipped-set (x ∷ f) [] l h zero a b c d = refl
zipped-set (x ∷ f) [] l h (suc i) a b c d = refl
zipped-set (x ∷ f) (y ∷ p) [] h zero a b c d = refl
zipped-set (x ∷ f) (y ∷ p) [] h (suc i) a b c d = refl
zipped-set (x ∷ f) (y ∷ p) (z ∷ l) [] zero a b c d = refl
zipped-set (x ∷ f) (y ∷ p) (z ∷ l) [] (suc i) a b c d = refl
zipped-set (x ∷ f) (y ∷ p) (z ∷ l) (u ∷ h) zero a b c d = refl
zipped-set (x ∷ f) (y ∷ p) (z ∷ l) (u ∷ h) (suc i) a b c d = ap {B = List Group} (λ t. group x y z u ∷ t) (zipped-set f p l h i a b c d)
