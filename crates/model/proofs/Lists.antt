-- Laws of the definitions' lists: tests, ranges, sums, places. Assumes nothing.
use mathlib.Core.Path.{◌≡◌, refl, sym, ap, ap₂, ◌∙◌, subst}
use mathlib.Core.Logic.{◌↔◌}
use Prim.Native.Nat.{ℕ, zero, suc, ◌+◌, ◌-◌, ◌*◌, ◌≤◌, ◌<◌, suc-le-suc}
use native.Mathlib.Nat.{add-zero, zero-add, add-suc, suc-add, suc_inj, suc-mul, add_assoc, le_of_suc-le-suc}
use native.Mathlib.Numerals.{add-one}
use native.Mathlib.Omega.{arith}
use native.Mathlib.Decide.{dec_lt, ℕ_discrete}
use mathlib.Core.Bool.{Bool, true, false, not, ◌&&◌, ◌||◌, beq}
use mathlib.Core.List.{List, [], ◌∷◌, ◌++◌, map, append_assoc, append-nil, head-eq_of_cons-eq, tail-eq_of_cons-eq, Memᴰ, Permᴰ}
use lib.Dec.{T, leb, leb→le, le→leb}
use lib.ListN.{length, get_or, set, take, drop, replicate, length-append, drop_of_length-le}
use lib.Seq.{sets, sets-eq, take_at, set_at, append_snoc, drop-cons, take-suc, take_all, length-take-le}
use Rattle.std.specs.List.{list_all, list_any, flat_map}
use Rattle.model.specs.Lists.{pairwise, those, total, range, on_place, between}

-- ---- tests as facts

pub T_true : (b : Bool) → T b → b ≡ true
T_true true t = refl
T_true false t = absurd t

pub T_false : (b : Bool) → T (not b) → b ≡ false
T_false true t = absurd t
T_false false t = refl

pub true-T : (b : Bool) → b ≡ true → T b
true-T b e = subst T (sym e) tt

pub and_left : (a b : Bool) → T (a && b) → T a
and_left true b t = tt
and_left false b t = t

pub and_right : (a b : Bool) → T (a && b) → T b
and_right true b t = t
and_right false b t = absurd t

pub and_both : (a b : Bool) → T a → T b → T (a && b)
and_both true b s t = t
and_both false b s t = s

pub T-ext : (a b : Bool) → (T a → T b) → (T b → T a) → a ≡ b
T-ext true true f g = refl
T-ext true false f g = absurd (f tt)
T-ext false true f g = absurd (g tt)
T-ext false false f g = refl

pub and_assoc : (a b c : Bool) → (a && b && c) ≡ (a && (b && c))
and_assoc true b c = refl
and_assoc false b c = refl

pub and_interchange : (a b c d : Bool) → (a && b && (c && d)) ≡ (a && c && (b && d))
and_interchange true true c d = refl
and_interchange true false true d = refl
and_interchange true false false d = refl
and_interchange false b c d = refl

pub or_assoc : (a b c : Bool) → (a || b || c) ≡ (a || (b || c))
or_assoc true b c = refl
or_assoc false b c = refl

pub between_le : (a b x : ℕ) → T (between a b x) → (a ≤ x) × (x ≤ b)
between_le a b x t = (leb→le a x (and_left (leb a x) (leb x b) t), leb→le x b (and_right (leb a x) (leb x b) t))

pub le-between : (a b x : ℕ) → a ≤ x → x ≤ b → T (between a b x)
le-between a b x h k = and_both (leb a x) (leb x b) (le→leb a x h) (le→leb x b k)

pub beq-refl : (b : Bool) → T (beq b b)
beq-refl true = tt
beq-refl false = tt

pub beq-eq : (b c : Bool) → T (beq b c) → b ≡ c
beq-eq true true t = refl
beq-eq true false t = absurd t
beq-eq false true t = absurd t
beq-eq false false t = refl

pub or-false : (b : Bool) → (b || false) ≡ b
or-false true = refl
or-false false = refl

-- both sides of a false "or" are false
pub or-none : (a b : Bool) → (a || b) ≡ false → (a ≡ false) × (b ≡ false)
or-none true b e = absurd (let z : ◌≡◌ {A = ℕ} 0 1 = cc in omega arith)
or-none false b e = (refl, e)

-- ---- joined lists

module _ {A : Type 0} where
  pub every_append : (p : A → Bool) (xs ys : List A) → list_all p (xs ++ ys) ≡ (list_all p xs && list_all p ys)
  every_append p [] ys = refl
  every_append p (x ∷ xs) ys = ap (λ b. p x && b) (every_append p xs ys) ∙ sym (and_assoc (p x) (list_all p xs) (list_all p ys))

  pub any_append : (p : A → Bool) (xs ys : List A) → list_any p (xs ++ ys) ≡ (list_any p xs || list_any p ys)
  any_append p [] ys = refl
  any_append p (x ∷ xs) ys = ap (λ b. p x || b) (any_append p xs ys) ∙ sym (or_assoc (p x) (list_any p xs) (list_any p ys))

  pub total-append : (f : A → ℕ) (xs ys : List A) → total f (xs ++ ys) ≡ total f xs + total f ys
  total-append f [] ys = omega arith
  total-append f (x ∷ xs) ys = ap (λ (n : ℕ). f x + n) (total-append f xs ys) ∙ sym (add_assoc (f x) (total f xs) (total f ys))

  pub every-getD : (p : A → Bool) (xs : List A) (d : A) (i : ℕ) → T (list_all p xs) → i < length xs → T (p (get_or xs i d))
  every-getD p [] d i t h = absurd (omega arith)
  every-getD p (x ∷ xs) d zero t h = and_left (p x) (list_all p xs) t
  every-getD p (x ∷ xs) d (suc i) t h = every-getD p xs d i (and_right (p x) (list_all p xs) t) (omega arith)

module _ {A B : Type 0} where
  pub each_append : (f : A → List B) (xs ys : List A) → flat_map f (xs ++ ys) ≡ flat_map f xs ++ flat_map f ys
  each_append f [] ys = refl
  each_append f (x ∷ xs) ys = ap (λ (l : List B). f x ++ l) (each_append f xs ys) ∙ sym (append_assoc (f x) (flat_map f xs) (flat_map f ys))

  pub every-each : (p : B → Bool) (f : A → List B) (xs : List A) → list_all p (flat_map f xs) ≡ list_all (λ x. list_all p (f x)) xs
  every-each p f [] = refl
  every-each p f (x ∷ xs) = every_append p (f x) (flat_map f xs) ∙ ap (λ b. list_all p (f x) && b) (every-each p f xs)

  pub length-each : (f : A → List B) (xs : List A) → length (flat_map f xs) ≡ total (λ x. length (f x)) xs
  length-each f [] = refl
  length-each f (x ∷ xs) = length-append (f x) (flat_map f xs) ∙ ap (λ (n : ℕ). length (f x) + n) (length-each f xs)

-- what is made of what is made
pub each-each : {A B C : Type 0} (g : B → List C) (f : A → List B) (xs : List A) → flat_map g (flat_map f xs) ≡ flat_map (λ x. flat_map g (f x)) xs
each-each g f [] = refl
each-each g f (x ∷ xs) = each_append g (f x) (flat_map f xs) ∙ ap (λ l. flat_map g (f x) ++ l) (each-each g f xs)

-- ---- ranges

pub range_length : (a k : ℕ) → length (range a k) ≡ k
range_length a zero = refl
range_length a (suc k) = ap suc (range_length (suc a) k)

pub range-append : (a j k : ℕ) → range a (j + k) ≡ range a j ++ range (a + j) k
range-append a zero k = rw (zero-add k, add-zero a)
range-append a (suc j) k =
    rw (suc-add j k, range-append (suc a) j k, suc-add a j, add-suc a j)

pub range_last : (a k : ℕ) → range a (suc k) ≡ range a k ++ ((a + k) ∷ [])
range_last a zero = rw (add-zero a)
range_last a (suc k) = ap (λ (l : List ℕ). a ∷ l) (range_last (suc a) k ∙ rw (suc-add a k, add-suc a k))

pub every-range : (p : ℕ → Bool) (a k : ℕ) → T (list_all p (range a k)) → (i : ℕ) → a ≤ i → i < a + k → T (p i)
every-range p a zero t i l h = absurd (omega arith)
every-range p a (suc k) t i l h = go (ℕ_discrete i a) (λ h₁ h₂. every-range p (suc a) k (and_right (p a) (list_all p (range (suc a) k)) t) i h₁ h₂)
  where
    go : Dec (i ≡ a) → (suc a ≤ i → i < suc a + k → T (p i)) → T (p i)
    go (yes e) ih = subst (λ (n : ℕ). T (p n)) (sym e) (and_left (p a) (list_all p (range (suc a) k)) t)
    go (no f) ih = ih (omega arith) (omega arith)

pub range-every : (p : ℕ → Bool) (a k : ℕ) → ((i : ℕ) → a ≤ i → i < a + k → T (p i)) → T (list_all p (range a k))
range-every p a zero h = tt
range-every p a (suc k) h =
    and_both (p a) (list_all p (range (suc a) k)) (h a (omega arith) (omega arith)) (range-every p (suc a) k (λ i l u. h i (omega arith) (omega arith)))

-- ---- a place

pub place_set : {A : Type 0} (i : ℕ) (r : A → A) (t : List A) (d : A) → on_place i r t ≡ set t i (r (get_or t i d))
place_set i r [] d = refl
place_set zero r (x ∷ xs) d = refl
place_set (suc i) r (x ∷ xs) d = ap {B = List _} (λ l. x ∷ l) (place_set i r xs d)

pub place-length : {A : Type 0} (i : ℕ) (r : A → A) (t : List A) → length (on_place i r t) ≡ length t
place-length i r [] = refl
place-length zero r (x ∷ xs) = refl
place-length (suc i) r (x ∷ xs) = ap suc (place-length i r xs)

-- a place in the first part of a list
pub place-append : {A : Type 0} (i : ℕ) (r : A → A) (t u : List A) → i < length t → on_place i r (t ++ u) ≡ on_place i r t ++ u
place-append i r [] u h = absurd (omega arith)
place-append zero r (x ∷ xs) u h = refl
place-append (suc i) r (x ∷ xs) u h = ap {B = List _} (λ l. x ∷ l) (place-append i r xs u (omega arith))

-- ---- what holds of every element

abbrev pub All {ℓ} : {A : Type ℓ} → (A → Type 0) → List A → Type 0
All P [] = Unit {0}
All P (x ∷ xs) = P x × All P xs

module _ {ℓ} {A : Type ℓ} (P : A → Type 0) where
  pub all_of : ((a : A) → P a) → (l : List A) → All P l
  all_of f [] = tt
  all_of f (x ∷ l) = (f x, all_of f l)

  pub all_append : (l m : List A) → All P l → All P m → All P (l ++ m)
  all_append [] m h k = k
  all_append (x ∷ l) m h k = (h.0, all_append l m h.1 k)

  pub all_left : (l m : List A) → All P (l ++ m) → All P l
  all_left [] m h = tt
  all_left (x ∷ l) m h = (h.0, all_left l m h.1)

  pub all_right : (l m : List A) → All P (l ++ m) → All P m
  all_right [] m h = h
  all_right (x ∷ l) m h = all_right l m h.1

  pub all-perm : {l m : List A} → Permᴰ l m → All P l → All P m
  all-perm Permᴰ.nil h = h
  all-perm (Permᴰ.cons e d) h = (subst P e h.0, all-perm d h.1)
  all-perm (Permᴰ.swap e f) h = (subst P f h.1.0, (subst P e h.0, h.1.1))
  all-perm (Permᴰ.trans d e) h = all-perm e (all-perm d h)

  pub all-at : {a : A} {l : List A} → Memᴰ a l → All P l → P a
  all-at (Memᴰ.head e) h = subst P (sym e) h.0
  all-at (Memᴰ.tail m) h = all-at m h.1

  -- what holds of each place
  pub all-mem : (l : List A) → ((a : A) → Memᴰ a l → P a) → All P l
  all-mem [] f = tt
  all-mem (x ∷ l) f = (f x (Memᴰ.head refl), all-mem l (λ a m. f a (Memᴰ.tail m)))

pub all_map {ℓ κ} : {A : Type ℓ} {B : Type κ} (P : B → Type 0) (f : A → B) (l : List A) → All (λ a. P (f a)) l → All P (map f l)
all_map P f [] h = tt
all_map P f (x ∷ l) h = (h.0, all_map P f l h.1)

pub map-all {ℓ κ} : {A : Type ℓ} {B : Type κ} (P : B → Type 0) (f : A → B) (l : List A) → All P (map f l) → All (λ a. P (f a)) l
map-all P f [] h = tt
map-all P f (x ∷ l) h = (h.0, map-all P f l h.1)

-- the same, as a test
pub every-all : {A : Type 0} (p : A → Bool) (l : List A) → T (list_all p l) → All (λ a. T (p a)) l
every-all p [] t = tt
every-all p (x ∷ l) t = (and_left (p x) (list_all p l) t, every-all p l (and_right (p x) (list_all p l) t))

pub all-every : {A : Type 0} (p : A → Bool) (l : List A) → All (λ a. T (p a)) l → T (list_all p l)
all-every p [] h = tt
all-every p (x ∷ l) h = and_both (p x) (list_all p l) h.0 (all-every p l h.1)

pub every_take : {A : Type 0} (p : A → Bool) (k : ℕ) (xs : List A) → T (list_all p xs) → T (list_all p (take k xs))
every_take p zero xs t = tt
every_take p (suc k) [] t = tt
every_take p (suc k) (x ∷ xs) t = and_both (p x) (list_all p (take k xs)) (and_left (p x) (list_all p xs) t) (every_take p k xs (and_right (p x) (list_all p xs) t))

-- ---- two lists of one length

module _ {A : Type 0} (p : A → A → Bool) where
  pub pairwise-refl : ((x : A) → T (p x x)) → (x : List A) → T (pairwise p x x)
  pairwise-refl f [] = tt
  pairwise-refl f (x ∷ xs) = and_both (p x x) (pairwise p xs xs) (f x) (pairwise-refl f xs)

  pub pairwise-trans : ((x y z : A) → T (p x y) → T (p y z) → T (p x z)) → (x y z : List A)
      → T (pairwise p x y) → T (pairwise p y z) → T (pairwise p x z)
  pairwise-trans f [] [] z s t = t
  pairwise-trans f [] (y ∷ ys) z s t = absurd s
  pairwise-trans f (x ∷ xs) [] z s t = absurd s
  pairwise-trans f (x ∷ xs) (y ∷ ys) [] s t = absurd t
  pairwise-trans f (x ∷ xs) (y ∷ ys) (z ∷ zs) s t =
      let a = p x y in
      let b = p y z in
      and_both (p x z) (pairwise p xs zs) (f x y z (and_left a (pairwise p xs ys) s) (and_left b (pairwise p ys zs) t))
      (pairwise-trans f xs ys zs (and_right a (pairwise p xs ys) s) (and_right b (pairwise p ys zs) t))

pub pairwise-length : {A B : Type 0} (p : A → B → Bool) (x : List A) (y : List B) → T (pairwise p x y) → length x ≡ length y
pairwise-length p [] [] t = refl
pairwise-length p [] (y ∷ ys) t = absurd t
pairwise-length p (x ∷ xs) [] t = absurd t
pairwise-length p (x ∷ xs) (y ∷ ys) t = ap suc (pairwise-length p xs ys (and_right (p x y) (pairwise p xs ys) t))

-- ---- tests of what is made of each element

module _ {A B : Type 0} (p : B → Bool) (f : A → B) where
  pub every_map : (l : List A) → list_all p (map f l) ≡ list_all (λ a. p (f a)) l
  every_map [] = refl
  every_map (x ∷ l) = ap (λ b. p (f x) && b) (every_map l)

  pub any-map : (l : List A) → list_any p (map f l) ≡ list_any (λ a. p (f a)) l
  any-map [] = refl
  any-map (x ∷ l) = ap (λ b. p (f x) || b) (any-map l)

module _ {A : Type 0} (p q : A → Bool) (h : (a : A) → p a ≡ q a) where
  pub every-ext : (l : List A) → list_all p l ≡ list_all q l
  every-ext [] = refl
  every-ext (x ∷ l) = ap₂ ◌&&◌ (h x) (every-ext l)

  pub any-ext : (l : List A) → list_any p l ≡ list_any q l
  any-ext [] = refl
  any-ext (x ∷ l) = ap₂ ◌||◌ (h x) (any-ext l)

-- the first k elements, by their places
pub take_places : {A : Type 0} (d : A) (l : List A) (k : ℕ) → k ≤ length l → take k l ≡ map (λ i. get_or l i d) (range 0 k)
take_places d l k h = from l k 0 (λ i. get_or l i d) h (λ i. ap (λ (j : ℕ). get_or l j d) (native.Mathlib.Nat.zero-add i))
  where
    from : (l : List _) (k a : ℕ) (g : ℕ → _) → k ≤ length l → ((i : ℕ) → g (a + i) ≡ get_or l i d) → take k l ≡ map g (range a k)
    from l zero a g h e = refl
    from [] (suc k) a g h e = absurd (omega arith)
    from (x ∷ l) (suc k) a g h e =
        ap₂ {C = List _} (λ y m. y ∷ m) (sym (e 0) ∙ ap g (add-zero a))
        (from l k (suc a) g (omega arith) (λ i. ap g (suc-add a i ∙ sym (add-suc a i)) ∙ e (suc i)))

-- a permutation has the same elements
pub perm-mem {ℓ} : {A : Type ℓ} {l m : List A} {a : A} → Permᴰ l m → Memᴰ a l → Memᴰ a m
perm-mem Permᴰ.nil h = elim h [ ]
perm-mem (Permᴰ.cons e p) (Memᴰ.head q) = Memᴰ.head (q ∙ e)
perm-mem (Permᴰ.cons e p) (Memᴰ.tail h) = Memᴰ.tail (perm-mem p h)
perm-mem (Permᴰ.swap e f) (Memᴰ.head q) = Memᴰ.tail (Memᴰ.head (q ∙ e))
perm-mem (Permᴰ.swap e f) (Memᴰ.tail (Memᴰ.head q)) = Memᴰ.head (q ∙ f)
perm-mem (Permᴰ.swap e f) (Memᴰ.tail (Memᴰ.tail h)) = Memᴰ.tail (Memᴰ.tail h)
perm-mem (Permᴰ.trans p q) h = perm-mem q (perm-mem p h)

pub perm_total : {A : Type 0} (f : A → ℕ) {l m : List A} → Permᴰ l m → total f l ≡ total f m
perm_total f Permᴰ.nil = refl
perm_total f (Permᴰ.cons e p) = ap₂ (λ (a b : ℕ). a + b) (ap f e) (perm_total f p)
perm_total f (Permᴰ.swap e q) = omega (arith, ap f e, ap f q)
perm_total f (Permᴰ.trans p q) = perm_total f p ∙ perm_total f q

pub perm-length {ℓ} : {A : Type ℓ} {l m : List A} → Permᴰ l m → length l ≡ length m
perm-length Permᴰ.nil = refl
perm-length (Permᴰ.cons e p) = ap suc (perm-length p)
perm-length (Permᴰ.swap e f) = refl
perm-length (Permᴰ.trans p q) = perm-length p ∙ perm-length q

-- ---- stores

-- the first elements after a run of stores
pub take-sets : {A : Type 0} (vs l : List A) (k : ℕ) → length vs ≡ k → k ≤ length l → take k (sets l 0 vs) ≡ vs
take-sets vs l k e h = ap (take k) (sets-eq vs l 0 (omega arith)) ∙ take_at vs (drop (0 + length vs) l) k e

-- one element more stored over a filling
pub stored_next : {A : Type 0} (xs : List A) (n k : ℕ) (z x : A) → length xs ≡ k → k < n
    → set (xs ++ replicate (n - k) z) k x ≡ (xs ++ (x ∷ [])) ++ replicate (n - (k + 1)) z
stored_next xs n k z x e h =
    let more : n - k ≡ suc (n - (k + 1)) = omega arith in
    let rest = replicate (n - (k + 1)) z in
    rw more (set_at xs z rest x k e ∙ sym (append_assoc xs (x ∷ []) rest))

-- ---- k elements in front of the others

pub front-take : {A : Type 0} (k : ℕ) (t l : List A) → length t ≡ length (take k l) → take k (t ++ drop k l) ≡ t
front-take zero [] l h = refl
front-take zero (x ∷ t) l h = absurd (omega arith)
front-take (suc k) [] [] h = refl
front-take (suc k) (x ∷ t) [] h = absurd (omega arith)
front-take (suc k) [] (y ∷ l) h = absurd (omega arith)
front-take (suc k) (x ∷ t) (y ∷ l) h = ap {B = List _} (λ r. x ∷ r) (front-take k t l (omega arith))

pub front-drop : {A : Type 0} (k : ℕ) (t l : List A) → length t ≡ length (take k l) → drop k (t ++ drop k l) ≡ drop k l
front-drop zero [] l h = refl
front-drop zero (x ∷ t) l h = absurd (omega arith)
front-drop (suc k) [] [] h = refl
front-drop (suc k) (x ∷ t) [] h = absurd (omega arith)
front-drop (suc k) [] (y ∷ l) h = absurd (omega arith)
front-drop (suc k) (x ∷ t) (y ∷ l) h = front-drop k t l (omega arith)

pub all-range : (P : ℕ → Type 0) (a k : ℕ) → All P (range a k) → (i : ℕ) → a ≤ i → i < a + k → P i
all-range P a zero h i l u = absurd (omega arith)
all-range P a (suc k) h i l u = go (ℕ_discrete i a) (all-range P (suc a) k h.1 i)
  where
    go : Dec (i ≡ a) → (suc a ≤ i → i < suc a + k → P i) → P i
    go (yes e) ih = subst P (sym e) h.0
    go (no f) ih = ih (omega arith) (omega arith)

-- a place that its change leaves as it is
pub place_same : {A : Type 0} (i : ℕ) (r : A → A) (t : List A) (d : A) → r (get_or t i d) ≡ get_or t i d → on_place i r t ≡ t
place_same i r [] d h = refl
place_same zero r (x ∷ t) d h = ap {B = List _} (λ y. y ∷ t) h
place_same (suc i) r (x ∷ t) d h = ap {B = List _} (λ l. x ∷ l) (place_same i r t d h)

pub same_place : {A : Type 0} (i : ℕ) (r : A → A) (t : List A) (d : A) → i < length t → on_place i r t ≡ t → r (get_or t i d) ≡ get_or t i d
same_place i r [] d h e = absurd (omega arith)
same_place zero r (x ∷ t) d h e = cc
same_place (suc i) r (x ∷ t) d h e = same_place i r t d (omega arith) (cc)

-- ---- the values of a function along a range

module _ {A : Type 0} where
  pub values-get : (f g : ℕ → A) (i j n : ℕ) → map f (range i n) ≡ map g (range j n) → (k : ℕ) → k < n → f (i + k) ≡ g (j + k)
  values-get f g i j zero e k h = absurd (omega arith)
  values-get f g i j (suc n) e zero h = rw (add-zero i, add-zero j) (head-eq_of_cons-eq e)
  values-get f g i j (suc n) e (suc k) h =
      rw (add-suc i k, ← suc-add i k, add-suc j k, ← suc-add j k)
      (values-get f g (suc i) (suc j) n (tail-eq_of_cons-eq e) k (le_of_suc-le-suc h))

  pub values-make : (f g : ℕ → A) (i j n : ℕ) → ((k : ℕ) → k < n → f (i + k) ≡ g (j + k)) → map f (range i n) ≡ map g (range j n)
  values-make f g i j zero h = refl
  values-make f g i j (suc n) h =
      ap₂ (λ (x : A) (xs : List A). x ∷ xs) (rw (add-zero i, add-zero j) at (h zero (omega arith)))
      (values-make f g (suc i) (suc j) n
      (λ k l. rw (add-suc i k, ← suc-add i k, add-suc j k, ← suc-add j k) at (h (suc k) (suc-le-suc l))))

  pub values-append : (f : ℕ → A) (i m n : ℕ) → map f (range i (m + n)) ≡ map f (range i m) ++ map f (range (i + m) n)
  values-append f i zero n = rw (zero-add n, add-zero i)
  values-append f i (suc m) n = rw (suc-add m n, values-append f (suc i) m n, suc-add i m, add-suc i m)

  pub values_length : (f : ℕ → A) (i n : ℕ) → length (map f (range i n)) ≡ n
  values_length f i zero = refl
  values_length f i (suc n) = ap suc (values_length f (suc i) n)

  -- two joined pairs are equal, the first parts of one length, exactly when the parts are
  pub append-iff : (a b c d : List A) → length a ≡ length c → (a ++ b ≡ c ++ d) ↔ ((a ≡ c) × (b ≡ d))
  append-iff [] b [] d e = (λ h. (refl, h), λ h. h.1)
  append-iff [] b (y ∷ c) d e = absurd (omega arith)
  append-iff (x ∷ a) b [] d e = absurd (omega arith)
  append-iff (x ∷ a) b (y ∷ c) d e =
      let r = append-iff a b c d (suc_inj e) in (
        λ h. let s = r.0 (tail-eq_of_cons-eq h) in
            (ap₂ (λ (u : A) (us : List A). u ∷ us) (head-eq_of_cons-eq h) s.0, s.1),
        λ h. ap₂ (λ (u v : List A). u ++ v) h.0 h.1,
      )

-- ---- sums along a range

pub total_ext : {A : Type 0} (f g : A → ℕ) → ((x : A) → f x ≡ g x) → (xs : List A) → total f xs ≡ total g xs
total_ext f g h [] = refl
total_ext f g h (x ∷ xs) = ap₂ (λ (a b : ℕ). a + b) (h x) (total_ext f g h xs)

pub total-map : {A B : Type 0} (f : B → ℕ) (g : A → B) (xs : List A) → total f (map g xs) ≡ total (λ x. f (g x)) xs
total-map f g [] = refl
total-map f g (x ∷ xs) = ap (λ (n : ℕ). f (g x) + n) (total-map f g xs)

pub total-add : {A : Type 0} (f g : A → ℕ) (xs : List A) → total (λ x. f x + g x) xs ≡ total f xs + total g xs
total-add f g [] = refl
total-add f g (x ∷ xs) = omega (arith, total-add f g xs)

pub total_const : (f : ℕ → ℕ) (c i n : ℕ) → ((j : ℕ) → i ≤ j → j < i + n → f j ≡ c) → total f (range i n) ≡ n * c
total_const f c i zero h = omega arith
total_const f c i (suc n) h =
    let e = h i (omega arith) (omega arith) in
    let r = total_const f c (suc i) n (λ j l k. h j (omega arith) (omega arith)) in
    omega arith

pub total_but_one : (f : ℕ → ℕ) (c k i n : ℕ) → i ≤ k → k < i + n → suc (f k) ≡ c
    → ((j : ℕ) → i ≤ j → j < i + n → (j ≡ k → ⊥) → f j ≡ c) → suc (total f (range i n)) ≡ n * c
total_but_one f c k i zero a b e h = absurd (omega arith)
total_but_one f c k i (suc n) a b e h =
    go (λ (l : suc i ≤ k). total_but_one f c k (suc i) n l (omega arith) e (λ j l' k' d. h j (omega arith) (omega arith) d)) (dec_lt i k)
  where
    go : (suc i ≤ k → suc (total f (range (suc i) n)) ≡ n * c) → Dec (i < k) → suc (total f (range i (suc n))) ≡ suc n * c
    go rest (yes l) = let e' = h i (omega arith) (omega arith) (omega arith) in let r = rest l in omega arith
    go rest (no l) =
        let ik : i ≡ k = omega arith in
        let e' : suc (f i) ≡ c = rw ik e in
        let r = total_const f c (suc i) n (λ j l k. h j (omega arith) (omega arith) (omega arith)) in
        omega arith

-- ---- a list's elements in order

-- the elements, by their numbers from k on
pub places : {A : Type 0} (k : ℕ) (xs : List A) (d : A) → map (λ i. get_or xs (i - k) d) (range k (length xs)) ≡ xs
places k xs d =
    values-make (λ i. get_or xs (i - k) d) (λ i. get_or xs i d) k 0 (length xs) (λ j h. ap (λ (n : ℕ). get_or xs n d) (omega arith))
    ∙ from_first xs
  where
    from_first : (xs : List _) → map (λ i. get_or xs i d) (range 0 (length xs)) ≡ xs
    from_first [] = refl
    from_first (x ∷ xs) =
        ap {B = List _} (λ l. x ∷ l)
        (values-make (λ i. get_or (x ∷ xs) i d) (λ i. get_or xs i d) 1 0 (length xs) (λ j h. rw (suc-add 0 j, zero-add j)) ∙ from_first xs)

pub each_map : {A B C : Type 0} (f : B → List C) (g : A → B) (xs : List A) → flat_map f (map g xs) ≡ flat_map (λ x. f (g x)) xs
each_map f g [] = refl
each_map f g (x ∷ xs) = ap (λ l. f (g x) ++ l) (each_map f g xs)

pub each-range_ext : {B : Type 0} (f g : ℕ → List B) (i n : ℕ) → ((j : ℕ) → i ≤ j → j < i + n → f j ≡ g j) → flat_map f (range i n) ≡ flat_map g (range i n)
each-range_ext f g i zero h = refl
each-range_ext {B} f g i (suc n) h =
    ap₂ (λ (a b : List B). a ++ b) (h i (omega arith) (omega arith)) (each-range_ext f g (suc i) n (λ j l k. h j (omega arith) (omega arith)))

-- ---- facts of every element, by place and by range

module _ {A : Type 0} where
  pub all_both : (P : A → Type 0) (xs ys : List A) → All P (xs ++ ys) ↔ (All P xs × All P ys)
  all_both P xs ys = (λ h. (all_left P xs ys h, all_right P xs ys h), λ h. all_append P xs ys h.0 h.1)

  pub all-map-iff : {B : Type 0} (P : A → Type 0) (f : B → A) (xs : List B) → All P (map f xs) ↔ All (λ x. P (f x)) xs
  all-map-iff P f xs = (map-all P f xs, all_map P f xs)

  pub all-imp : (P Q : A → Type 0) → ((x : A) → P x → Q x) → (xs : List A) → All P xs → All Q xs
  all-imp P Q f [] h = tt
  all-imp P Q f (x ∷ xs) h = (f x h.0, all-imp P Q f xs h.1)

  pub all-zip : (P Q : A → Type 0) (xs : List A) → All P xs → All Q xs → All (λ x. P x × Q x) xs
  all-zip P Q [] h k = tt
  all-zip P Q (x ∷ xs) h k = ((h.0, k.0), all-zip P Q xs h.1 k.1)

  pub all_get_d : (P : A → Type 0) (d : A) → P d → (xs : List A) → All P xs → (i : ℕ) → P (get_or xs i d)
  all_get_d P d pd [] h i = pd
  all_get_d P d pd (x ∷ xs) h zero = h.0
  all_get_d P d pd (x ∷ xs) h (suc i) = all_get_d P d pd xs h.1 i

  pub all-place : (P : A → Type 0) (d : A) (xs : List A) → All P xs → (i : ℕ) → i < length xs → P (get_or xs i d)
  all-place P d [] h i l = absurd (omega arith)
  all-place P d (x ∷ xs) h zero l = h.0
  all-place P d (x ∷ xs) h (suc i) l = all-place P d xs h.1 i (omega arith)

  pub all_drop : (P : A → Type 0) (k : ℕ) (xs : List A) → All P xs → All P (drop k xs)
  all_drop P zero xs h = h
  all_drop P (suc k) [] h = tt
  all_drop P (suc k) (x ∷ xs) h = all_drop P k xs h.1

  pub places-all : (P : A → Type 0) (d : A) (xs : List A) → ((i : ℕ) → i < length xs → P (get_or xs i d)) → All P xs
  places-all P d [] h = tt
  places-all P d (x ∷ xs) h = (h 0 (omega arith), places-all P d xs (λ i l. h (suc i) (omega arith)))

  pub any_none : (p : A → Bool) (xs : List A) → All (λ x. p x ≡ false) xs → list_any p xs ≡ false
  any_none p [] h = refl
  any_none p (x ∷ xs) h = rw h.0 (any_none p xs h.1)

  pub none_any : (p : A → Bool) (xs : List A) → list_any p xs ≡ false → All (λ x. p x ≡ false) xs
  none_any p [] e = tt
  none_any p (x ∷ xs) e = let h = or-none (p x) (list_any p xs) e in (h.0, none_any p xs h.1)

  pub all-each : {B : Type 0} (P : A → Type 0) (f : B → List A) (xs : List B) → All (λ x. All P (f x)) xs → All P (flat_map f xs)
  all-each P f [] h = tt
  all-each P f (x ∷ xs) h = all_append P (f x) (flat_map f xs) h.0 (all-each P f xs h.1)

pub range_all : (P : ℕ → Type 0) (i n : ℕ) → ((j : ℕ) → i ≤ j → j < i + n → P j) → All P (range i n)
range_all P i zero h = tt
range_all P i (suc n) h = (h i (omega arith) (omega arith), range_all P (suc i) n (λ j l k. h j (omega arith) (omega arith)))

pub place-get_or : {A : Type 0} (i : ℕ) (r : A → A) (t : List A) (d : A) → i < length t → get_or (on_place i r t) i d ≡ r (get_or t i d)
place-get_or i r [] d h = absurd (omega arith)
place-get_or zero r (x ∷ xs) d h = refl
place-get_or (suc i) r (x ∷ xs) d h = place-get_or i r xs d (omega arith)

pub every-range_ext : (p q : ℕ → Bool) (i n : ℕ) → ((j : ℕ) → i ≤ j → j < i + n → p j ≡ q j) → list_all p (range i n) ≡ list_all q (range i n)
every-range_ext p q i zero h = refl
every-range_ext p q i (suc n) h =
    ap₂ (λ (x y : Bool). x && y) (h i (omega arith) (omega arith)) (every-range_ext p q (suc i) n (λ j l k. h j (omega arith) (omega arith)))

pub every-all_ext : {A : Type 0} (p q : A → Bool) (xs : List A) → All (λ x. p x ≡ q x) xs → list_all p xs ≡ list_all q xs
every-all_ext p q [] h = refl
every-all_ext p q (x ∷ xs) h = ap₂ (λ (a b : Bool). a && b) h.0 (every-all_ext p q xs h.1)

pub any-all_ext : {A : Type 0} (p q : A → Bool) (xs : List A) → All (λ x. p x ≡ q x) xs → list_any p xs ≡ list_any q xs
any-all_ext p q [] h = refl
any-all_ext p q (x ∷ xs) h = ap₂ ◌||◌ h.0 (any-all_ext p q xs h.1)

-- an element that is there, whatever stands for a missing one
pub get_or-other : {A : Type 0} (xs : List A) (i : ℕ) (d e : A) → i < length xs → get_or xs i d ≡ get_or xs i e
get_or-other [] i d e h = absurd (omega arith)
get_or-other (x ∷ xs) zero d e h = refl
get_or-other (x ∷ xs) (suc i) d e h = get_or-other xs i d e (omega arith)

pub get_or-map_in : {A B : Type 0} (f : A → B) (xs : List A) (i : ℕ) (d : A) (e : B) → i < length xs → get_or (map f xs) i e ≡ f (get_or xs i d)
get_or-map_in f [] i d e h = absurd (omega arith)
get_or-map_in f (x ∷ xs) zero d e h = refl
get_or-map_in f (x ∷ xs) (suc i) d e h = get_or-map_in f xs i d e (omega arith)

pub range-get_or : (a k i d : ℕ) → i < k → get_or (range a k) i d ≡ a + i
range-get_or a zero i d h = absurd (omega arith)
range-get_or a (suc k) zero d h = sym (add-zero a)
range-get_or a (suc k) (suc i) d h = range-get_or (suc a) k i d (omega arith) ∙ omega arith

pub total-place : {A : Type 0} (f : A → ℕ) (t : List A) (i : ℕ) (d : A) → i < length t → total f (take i t) + f (get_or t i d) ≤ total f t
total-place f [] i d h = absurd (omega arith)
total-place f (x ∷ xs) zero d h = omega arith
total-place f (x ∷ xs) (suc i) d h = omega (arith, total-place f xs i d (omega arith))

pub total-le : {A : Type 0} (f : A → ℕ) (c : ℕ) (xs : List A) → All (λ x. f x ≤ c) xs → total f xs ≤ length xs * c
total-le f c [] h = omega arith
total-le f c (x ∷ xs) h = omega (arith, h.0, total-le f c xs h.1, suc-mul (length xs) c)

pub those-all : {A : Type 0} (p : A → Bool) (xs : List A) → All (λ x. T (p x)) xs → those p xs ≡ xs
those-all p [] h = refl
those-all p (x ∷ xs) h = rw (T_true (p x) h.0, those) (ap {B = List _} (λ l. x ∷ l) (those-all p xs h.1))

pub total_mono : {A : Type 0} (f g : A → ℕ) (xs : List A) → All (λ x. f x ≤ g x) xs → total f xs ≤ total g xs
total_mono f g [] h = omega arith
total_mono f g (x ∷ xs) h = omega (arith, h.0, total_mono f g xs h.1)

pub each_all : {A B : Type 0} (P : B → Type 0) (f : A → List B) (xs : List A) → All P (flat_map f xs) → All (λ x. All P (f x)) xs
each_all P f [] h = tt
each_all P f (x ∷ xs) h = let s = (all_both P (f x) (flat_map f xs)).0 h in (s.0, each_all P f xs s.1)

-- two changes that agree on what stands at the place
pub place-agree : {A : Type 0} (i : ℕ) (r q : A → A) (t : List A) (d : A) → (i < length t → r (get_or t i d) ≡ q (get_or t i d)) → on_place i r t ≡ on_place i q t
place-agree i r q [] d h = refl
place-agree zero r q (x ∷ t) d h = ap {B = List _} (λ y. y ∷ t) (h (omega arith))
place-agree (suc i) r q (x ∷ t) d h = ap {B = List _} (λ l. x ∷ l) (place-agree i r q t d (λ l. h (omega arith)))

-- ---- a list that becomes another place by place

pub seam_next : {A : Type 0} (a b : List A) (i : ℕ) (d : A) → i < length a → i < length b
    → set (take i a ++ drop i b) i (get_or a i d) ≡ take (i + 1) a ++ drop (i + 1) b
seam_next a b i d h k =
    ap (λ l. set (take i a ++ l) i (get_or a i d)) (drop-cons b i d k)
    ∙ set_at (take i a) (get_or b i d) (drop (suc i) b) (get_or a i d) i (length-take-le i a (omega arith))
    ∙ sym (append_snoc (take i a) (get_or a i d) (drop (suc i) b))
    ∙ sym (ap (λ l. l ++ drop (suc i) b) (take-suc a i d h))
    ∙ sym (ap (λ (n : ℕ). take n a ++ drop n b) (add-one i))

-- all of it
pub seam_end : {A : Type 0} (a b : List A) (i : ℕ) → length a ≤ i → length b ≤ i → take i a ++ drop i b ≡ a
seam_end a b i h k = ap₂ {C = List _} (λ x y. x ++ y) (take_all i a h) (drop_of_length-le b k) ∙ append-nil a

-- what is made of a range, by its places
pub get_or-map-range : {B : Type 0} (f : ℕ → B) (a k i : ℕ) (d : B) → i < k → get_or (map f (range a k)) i d ≡ f (a + i)
get_or-map-range f a zero i d h = absurd (omega arith)
get_or-map-range f a (suc k) zero d h = ap f (omega arith)
get_or-map-range f a (suc k) (suc i) d h = get_or-map-range f (suc a) k i d (omega arith) ∙ ap f (omega arith)
