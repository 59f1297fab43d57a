-- Tests, sums and ranges over lists, which the definitions share.
use Rattle.std.specs.List.{list_any}
use Rattle.std.specs.Prelude.{ℕ, zero, suc, ◌+◌, Bool, true, false, not, ◌&&◌, List, [], ◌∷◌, ◌++◌, leb, eqb}

-- two lists of one length, element by element
abbrev pub pairwise : {A B : Type 0} → (A → B → Bool) → List A → List B → Bool
pairwise p [] [] = true
pairwise p [] (y ∷ ys) = false
pairwise p (x ∷ xs) [] = false
pairwise p (x ∷ xs) (y ∷ ys) = p x y && pairwise p xs ys

-- the elements that pass a test
abbrev pub those : {A : Type 0} → (A → Bool) → List A → List A
those p [] = []
those p (x ∷ xs) = elim (p x) [ true ↦ x ∷ those p xs | false ↦ those p xs ]

-- what f makes of two lists, element by element, in one list
abbrev pub each_pair : {A B C : Type 0} → (A → B → List C) → List A → List B → List C
each_pair f [] ys = []
each_pair f (x ∷ xs) [] = []
each_pair f (x ∷ xs) (y ∷ ys) = f x y ++ each_pair f xs ys

-- the sum of what f makes of each element
abbrev pub total : {A : Type 0} → (A → ℕ) → List A → ℕ
total f [] = 0
total f (x ∷ xs) = f x + total f xs

-- a, a + 1, .. (k of them)
abbrev pub range : ℕ → ℕ → List ℕ
range a zero = []
range a (suc k) = a ∷ range (suc a) k

-- r applied to the element at place i
abbrev pub on_place : {A : Type 0} → ℕ → (A → A) → List A → List A
on_place i r [] = []
on_place zero r (x ∷ xs) = r x ∷ xs
on_place (suc i) r (x ∷ xs) = x ∷ on_place i r xs

-- no number stands in the list twice
abbrev pub distinct : List ℕ → Bool
distinct [] = true
distinct (x ∷ xs) = not (list_any (eqb x) xs) && distinct xs

-- a ≤ x ≤ b
abbrev pub between : ℕ → ℕ → ℕ → Bool
between a b x = leb a x && leb x b

-- a list that holds nothing
abbrev pub is_empty : {A : Type 0} → List A → Bool
is_empty [] = true
is_empty (x ∷ xs) = false

-- a refusal where a test holds, else what the later tests give
abbrev pub stop : Bool → ℕ → ℕ → ℕ
stop true r rest = r
stop false r rest = rest
