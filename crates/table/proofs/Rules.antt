-- A rule of one group on the table, rules one after the other, and a loop over them. Assumes nothing.
use mathlib.Core.Path.{◌≡◌, refl, sym, ap, ◌∙◌}
use Prim.Native.Nat.{ℕ, zero, suc, ◌+◌, ◌-◌, ◌≤◌, ◌<◌}
use native.Mathlib.Numerals.{add-one}
use native.Mathlib.Omega.{arith}
use mathlib.Core.List.{List, [], ◌∷◌, ◌++◌, map, map-append}
use lib.ListN.{length, get_or, set, take}
use lib.Seq.{take-suc, take_all}
use Rattle.model.specs.declared.Group.{Group}
use Rattle.model.specs.Lists.{on_place}
use Rattle.model.specs.Model.{zero_group}
use Rattle.model.specs.Propagate.{run}
use Rattle.model.proofs.Lists.{place_set, place_same}

-- ---- a rule of group g, at its place i

place-past : (i : ℕ) (r : Group → Group) (t : List Group) → length t ≤ i → on_place i r t ≡ t
place-past i r [] h = refl
place-past zero r (x ∷ t) h = absurd (omega arith)
place-past (suc i) r (x ∷ t) h = ap {B = List Group} (λ u. x ∷ u) (place-past i r t (omega arith))

module _ (t : List Group) (g i : ℕ) (at : i ≡ g - 1) (r : Group → Group) where
  pub not-there : length t ≤ i → t ≡ on_place (g - 1) r t
  not-there h = sym (place-past (g - 1) r t (omega arith))

  pub as-it-is : r (get_or t i zero_group) ≡ get_or t i zero_group → t ≡ on_place (g - 1) r t
  as-it-is e = sym (place_same i r t zero_group e) ∙ ap (λ (j : ℕ). on_place j r t) at

  pub stored : (x : Group) → x ≡ r (get_or t i zero_group) → set t i x ≡ on_place (g - 1) r t
  stored x e = ap (set t i) e ∙ sym (place_set i r t zero_group) ∙ ap (λ (j : ℕ). on_place j r t) at

-- ---- rules in order

pub run-append : {X : Type 0} (a b : List (X → X)) (x : X) → run (a ++ b) x ≡ run b (run a x)
run-append [] b x = refl
run-append (r ∷ a) b x = run-append a b (r x)

-- u is the table after the rules of the first j of xs
module _ {A : Type 0} (rule : A → List Group → List Group) (xs : List A) (t : List Group) (j : ℕ) (u : List Group) (e : u ≡ run (map rule (take j xs)) t) where
  pub one_rule_more : j < length xs → (d : A) (v : List Group) → v ≡ rule (get_or xs j d) u → v ≡ run (map rule (take (j + 1) xs)) t
  one_rule_more h d v f =
      f
      ∙ ap (rule (get_or xs j d)) e
      ∙ sym (run-append (map rule (take j xs)) (rule (get_or xs j d) ∷ []) t)
      ∙ ap (λ rs. run rs t) (sym (ap (map rule) (ap (λ (n : ℕ). take n xs) (add-one j) ∙ take-suc xs j d h) ∙ map-append rule (take j xs) (get_or xs j d ∷ [])))

  pub all_rules : length xs ≤ j → u ≡ run (map rule xs) t
  all_rules h = e ∙ ap (λ ys. run (map rule ys) t) (take_all j xs h)
