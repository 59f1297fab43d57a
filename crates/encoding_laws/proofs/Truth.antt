-- Truth of clauses: dropping known literals does not change it. Assumes nothing.
use mathlib.Core.Path.{◌≡◌, refl, sym, ap, ◌∙◌}
use mathlib.Core.Logic.{◌↔◌}
use mathlib.Core.Bool.{Bool, true, false, not, ◌&&◌, ◌||◌, cond, not-not}
use mathlib.Core.List.{List, [], ◌∷◌, ◌++◌, map}
use lib.Dec.{T}
use Rattle.model.specs.declared.Literal.{Literal}
use Rattle.model.specs.declared.Literal.TheVariants.{Pos, Neg}
use Rattle.model.specs.declared.Term.{Term}
use Rattle.model.specs.declared.Term.TheVariants.{Holds, Fails, Open}
use Rattle.std.specs.List.{list_all, list_any, flat_map}
use Rattle.model.specs.Totalizer.{opposite, opposite_term, holds, literals, keep}
use Rattle.model.specs.Close.{truth, literal_true, term_true, clause_true}
use Rattle.model.proofs.Lists.{and_left, and_right, and_both, every_append, every-each, any-map, every-ext}

-- every clause has a true literal
abbrev pub all_true : List Bool → List (List Literal) → Bool
all_true a cs = list_all (clause_true a) cs

pub T_and : (a b : Bool) → T (a && b) ↔ (T a × T b)
T_and a b = (λ t. (and_left a b t, and_right a b t), λ p. and_both a b p.0 p.1)

module _ (a : List Bool) where
  pub all_true-append : (cs ds : List (List Literal)) → T (all_true a (cs ++ ds)) ↔ (T (all_true a cs) × T (all_true a ds))
  all_true-append cs ds = (
    λ t. (T_and (all_true a cs) (all_true a ds)).0 (rw (every_append (clause_true a) cs ds) at t),
    λ h. rw (every_append (clause_true a) cs ds) ((T_and (all_true a cs) (all_true a ds)).1 h),
  )

  pub opposite-true : (t : Term) → term_true a (opposite_term t) ≡ not (term_true a t)
  unfolding opposite
  opposite-true Holds = refl
  opposite-true Fails = refl
  opposite-true (Open (Pos v)) = refl
  opposite-true (Open (Neg v)) = sym (not-not (truth a v))

  known-or-open : (ts : List Term) → (list_any holds ts || list_any (literal_true a) (literals ts)) ≡ list_any (term_true a) ts
  known-or-open [] = refl
  known-or-open (Holds ∷ ts) = refl
  known-or-open (Fails ∷ ts) = known-or-open ts
  known-or-open (Open l ∷ ts) =
      swap (list_any holds ts) (literal_true a l) (list_any (literal_true a) (literals ts)) ∙ ap (λ b. literal_true a l || b) (known-or-open ts)
    where
      swap : (x y z : Bool) → (x || (y || z)) ≡ (y || (x || z))
      swap true true z = refl
      swap true false z = refl
      swap false y z = refl

  pub keep-true : (ts : List Term) → all_true a (keep ts) ≡ list_any (term_true a) ts
  unfolding keep clause_true
  keep-true ts = go (list_any holds ts) (known-or-open ts)
    where
      and-true : (b : Bool) → (b && true) ≡ b
      and-true true = refl
      and-true false = refl

      go : (b : Bool) → (b || list_any (literal_true a) (literals ts)) ≡ list_any (term_true a) ts
          → list_all (list_any (literal_true a)) (cond b [] (literals ts ∷ [])) ≡ list_any (term_true a) ts
      go true e = e
      go false e = and-true (list_any (literal_true a) (literals ts)) ∙ e

  pub kept-true : {B : Type 0} (f : B → Term) (fs : List (List B))
      → all_true a (flat_map (λ c. keep (map f c)) fs) ≡ list_all (λ c. list_any (λ x. term_true a (f x)) c) fs
  kept-true f fs =
      every-each (clause_true a) (λ c. keep (map f c)) fs
      ∙ every-ext (λ c. all_true a (keep (map f c))) (λ c. list_any (λ x. term_true a (f x)) c)
      (λ c. keep-true (map f c) ∙ any-map (term_true a) f c) fs
