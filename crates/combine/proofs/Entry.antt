-- The answers of combining, refusal by refusal. Assumes nothing.
use mathlib.Core.Path.{◌≡◌, refl, sym, ap, ap₂, ◌∙◌}
use Prim.Native.Nat.{ℕ, ◌+◌, ◌-◌, ◌≤◌, ◌<◌}
use native.Mathlib.Omega.{arith}
use mathlib.Core.Bool.{Bool, true, false}
use mathlib.Core.List.{List, ◌++◌, map}
use borrow.Author.Tests.{eq-eqb, ne_eqb, lt-ltb, le-ltb}
use lib.ListN.{length, take, replicate, length-take}
use Rattle.model.specs.declared.Group.{Group}
use Rattle.model.specs.declared.Constraint.{Constraint}
use Rattle.model.specs.declared.Model.{Model}
use Rattle.model.specs.declared.Combined.{Combined}
use Rattle.model.specs.Lists.{pairwise}
use Rattle.model.specs.Limits.{limits}
use Rattle.model.specs.Model.{zero_group, zero_constraint, zero_model, table_of, constraints_of, in_range}
use Rattle.model.specs.SheetText.{clean_constraint, clean_model}
use Rattle.model.specs.Combine.{combined_table, both_of, combined_model, fits, combine_refusal, combined}
use Rattle.model.proofs.Lists.{T_true, true-T}
use Rattle.combine.specs.Clash.{clash_of}
use Rattle.combine.proofs.Clashes.{fit_none, none-fit}
use Rattle.combine.proofs.Laws.{table, lines}

-- ---- which refusal

module _ (a b : Model) where
  pub first_out : in_range a ≡ false → 20 ≡ combine_refusal a b
  unfolding combine_refusal
  first_out e = rw e refl

  module _ (p : in_range a ≡ true) where
    pub second-out : in_range b ≡ false → 20 ≡ combine_refusal a b
    unfolding combine_refusal
    second-out e = rw (p, e) refl

    module _ (q : in_range b ≡ true) where
      pub other-entrants : (a.n ≡ b.n → ⊥) → 31 ≡ combine_refusal a b
      unfolding combine_refusal
      other-entrants e = rw (p, q, ne_eqb a.n b.n e) refl

      module _ (n : a.n ≡ b.n) where
        pub other-groups : (a.s ≡ b.s → ⊥) → 31 ≡ combine_refusal a b
        unfolding combine_refusal
        other-groups e = rw (p, q, eq-eqb a.n b.n n, ne_eqb a.s b.s e) refl

        module _ (s : a.s ≡ b.s) where
          pub clash-given : ((clash_of a b).group ≡ 0 → ⊥) → 32 ≡ combine_refusal a b
          unfolding combine_refusal
          clash-given e = rw (p, q, eq-eqb a.n b.n n, eq-eqb a.s b.s s, none (pairwise fits (table_of a) (table_of b)) refl) refl
            where
              none : (x : Bool) → pairwise fits (table_of a) (table_of b) ≡ x → pairwise fits (table_of a) (table_of b) ≡ false
              none false f = f
              none true f = absurd (e (unfold clash_of in fit_none 1 (table_of a) (table_of b) (true-T (pairwise fits (table_of a) (table_of b)) f)))

          module _ (v : length a.groups ≡ length b.groups) (f : (clash_of a b).group ≡ 0) where
            all_fit : pairwise fits (table_of a) (table_of b) ≡ true
            unfolding clash_of
            all_fit = T_true (pairwise fits (table_of a) (table_of b)) (none-fit 1 (table_of a) (table_of b) long (λ (z : 1 ≡ 0). omega arith) f)
              where
                long : length (table_of a) ≡ length (table_of b)
                long = unfold table_of in (length-take a.s a.groups ∙ omega (arith, length-take b.s b.groups))

            pub too_many_lem : limits.constraints < a.c + b.c → 33 ≡ combine_refusal a b
            unfolding combine_refusal
            too_many_lem e = rw (p, q, eq-eqb a.n b.n n, eq-eqb a.s b.s s, all_fit, lt-ltb limits.constraints (a.c + b.c) e) refl

            pub none-due : a.c + b.c ≤ limits.constraints → 0 ≡ combine_refusal a b
            unfolding combine_refusal
            none-due e = rw (p, q, eq-eqb a.n b.n n, eq-eqb a.s b.s s, all_fit, le-ltb limits.constraints (a.c + b.c) e) refl

-- ---- the combined model, from its parts

module _ (a b : Model) where
  table-made : a.s ≡ b.s → combined_table (take a.s a.groups) (take a.s b.groups) ≡ table_of (both_of a b)
  table-made e = sym (table a b ∙ unfold table_of in rw e refl)

  lines-made : take a.c a.constraints ++ take b.c b.constraints ≡ constraints_of (both_of a b)
  lines-made = sym (lines a b ∙ unfold constraints_of in refl)

  pub model-made : (gs : List Group) (cs : List Constraint) → a.s ≡ b.s
      → gs ≡ combined_table (take a.s a.groups) (take a.s b.groups) ++ replicate (limits.groups - a.s) zero_group
      → cs ≡ map clean_constraint (take a.c a.constraints ++ take b.c b.constraints) ++ replicate (limits.constraints - (a.c + b.c)) zero_constraint
      → ◌≡◌ {A = Model} (record { n = a.n; s = a.s; c = a.c + b.c; groups = gs; constraints = cs }) (combined_model a b)
  unfolding combined_model clean_model both_of
  model-made gs cs e p q =
      ap₂ {C = Model} (λ x y. record { n = a.n; s = a.s; c = a.c + b.c; groups = x; constraints = y })
      (p ∙ ap (λ (t : List Group). t ++ replicate (limits.groups - a.s) zero_group) (table-made e))
      (q ∙ ap (λ (l : List Constraint). map clean_constraint l ++ replicate (limits.constraints - (a.c + b.c)) zero_constraint) lines-made)

-- ---- the answer

module _ (a b : Model) (r : ℕ) (m : Model) where
  pub refused_as_lem : r ≡ combine_refusal a b → (r ≡ 0 → ⊥) → m ≡ zero_model → ◌≡◌ {A = Combined} (record { refusal = r; model = m }) (combined a b)
  unfolding combined
  refused_as_lem e n z = rw (← e, ne_eqb r 0 n, z) refl

pub combined_as : (a b m : Model) → combine_refusal a b ≡ 0 → m ≡ combined_model a b → ◌≡◌ {A = Combined} (record { refusal = 0; model = m }) (combined a b)
unfolding combined
combined_as a b m e f = rw (e, f) refl
