-- A model as the reader would give it has the same draws, the same text, and is what the reader makes of that text. Assumes nothing.
use mathlib.Core.Path.{◌≡◌, refl, sym, ap, ap₂, ◌∙◌, subst}
use Prim.Native.Nat.{ℕ, ◌+◌, ◌-◌, ◌≤◌}
use native.Mathlib.Omega.{arith}
use mathlib.Core.Bool.{Bool, true, false, cond, ◌&&◌}
use mathlib.Core.List.{List, [], ◌∷◌, ◌++◌, map}
use lib.Dec.{T, eqb, leb→le}
use lib.ListN.{length, take, replicate, length-map}
use lib.Seq.{take_at, length-take-le}
use Rattle.model.specs.declared.Constraint.{Constraint}
use Rattle.model.specs.declared.Model.{Model}
use Rattle.std.specs.List.{list_all, flat_map}
use Rattle.model.specs.Lists.{pairwise, range}
use Rattle.model.specs.Limits.{limits}
use Rattle.model.specs.Clauses.{member_count, groups_of}
use Rattle.model.specs.Model.{zero_group, zero_constraint, table_of, constraints_of, group_at, constraint_sized, constraint_in_range, in_range}
use Rattle.model.specs.Solution.{allowed, set_of, meaning, constraint_true, is_solution}
use Rattle.model.specs.SheetText.{group_fields, constraint_fields, head_fields, sheet_fields, line_text, sheet_text, clean_constraint, clean_model}
use Rattle.model.specs.Demand.{Accepted}
use Rattle.model.proofs.Lists.{All, every-all}
use Rattle.model.proofs.Codes.{member-bound}
use Rattle.propagation_laws.proofs.Ranges.{in_range_lem, constraint-code}
use Rattle.propagation_laws.proofs.Sheets.{Accurate, accurate}
use Rattle.sheet_writer.proofs.RoundTrip.{round_trip}

-- ---- a constraint whose list holds all its groups

abbrev Long : Constraint → Type 0
Long c = member_count c.code c.count ≤ length c.groups

module _ (c : Constraint) (h : Long c) where
  same_count : member_count c.code (clean_constraint c).count ≡ member_count c.code c.count
  unfolding member_count clean_constraint
  same_count = go (eqb c.code 6) _
    where
      go : (b : Bool) (k : ℕ) → cond b (cond b c.count 0 + 1) k ≡ cond b (c.count + 1) k
      go true k = refl
      go false k = refl

  same-groups : groups_of (clean_constraint c) ≡ groups_of c
  unfolding groups_of clean_constraint
  same-groups =
      let k = member_count c.code c.count in
      let zeros : List ℕ = replicate (limits.members - k) 0 in
      ap (λ (i : ℕ). take i (take k c.groups ++ zeros)) same_count
      ∙ take_at (take k c.groups) zeros k (length-take-le k c.groups h)

  same-meaning : (d : List ℕ) → constraint_true d (clean_constraint c) ≡ constraint_true d c
  unfolding constraint_true clean_constraint
  same-meaning d = ap (λ (gs : List ℕ). meaning c.code (map (set_of d) gs)) same-groups

  same-fields : constraint_fields (clean_constraint c) ≡ constraint_fields c
  unfolding constraint_fields clean_constraint
  same-fields = go (eqb c.code 6)
    where
      go : (b : Bool) → ◌≡◌ {A = List ℕ} (3 ∷ c.code ∷ cond b (cond b c.count 0 ∷ groups_of (clean_constraint c)) (groups_of (clean_constraint c)))
          (3 ∷ c.code ∷ cond b (c.count ∷ groups_of c) (groups_of c))
      go true = ap {B = List ℕ} (λ gs. 3 ∷ c.code ∷ c.count ∷ gs) same-groups
      go false = ap {B = List ℕ} (λ gs. 3 ∷ c.code ∷ gs) same-groups

-- ---- some constraints

all_true_lem : (d : List ℕ) (cs : List Constraint) → All Long cs → list_all (constraint_true d) (map clean_constraint cs) ≡ list_all (constraint_true d) cs
all_true_lem d [] a = refl
all_true_lem d (c ∷ cs) a = ap₂ ◌&&◌ (same-meaning c a.0 d) (all_true_lem d cs a.1)

all_fields : (cs : List Constraint) → All Long cs → map constraint_fields (map clean_constraint cs) ≡ map constraint_fields cs
all_fields [] a = refl
all_fields (c ∷ cs) a = ap₂ {C = List (List ℕ)} ◌∷◌ (same-fields c a.0) (all_fields cs a.1)

-- ---- a model

module _ (m : Model) (w : Accurate m) where
  all-long : (cs : List Constraint) → All (λ c. T (constraint_in_range m.s c)) cs → All (λ c. T (constraint_sized c)) cs → All Long cs
  all-long [] a b = tt
  all-long (c ∷ cs) a b =
      (omega (arith, member-bound c.code c.count (constraint-code m.s c a.0), leb→le limits.members (length c.groups) b.0), all-long cs a.1 b.1)

  long : All Long (constraints_of m)
  long =
      all-long (constraints_of m) (every-all (constraint_in_range m.s) (constraints_of m) (in_range_lem m w.in_range_lem).constraints)
      (every-all constraint_sized (constraints_of m) w.members)

  same-table : table_of (clean_model m) ≡ table_of m
  unfolding table_of clean_model
  same-table =
      take_at (take m.s m.groups) (replicate (limits.groups - m.s) zero_group) m.s (length-take-le m.s m.groups w.sized.groups)

  same-constraints : constraints_of (clean_model m) ≡ map clean_constraint (constraints_of m)
  unfolding constraints_of clean_model
  same-constraints =
      take_at (map clean_constraint (take m.c m.constraints)) (replicate (limits.constraints - m.c) zero_constraint) m.c
      (length-map (take m.c m.constraints) clean_constraint ∙ length-take-le m.c m.constraints w.sized.constraints)

  pub clean-draws : (d : List ℕ) → is_solution (clean_model m) d ≡ is_solution m d
  unfolding is_solution
  clean-draws d =
      ap₂ ◌&&◌ (ap (λ t. pairwise allowed t d) same-table)
      (ap (list_all (constraint_true d)) same-constraints ∙ all_true_lem d (constraints_of m) long)

  clean-text : sheet_text (clean_model m) ≡ sheet_text m
  unfolding sheet_text sheet_fields head_fields clean_model
  clean-text =
      ap₂ (λ t cs. flat_map line_text (head_fields m ∷ map (λ g. group_fields m.n g (group_at t g)) (range 1 m.s) ++ cs)) same-table
      (ap (map constraint_fields) same-constraints ∙ all_fields (constraints_of m) long)

  pub clean-accepted : Accepted (sheet_text (clean_model m)) (clean_model m)
  clean-accepted = subst (λ (t : List ℕ). Accepted t (clean_model m)) (sym clean-text) (round_trip m w)

  pub clean-in-range : T (in_range (clean_model m))
  clean-in-range = (accurate (sheet_text m) (clean_model m) (round_trip m w)).in_range_lem
