-- The sets alone: a literal reads and writes sets, so two tables of the same sets keep the same sets, and the limits stay. Assumes nothing.
use mathlib.Core.Path.{◌≡◌, refl, sym, ap, ap₂, ◌∙◌, subst}
use Prim.Native.Nat.{ℕ, ◌-◌}
use mathlib.Core.List.{List, [], ◌∷◌, ◌++◌, map}
use lib.Bits.{bit_and, bit_or}
use lib.ListN.{length, length-map}
use Rattle.model.specs.declared.Literal.{Literal}
use Rattle.model.specs.declared.Literal.TheVariants.{Pos, Neg}
use Rattle.model.specs.declared.Group.{Group}
use Rattle.model.specs.declared.Constraint.{Constraint}
use Rattle.model.specs.Limits.{limits}
use Rattle.model.specs.Words.{less}
use Rattle.model.specs.Clauses.{clauses_of}
use Rattle.model.specs.Propagate.{false_in, all_false, fixed_with, possible_without, made_true, literal_rule, run, clause_rules, clause_rule}
use Rattle.model.proofs.Lists.{All, all_of, all_map}
use Rattle.table.specs.Table.{zipped, fixed_of, possible_of, lows, highs, Whole}
use Rattle.table.proofs.Fields.{field-same, Alone, place-alone, run-alone, zipped_fields, zipped-length, zipped-sets, zipped-limits}
use Rattle.clause_rule.specs.Sets.{Settles}

-- ---- what a literal reads

module _ (t u : List Group) (d : fixed_of t ≡ fixed_of u) (e : possible_of t ≡ possible_of u) where
  false-same : (w : ℕ) (l : Literal) → false_in t w l ≡ false_in u w l
  unfolding false_in
  false-same w (Pos g) = ap (λ (v : ℕ). less w v) (field-same (λ x. x.possible) t u e g)
  false-same w (Neg g) = ap (λ (v : ℕ). bit_and w v) (field-same (λ x. x.fixed) t u d g)

  all-false-same : (w : ℕ) (ls : List Literal) → all_false t w ls ≡ all_false u w ls
  unfolding all_false
  all-false-same w [] = refl
  all-false-same w (l ∷ ls) = ap (λ (v : ℕ). all_false t v ls) (false-same w l) ∙ all-false-same (false_in u w l) ls

-- ---- the rules

abbrev pub SetsAlone : (List Group → List Group) → Type 0
SetsAlone r = Alone (λ g. g.low) (λ g. g.high) (λ g. g.fixed) (λ g. g.possible) r

literal-alone : (w : ℕ) (l : Literal) (others : List Literal) → SetsAlone (literal_rule w l others)
unfolding literal_rule made_true fixed_with possible_without
literal-alone w (Pos g) others =
    place-alone (λ x. x.low) (λ x. x.high) (λ x. x.fixed) (λ x. x.possible) fixed_with (λ t. all_false t w others) (λ v f. bit_or f v) (λ v p. p)
    (λ v x. refl) (λ v x. refl) (λ v x. refl) (λ v x. refl) (λ t u d e. all-false-same t u d e w others) (g - 1)
literal-alone w (Neg g) others =
    place-alone (λ x. x.low) (λ x. x.high) (λ x. x.fixed) (λ x. x.possible) possible_without (λ t. all_false t w others) (λ v f. f) (λ v p. less p v)
    (λ v x. refl) (λ v x. refl) (λ v x. refl) (λ v x. refl) (λ t u d e. all-false-same t u d e w others) (g - 1)

literals-alone : (w : ℕ) (before after : List Literal) → All SetsAlone (clause_rules w before after)
unfolding clause_rules
literals-alone w before [] = tt
literals-alone w before (l ∷ after) = (literal-alone w l (before ++ after), literals-alone w (before ++ (l ∷ [])) after)

clause-alone : (w : ℕ) (ls : List Literal) → SetsAlone (clause_rule w ls)
unfolding clause_rule
clause-alone w ls = run-alone (λ x. x.low) (λ x. x.high) (λ x. x.fixed) (λ x. x.possible) (clause_rules w [] ls) (literals-alone w [] ls)

-- of a constraint
pub clauses-alone : (w : ℕ) (c : Constraint) → SetsAlone (run (map (clause_rule w) (clauses_of c)))
clauses-alone w c =
    run-alone (λ x. x.low) (λ x. x.high) (λ x. x.fixed) (λ x. x.possible) (map (clause_rule w) (clauses_of c))
    (all_map SetsAlone (clause_rule w) (clauses_of c) (all_of (λ ls. SetsAlone (clause_rule w ls)) (clause-alone w) (clauses_of c)))

-- ---- a table of other limits and the same sets

module _ (r : List Group → List Group) (k : SetsAlone r) (t : List Group) (w : Whole t) where
  module _ (l h : List ℕ) (a : length l ≡ limits.groups) (b : length h ≡ limits.groups) where
    abbrev other : List Group
    other = zipped (fixed_of t) (possible_of t) l h

    whole : Whole (zipped (fixed_of t) (possible_of t) l h)
    whole = zipped-length limits.groups (fixed_of t) (possible_of t) l h (length-map t (λ g. g.fixed) ∙ w) (length-map t (λ g. g.possible) ∙ w) a b

    same-sets : (fixed_of (zipped (fixed_of t) (possible_of t) l h) ≡ fixed_of t) × (possible_of (zipped (fixed_of t) (possible_of t) l h) ≡ possible_of t)
    same-sets =
        zipped-sets (fixed_of t) (possible_of t) l h (whole ∙ sym (length-map t (λ g. g.fixed) ∙ w)) (length-map t (λ g. g.possible) ∙ sym (length-map t (λ g. g.fixed)))

    own-limits : (lows (zipped (fixed_of t) (possible_of t) l h) ≡ l) × (highs (zipped (fixed_of t) (possible_of t) l h) ≡ h)
    own-limits = zipped-limits (fixed_of t) (possible_of t) l h (whole ∙ sym a) (b ∙ sym a)

    other-made : zipped (fixed_of (r t)) (possible_of (r t)) l h ≡ r (zipped (fixed_of t) (possible_of t) l h)
    other-made =
        ap₂ (λ f p. zipped f p l h) (k.x-same t other (sym same-sets.0) (sym same-sets.1)) (k.y-same t other (sym same-sets.0) (sym same-sets.1))
        ∙ ap₂ (λ c d. zipped (fixed_of (r other)) (possible_of (r other)) c d) (sym (k.a-stays other ∙ own-limits.0)) (sym (k.b-stays other ∙ own-limits.1))
        ∙ zipped_fields (r other)

    other-whole : Whole (zipped (fixed_of (r t)) (possible_of (r t)) l h)
    other-whole = ap length other-made ∙ sym (length-map (r other) (λ g. g.low)) ∙ ap length (k.a-stays other) ∙ length-map other (λ g. g.low) ∙ whole

  settled : Settles r (fixed_of t) (possible_of t) (fixed_of (r t)) (possible_of (r t))
  settled l h a b = (other-whole l h a b, other-made l h a b)

-- what the clauses of a constraint make of a table, by the names of the clauses of `applied`
pub made : (w : ℕ) (c : Constraint) (t u : List Group) → Whole t → u ≡ run (map (clause_rule w) (clauses_of c)) t → record {
  value : u ≡ run (map (clause_rule w) (clauses_of c)) t;
  settles : Settles (run (map (clause_rule w) (clauses_of c))) (fixed_of t) (possible_of t) (fixed_of u) (possible_of u);
  limits : (lows u ≡ lows t) × (highs u ≡ highs t);
}
made w c t u whole e =
    let r = run (map (clause_rule w) (clauses_of c)) in
    let k = clauses-alone w c in
    record {
      value = e;
      settles = subst (λ v. Settles r (fixed_of t) (possible_of t) (fixed_of v) (possible_of v)) (sym e) (settled r k t whole);
      limits = (ap lows e ∙ k.a-stays t, ap highs e ∙ k.b-stays t);
    }
