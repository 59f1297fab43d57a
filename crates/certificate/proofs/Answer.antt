-- From a refutation of the clauses to the sheet. Assumes nothing.
use Prim.Native.Nat.{ℕ}
use mathlib.Core.Path.{◌≡◌, refl, sym, ap, ◌∙◌, subst}
use mathlib.Core.Logic.{◌⊎◌, inl, inr, ⊎_elim}
use mathlib.Core.Bool.{Bool, true, false}
use mathlib.Core.List.{List}
use native.Mathlib.Decide.{ℕ_discrete}
use native.Mathlib.Omega.{arith}
use borrow.Author.Tests.{eq-eqb, ne_eqb}
use lib.Dec.{T}
use lib.ListN.{length, replicate}
use Rattle.model.specs.declared.SheetRead.{SheetRead}
use Rattle.model.specs.declared.Propagated.{Propagated}
use Rattle.model.specs.Sheet.{read_sheet}
use Rattle.model.specs.Propagate.{propagated, Settled}
use Rattle.model.specs.Close.{satisfying}
use Rattle.model.specs.Demand.{Accepted}
use Rattle.propagation_laws.proofs.Sheets.{accepted_of}
use Rattle.correctness.proofs.Demand3.{sheet-answered, sheet-none, sheet-settled, sheet-assignment}
use Rattle.refutation.specs.declared.State.{State}
use Rattle.refutation.specs.Sound.{Holds, Keeps}
use Rattle.refutation.proofs.Marks.{true-false}
use Rattle.certificate.specs.declared.Opening.{Opening}
use Rattle.certificate.specs.declared.Opening.TheVariants.{Refused, SettledOut, Open}
use Rattle.certificate.specs.NoDraw.{NoDraw, settled_opening, read_opening, opening_of, opening_refusal, opening_line, read_refusal, sheet_refusal, sheet_line, is_open, cleared, left_as, Unrefuted}

-- ---- openings

module _ (b : List ℕ) (r : SheetRead) (e : r ≡ read_sheet b) where
  pub refused-opening : (r.refusal ≡ 0 → ⊥) → Refused r.refusal r.line ≡ opening_of b
  unfolding opening_of
  refused-opening n = sym (ap read_opening (sym e) ∙ rw (ne_eqb r.refusal 0 n))

  module _ (z : r.refusal ≡ 0) (p : Propagated) (q : p ≡ propagated r.model) where
    opening-is : opening_of b ≡ settled_opening p.refusal
    unfolding opening_of
    opening-is = ap read_opening (sym e) ∙ rw (eq-eqb r.refusal 0 z, q)

    pub settled-opening : p.refusal ≡ 21 → SettledOut ≡ opening_of b
    settled-opening h = sym (opening-is ∙ rw (eq-eqb p.refusal 21 h))

    pub open-opening : (p.refusal ≡ 21 → ⊥) → Open ≡ opening_of b
    open-opening h = sym (opening-is ∙ rw (ne_eqb p.refusal 21 h))

    -- ---- what stands

    settles : (p.refusal ≡ 21 → ⊥) → (propagated r.model).refusal ≡ 0
    settles h = ⊎_elim (λ y. y) (λ y. absurd (h (ap (λ (x : Propagated). x.refusal) q ∙ y))) (sheet-answered b r.model (accepted_of b r e z))

    pub out-no-draw : p.refusal ≡ 21 → NoDraw b
    out-no-draw h = record {
      model = r.model;
      accepted = accepted_of b r e z;
      none = sheet-none b r.model (accepted_of b r e z) (sym (ap (λ (x : Propagated). x.refusal) q) ∙ h);
    }

    pub open-unrefuted : (p.refusal ≡ 21 → ⊥) → (s : State) (store index marks : List ℕ)
        → (Settled p.model → (a : List Bool) → T (satisfying p.model a) → Holds a s store index marks) → Unrefuted b s store index marks
    open-unrefuted h s store index marks f =
        let acc = accepted_of b r e z in
        let g = subst (λ (x : Propagated). Settled x.model → (a : List Bool) → T (satisfying x.model a) → Holds a s store index marks) q f in
        record {
          model = r.model;
          accepted = acc;
          draws = λ d t. let x = sheet-assignment b r.model acc (settles h) d t in (x.0, g (sheet-settled b r.model acc (settles h)) x.0 x.1);
        }

-- the same states: another number of a line changes nothing
pub unrefuted_as : {b : List ℕ} {s t : State} {store index marks : List ℕ} → t ≡ s → Unrefuted b s store index marks → Unrefuted b t store index marks
unrefuted_as {b} {s} {t} {store} {index} {marks} e u = subst (λ (x : State). Unrefuted b x store index marks) (sym e) u

pub unrefuted-keeps : {b : List ℕ} {s t : State} {store index marks store' index' marks' : List ℕ} → Keeps s store index marks t store' index' marks' → Unrefuted b s store index marks → Unrefuted b t store' index' marks'
unrefuted-keeps k u = record { model = u.model; accepted = u.accepted; draws = λ d t. let x = u.draws d t in (x.0, k.keeps x.0 x.1) }

pub refuted_no-draw : {b : List ℕ} {s : State} {store index marks : List ℕ} → s.refuted ≡ true → Unrefuted b s store index marks → NoDraw b
refuted_no-draw r u = record { model = u.model; accepted = u.accepted; none = λ d t. (u.draws d t).1.unrefuted r }

-- ---- openings are different

pub refused-out : {r l : ℕ} → Refused r l ≡ SettledOut → ⊥
refused-out e = let z : ◌≡◌ {A = ℕ} 0 1 = cc in omega arith

pub refused_open : {r l : ℕ} → Refused r l ≡ Open → ⊥
refused_open e = let z : ◌≡◌ {A = ℕ} 0 1 = cc in omega arith

pub out_open : SettledOut ≡ Open → ⊥
out_open e = let z : ◌≡◌ {A = ℕ} 0 1 = cc in omega arith

-- ---- what is left of a buffer

module _ (b buffer after : List ℕ) where
  pub left-cleared : is_open (opening_of b) ≡ true → (at : List ℕ) → after ≡ cleared at → length at ≡ length buffer → after ≡ left_as b buffer
  unfolding left_as cleared
  left-cleared e at q l = q ∙ ap (λ (k : ℕ). replicate k 0) l ∙ rw e refl

  pub left-unchanged : is_open (opening_of b) ≡ false → after ≡ buffer → after ≡ left_as b buffer
  unfolding left_as
  left-unchanged e q = q ∙ rw e refl

pub not_open : (o : Opening) → is_open o ≡ false → o ≡ Open → ⊥
not_open o e q = true-false (sym (ap is_open q) ∙ e)

-- ---- an opening's number and value

module _ (b : List ℕ) where
  abbrev Told : Opening → Type 0
  Told o = (opening_refusal o ≡ sheet_refusal b) × (opening_line o ≡ sheet_line b)

  module _ (r : SheetRead) (e : r ≡ read_sheet b) where
    refusal_is : read_refusal r ≡ sheet_refusal b
    unfolding sheet_refusal
    refusal_is = ap read_refusal e

    line-is : r.line ≡ sheet_line b
    unfolding sheet_line
    line-is = ap (λ (x : SheetRead). x.line) e

    refused-told : (r.refusal ≡ 0 → ⊥) → Told (opening_of b)
    refused-told n =
        let own : r.refusal ≡ read_refusal r = rw (ne_eqb r.refusal 0 n) refl in
        subst Told (refused-opening b r e n) (own ∙ refusal_is, line-is)

    module _ (z : r.refusal ≡ 0) where
      h : Accepted b r.model
      h = accepted_of b r e z

      no_line : 0 ≡ r.line
      no_line = sym (ap (λ (x : SheetRead). x.line) (e ∙ h))

      settled-told : (k : ℕ) → k ≡ read_refusal r → (k ≡ 0) ⊎ (k ≡ 21) → Told (settled_opening k)
      settled-told k q (inl o) =
          (ap (λ (k : ℕ). opening_refusal (settled_opening k)) o ∙ sym o ∙ q ∙ refusal_is, ap (λ (k : ℕ). opening_line (settled_opening k)) o ∙ no_line ∙ line-is)
      settled-told k q (inr o) =
          (ap (λ (k : ℕ). opening_refusal (settled_opening k)) o ∙ sym o ∙ q ∙ refusal_is, ap (λ (k : ℕ). opening_line (settled_opening k)) o ∙ no_line ∙ line-is)

      open_told : Told (opening_of b)
      open_told =
          let own : (propagated r.model).refusal ≡ read_refusal r = rw (eq-eqb r.refusal 0 z) refl in
          subst Told (sym (opening-is b r e z (propagated r.model) refl))
          (settled-told (propagated r.model).refusal own (sheet-answered b r.model h))

  numbered : Told (opening_of b)
  numbered = go (ℕ_discrete (read_sheet b).refusal 0)
    where
      go : Dec ((read_sheet b).refusal ≡ 0) → Told (opening_of b)
      go (yes z) = open_told (read_sheet b) refl z
      go (no n) = refused-told (read_sheet b) refl n

  pub opening-told : (o : Opening) → o ≡ opening_of b → (o ≡ opening_of b) × (opening_refusal o ≡ sheet_refusal b) × (opening_line o ≡ sheet_line b)
  opening-told o e = (e, ap opening_refusal e ∙ numbered.0, ap opening_line e ∙ numbered.1)
