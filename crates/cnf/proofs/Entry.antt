-- What the entry answers: a refusal, or the block's text. Assumes nothing.
use mathlib.Core.Path.{◌≡◌, refl, sym, ap, ◌∙◌, subst}
use mathlib.Core.Bool.{Bool, true, false, cond, not}
use mathlib.Core.List.{List}
use Prim.Native.Nat.{ℕ, zero, suc, ◌≤◌, ◌<◌}
use native.Mathlib.Omega.{arith}
use native.Mathlib.Decide.{dec_lt}
use borrow.Author.Tests.{lt-ltb, le-ltb, ne_eqb, leb-true, leb-false}
use lib.Dec.{T, leb, ltb, eqb, eqb-suc-zero, nltb→le}
use lib.ListN.{length, drop}
use Rattle.model.specs.declared.Model.{Model}
use Rattle.model.specs.declared.Written.{Written}
use Rattle.model.specs.declared.Written.TheVariants.{Bytes, Refused}
use Rattle.model.specs.Lists.{stop}
use Rattle.model.specs.Limits.{limits}
use Rattle.model.specs.Model.{in_range}
use Rattle.model.specs.Propagate.{is_fixpoint, unsettled_or, Settled}
use Rattle.model.specs.Cnf.{block_count}
use Rattle.model.specs.Text.{block_text, has_empty_clause, block_refusal, written_block, written_refusal, written_length, block_buffer}
use Rattle.model.proofs.Lists.{T_false, true-T}
use Rattle.model.proofs.Refusals.{settled-rest, rest-settled, unsettled-first}
use Rattle.propagation_laws.proofs.Ranges.{in_range_lem}
use Rattle.encoding_laws.specs.Steps.{BySteps}
use Rattle.encoding_laws.proofs.Nonempty.{no-empty-clause}
use Rattle.encoding_laws.proofs.Steps.{by-steps}
use Rattle.blocks.specs.Blocks.{judgement}
use Rattle.cnf.specs.Parts.{block_length}

-- ---- refused before the buffer is looked at

module _ (m : Model) (b room : ℕ) where
  -- the last two tests
  abbrev rest : ℕ
  rest = stop (has_empty_clause m b) 29 (stop (ltb room (length (block_text m b))) 24 0)

  pub refused-first : (judgement m b ≡ 0 → ⊥) → block_refusal m b room ≡ judgement m b
  unfolding block_refusal judgement
  refused-first h = go (dec_lt 0 (unsettled_or m 0))
    where
      own : (x : Bool) → (stop x 23 0 ≡ 0 → ⊥) → stop x 23 rest ≡ stop x 23 0
      own true h = refl
      own false h = absurd (h refl)

      go : Dec (0 < unsettled_or m 0) → unsettled_or m (stop (ltb (block_count m) b) 23 rest) ≡ unsettled_or m (stop (ltb (block_count m) b) 23 0)
      go (yes l) =
          let n : unsettled_or m 0 ≡ 0 → ⊥ = λ z. omega arith in
          unsettled-first m n (stop (ltb (block_count m) b) 23 rest) ∙ sym (unsettled-first m n (stop (ltb (block_count m) b) 23 0))
      go (no l) =
          let s = rest-settled m (omega arith) in
          let a = settled-rest m s.0 s.1 in
          a (stop (ltb (block_count m) b) 23 rest) ∙ own (ltb (block_count m) b) (λ z. h (a (stop (ltb (block_count m) b) 23 0) ∙ z))
          ∙ sym (a (stop (ltb (block_count m) b) 23 0))

  pub written-refused : (r : ℕ) → r ≡ judgement m b → (r ≡ 0 → ⊥) → Refused r ≡ written_block m b room
  unfolding written_block
  written-refused r e h =
      let q = refused-first (λ z. h (e ∙ z)) ∙ sym e in
      rw (q, ne_eqb r 0 h)

pub buffer_refused : (m : Model) (b : ℕ) (buf : List ℕ) (r : ℕ) → r ≡ judgement m b → (r ≡ 0 → ⊥) → buf ≡ block_buffer m b buf
unfolding block_buffer
buffer_refused m b buf r e h =
    let q = refused-first m b (length buf) (λ z. h (e ∙ z)) ∙ sym e in
    rw (q, ne_eqb r 0 h)

-- ---- not refused

module _ (m : Model) (b r : ℕ) (e : r ≡ judgement m b) (z : r ≡ 0) where
  tests : (T (in_range m) × T (is_fixpoint m)) × (b ≤ block_count m)
  unfolding judgement unsettled_or
  tests = go (in_range m) refl (is_fixpoint m) refl (ltb (block_count m) b) refl (sym e ∙ z)
    where
      go : (x : Bool) → in_range m ≡ x → (y : Bool) → is_fixpoint m ≡ y → (w : Bool) → ltb (block_count m) b ≡ w
          → stop (not x) 20 (stop (not y) 22 (stop w 23 0)) ≡ 0 → (T (in_range m) × T (is_fixpoint m)) × (b ≤ block_count m)
      go false p y q w s h = absurd (omega arith)
      go true p false q w s h = absurd (omega arith)
      go true p true q true s h = absurd (omega arith)
      go true p true q false s h = ((true-T (in_range m) p, true-T (is_fixpoint m) q), nltb→le (block_count m) b (subst (λ (v : Bool). T (not v)) (sym s) tt))

  pub judged-block : b ≤ block_count m
  judged-block = tests.1

  pub judged-settled : length m.groups ≡ limits.groups → length m.constraints ≡ limits.constraints → Settled m
  judged-settled g c =
      let i = in_range_lem m tests.0.0 in
      record {
        in_range_lem = tests.0.0;
        fixpoint = tests.0.1;
        sized = record { groups = omega (arith, i.group_count); constraints = omega (arith, i.constraint_count) };
      }

-- ---- a text that fits or not

module _ {t : Bool} (text : List ℕ) (left : ℕ) (e : t ≡ leb (length text) left) where
  pub does-fit : t ≡ true → length text ≤ left
  does-fit h = leb-true (length text) left (sym e ∙ h)

  pub does-not-fit : t ≡ false → left < length text
  does-not-fit h = leb-false (length text) left (sym e ∙ h)

-- ---- a settled model's block

module _ (m : Model) (q : Settled m) (b : ℕ) (h : b ≤ block_count m) where
  judged-24 : (room : ℕ) → block_refusal m b room ≡ stop (ltb room (length (block_text m b))) 24 0
  unfolding block_refusal
  judged-24 room =
      settled-rest m q.in_range_lem q.fixpoint _
      ∙ rw (le-ltb (block_count m) b h, T_false (has_empty_clause m b) (no-empty-clause m q b))

  pub refused-24 : (room : ℕ) → room < length (block_text m b) → block_refusal m b room ≡ 24
  refused-24 room l = rw (judged-24 room, lt-ltb room (length (block_text m b)) l)

  pub not-refused : (room : ℕ) → length (block_text m b) ≤ room → block_refusal m b room ≡ 0
  not-refused room l = rw (judged-24 room, le-ltb room (length (block_text m b)) l)

-- ---- the answer by the paper's number and value

pub written_means : (m : Model) (b room : ℕ) (r : Written) → r ≡ written_block m b room
    → (written_refusal r ≡ block_refusal m b room) × (written_length r ≡ block_length m b room)
unfolding written_block block_length
written_means m b room r e = go (block_refusal m b room) (e)
  where
    n : ℕ
    n = length (block_text m b)

    go : (x : ℕ) → r ≡ cond (eqb x 0) (Bytes n) (Refused x) → (written_refusal r ≡ x) × (written_length r ≡ cond (eqb x 0) n 0)
    go zero q = (ap written_refusal q, ap written_length q)
    go (suc x) q =
        let p : r ≡ Refused (suc x) = rw (eqb-suc-zero x) at q in
        (ap written_refusal p, ap written_length p ∙ rw (eqb-suc-zero x))

-- ---- a written block, place by place

pub written_by_steps : (m : Model) (b : ℕ) (before after : List ℕ) (r : Written) → r ≡ written_block m b (length before) → after ≡ block_buffer m b before
    → written_refusal r ≡ 0 → BySteps m b after
unfolding block_buffer
written_by_steps m b before after r e h z =
    let q = sym (written_means m b (length before) r e).0 ∙ z in
    subst (BySteps m b) (sym (h ∙ rw q)) (by-steps m b (drop (length (block_text m b)) before))
