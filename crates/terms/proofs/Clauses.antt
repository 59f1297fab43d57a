-- How many terms a clause has, and whether it is written: it is kept, and there is room. Assumes nothing.
use Rattle.std.proofs.Common.{◌≡◌, ℕ, ◌+◌, ◌-◌, ◌<◌, ◌≤◌, Bool, true, false, not, ◌&&◌, leb, List, [], length, get_or, sym, refl, ◌∙◌, arith, le-leb, leb-false, leb-true}
use borrow.Author.Tests.{lt-leb}
use native.Mathlib.Decide.{dec_le}
use lib.ListN.{length-map}
use Rattle.model.specs.declared.Term.{Term}
use Rattle.std.specs.List.{list_any, flat_map}
use Rattle.model.specs.Clauses.{member_clauses}
use Rattle.model.specs.Totalizer.{holds}
use Rattle.text.specs.Put.{placed, place_after, term_text, kept_text}
use Rattle.text.proofs.Writes.{no_room_lem, nothing}
use Rattle.text.proofs.Clauses.{live-length, dead}
use Rattle.terms.specs.Terms.{literal_term, clause_of, clause_terms, goes}

-- a term for each literal
module _ (ns : List ℕ) (code count j : ℕ) {k : ℕ} where
  pub literals-counted : k ≡ length (get_or (member_clauses code count) j []) → k ≡ length (clause_of code count j)
  unfolding clause_of
  literals-counted e = e

  pub clause-size : k ≡ length (clause_of code count j) → k ≡ length (clause_terms ns code count j)
  unfolding clause_terms
  clause-size e = e ∙ sym (length-map (clause_of code count j) (literal_term ns))

module _ (ts : List Term) (at room : ℕ) where
  abbrev end : ℕ
  end = at + (length (flat_map term_text ts) + 2)

  -- what is left past all terms is to hold the end
  pub ends-in : list_any holds ts ≡ false → (left : ℕ) → at ≤ room → left + length (flat_map term_text ts) ≡ room - at → leb 2 left ≡ goes ts at room
  unfolding goes
  ends-in p left h e =
      rw p
      (elim (dec_le 2 left) [
        | yes l ↦ le-leb 2 left l ∙ sym (le-leb end room (omega arith))
        | no l ↦ lt-leb 2 left (omega arith) ∙ sym (lt-leb end room (omega arith))
      ])

  pub is-dead : list_any holds ts ≡ true → false ≡ goes ts at room
  unfolding goes
  is-dead p = rw p

  pub too_long_lem : room < end → false ≡ goes ts at room
  unfolding goes
  too_long_lem h = rw (lt-leb end room h) (go (not (list_any holds ts)))
    where
      go : (b : Bool) → false ≡ (b && false)
      go true = refl
      go false = refl

  tests : (b : Bool) → list_any holds ts ≡ b → (r : Bool) → leb end room ≡ r → (not b && r) ≡ true → (list_any holds ts ≡ false) × (end ≤ room)
  tests true p r q e = absurd (let z : ◌≡◌ {A = ℕ} 0 1 = cc in omega arith)
  tests false p true q e = (p, leb-true end room q)
  tests false p false q e = absurd (let z : ◌≡◌ {A = ℕ} 0 1 = cc in omega arith)

  pub going : goes ts at room ≡ true → (list_any holds ts ≡ false) × (end ≤ room)
  unfolding goes
  going e = tests (list_any holds ts) refl (leb end room) refl e

-- one that is not leaves the buffer
pub not_going : (ts : List Term) (at : ℕ) (xs : List ℕ) → goes ts at (length xs) ≡ false
    → (at ≡ place_after (kept_text ts) at (length xs)) × (xs ≡ placed (kept_text ts) at xs)
unfolding goes
not_going ts at xs e = go (list_any holds ts) refl (leb (end ts at (length xs)) (length xs)) refl e
  where
    go : (b : Bool) → list_any holds ts ≡ b → (r : Bool) → leb (end ts at (length xs)) (length xs) ≡ r → (not b && r) ≡ false
        → (at ≡ place_after (kept_text ts) at (length xs)) × (xs ≡ placed (kept_text ts) at xs)
    go true p r q e = nothing (kept_text ts) xs at (dead ts p)
    go false p true q e = absurd (let z : ◌≡◌ {A = ℕ} 0 1 = cc in omega arith)
    go false p false q e = no_room_lem (kept_text ts) xs at (omega (arith, live-length ts p, leb-false (end ts at (length xs)) (length xs) q))
