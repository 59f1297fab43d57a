-- `new_place` judges a variable after others: 11, then 12. Assumes nothing.
use Prim.Native.Nat.{ℕ, ◌-◌}
use mathlib.Core.Path.{◌≡◌, refl, ◌∙◌, sym, ap}
use mathlib.Core.Bool.{Bool, true, false, cond}
use mathlib.Core.List.{List}
use lib.Dec.{ltb}
use lib.ListN.{length, get_or, take}
use Rattle.model.specs.declared.Literal.{Literal}
use Rattle.model.specs.Lists.{stop}
use Rattle.model.specs.Assignment.{words_of, is_said}
use Rattle.std.specs.Prelude.{Result, Ok, Err}
use Rattle.literals.specs.declared.Refusal.{Refusal}
use Rattle.literals.specs.declared.Refusal.TheVariants.{Above, Taken}
use Rattle.literals.specs.Line.{named, names?, place_of, new_place, refusal_of, literal_refusal}
use Rattle.std.proofs.lemmas.Result.{err_from_is_err_and}
use Rattle.literals.proofs.Named.{is_free}
use native.Mathlib.Omega.{arith}
use Rattle.literals.proofs.new_place.Goals as goal

-- the refusal of the answer
both : (seen : List Literal) (v : ℕ) (values : List ℕ) (r : Result ℕ Refusal) → r ≡ new_place seen v values
    → (r ≡ new_place seen v values) × (refusal_of r ≡ literal_refusal v seen values)
unfolding new_place literal_refusal
both seen v values r e = (e, ap refusal_of e ∙ go (ltb (length values) v) (is_said (get_or values (v - 1) 0)) (names? v seen))
  where
    go : (a b c : Bool) → refusal_of (cond a (Err Above) (cond b (Err Taken) (cond c (Err Taken) (Ok (v - 1))))) ≡ stop a 11 (stop b 12 (stop c 12 0))
    go true b c = refl
    go false true c = refl
    go false false true = refl
    go false false false = refl

-- a place that is not free, and one that is
held : (seen : List Literal) (v : ℕ) (values : List ℕ) (p : Result ℕ Refusal) → p ≡ place_of v values → is_free p ≡ false → p ≡ new_place seen v values
unfolding place_of new_place
held seen v values p e f = go (ltb (length values) v) (is_said (get_or values (v - 1) 0)) e
  where
    go : (a b : Bool) → p ≡ cond a (Err Above) (cond b (Err Taken) (Ok (v - 1))) → p ≡ cond a (Err Above) (cond b (Err Taken) (cond (names? v seen) (Err Taken) (Ok (v - 1))))
    go true b e = e
    go false true e = e
    go false false e = let z : true ≡ false = sym (ap is_free e) ∙ f in let y : ◌≡◌ {A = ℕ} 0 1 = cc in absurd (omega arith)

free : (seen : List Literal) (v : ℕ) (values : List ℕ) (p : Result ℕ Refusal) → p ≡ place_of v values → is_free p ≡ true → cond (names? v seen) (Err Taken) p ≡ new_place seen v values
unfolding place_of new_place
free seen v values p e f = go (ltb (length values) v) (is_said (get_or values (v - 1) 0)) e
  where
    go : (a b : Bool) → p ≡ cond a (Err Above) (cond b (Err Taken) (Ok (v - 1)))
        → cond (names? v seen) (Err Taken) p ≡ cond a (Err Above) (cond b (Err Taken) (cond (names? v seen) (Err Taken) (Ok (v - 1))))
    go true b e = let z : false ≡ true = sym (ap is_free e) ∙ f in let y : ◌≡◌ {A = ℕ} 0 1 = cc in absurd (omega arith)
    go false true e = let z : false ≡ true = sym (ap is_free e) ∙ f in let y : ◌≡◌ {A = ℕ} 0 1 = cc in absurd (omega arith)
    go false false e = ap (cond (names? v seen) (Err Taken)) e

-- the clauses by their names
by_name : {A B : Type 0} → A × B → record { value : A; result_value : B }
by_name p = record { value = p.0; result_value = p.1 }

pub returns-in_err-i : goal.returns-in_err-i
returns-in_err-i c =
    let seen = take c.args.count (named (words_of c.args.s.now)) in
    let p = c.place_of in
    let q = err_from_is_err_and c.from_residual.result c.from_residual.ensures.1 in
    rw (q.1, q.2) (by_name (both seen c.args.v c.args.values.now _ (sym c.in_err-i.was ∙ held seen _ _ p.result p.ensures.value (ap is_free c.in_err-i.was))))

pub returns-then-is_seen : goal.returns-then-is_seen
returns-then-is_seen c =
    let seen = take c.args.count (named (words_of c.args.s.now)) in
    let p = c.place_of in
    by_name (both seen c.args.v c.args.values.now (Err Taken)
    (ap (λ b. cond b (Err Taken) p.result) (sym (sym c.is_seen.ensures ∙ c.if-is_seen.true)) ∙ free seen _ _ p.result p.ensures.value (ap is_free c.in_ok-i.was)))

pub returns : goal.returns
returns c =
    let seen = take c.args.count (named (words_of c.args.s.now)) in
    let p = c.place_of in
    by_name (both seen c.args.v c.args.values.now (Ok c.in_ok-i.i)
    (sym c.in_ok-i.was ∙ ap (λ b. cond b (Err Taken) p.result) (sym (sym c.is_seen.ensures ∙ c.if-is_seen.false)) ∙ free seen _ _ p.result p.ensures.value (ap is_free c.in_ok-i.was)))
