-- The text of a run of blocks is the text of clauses that a satisfying assignment makes true. Assumes nothing.
use Prim.Native.Nat.{ℕ, suc, ◌+◌, ◌-◌, ◌≤◌, ◌<◌}
use mathlib.Core.Path.{◌≡◌, refl, sym, ap, ◌∙◌, subst}
use mathlib.Core.Bool.{Bool, false, cond}
use mathlib.Core.List.{List, ◌++◌}
use native.Mathlib.Omega.{arith}
use borrow.Author.Tests.{ne_eqb}
use lib.Dec.{T, eqb}
use lib.ListN.{length, take, drop}
use lib.Seq.{take_at}
use Rattle.model.specs.declared.Literal.{Literal}
use Rattle.model.specs.declared.Model.{Model}
use Rattle.std.specs.List.{list_all, flat_map}
use Rattle.model.specs.Lists.{range}
use Rattle.model.specs.Propagate.{Settled}
use Rattle.model.specs.Cnf.{variable_count, block_count, block_clauses, clauses}
use Rattle.model.specs.Text.{clause_text, block_text}
use Rattle.model.specs.Close.{clause_true, satisfying}
use Rattle.model.specs.Model.{in_range}
use Rattle.model.proofs.Lists.{T_true, All, all-imp, all_left, all_right, and_left, and_right, every_append, each_append, each-each, each-range_ext, range-append}
use Rattle.encoding_laws.proofs.Ranges.{In, variables-in}
use Rattle.encoding_laws.proofs.Bounds.{variables-bound}
use Rattle.cnf.specs.declared.Run.{Run}
use Rattle.cnf.specs.Run.{text_to, run_to, buffer_to, run_length, run_text, run_of, run_buffer}
use Rattle.cnf.proofs.Runs.{run_ends}
use Rattle.loading.specs.Loading.{Small, Loads}
use Rattle.refutation.specs.declared.State.{State}
use Rattle.refutation.specs.Sound.{Holds}

-- ---- the blocks of a run

abbrev pub run-clauses : Model → ℕ → ℕ → List (List Literal)
run-clauses m b n = flat_map (block_clauses m) (range b n)

-- the text of blocks from 1 on
blocks_text : (m : Model) (b n : ℕ) → 1 ≤ b → flat_map (block_text m) (range b n) ≡ flat_map clause_text (run-clauses m b n)
unfolding block_text
blocks_text m b n h =
    each-range_ext (block_text m) (λ k. flat_map clause_text (block_clauses m k)) b n
    (λ k l u. let e : eqb k 0 ≡ false = ne_eqb k 0 (λ z. omega arith) in rw e)
    ∙ sym (each-each clause_text (block_clauses m) (range b n))

-- the clauses of a run are some of the listing's
split : (m : Model) (b n k : ℕ) → 1 ≤ b → block_count m ≡ (b - 1) + (n + k) → clauses m ≡ run-clauses m 1 (b - 1) ++ (run-clauses m b n ++ run-clauses m (b + n) k)
unfolding clauses
split m b n k h e =
    let f : 1 + (b - 1) ≡ b = omega arith in
    ap (λ (j : ℕ). run-clauses m 1 j) e
    ∙ ap (flat_map (block_clauses m)) (range-append 1 (b - 1) (n + k))
    ∙ each_append (block_clauses m) (range 1 (b - 1)) (range (1 + (b - 1)) (n + k))
    ∙ ap (λ (j : ℕ). run-clauses m 1 (b - 1) ++ run-clauses m j (n + k)) f
    ∙ ap (λ (t : List (List Literal)). run-clauses m 1 (b - 1) ++ t)
    (ap (flat_map (block_clauses m)) (range-append b n k) ∙ each_append (block_clauses m) (range b n) (range (b + n) k))

to_small : (v : ℕ) → v < 100000 → (cs : List (List Literal)) → All (All (In 1 (suc v))) cs → All (All Small) cs
to_small v h cs t = all-imp (All (In 1 (suc v))) (All Small) (λ c u. all-imp (In 1 (suc v)) Small (λ l w. record { some = w.0; few = let x = w.1 in omega arith }) c u) cs t

-- ---- a run

module _ (m : Model) (q : Settled m) (b room : ℕ) (h : 1 ≤ b) (l : b ≤ block_count m) (a : List Bool) (t : T (satisfying m a)) where
  run-loads : Loads a (run-clauses m b (run_length m b room)) (run_text m b room)
  unfolding run_text text_to run_of run_to satisfying
  run-loads =
      let n = run_length m b room in
      let k = block_count m + 1 - (b + n) in
      let p = run-clauses m 1 (b - 1) in
      let r = run-clauses m b n in
      let w = run-clauses m (b + n) k in
      let s = split m b n k h (omega (arith, run_ends m b room (omega arith))) in
      let P : List Literal → Type 0 = All (In 1 (suc (variable_count m))) in
      record {
        is = blocks_text m b n h;
        small = to_small (variable_count m) (omega (arith, variables-bound m q)) r (all_left P r w (all_right P p (r ++ w) (subst (All P) s (variables-in m q))));
        true = and_left (list_all (clause_true a) r) (list_all (clause_true a) w)
            (subst T (every_append (clause_true a) r w)
            (and_right (list_all (clause_true a) p) (list_all (clause_true a) (r ++ w)) (subst T (ap (list_all (clause_true a)) s ∙ every_append (clause_true a) p (r ++ w)) t)));
      }

-- a settled model's last block
pub last-is : (m : Model) → Settled m → (last : ℕ) → last ≡ cond (in_range m) (block_count m) 0 → last ≡ block_count m
last-is m q last e = e ∙ ap (λ (b : Bool). cond b (block_count m) 0) (T_true (in_range m) q.in_range_lem)

-- the part of the buffer that a run wrote
run-part : (m : Model) (b : ℕ) (buf after : List ℕ) (r : Run) → r ≡ run_of m b (length buf) → after ≡ run_buffer m b buf → take r.length after ≡ run_text m b (length buf)
unfolding run_of run_to run_text run_buffer buffer_to
run-part m b buf after r e q =
    let n : r.length ≡ length (run_text m b (length buf)) = ap (λ (x : Run). x.length) e in
    ap (λ (k : ℕ). take k after) n ∙ ap (take (length (run_text m b (length buf)))) q
    ∙ take_at (run_text m b (length buf)) (drop (length (run_text m b (length buf))) buf) (length (run_text m b (length buf))) refl

-- a run loaded, for every satisfying assignment
pub part_loads : (m : Model) → Settled m → (b : ℕ) → 1 ≤ b → b ≤ block_count m → (buf after : List ℕ) (r : Run) → r ≡ run_of m b (length buf) → after ≡ run_buffer m b buf
    → (a : List Bool) → T (satisfying m a) → Loads a (run-clauses m b (run_length m b (length buf))) (take r.length after)
part_loads m q b h l buf after r e f a t =
    subst (λ (x : List ℕ). Loads a (run-clauses m b (run_length m b (length buf))) x) (sym (run-part m b buf after r e f)) (run-loads m q b (length buf) h l a t)

-- ---- the loop

pub record LoadedTo (m : Model) (s₀ : State) (text₀ st₀ ix₀ mk₀ : List ℕ) (s : State) (text st ix mk : List ℕ) (x : ℕ) : Type 0 where
  pub from : 1 ≤ x
  pub fits : x < 4294967296
  pub bytes : length text ≡ length text₀
  pub words : length st ≡ length st₀
  pub numbers : length ix ≡ length ix₀
  pub literals : length mk ≡ length mk₀
  pub holds : Settled m → (a : List Bool) → T (satisfying m a) → Holds a s₀ st₀ ix₀ mk₀ → Holds a s st ix mk
