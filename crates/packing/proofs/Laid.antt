-- Words laid in a slice: rows of words one after the other, or word by word; a table's words, and a model's. Assumes nothing.
use mathlib.Core.Path.{◌≡◌, refl, sym, ap, ap₂, ◌∙◌}
use mathlib.Core.List.{List, [], ◌∷◌, ◌++◌, append-nil, append_assoc}
use Prim.Native.Nat.{ℕ, suc, ◌+◌, ◌*◌, ◌≤◌, ◌<◌}
use native.Mathlib.Nat.{add-zero, zero-add, mul-suc}
use native.Mathlib.Numerals.{add-one}
use native.Mathlib.Omega.{arith}
use lib.ListN.{length, get_or, take, drop, set, length-append}
use lib.Seq.{sets, sets-eq, take-suc, take_all, length-take-le}
use borrow.Author.Tests.{le-leb}
use Rattle.model.specs.declared.Group.{Group}
use Rattle.model.specs.declared.Model.{Model}
use Rattle.std.specs.List.{flat_map}
use Rattle.model.specs.Limits.{limits}
use Rattle.model.proofs.Lists.{each_append}
use Rattle.packing.specs.Packing.{group_words, has_room, groups_laid, constraint_words, model_words, model_size, model_laid}

-- a run of stores after another
pub sets-append : (xs vs ws : List ℕ) (at : ℕ) → sets (sets xs at vs) (at + length vs) ws ≡ sets xs at (vs ++ ws)
sets-append xs [] ws at = rw (add-zero at)
sets-append xs (v ∷ vs) ws at =
    let e : at + suc (length vs) ≡ suc at + length vs = omega arith in
    rw e (sets-append (set xs at v) vs ws (suc at))

-- ---- rows of k words, one after the other

module _ {A : Type 0} (f : A → List ℕ) (k : ℕ) where
  -- a slice that held xs, after the words of i of s rows, from place `at` on
  pub record Laying (rows : List A) (s at : ℕ) (xs now : List ℕ) (i : ℕ) : Type 0 where
    pub passed : i ≤ s
    pub whole : s ≤ length rows
    pub room : at + k * s ≤ length xs
    pub long : length (flat_map f (take i rows)) ≡ k * i
    pub words : now ≡ sets xs at (flat_map f (take i rows))

  module _ (rows : List A) (s at : ℕ) (xs now : List ℕ) (i : ℕ) (l : Laying rows s at xs now i) where
    next-width : k * (i + 1) ≡ k * i + k
    next-width = ap (λ (j : ℕ). k * j) (add-one i) ∙ mul-suc k i

    pub laying-next : i < s → (d : A) (after : List ℕ) → length (f (get_or rows i d)) ≡ k → after ≡ sets now (at + k * i) (f (get_or rows i d))
        → Laying rows s at xs after (i + 1)
    laying-next h d after w e =
        let a = flat_map f (take i rows) in
        let ws = f (get_or rows i d) in
        let g : flat_map f (take (i + 1) rows) ≡ a ++ ws =
        rw (add-one, take-suc rows i d (omega (arith, l.whole))) (each_append f (take i rows) (get_or rows i d ∷ []) ∙ ap (λ (r : List ℕ). a ++ r) (append-nil ws)) in
        record {
          passed = omega arith;
          whole = l.whole;
          room = l.room;
          long = ap length g ∙ length-append a ws ∙ omega (arith, l.long, w, next-width);
          words =
              rw (e, l.words)
              (ap (λ (j : ℕ). sets (sets xs at a) (at + j) ws) (sym l.long) ∙ sets-append xs a ws at ∙ ap (sets xs at) (sym g));
        }

-- ---- the groups' words, where they fit

words-length : (gs : List Group) → length (flat_map group_words gs) ≡ 4 * length gs
words-length [] = refl
words-length (g ∷ gs) = omega (arith, words-length gs)

pub fitting : (groups : List Group) (s : ℕ) (table now : List ℕ) → s ≤ limits.groups → s ≤ length groups → 4 * s ≤ length table
    → now ≡ sets table 0 (flat_map group_words (take s groups)) → now ≡ groups_laid groups s table
unfolding has_room groups_laid
fitting groups s table now few w h e =
    let ws = flat_map group_words (take s groups) in
    let long : length ws ≡ 4 * s = words-length (take s groups) ∙ ap (λ (j : ℕ). 4 * j) (length-take-le s groups w) in
    rw (le-leb s limits.groups few, le-leb (4 * s) (length table) h)
    (e ∙ sets-eq ws table 0 (omega (arith, long)) ∙ ap (λ (j : ℕ). ws ++ drop j table) (zero-add (length ws) ∙ long))

-- ---- a model's words, where they fit

pub all_laid : (m : Model) (xs a b now : List ℕ) → model_size ≤ length xs → length m.groups ≡ limits.groups
    → length (flat_map constraint_words m.constraints) ≡ (2 + limits.members) * limits.constraints → a ≡ sets xs 0 (m.n ∷ m.s ∷ m.c ∷ [])
    → b ≡ sets a 3 (flat_map group_words (take limits.groups m.groups)) → now ≡ sets b (3 + 4 * limits.groups) (flat_map constraint_words m.constraints)
    → now ≡ model_laid m xs
unfolding model_laid model_words
all_laid m xs a b now h g c p q r =
    let head : List ℕ = m.n ∷ m.s ∷ m.c ∷ [] in
    let gs = flat_map group_words m.groups in
    let cs = flat_map constraint_words m.constraints in
    let all : take limits.groups m.groups ≡ m.groups = take_all limits.groups m.groups (omega (arith, g)) in
    let four-each : length gs ≡ 4 * limits.groups = words-length m.groups ∙ ap (λ (j : ℕ). 4 * j) g in
    let long : length (head ++ (gs ++ cs)) ≡ model_size = length-append head (gs ++ cs) ∙ omega (arith, length-append gs cs, four-each, c) in
    let x : b ≡ sets xs 0 (head ++ gs) = q ∙ ap (λ (l : List Group). sets a 3 (flat_map group_words l)) all ∙ ap (λ (l : List ℕ). sets l 3 gs) p ∙ sets-append xs head gs 0 in
    let at : 3 + 4 * limits.groups ≡ 0 + length (head ++ gs) = sym (omega (arith, length-append head gs, four-each)) in
    let y : now ≡ sets xs 0 (head ++ (gs ++ cs)) =
    r ∙ ap₂ (λ (l : List ℕ) (j : ℕ). sets l j cs) x at ∙ sets-append xs (head ++ gs) cs 0 ∙ ap (sets xs 0) (append_assoc head gs cs) in
    rw (le-leb model_size (length xs) h)
    (y ∙ sets-eq (head ++ (gs ++ cs)) xs 0 (omega (arith, long)) ∙ ap (λ (j : ℕ). head ++ (gs ++ cs) ++ drop j xs) (zero-add (length (head ++ (gs ++ cs))) ∙ long))
