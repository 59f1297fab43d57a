-- A line word by word: the entrants from place `at` on, and what each gives. Assumes nothing.
use Prim.Native.Nat.{ℕ, suc, ◌+◌, ◌-◌, ◌*◌, ◌/◌, ◌%◌, ◌^◌, ◌≤◌, ◌<◌}
use mathlib.Core.Path.{◌≡◌, refl, sym, ap, ◌∙◌}
use mathlib.Core.Bool.{Bool, true, false, cond}
use mathlib.Core.List.{List, [], ◌∷◌}
use native.Mathlib.Omega.{arith}
use borrow.Author.Tests.{eq-eqb, ne_eqb, lt-ltb, le-ltb}
use lib.Bits.{bit_or}
use lib.Dec.{eqb}
use lib.ListN.{length, take, drop, drop_of_length-le}
use lib.Seq.{drop-drop}
use Rattle.model.specs.Limits.{limits}
use Rattle.model.specs.Sheet.{on_first}
use Rattle.model.specs.Words.{bit, has}
use Rattle.model.specs.Assignment.{words_of}
use Rattle.model.proofs.Words.{shifted}
use Rattle.model.proofs.Loops.{drop-next}
use Rattle.line_form.specs.Form.{word_length}
use Rattle.line_form.proofs.Words.{rest-is, k-le}
use Rattle.std.specs.Prelude.{Result, Ok, Err}
use Rattle.group_lines.specs.declared.Fault.{Fault}
use Rattle.group_lines.specs.declared.Fault.TheVariants.{BadForm, Outside, EntrantTwice}
use Rattle.group_lines.specs.Words.{after_space}
use Rattle.group_lines.specs.Lines.{number_in, of_entrant, entrants_line}

-- the first word, and those after it
pub words-split : (l : List ℕ) → words_of l ≡ take (word_length l) l ∷ after_space (drop (word_length l) l)
words-split [] = refl
words-split (b ∷ bs) = go (eqb b 32) (words-split bs)
  where
    go : (t : Bool) → words_of bs ≡ take (word_length bs) bs ∷ after_space (drop (word_length bs) bs)
        → cond t ([] ∷ words_of bs) (on_first b (words_of bs)) ≡ take (cond t 0 (suc (word_length bs))) (b ∷ bs) ∷ after_space (drop (cond t 0 (suc (word_length bs))) (b ∷ bs))
    go true ih = refl
    go false ih = rw ih

-- ---- an entrant's word

module _ (n group e : ℕ) (others : Result ℕ Fault) where
  of-bad : e ≡ 0 → of_entrant n group e others ≡ Err BadForm
  unfolding of_entrant
  of-bad z = rw (eq-eqb e 0 z)

  module _ (some : e ≡ 0 → ⊥) where
    of-outside : n < e → of_entrant n group e others ≡ Err (Outside e)
    unfolding of_entrant
    of-outside h = rw (ne_eqb e 0 some, lt-ltb n e h)

    of-twice : e ≤ n → has group (e - 1) ≡ true → of_entrant n group e others ≡ Err (EntrantTwice e)
    unfolding of_entrant
    of-twice h t = rw (ne_eqb e 0 some, le-ltb n e h, t)

    pub of-new : e ≤ n → has group (e - 1) ≡ false → of_entrant n group e others ≡ others
    unfolding of_entrant
    of-new h t = rw (ne_eqb e 0 some, le-ltb n e h, t)

is_in : (w e : ℕ) → w / 2 ^ e % 2 ≡ 1 → has w e ≡ true
unfolding has bit
is_in w e h = eq-eqb _ _ h

is-out : (w e : ℕ) → (w / 2 ^ e % 2 ≡ 1 → ⊥) → has w e ≡ false
unfolding has bit
is-out w e h = ne_eqb _ _ h

-- ---- what the loop keeps: the whole line gives what its rest from `at` on gives after the entrants of `group`

pub record Halfway (line : List ℕ) (start n group at : ℕ) : Type 0 where
  pub place : at ≤ length line
  pub rest : entrants_line n 0 (after_space (drop start line)) ≡ entrants_line n group (after_space (drop at line))

module _ {line : List ℕ} {start n group at : ℕ} (h : Halfway line start n group at) where
  module _ (inside : at < length line) (k : ℕ) (ek : k ≡ word_length (take (length line - (at + 1)) (drop (at + 1) line))) where
    abbrev word : List ℕ
    word = take k (take (length line - (at + 1)) (drop (at + 1) line))

    word-here : after_space (drop at line) ≡ word ∷ after_space (drop (at + 1 + k) line)
    word-here =
        let r = rest-is line (at + 1) k (omega arith) ek in
        let j = ek ∙ ap word_length r in
        ap after_space (drop-next 0 line at inside) ∙ words-split (drop (at + 1) line) ∙ rw (r, sym j, drop-drop k (at + 1) line)

    pub inside-next : at + 1 + k ≤ length line
    inside-next = k-le line (at + 1) k (omega arith) ek

    module _ (e : ℕ) (ee : e ≡ number_in word) where
      here : entrants_line n 0 (after_space (drop start line)) ≡ of_entrant n group e (entrants_line n (bit_or group (2 ^ (e - 1))) (after_space (drop (at + 1 + k) line)))
      here = h.rest ∙ ap (entrants_line n group) word-here ∙ rw (sym ee)

      pub bad : e ≡ 0 → Err BadForm ≡ entrants_line n 0 (after_space (drop start line))
      bad z = sym (here ∙ of-bad n group e _ z)

      module _ (some : e ≡ 0 → ⊥) where
        pub past : n < e → Err (Outside e) ≡ entrants_line n 0 (after_space (drop start line))
        past o = sym (here ∙ of-outside n group e _ some o)

        pub twice : e ≤ n → group / 2 ^ (e - 1) % 2 ≡ 1 → Err (EntrantTwice e) ≡ entrants_line n 0 (after_space (drop start line))
        twice o t = sym (here ∙ of-twice n group e _ some o (is_in group (e - 1) t))

        pub next : e ≤ n → (group / 2 ^ (e - 1) % 2 ≡ 1 → ⊥) → n ≤ limits.word → Halfway line start n (bit_or group (1 * 2 ^ (e - 1) % 2 ^ limits.word)) (at + 1 + k)
        next o f w = record {
          place = inside-next;
          rest = here ∙ of-new n group e _ some o (is-out group (e - 1) f) ∙ rw (shifted (e - 1) (omega arith));
        }

  pub all_read : length line ≤ at → Ok group ≡ entrants_line n 0 (after_space (drop start line))
  all_read last = sym (h.rest ∙ ap (λ (l : List ℕ). entrants_line n group (after_space l)) (drop_of_length-le line last))
