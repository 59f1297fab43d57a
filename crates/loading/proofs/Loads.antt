-- What a piece does, and the text that is left to load. Assumes nothing.
use Rattle.std.specs.Prelude.{None}
use Rattle.std.proofs.Common.{◌≡◌, ℕ, suc, ◌+◌, ◌-◌, ◌*◌, ◌/◌, ◌%◌, ◌<◌, ◌≤◌, Bool, true, false, ◌||◌, T, ◌⊎◌, List, [], ◌∷◌, ◌++◌, length, take, drop, sym, refl, ap, ◌∙◌, subst, inl, inr, ⊎_elim, append_assoc, arith, length-drop, drop-drop, take_at}
use Rattle.model.specs.declared.Literal.{Literal}
use Rattle.model.specs.declared.Literal.TheVariants.{Pos, Neg}
use Rattle.std.specs.List.{list_any, list_all, flat_map}
use Rattle.model.specs.Text.{literal_text, clause_text}
use Rattle.model.specs.Close.{literal_true, clause_true}
use Rattle.refutation.specs.declared.State.{State}
use Rattle.refutation.specs.Sound.{word_true, begun_true, Holds, Appended, Begun}
use Rattle.loading.specs.Loading.{word_end, word_of, spelled, Small, Read, Needs, Gives, Takes, Loads}
use Rattle.loading.specs.declared.Piece.{Piece}
use Rattle.loading.specs.declared.Piece.TheVariants.{End, Word}
use Rattle.model.proofs.Lists.{All, and_left, and_right, or-false, or_assoc}
use Rattle.loading.proofs.Words.{end_of, spelled_solid, to_end}

-- ---- a piece

module _ {a : List Bool} {p : Piece} {s : State} {st : List ℕ} {r : State} {st' ix' mk' : List ℕ} (h : Holds a r st' ix' mk') where
  pub wrong-takes : (r.refusal ≡ None → ⊥) → Takes a p s st r st' ix' mk'
  wrong-takes e = record { holds = h; before = λ z. absurd (e z); gives = λ z. absurd (e z) }

  pub word-takes : {w : ℕ} → p ≡ Word w → s.top + 2 ≤ s.at → (r.refusal ≡ None → Appended s st r st' w) → Takes a p s st r st' ix' mk'
  word-takes e b f = record { holds = h; before = λ z. (f z).taken; gives = λ z. subst (λ (q : Piece). Gives a q s st r st') (sym e) ((f z).more a b) }

  pub end-takes : p ≡ End → (r.refusal ≡ None → Begun s r st') → Takes a p s st r st' ix' mk'
  end-takes e f = record { holds = h; before = λ z. (f z).taken; gives = λ z. subst (λ (q : Piece). Gives a q s st r st') (sym e) ((f z).none a) }

pub end_needs : (a : List Bool) (p : Piece) (s : State) (st : List ℕ) → p ≡ End → Needs a p s st → T (begun_true a s.top s.at st)
end_needs a p s st e n = subst (λ (q : Piece). Needs a q s st) e n

-- ---- literals

pub literal-word : (a : List Bool) (l : Literal) → word_true a (word_of l) ≡ literal_true a l
unfolding word_true word_of
literal-word a (Pos v) =
    let h : 2 * v % 2 ≡ 0 = omega arith in
    let d : 2 * v / 2 ≡ v = omega arith in
    rw (h, d)
literal-word a (Neg v) =
    let h : (2 * v + 1) % 2 ≡ 1 = omega arith in
    let d : (2 * v + 1) / 2 ≡ v = omega arith in
    rw (h, d)

spelled-text : (l : Literal) → literal_text l ≡ spelled l ++ (32 ∷ [])
unfolding literal_text spelled
spelled-text (Pos v) = refl
spelled-text (Neg v) = refl

-- ---- what is left of the text, within a clause: x says whether a word of the clause begun is true

pub record Left (a : List Bool) (rest : List ℕ) (x : Bool) : Type 0 where
  pub literals : List Literal
  pub clauses : List (List Literal)
  pub is : rest ≡ flat_map literal_text literals ++ (48 ∷ 10 ∷ flat_map clause_text clauses)
  pub small : All Small literals
  pub smalls : All (All Small) clauses
  pub one : T (x || list_any (literal_true a) literals)
  pub all : T (list_all (clause_true a) clauses)

abbrev pub Rest : List Bool → List ℕ → ℕ → Bool → Type 0
Rest a text at x = (length text ≤ at) ⊎ Left a (drop at text) x

or_right : (x y : Bool) → T y → T (x || y)
or_right true y t = tt
or_right false y t = t

pub open_clauses : (a : List Bool) (text : List ℕ) (at : ℕ) (cs : List (List Literal)) (x : Bool) → drop at text ≡ flat_map clause_text cs
    → All (All Small) cs → T (list_all (clause_true a) cs) → Rest a text at x
unfolding clause_text clause_true
open_clauses a text at [] x e s t = inl (omega (arith, ap length e, length-drop at text))
open_clauses a text at (c ∷ cs) x e s t = inr (record {
  literals = c;
  clauses = cs;
  is = e ∙ append_assoc (flat_map literal_text c) (48 ∷ 10 ∷ []) (flat_map clause_text cs);
  small = s.0;
  smalls = s.1;
  one = or_right x (list_any (literal_true a) c) (and_left (list_any (literal_true a) c) (list_all (clause_true a) cs) t);
  all = and_right (list_any (literal_true a) c) (list_all (clause_true a) cs) t;
})

-- ---- one word more

pub data Next (a : List Bool) (text : List ℕ) (at k : ℕ) (p : Piece) (x : Bool) : Type 0 where
  clause : p ≡ End → T x → ((y : Bool) → Rest a text (at + k + 1) y) → Next a text at k p x
  word : (w : ℕ) → p ≡ Word w → ((y : Bool) → y ≡ (x || word_true a w) → Rest a text (at + k + 1) y) → Next a text at k p x

module _ (a : List Bool) (text : List ℕ) (at : ℕ) (x : Bool) (k : ℕ) (p : Piece) where
  pub next : Left a (drop at text) x → k ≡ word_end (take (length text - at) (drop at text)) → Read (take k (take (length text - at) (drop at text))) p → Next a text at k p x
  next l e r = go l.literals l.is l.small l.one
    where
      k-is : k ≡ word_end (drop at text)
      k-is = e ∙ ap word_end (to_end text at)

      read : Read (take k (drop at text)) p
      read = subst (λ (y : List ℕ). Read (take k y) p) (to_end text at) r

      past : drop (at + k + 1) text ≡ drop (k + 1) (drop at text)
      past = let f : at + k + 1 ≡ at + (k + 1) = omega arith in ap (λ (n : ℕ). drop n text) f ∙ sym (drop-drop (k + 1) at text)

      go : (ls : List Literal) → drop at text ≡ flat_map literal_text ls ++ (48 ∷ 10 ∷ flat_map clause_text l.clauses) → All Small ls → T (x || list_any (literal_true a) ls) → Next a text at k p x
      go [] i s o =
          let n : k ≡ 1 = k-is ∙ ap word_end i in
          clause (read.zero (ap (λ (j : ℕ). take j (drop at text)) n ∙ ap (take 1) i)) (subst T (or-false x) o)
          (λ y. open_clauses a text (at + k + 1) l.clauses y (past ∙ ap (λ (j : ℕ). drop (j + 1) (drop at text)) n ∙ ap (drop 2) i) l.smalls l.all)
      go (m ∷ ls) i s o =
          let R : List ℕ = flat_map literal_text ls ++ (48 ∷ 10 ∷ flat_map clause_text l.clauses) in
          let j : drop at text ≡ spelled m ++ (32 ∷ R) = i ∙ first m ls in
          let n : k ≡ length (spelled m) = k-is ∙ ap word_end j ∙ end_of (spelled m) (spelled_solid m) R in
          word (word_of m) (read.literal m s.0 (ap (λ (q : ℕ). take q (drop at text)) n ∙ ap (take (length (spelled m))) j ∙ take_at (spelled m) (32 ∷ R) (length (spelled m)) refl))
          (λ y q. inr (record {
            literals = ls;
            clauses = l.clauses;
            is = past ∙ ap (λ (d : ℕ). drop (d + 1) (drop at text)) n ∙ ap (drop (length (spelled m) + 1)) j ∙ behind (spelled m) R;
            small = s.1;
            smalls = l.smalls;
            one = subst (λ (b : Bool). T (b || list_any (literal_true a) ls)) (sym (q ∙ ap (λ (b : Bool). x || b) (literal-word a m))) (subst T (sym (or_assoc x (literal_true a m) (list_any (literal_true a) ls))) o);
            all = l.all;
          }))
        where
          first : (m : Literal) (ls : List Literal) → flat_map literal_text (m ∷ ls) ++ (48 ∷ 10 ∷ flat_map clause_text l.clauses) ≡ spelled m ++ (32 ∷ (flat_map literal_text ls ++ (48 ∷ 10 ∷ flat_map clause_text l.clauses)))
          first m ls =
              append_assoc (literal_text m) (flat_map literal_text ls) (48 ∷ 10 ∷ flat_map clause_text l.clauses)
              ∙ ap (λ (t : List ℕ). t ++ (flat_map literal_text ls ++ (48 ∷ 10 ∷ flat_map clause_text l.clauses))) (spelled-text m)
              ∙ append_assoc (spelled m) (32 ∷ []) (flat_map literal_text ls ++ (48 ∷ 10 ∷ flat_map clause_text l.clauses))

          behind : (w R : List ℕ) → drop (length w + 1) (w ++ (32 ∷ R)) ≡ R
          behind [] R = refl
          behind (b ∷ w) R = let f : length (b ∷ w) + 1 ≡ suc (length w + 1) = omega arith in ap (λ (n : ℕ). drop n (b ∷ w ++ (32 ∷ R))) f ∙ behind w R

-- ---- the loop

pub record Loading (text : List ℕ) (s₀ : State) (st₀ ix₀ mk₀ : List ℕ) (s : State) (st ix mk : List ℕ) (at : ℕ) : Type 0 where
  pub words : length st ≡ length st₀
  pub ids : length ix ≡ length ix₀
  pub marks : length mk ≡ length mk₀
  pub holds : (a : List Bool) (cs : List (List Literal)) → Loads a cs text → Holds a s₀ st₀ ix₀ mk₀ → Holds a s st ix mk
  pub left : (a : List Bool) (cs : List (List Literal)) → Loads a cs text → Holds a s₀ st₀ ix₀ mk₀ → s.refusal ≡ None → Rest a text at (begun_true a s.top s.at st)

pub loading_start : {text : List ℕ} {s : State} {st ix mk : List ℕ} → Loading text s st ix mk s st ix mk 0
loading_start {text} {s} {st} {ix} {mk} = record {
  words = refl;
  ids = refl;
  marks = refl;
  holds = λ a cs l h. h;
  left = λ a cs l h z. open_clauses a text 0 cs (begun_true a s.top s.at st) l.is l.small l.true;
}

module _ {text : List ℕ} {s₀ : State} {st₀ ix₀ mk₀ : List ℕ} {s : State} {st ix mk : List ℕ} {at : ℕ} (i : Loading text s₀ st₀ ix₀ mk₀ s st ix mk at) (inside : at < length text)
    (k : ℕ) (p : Piece) (e : k ≡ word_end (take (length text - at) (drop at text))) (rd : Read (take k (take (length text - at) (drop at text))) p)
    {r : State} {st' ix' mk' : List ℕ} (t : (a : List Bool) → Holds a s st ix mk → (s.refusal ≡ None → Needs a p s st) → Takes a p s st r st' ix' mk') where
  module _ (a : List Bool) (cs : List (List Literal)) (l : Loads a cs text) (h : Holds a s₀ st₀ ix₀ mk₀) where
    there : s.refusal ≡ None → Next a text at k p (begun_true a s.top s.at st)
    there z = ⊎_elim (λ o. absurd (omega arith)) (λ o. next a text at (begun_true a s.top s.at st) k p o e rd) (i.left a cs l h z)

    needs-of : Next a text at k p (begun_true a s.top s.at st) → Needs a p s st
    needs-of (clause q x f) = subst (λ (y : Piece). Needs a y s st) (sym q) x
    needs-of (word w q f) = subst (λ (y : Piece). Needs a y s st) (sym q) tt

    takes : Takes a p s st r st' ix' mk'
    takes = t a (i.holds a cs l h) (λ z. needs-of (there z))

    rest_of : r.refusal ≡ None → Next a text at k p (begun_true a s.top s.at st) → Rest a text (at + k + 1) (begun_true a r.top r.at st')
    rest_of z (clause q x f) = f (begun_true a r.top r.at st')
    rest_of z (word w q f) = f (begun_true a r.top r.at st') (subst (λ (y : Piece). Gives a y s st r st') q (takes.gives z))

    rest-next : r.refusal ≡ None → Rest a text (at + k + 1) (begun_true a r.top r.at st')
    rest-next z = rest_of z (there (takes.before z))

  pub loading-next : length st' ≡ length st → length ix' ≡ length ix → length mk' ≡ length mk → Loading text s₀ st₀ ix₀ mk₀ r st' ix' mk' (at + k + 1)
  loading-next x y w = record {
    words = x ∙ i.words;
    ids = y ∙ i.ids;
    marks = w ∙ i.marks;
    holds = λ a cs l h. (takes a cs l h).holds;
    left = λ a cs l h z. rest-next a cs l h z;
  }
