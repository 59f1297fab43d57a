-- The formula's clauses, read back from the text of its blocks.
use Rattle.std.specs.Prelude.{None, ◌≡◌, ℕ, suc, ◌+◌, ◌*◌, ◌<◌, ◌≤◌, Bool, false, cond, ◌||◌, T, List, [], ◌∷◌, ◌==◌}
use Rattle.model.specs.declared.Literal.{Literal}
use Rattle.model.specs.declared.Literal.TheVariants.{Pos, Neg}
use Rattle.std.specs.List.{list_all, flat_map}
use Rattle.model.specs.Assignment.{variable}
use Rattle.model.specs.Text.{decimal, clause_text}
use Rattle.model.specs.Close.{clause_true}
use Rattle.model.proofs.Lists.{All}
use Rattle.refutation.specs.declared.State.{State}
use Rattle.refutation.specs.Sound.{word_true, begun_true, Holds}
use Rattle.loading.specs.declared.Piece.{Piece}
use Rattle.loading.specs.declared.Piece.TheVariants.{Wrong, End, Word}

-- how many bytes stand before the first space or byte 10
abbrev pub word_end : List ℕ → ℕ
word_end [] = 0
word_end (b ∷ bs) = cond (b == 32 || b == 10) 0 (suc (word_end bs))

-- a literal as a word of the store, and as the listing has it, without its space
unfoldable pub word_of : Literal → ℕ
word_of (Pos v) = 2 * v
word_of (Neg v) = 2 * v + 1

unfoldable pub spelled : Literal → List ℕ
spelled (Pos v) = decimal v
spelled (Neg v) = 45 ∷ decimal v

-- a literal of a listing: its variables are from 1 on, and far below this
pub record Small (l : Literal) : Type 0 where
  pub some : 1 ≤ variable l
  pub few : variable l < 100000

-- what a word is
pub record Read (w : List ℕ) (p : Piece) : Type 0 where
  pub literal : (l : Literal) → Small l → w ≡ spelled l → p ≡ Word (word_of l)
  pub zero : w ≡ 48 ∷ [] → p ≡ End

-- a clause is stored only where one of its literals is true
abbrev pub Needs : List Bool → Piece → State → List ℕ → Type 0
Needs a Wrong s store = Unit {0}
Needs a (Word w) s store = Unit {0}
Needs a End s store = T (begun_true a s.top s.at store)

-- a word is appended to the clause begun, or another is begun
abbrev pub Gives : List Bool → Piece → State → List ℕ → State → List ℕ → Type 0
Gives a Wrong s store r store' = ⊥
Gives a (Word w) s store r store' = begun_true a r.top r.at store' ≡ (begun_true a s.top s.at store || word_true a w)
Gives a End s store r store' = begun_true a r.top r.at store' ≡ false

pub record Takes (a : List Bool) (p : Piece) (s : State) (store : List ℕ) (r : State) (store' index' marks' : List ℕ) : Type 0 where
  pub holds : Holds a r store' index' marks'
  pub before : r.refusal ≡ None → s.refusal ≡ None
  pub gives : r.refusal ≡ None → Gives a p s store r store'

-- the text of clauses that are true
pub record Loads (a : List Bool) (cs : List (List Literal)) (text : List ℕ) : Type 0 where
  pub is : text ≡ flat_map clause_text cs
  pub small : All (All Small) cs
  pub true : T (list_all (clause_true a) cs)
