-- A reader of DIMACS text, written from the published form: lines that begin with c are comments; the first other line is `p cnf V C`; after it come
-- numbers apart by blanks or newlines, a negative one for a negated variable, and 0 ends a clause, wherever lines end.
use Rattle.std.specs.Prelude.{ℕ, zero, suc, Bool, cond, not, ◌&&◌, ◌||◌, List, [], ◌∷◌, ◌++◌, eqb, length, get_or}
use Rattle.std.specs.Prelude.{Option, None, Some}
use Rattle.model.specs.declared.Literal.{Literal}
use Rattle.model.specs.declared.Literal.TheVariants.{Pos, Neg}
use Rattle.std.specs.List.{flat_map}
use Rattle.model.specs.Lists.{pairwise, those, is_empty}
use Rattle.model.specs.Sheet.{on_first, lines_of, digits_after}

-- what a DIMACS text says
pub record Formula : Type 0 where
  pub variables : ℕ
  pub clause_count : ℕ
  pub clauses : List (List Literal)

-- ---- numbers, apart by blanks

unfoldable pub is_blank : ℕ → Bool
is_blank b = eqb b 32 || eqb b 9 || eqb b 13

abbrev pub pieces : List ℕ → List (List ℕ)
pieces [] = []
pieces (b ∷ bs) = cond (is_blank b) ([] ∷ pieces bs) (on_first b (pieces bs))

unfoldable pub tokens : List ℕ → List (List ℕ)
tokens line = those (λ w. not (is_empty w)) (pieces line)

-- a number without a sign
unfoldable pub natural : List ℕ → Option ℕ
natural ds = cond (is_empty ds) None (digits_after 0 ds)

-- a number in the body: a literal, or 0 at the end of a clause
pub data Number : Type 0 where
  literal : Literal → Number
  end wrong : Number

abbrev pub signed_number : (ℕ → Literal) → Option ℕ → Number
signed_number sign None = wrong
signed_number sign (Some zero) = end
signed_number sign (Some (suc v)) = literal (sign (suc v))

unfoldable pub number : List ℕ → Number
number [] = wrong
number (b ∷ bs) = cond (eqb b 45) (signed_number Neg (natural bs)) (signed_number Pos (natural (b ∷ bs)))

-- ---- clauses

-- the clauses of the numbers that follow, the first of which goes on from `begun`
abbrev pub more : List Literal → Number → Option (List (List Literal)) → Option (List (List Literal))
more begun wrong rest = None
more begun (literal l) rest = rest
more begun end None = None
more begun end (Some cs) = Some (begun ∷ cs)

abbrev pub next_begun : List Literal → Number → List Literal
next_begun begun (literal l) = begun ++ (l ∷ [])
next_begun begun end = []
next_begun begun wrong = []

abbrev pub clauses_from : List Literal → List (List ℕ) → Option (List (List Literal))
clauses_from begun [] = cond (is_empty begun) (Some []) None
clauses_from begun (w ∷ ws) = more begun (number w) (clauses_from (next_begun begun (number w)) ws)

-- ---- the whole

unfoldable pub is_comment : List ℕ → Bool
is_comment line = eqb (get_or line 0 0) 99

abbrev pub formula : Option ℕ → Option ℕ → Option (List (List Literal)) → Option Formula
formula None c cs = None
formula (Some v) None cs = None
formula (Some v) (Some c) None = None
formula (Some v) (Some c) (Some cs) = Some (record { variables = v; clause_count = c; clauses = cs })

-- the words of the line `p cnf V C`, and the clauses after it
unfoldable pub with_header : List (List ℕ) → Option (List (List Literal)) → Option Formula
with_header ws cs =
    cond
    (eqb (length ws) 4 && pairwise eqb (get_or ws 0 []) (112 ∷ []) && pairwise eqb (get_or ws 1 []) (99 ∷ 110 ∷ 102 ∷ []))
    (formula (natural (get_or ws 2 [])) (natural (get_or ws 3 [])) cs)
    None

abbrev pub formula_of : List (List ℕ) → Option Formula
formula_of [] = None
formula_of (h ∷ ls) = with_header (tokens h) (clauses_from [] (flat_map tokens ls))

unfoldable pub read_dimacs : List ℕ → Option Formula
read_dimacs text = formula_of (those (λ l. not (is_comment l)) (lines_of text))
