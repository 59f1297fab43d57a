-- Combining, request 5 of document 02: "A men's and a ladies' committee each hand in a sheet over the same entrants and groups. Combine them by the
-- desk's rule".
use Rattle.std.specs.Prelude.{ℕ, ◌+◌, max, min, Bool, cond, not, ◌&&◌, List, [], ◌∷◌, ◌++◌, leb, ltb, eqb}
use Rattle.std.specs.Int.Bits.{bit_and, bit_or}
use Rattle.model.specs.declared.Group.{Group}
use Rattle.model.specs.declared.Model.{Model}
use Rattle.model.specs.declared.Combined.{Combined}
use Rattle.model.specs.Lists.{pairwise, stop}
use Rattle.model.specs.Words.{inside}
use Rattle.model.specs.Limits.{limits}
use Rattle.model.specs.Model.{zero_model, table_of, constraints_of, in_range}
use Rattle.model.specs.SheetText.{clean_model}

-- ---- the desk's rule

-- "barred if either bars, fixed if either fixes, the larger low, the smaller high"
unfoldable pub combined_group : Group → Group → Group
combined_group a b = record {
  fixed = bit_or a.fixed b.fixed;
  possible = bit_and a.possible b.possible;
  low = max a.low b.low;
  high = min a.high b.high;
}

-- group by group
abbrev pub combined_table : List Group → List Group → List Group
combined_table [] ys = []
combined_table (x ∷ xs) [] = []
combined_table (x ∷ xs) (y ∷ ys) = combined_group x y ∷ combined_table xs ys

-- "the first sheet's lines and then the second's"
unfoldable pub both_of : Model → Model → Model
both_of a b = record {
  n = a.n;
  s = a.s;
  c = a.c + b.c;
  groups = combined_table (table_of a) (table_of b);
  constraints = constraints_of a ++ constraints_of b;
}

-- "zero past s, c and a line's groups", as the reader would give it
unfoldable pub combined_model : Model → Model → Model
combined_model a b = clean_model (both_of a b)

-- ---- a call: "31, n or s differ; 32, a barred mark meets a fixed one or low exceeds high; 33, more than 256 lines in all; after 20 for either model, in
-- this order"

-- no mark that one bars is fixed by the other, and the larger low is at most the smaller high
unfoldable pub fits : Group → Group → Bool
fits a b =
    inside a.fixed b.possible && inside b.fixed a.possible && leb (max a.low b.low) (min a.high b.high)

unfoldable pub combine_refusal : Model → Model → ℕ
combine_refusal a b =
    stop (not (in_range a && in_range b)) 20
    (stop (not (eqb a.n b.n && eqb a.s b.s)) 31
    (stop (not (pairwise fits (table_of a) (table_of b))) 32
    (stop (ltb limits.constraints (a.c + b.c)) 33 0)))

-- a refused call gives the all-zero model
unfoldable pub combined : Model → Model → Combined
combined a b =
    let r = combine_refusal a b in
    record { refusal = r; model = cond (eqb r 0) (combined_model a b) zero_model }
