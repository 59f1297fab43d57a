-- Where two sheets clash, for the words of refusal 32: the first group that does not fit, and there the first entrant whom one bars and the other fixes.
use Rattle.std.specs.Prelude.{ℕ, suc, ◌-◌, Bool, cond, List, [], ◌∷◌}
use Rattle.std.specs.Int.Bits.{bit_or}
use Rattle.model.specs.declared.Group.{Group}
use Rattle.model.specs.declared.Model.{Model}
use Rattle.model.specs.Lists.{range}
use Rattle.model.specs.Words.{less, has}
use Rattle.model.specs.Limits.{limits}
use Rattle.model.specs.Model.{table_of}
use Rattle.model.specs.Combine.{fits}
use Rattle.combine.specs.declared.Clash.{Clash}

-- the first of some numbers that passes a test; 0 where none does
abbrev pub first_where : (ℕ → Bool) → List ℕ → ℕ
first_where p [] = 0
first_where p (x ∷ xs) = cond (p x) x (first_where p xs)

-- entrant e is bit e - 1
unfoldable pub first_entrant : ℕ → ℕ
first_entrant w = first_where (λ e. has w (e - 1)) (range 1 limits.word)

abbrev pub no_clash : Clash
no_clash = record { group = 0; entrant = 0 }

unfoldable pub clash_in : ℕ → Group → Group → Clash
clash_in g a b = record {
  group = g;
  entrant = first_entrant (bit_or (less a.fixed b.possible) (less b.fixed a.possible));
}

-- of two tables, the first group's number being g
abbrev pub first_clash : ℕ → List Group → List Group → Clash
first_clash g [] ys = no_clash
first_clash g (x ∷ xs) [] = no_clash
first_clash g (x ∷ xs) (y ∷ ys) = cond (fits x y) (first_clash (suc g) xs ys) (clash_in g x y)

unfoldable pub clash_of : Model → Model → Clash
clash_of a b = first_clash 1 (table_of a) (table_of b)
