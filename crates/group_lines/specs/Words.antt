-- The words of a part of a line that begins with a space.
use Rattle.std.specs.Prelude.{ℕ, List, [], ◌∷◌}
use Rattle.model.specs.Assignment.{words_of}

-- none where nothing is left
abbrev pub after_space : List ℕ → List (List ℕ)
after_space [] = []
after_space (b ∷ bs) = words_of bs
