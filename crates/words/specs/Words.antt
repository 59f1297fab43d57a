-- A model as words: n, s, c, then four words for each group and nineteen for each constraint, all of them, used or not.
use Rattle.std.specs.Prelude.{◌≡◌, ℕ, ◌+◌, ◌*◌, ◌≤◌, ◌<◌, cond, List, [], map, T, ltb, length, get_or}
use Rattle.model.specs.declared.Group.{Group}
use Rattle.model.specs.declared.Constraint.{Constraint}
use Rattle.model.specs.declared.Model.{Model}
use Rattle.model.specs.Lists.{range}
use Rattle.model.specs.Limits.{limits}
use Rattle.model.specs.Clauses.{member_count}
use Rattle.model.specs.Model.{in_range}
use Rattle.packing.specs.Packing.{model_size}

-- a word that is missing is 0
abbrev pub word_at : List ℕ → ℕ → ℕ
word_at words i = get_or words i 0

-- a number that 32 bits do not hold is out of its range: it is taken for the largest that they do, which no number of a model may be
unfoldable pub number : ℕ → ℕ
number w = cond (ltb w 4294967296) w 4294967295

abbrev pub number_at : List ℕ → ℕ → ℕ
number_at words i = number (word_at words i)

-- where the words of a group, and of a constraint, begin
abbrev pub group_at : ℕ → ℕ
group_at i = 3 + 4 * i

abbrev pub constraint_at : ℕ → ℕ
constraint_at j = 3 + 4 * limits.groups + (2 + limits.members) * j

abbrev pub group_from : List ℕ → ℕ → Group
group_from words i =
    let at = group_at i in
    record { fixed = word_at words at; possible = word_at words (at + 1); low = number_at words (at + 2); high = number_at words (at + 3) }

abbrev pub members_from : List ℕ → ℕ → List ℕ
members_from words at = map (λ i. number_at words (at + i)) (range 0 limits.members)

abbrev pub constraint_from : List ℕ → ℕ → Constraint
constraint_from words i =
    let at = constraint_at i in
    record { code = number_at words at; count = number_at words (at + 1); groups = members_from words (at + 2) }

-- a word for each group
unfoldable pub sets_from : List ℕ → List ℕ
sets_from words = map (word_at words) (range 0 limits.groups)

unfoldable pub model_of : List ℕ → Model
model_of words = record {
  n = number_at words 0;
  s = number_at words 1;
  c = number_at words 2;
  groups = map (group_from words) (range 0 limits.groups);
  constraints = map (constraint_from words) (range 0 limits.constraints);
}

-- fewer words than a model has are 20: they are taken for none, and so n for 0
unfoldable pub model_from : List ℕ → Model
model_from words = model_of (cond (ltb (length words) model_size) [] words)

-- ---- of a model in range each number that counts is the word that was handed over

pub record Kept (words : List ℕ) (m : Model) : Type 0 where
  pub whole : model_size ≤ length words
  pub entrants : m.n ≡ word_at words 0
  pub group_count : m.s ≡ word_at words 1
  pub constraint_count : m.c ≡ word_at words 2
  pub low : (i : ℕ) (g : Group) → i < m.s → (get_or m.groups i g).low ≡ word_at words (group_at i + 2)
  pub high : (i : ℕ) (g : Group) → i < m.s → (get_or m.groups i g).high ≡ word_at words (group_at i + 3)
  pub code : (j : ℕ) (c : Constraint) → j < m.c → (get_or m.constraints j c).code ≡ word_at words (constraint_at j)
  pub count : (j : ℕ) (c : Constraint) → j < m.c → (get_or m.constraints j c).code ≡ 6
      → (get_or m.constraints j c).count ≡ word_at words (constraint_at j + 1)
  pub member : (j i : ℕ) (c : Constraint) → j < m.c → i < member_count (get_or m.constraints j c).code (get_or m.constraints j c).count
      → get_or (get_or m.constraints j c).groups i 0 ≡ word_at words (constraint_at j + 2 + i)

unfoldable pub HandedOver : List ℕ → Model → Type 0
HandedOver words m = T (in_range m) → Kept words m
