-- "The limits below are named once and used by name." The code names them as constants of `Model`, and `Model::limits` is proved to give these.
use Rattle.std.specs.Prelude.{ℕ, cond, leb}
use Rattle.model.specs.declared.Limits.{Limits}

-- "s (groups, 1 to 256), c (constraint lines, 0 to 256)"; "H and k more", with k at most 16; "The longest sheet has 57,873 bytes"; by request 7
-- "n goes to 64 and the word of marks per group widens with it. With n above 32, s is at most 96", "65,536 bytes hold each block; V is at most 59,392"
abbrev pub limits : Limits
limits = record {
  word = 64;
  entrants = 64;
  narrow = 32;
  groups = 256;
  wide = 96;
  constraints = 256;
  members = 17;
  sheet = 57873;
  block = 65536;
  variables = 59392;
}

-- the most groups of a sheet of n entrants: "With n above 32, s is at most 96"
unfoldable pub groups_for : ℕ → ℕ
groups_for n = cond (leb n limits.narrow) limits.groups limits.wide
