-- How far a column goes.
use Rattle.std.specs.Prelude.{ℕ, ◌+◌, min}

-- how many coefficients a column of degree d has, at most the 130 that a table holds
abbrev pub reach_of : ℕ → ℕ
reach_of d = min d 129 + 1
