-- A place that is written into.
use Rattle.std.specs.Prelude.{ℕ, ◌+◌, List, ◌++◌, length, take, drop}

-- the place with a text written from at on; all before it and behind it is as it was
abbrev pub written : {X : Type 0} → ℕ → List X → List X → List X
written at text place = take at place ++ (text ++ drop (at + length text) place)
