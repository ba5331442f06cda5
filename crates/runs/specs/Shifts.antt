-- A column moved on by a place.
use Rattle.std.specs.Prelude.{◌≡◌, ℕ, zero, suc, cond, List, nat_lt, slice_index_or}
use Rattle.runs.specs.Views.{no_vector, zero_vector}
use Rattle.runs.specs.Reach.{reach_of}
use Rattle.runs.specs.declared.tables.Vector.{Vector}
use Rattle.runs.specs.declared.tables.Column.{Column}

-- the coefficient before place k, and zero before place 0
abbrev pub before : List Vector → ℕ → Vector
before vs zero = zero_vector
before vs (suc k) = slice_index_or vs k no_vector

-- the column c' is c shifted, and of degree d: what a column of degree d has is moved on, and the rest is left
abbrev pub Shifted : ℕ → Column → Column → Type 0
Shifted d c c' = (k : ℕ) → slice_index_or c'.coefficients k no_vector ≡ cond (nat_lt k (reach_of d)) (before c.coefficients k) (slice_index_or c.coefficients k no_vector)
