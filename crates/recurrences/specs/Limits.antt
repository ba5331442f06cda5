-- The limits on what is taken.
use Rattle.std.specs.Prelude.{ℕ}

-- the greatest size of a matrix
abbrev pub greatest_size : ℕ
greatest_size = 4

-- the greatest bound of a run, and the greatest degree of a column
abbrev pub greatest_bound : ℕ
greatest_bound = 64

-- the most matrices that a run continues by in one call
abbrev pub greatest_continuation : ℕ
greatest_continuation = 64
