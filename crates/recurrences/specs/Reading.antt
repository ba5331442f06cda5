-- How matrices and columns stand in a list of codes. What lies outside of them is 0.
use Rattle.std.specs.Prelude.{ℕ, ◌+◌, ◌*◌, cond, List, nat_lt, slice_index}

-- the matrices of R rows and C columns stand one behind the other, each row by row
abbrev pub matrices_in : ℕ → ℕ → List ℕ → ℕ → ℕ → ℕ → ℕ
matrices_in R C codes l r c = cond (nat_lt r R) (cond (nat_lt c C) (slice_index codes ((l * R + r) * C + c)) 0) 0

-- the coefficients of a column stand one behind the other, each of C codes
abbrev pub column_in : ℕ → List ℕ → ℕ → ℕ → ℕ
column_in C codes k c = cond (nat_lt c C) (slice_index codes (k * C + c)) 0
