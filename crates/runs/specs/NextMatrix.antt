-- The linear equations for the matrix that continues a list of matrices at place l: one equation for each generator column.
use Rattle.std.specs.Prelude.{ℕ, suc, ◌-◌, min, cond, List, ◌++◌, get_or, nat_lt, slice_index_or}
use Rattle.rings.specs.Arithmetic.{Arithmetic}
use Rattle.recurrences.specs.Reading.{matrices_in}
use Rattle.recurrences.specs.Sums.{sum}
use Rattle.runs.specs.Equations.{Side, left, right, entries_of}
use Rattle.runs.specs.Operations.{operations_of}
use Rattle.runs.specs.Recorded.{recorded}
use Rattle.runs.specs.Views.{no_vector, no_column, column_of, degree_at}
use Rattle.runs.specs.declared.tables.State.{State}

-- the matrices taken and those in `place` behind them
abbrev pub matrices_with : State → List ℕ → ℕ → ℕ → ℕ → ℕ
matrices_with s place = matrices_in s.size s.size (recorded s ++ place)

-- entry r of what the coefficients of the column f of degree d, without the constant one, give at place l:
-- of M_(l-1) f_1 + M_(l-2) f_2 + …, ending at f_k where k is the smaller of l and d
abbrev pub behind : Arithmetic → ℕ → (ℕ → ℕ → ℕ → ℕ) → (ℕ → ℕ → ℕ) → ℕ → ℕ → ℕ → ℕ
behind a N M f d l r = sum (operations_of a).ring (min l d) (λ k. sum (operations_of a).ring N (λ c. a.product (M (l - suc k) r c) (f (suc k) c)))

-- entry e of a side of equation j: the matrix takes the constant coefficient of column j to the opposite of what the others give
abbrev pub equation_for : Arithmetic → State → List ℕ → ℕ → ℕ → Side → ℕ → ℕ
equation_for a s place l j left e = entries_of (slice_index_or (get_or s.columns.gens j no_column).coefficients 0 no_vector) e
equation_for a s place l j right e =
    cond (nat_lt e s.size) (a.opposite (behind a s.size (matrices_with s place) (column_of s.size (slice_index_or s.columns.gens j no_column)) (degree_at s.columns.gens j) l e)) 0
