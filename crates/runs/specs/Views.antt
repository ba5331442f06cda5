-- What the tables hold, read as functions for matrices of N rows and columns. What lies outside is 0.
use Rattle.std.specs.Prelude.{ℕ, cond, List, [], ◌∷◌, nat_lt, slice_index, slice_index_or}
use Rattle.runs.specs.declared.tables.Vector.{Vector}
use Rattle.runs.specs.declared.tables.Column.{Column}
use Rattle.runs.specs.declared.tables.Matrix.{Matrix}

-- what is read past the end of a list
abbrev pub no_vector : Vector
no_vector = record { entries = [] }

abbrev pub no_column : Column
no_column = record { degree = 0; coefficients = [] }

abbrev pub no_matrix : Matrix
no_matrix = record { rows = [] }

abbrev pub zero_vector : Vector
zero_vector = record { entries = 0 ∷ 0 ∷ 0 ∷ 0 ∷ [] }

-- entry e
abbrev pub vector_of : ℕ → Vector → ℕ → ℕ
vector_of N v e = cond (nat_lt e N) (slice_index v.entries e) 0

-- entry e of coefficient k
abbrev pub coefficients_of : ℕ → List Vector → ℕ → ℕ → ℕ
coefficients_of N vs k = vector_of N (slice_index_or vs k no_vector)

abbrev pub column_of : ℕ → Column → ℕ → ℕ → ℕ
column_of N c = coefficients_of N c.coefficients

-- the degree of column j
abbrev pub degree_at : List Column → ℕ → ℕ
degree_at cs j = (slice_index_or cs j no_column).degree

-- entry c of row r
abbrev pub matrix_of : ℕ → Matrix → ℕ → ℕ → ℕ
matrix_of N m r = vector_of N (slice_index_or m.rows r no_vector)

-- entry c of row r of matrix l
abbrev pub matrices_of : ℕ → List Matrix → ℕ → ℕ → ℕ → ℕ
matrices_of N ms l = matrix_of N (slice_index_or ms l no_matrix)
