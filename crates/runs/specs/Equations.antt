-- Linear equations for a matrix, as the tables hold them, and a matrix that solves them. What is read past the end of a table is 0.
use Rattle.std.specs.Prelude.{ℕ, List, slice_index, slice_index_or}
use Rattle.runs.specs.Views.{no_vector}
use Rattle.runs.specs.declared.tables.Vector.{Vector}
use Rattle.runs.specs.declared.tables.Matrix.{Matrix}
use Rattle.runs.specs.declared.equation.Equation.{Equation}

-- what is read past the end of a list of equations
abbrev pub no_equation : Equation
no_equation = record { vector = no_vector; values = no_vector }

-- the two sides of an equation: on the left the vector that the matrix is applied to, on the right the values that it gives
pub data Side : Type 0 where
  left : Side
  right : Side

abbrev pub side_of : Equation → Side → Vector
side_of q left = q.vector
side_of q right = q.values

-- entry e of a vector
abbrev pub entries_of : Vector → ℕ → ℕ
entries_of v e = slice_index v.entries e

-- entry e of a side
abbrev pub equation_of : Equation → Side → ℕ → ℕ
equation_of q s = entries_of (side_of q s)

-- entry e of a side of equation j
abbrev pub equations_of : List Equation → ℕ → Side → ℕ → ℕ
equations_of qs j = equation_of (slice_index_or qs j no_equation)

-- entry c of row r of a matrix
abbrev pub matrix_of : Matrix → ℕ → ℕ → ℕ
matrix_of x r = entries_of (slice_index_or x.rows r no_vector)
