-- The tables of a run that has taken nothing.
use Rattle.std.specs.Prelude.{ℕ, [], ◌∷◌, replicate, slice_set}
use Rattle.runs.specs.Views.{zero_vector}
use Rattle.runs.specs.declared.tables.Column.{Column}
use Rattle.runs.specs.declared.tables.Matrix.{Matrix}
use Rattle.runs.specs.declared.tables.State.{State}

-- the zero column, of degree 1
abbrev pub zero_column : Column
zero_column = record { degree = 1; coefficients = replicate 130 zero_vector }

abbrev pub zero_matrix : Matrix
zero_matrix = record { rows = replicate 4 zero_vector }

-- the column of degree 0 whose constant coefficient is unit vector j, and whose others are zero
abbrev pub unit_column : ℕ → Column
unit_column j = record { degree = 0; coefficients = slice_set (replicate 130 zero_vector) 0 (record { entries = slice_set (replicate 4 0) j 1 }) }

-- unit columns, and zero columns
abbrev pub started : ℕ → State
started N = record {
  size = N;
  count = 0;
  matrices = replicate 128 zero_matrix;
  columns = record {
    gens = unit_column 0 ∷ unit_column 1 ∷ unit_column 2 ∷ unit_column 3 ∷ [];
    auxs = replicate 4 zero_column;
  };
}
