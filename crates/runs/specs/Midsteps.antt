-- The tables in the midst of a step, against the definition of the step, for matrices of N rows and columns.
use Rattle.std.specs.Prelude.{◌≡◌, ℕ, ◌<◌, ◌≤◌, Bool, false, cond, List, slice_index, slice_index_or}
use Rattle.recurrences.specs.Columns.{Columns}
use Rattle.recurrences.specs.Pivot.{Midstep, gen_entry, aux_entry}
use Rattle.recurrences.specs.Run.{entry_at}
use Rattle.rings.specs.Arithmetic.{Arithmetic}
use Rattle.runs.specs.Operations.{operations_of}
use Rattle.runs.specs.Views.{no_column, column_of, degree_at}
use Rattle.runs.specs.declared.tables.Columns.{Columns as Tables}

-- the tables hold the first N columns of each kind, with their degrees
pub record Holds (a : Arithmetic) (N : ℕ) (c : Tables) (s : Columns (operations_of a).ring) : Type 0 where
  pub gens : (j : ℕ) → j < N → column_of N (slice_index_or c.gens j no_column) ≡ s.gen j
  pub gen_degrees : (j : ℕ) → j < N → degree_at c.gens j ≡ s.gen_degree j
  pub auxs : (j : ℕ) → j < N → column_of N (slice_index_or c.auxs j no_column) ≡ s.aux j
  pub aux_degrees : (j : ℕ) → j < N → degree_at c.auxs j ≡ s.aux_degree j

-- and which generator columns are open
pub record Matches (a : Arithmetic) (N : ℕ) (c : Tables) (opened : List Bool) (t : Midstep (operations_of a).ring) : Type 0 where
  pub columns : Holds a N c t.columns
  pub open_alike : (j : ℕ) → j < N → slice_index_or opened j false ≡ t.opened j

-- a column of degree d that a table holds whole: its entries are codes, and zero beyond its degree and from N on
pub record Tabular (a : Arithmetic) (N d : ℕ) (f : ℕ → ℕ → ℕ) : Type 0 where
  pub codes : (k e : ℕ) → f k e < a.size
  pub ends : (k e : ℕ) → d < k → f k e ≡ 0
  pub narrow : (k e : ℕ) → N ≤ e → f k e ≡ 0
  pub low : d ≤ 128

-- each column is such
pub record AllTabular (a : Arithmetic) (N : ℕ) (s : Columns (operations_of a).ring) : Type 0 where
  pub gens : (j : ℕ) → j < N → Tabular a N (s.gen_degree j) (s.gen j)
  pub auxs : (j : ℕ) → j < N → Tabular a N (s.aux_degree j) (s.aux j)

-- before row i of the step for matrix n of M: the tables match t, es are the entries of the open generator columns,
-- with 0 for the others, and y is the entry of the auxiliary column
pub record Ready (a : Arithmetic) (N : ℕ) (M : ℕ → ℕ → ℕ → ℕ) (n i : ℕ) (es : List ℕ) (y : ℕ) (c : Tables) (opened : List Bool) (t : Midstep (operations_of a).ring) : Type 0 where
  pub alike : Matches a N c opened t
  pub tabular : AllTabular a N t.columns
  pub entries : (j : ℕ) → j < N → slice_index es j ≡ cond (t.opened j) (gen_entry (operations_of a).ring N (entry_at (operations_of a).ring N M n) t i j) 0
  pub entry : y ≡ aux_entry (operations_of a).ring N (entry_at (operations_of a).ring N M n) t i
