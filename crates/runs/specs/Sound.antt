-- What the tables of a run always satisfy.
use Rattle.std.specs.Prelude.{◌≡◌, ℕ, ◌<◌, ◌≤◌, slice_index_or}
use Rattle.rings.specs.Arithmetic.{Arithmetic}
use Rattle.recurrences.specs.Columns.{Columns}
use Rattle.recurrences.specs.Run.{run}
use Rattle.runs.specs.Operations.{operations_of}
use Rattle.runs.specs.Views.{no_column, column_of, degree_at, matrices_of}
use Rattle.runs.specs.declared.tables.State.{State}

-- the run of the matrices taken, by the definition
abbrev pub run_of : (a : Arithmetic) → State → Columns (operations_of a).ring
run_of a s = run (operations_of a) s.size s.size (matrices_of s.size s.matrices) s.count

-- the entries of the matrices are codes
abbrev pub CodesIn : Arithmetic → State → Type 0
CodesIn a s = (l r c : ℕ) → matrices_of s.size s.matrices l r c < a.size

-- the columns and their degrees are those of the run; j is the number of a column
abbrev pub GensIn : Arithmetic → State → Type 0
GensIn a s = (j : (n : ℕ) × (n < s.size)) (k e : ℕ) → column_of s.size (slice_index_or s.columns.gens j.0 no_column) k e ≡ (run_of a s).gen j.0 k e

abbrev pub GenDegreesIn : Arithmetic → State → Type 0
GenDegreesIn a s = (j : ℕ) → j < s.size → degree_at s.columns.gens j ≡ (run_of a s).gen_degree j

abbrev pub AuxsIn : Arithmetic → State → Type 0
AuxsIn a s = (j : (n : ℕ) × (n < s.size)) (k e : ℕ) → column_of s.size (slice_index_or s.columns.auxs j.0 no_column) k e ≡ (run_of a s).aux j.0 k e

abbrev pub AuxDegreesIn : Arithmetic → State → Type 0
AuxDegreesIn a s = (j : ℕ) → j < s.size → degree_at s.columns.auxs j ≡ (run_of a s).aux_degree j

pub record Sound (a : Arithmetic) (s : State) : Type 0 where
  pub some : 1 ≤ s.size
  pub small : s.size ≤ 4
  pub few : s.count ≤ 128
  pub codes : CodesIn a s
  pub gens : GensIn a s
  pub gen_degrees : GenDegreesIn a s
  pub auxs : AuxsIn a s
  pub aux_degrees : AuxDegreesIn a s
