-- Where a run stands. Everything follows from the field's arithmetic, the size N, the bound, and the codes of the
-- matrices taken, one matrix behind the other.
use Rattle.std.specs.Prelude.{ℕ, ◌+◌, ◌*◌, ◌/◌, ◌%◌, cond, List, [], ◌∷◌, length, nat_lt}
use Rattle.rings.specs.Arithmetic.{Arithmetic}
use Rattle.recurrences.specs.declared.phase.Phase.{Phase}
use Rattle.recurrences.specs.Columns.{Columns}
use Rattle.recurrences.specs.Degrees.{total, greatest, least}
use Rattle.recurrences.specs.Phases.{phase_at}
use Rattle.recurrences.specs.Reading.{matrices_in}
use Rattle.recurrences.specs.Run.{run}
use Rattle.recurrences.specs.Standing.{listed}
use Rattle.runs.specs.declared.standing.Standing.{Standing}
use Rattle.runs.specs.Operations.{operations_of}

-- how many matrices the codes hold
abbrev pub count_of : ℕ → List ℕ → ℕ
count_of N taken = length taken / (N * N)

abbrev pub columns_after : (a : Arithmetic) → ℕ → List ℕ → Columns (operations_of a).ring
columns_after a N taken = run (operations_of a) N N (matrices_in N N taken) (count_of N taken)

abbrev pub phase_after : Arithmetic → ℕ → ℕ → List ℕ → Phase
phase_after a N bound taken = phase_at (operations_of a).ring N N bound (columns_after a N taken)

-- the first N degrees, and 0 behind them
abbrev pub shown : ℕ → (ℕ → ℕ) → List ℕ
shown N d = cond (nat_lt 0 N) (d 0) 0 ∷ cond (nat_lt 1 N) (d 1) 0 ∷ cond (nat_lt 2 N) (d 2) 0 ∷ cond (nat_lt 3 N) (d 3) 0 ∷ []

-- of columns after n matrices
abbrev pub standing_with : (a : Arithmetic) → ℕ → ℕ → ℕ → Columns (operations_of a).ring → Standing
standing_with a N bound n s = record {
  phase = phase_at (operations_of a).ring N N bound s;
  taken = n;
  total = total N s.gen_degree;
  greatest = greatest N s.gen_degree;
  least = least N s.aux_degree;
  generator_degrees = shown N s.gen_degree;
  auxiliary_degrees = shown N s.aux_degree;
}

abbrev pub standing_after : Arithmetic → ℕ → ℕ → List ℕ → Standing
standing_after a N bound taken = standing_with a N bound (count_of N taken) (columns_after a N taken)

-- the codes of generator column j, counted from 0: its coefficients up to its degree, one behind the other
abbrev pub column_after : Arithmetic → ℕ → List ℕ → ℕ → List ℕ
column_after a N taken j = listed (N * ((columns_after a N taken).gen_degree j + 1)) (λ i. (columns_after a N taken).gen j (i / N) (i % N))
