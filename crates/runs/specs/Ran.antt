-- A run takes a matrix only while it is running.
use Rattle.std.specs.Prelude.{◌≡◌, ℕ, ◌<◌, Bool, true, false}
use Rattle.rings.specs.Arithmetic.{Arithmetic}
use Rattle.recurrences.specs.declared.phase.Phase.{Phase}
use Rattle.recurrences.specs.declared.phase.Phase.TheVariants.{Short, Running, Settled}
use Rattle.recurrences.specs.Phases.{phase_at}
use Rattle.recurrences.specs.Run.{run}
use Rattle.runs.specs.declared.tables.State.{State}
use Rattle.runs.specs.Operations.{operations_of}
use Rattle.runs.specs.Views.{matrices_of}

abbrev pub is_running : Phase → Bool
is_running Short = false
is_running Running = true
is_running Settled = false

-- the run was running before each matrix that it took
abbrev pub RanIn : Arithmetic → ℕ → State → Type 0
RanIn a bound s = (i : ℕ) → i < s.count
    → is_running (phase_at (operations_of a).ring s.size s.size bound (run (operations_of a) s.size s.size (matrices_of s.size s.matrices) i)) ≡ true
