-- The matrices that a run has taken, as the list of their codes.
use Rattle.std.specs.Prelude.{ℕ, ◌*◌, ◌/◌, ◌%◌, List}
use Rattle.recurrences.specs.Standing.{listed}
use Rattle.runs.specs.declared.tables.State.{State}
use Rattle.runs.specs.Views.{matrices_of}

abbrev pub recorded : State → List ℕ
recorded s =
    listed (s.count * (s.size * s.size)) (λ i. matrices_of s.size s.matrices (i / s.size / s.size) (i / s.size % s.size) (i % s.size))
