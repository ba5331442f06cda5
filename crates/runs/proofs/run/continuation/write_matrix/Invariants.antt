use Rattle.std.proofs.Common.{◌≡◌, ℕ, ◌+◌, ◌/◌, ◌%◌, ◌<◌, get_or}
use Rattle.runs.specs.Equations.{matrix_of}
use Rattle.runs.proofs.run.continuation.write_matrix.Given as goal

abbrev pub invariant-loop-t : goal.invariant-loop-t
invariant-loop-t l =
    ((x : ℕ) → x < l.start → get_or l.place x 0 ≡ get_or l.initial.place x 0)
    × ((t : ℕ) → t < l.t → get_or l.place (l.start + t) 0 ≡ matrix_of l.matrix (t / l.size) (t % l.size))
