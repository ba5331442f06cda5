use Rattle.std.proofs.Common.{◌≡◌, ℕ, ◌+◌, ◌<◌, ◌≤◌, get_or}
use Rattle.runs.specs.Views.{no_column, degree_at}
use Rattle.runs.specs.Shifts.{Shifted}
use Rattle.runs.proofs.shift.shift.Given as goal

abbrev pub invariant-loop-column : goal.invariant-loop-column
invariant-loop-column l =
    ((j : ℕ) → j < l.column-index → Shifted (degree_at l.column-items j) (get_or l.fn.columns j no_column) (get_or l.column-items j no_column))
    × ((j : ℕ) → j < l.column-index → degree_at l.column-items j ≡ degree_at l.fn.columns j + 1)
    × ((j : ℕ) → l.column-index ≤ j → j < l.size → get_or l.column-items j no_column ≡ get_or l.fn.columns j no_column)
