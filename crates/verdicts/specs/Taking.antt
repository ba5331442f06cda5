-- Which matrices of a list a run takes.
use Rattle.std.specs.Prelude.{ℕ, zero, suc, ◌*◌, List, take}
use Rattle.rings.specs.Arithmetic.{Arithmetic}
use Rattle.recurrences.specs.declared.phase.Phase.TheVariants.{Short, Running, Settled}
use Rattle.runs.specs.Standings.{count_of, phase_after}

module _ (a : Arithmetic) (N bound : ℕ) (list : List ℕ) where
  -- the codes of the first n matrices
  abbrev pub first_matrices : ℕ → List ℕ
  first_matrices n = take (n * (N * N)) list

  -- how many are taken in all, where the first n are and `more` follow: one after the other, while the run is running
  unfoldable pub taken_from : ℕ → ℕ → ℕ
  taken_from n zero = n
  taken_from n (suc more) =
      elim (phase_after a N bound (first_matrices n)) [ Short ↦ n | Running ↦ taken_from (suc n) more | Settled ↦ n ]

  abbrev pub taken_count : ℕ
  taken_count = taken_from 0 (count_of N list)

  -- the codes of the matrices taken
  abbrev pub taken_of : List ℕ
  taken_of = first_matrices taken_count
