-- The matrix that continues a list by given columns.
use Rattle.std.specs.Prelude.{◌≡◌, ℕ, ◌<◌}
use Rattle.recurrences.specs.Operations.{Operations}
use Rattle.recurrences.specs.Discrepancy.{Matrices, Column, discrepancy}
use Rattle.recurrences.specs.Choice.{put}

-- X, of R rows and C columns, continues the list M at place l by the C columns h with nominal degrees d:
-- with X as matrix l, the discrepancy of each column at place l is zero
abbrev pub Continues : (O : Operations) → ℕ → ℕ → Matrices O → ℕ → (ℕ → Column O) → (ℕ → ℕ) → (ℕ → ℕ → O.K) → Type 0
Continues O R C M l h d X = (j r : ℕ) → j < C → r < R → discrepancy O C (put l X M) (h j) (d j) l r ≡ O.𝟘
