-- What it is to generate a list of matrices.
use Rattle.std.specs.Prelude.{◌≡◌, ℕ, ◌<◌}
use Rattle.recurrences.specs.Operations.{Operations}
use Rattle.recurrences.specs.Sums.{sum}
use Rattle.recurrences.specs.Discrepancy.{Matrices, Column, Fits}
use Rattle.recurrences.specs.Columns.{unit}

module _ (O : Operations) (C : ℕ) where
  -- of two matrices of C rows and C columns: B times G is the unit matrix
  abbrev pub Undoes : (ℕ → ℕ → O.K) → (ℕ → ℕ → O.K) → Type 0
  Undoes B G = (i k : ℕ) → i < C → k < C → sum O C (λ j. O.mul (B i j) (G j k)) ≡ unit O i k

  -- the coefficients of f, vectors of C entries, are zero beyond d
  abbrev pub Ends : ℕ → Column O → Type 0
  Ends d f = (k c : ℕ) → d < k → c < C → f k c ≡ O.𝟘

-- A generator of n matrices of R rows and C columns: C columns h with nominal degrees d. Each ends at its degree and fits.
-- Their constant coefficients, side by side, form a matrix that has an inverse.
pub record Generates (O : Operations) (R C : ℕ) (M : Matrices O) (n : ℕ) (h : ℕ → Column O) (d : ℕ → ℕ) : Type 0 where
  pub ends : (j : ℕ) → j < C → Ends O C (d j) (h j)
  pub fits : (j : ℕ) → j < C → Fits O R C M n (h j) (d j)
  pub inverse : ℕ → ℕ → O.K
  pub inverse_left : Undoes O C inverse (λ c j. h j 0 c)
  pub inverse_right : Undoes O C (λ c j. h j 0 c) inverse
