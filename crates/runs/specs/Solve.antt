-- What it is to solve linear equations for a matrix X: X applied to the vector g j gives the values v j, for j below N.
use Rattle.std.specs.Prelude.{◌≡◌, ℕ, ◌<◌}
use Rattle.recurrences.specs.Sums.{sum}
use Rattle.rings.specs.Arithmetic.{Arithmetic}
use Rattle.runs.specs.Operations.{operations_of}

module _ (a : Arithmetic) (N : ℕ) where
  -- N rows of N codes
  abbrev pub Codes : (ℕ → ℕ → ℕ) → Type 0
  Codes X = (r c : ℕ) → r < N → c < N → X r c < a.size

  -- the product of the row y with the vector g, both of N entries
  abbrev pub row_times : (ℕ → ℕ) → (ℕ → ℕ) → ℕ
  row_times y g = sum (operations_of a).ring N (λ c. a.product (y c) (g c))

  -- row r of X times the vector g j is entry r of the values v j
  abbrev pub Solves : (ℕ → ℕ → ℕ) → (ℕ → ℕ → ℕ) → (ℕ → ℕ → ℕ) → Type 0
  Solves g v X = (j r : ℕ) → j < N → r < N → row_times (X r) (g j) ≡ v j r

  -- the vectors g 0 to g (N - 1) span all vectors: no row of codes but the zero row has product zero with each of them
  abbrev pub Spans : (ℕ → ℕ → ℕ) → Type 0
  Spans g = (y : ℕ → ℕ) → ((c : ℕ) → y c < a.size) → ((j : ℕ) → j < N → row_times y (g j) ≡ 0) → (c : ℕ) → c < N → y c ≡ 0

  -- where the vectors g are of codes and span, x is whatever matrix of codes solves the equations
  abbrev pub OnlySolution : (ℕ → ℕ → ℕ) → (ℕ → ℕ → ℕ) → (ℕ → ℕ → ℕ) → Type 0
  OnlySolution g v x = Codes g → Spans g → (X : ℕ → ℕ → ℕ) → Codes X → Solves g v X → (r c : ℕ) → r < N → c < N → x r c ≡ X r c
