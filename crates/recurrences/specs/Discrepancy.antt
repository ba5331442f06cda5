-- Columns, their discrepancies, and what it is to fit.
use Rattle.std.specs.Prelude.{◌≡◌, ℕ, suc, ◌-◌, ◌<◌, ◌≤◌, min}
use Rattle.recurrences.specs.Operations.{Operations}
use Rattle.recurrences.specs.Sums.{sum}

module _ (O : Operations) where
  -- a list of matrices: M l r c is entry c of row r of matrix l, all counted from 0
  abbrev pub Matrices : Type 0
  Matrices = ℕ → ℕ → ℕ → O.K

  -- a column: f k c is entry c of its coefficient k
  abbrev pub Column : Type 0
  Column = ℕ → ℕ → O.K

  -- Entry r of the discrepancy at place l of the column f of nominal degree d, where matrices have C columns:
  -- entry r of M_l f_0 + M_(l-1) f_1 + …, ending at f_k where k is the smaller of l and d.
  unfoldable pub discrepancy : ℕ → Matrices → Column → ℕ → ℕ → ℕ → O.K
  discrepancy C M f d l r = sum O (suc (min l d)) (λ k. sum O C (λ c. O.mul (M (l - k) r c) (f k c)))

  -- f of nominal degree d fits n matrices of R rows and C columns: its discrepancy is zero at each place from d on
  abbrev pub Fits : ℕ → ℕ → Matrices → ℕ → Column → ℕ → Type 0
  Fits R C M n f d = (l r : ℕ) → d ≤ l → l < n → r < R → discrepancy C M f d l r ≡ O.𝟘
