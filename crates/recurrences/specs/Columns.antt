-- What is done to columns, and the columns that a run holds.
use Rattle.std.specs.Prelude.{ℕ, zero, suc}
use Rattle.std.proofs.Math.Decide.{ℕ_discrete}
use Rattle.recurrences.specs.Operations.{Operations}
use Rattle.recurrences.specs.Discrepancy.{Column}
use Rattle.recurrences.specs.Choice.{pick}

module _ (O : Operations) where
  -- the column with a zero coefficient put in front
  unfoldable pub shift : Column O → Column O
  shift f zero c = O.𝟘
  shift f (suc k) c = f k c

  -- the column f less a times the column p
  abbrev pub lessen : O.K → Column O → Column O → Column O
  lessen a p f k c = O.add (f k c) (O.mul (O.neg a) (p k c))

  -- the column whose constant coefficient is v, and whose others are zero
  unfoldable pub constant : (ℕ → O.K) → Column O
  constant v zero c = v c
  constant v (suc k) c = O.𝟘

  -- entry k of the unit vector i, which is entry (i, k) of the unit matrix
  abbrev pub unit : ℕ → ℕ → O.K
  unit i k = pick (ℕ_discrete i k) O.𝟙 O.𝟘

-- generator columns and auxiliary columns, counted from 0, each with its nominal degree
pub record Columns (O : Operations) : Type 0 where
  pub gen : ℕ → Column O
  pub gen_degree : ℕ → ℕ
  pub aux : ℕ → Column O
  pub aux_degree : ℕ → ℕ
