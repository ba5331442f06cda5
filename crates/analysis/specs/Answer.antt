-- The lines that answer a list: what a run found in it.
use Rattle.std.specs.Prelude.{ℕ, zero, suc, ◌^◌, ◌<◌, ◌≢◌, List, [], ◌∷◌, ◌++◌}
use Rattle.rings.specs.Arithmetic.{Arithmetic}
use Rattle.recurrences.specs.declared.phase.Phase.{Phase}
use Rattle.recurrences.specs.declared.phase.Phase.TheVariants.{Short}
use Rattle.recurrences.specs.Degrees.{total}
use Rattle.recurrences.specs.Standing.{listed}
use Rattle.runs.specs.Standings.{count_of, columns_after, column_after}
use Rattle.lists.specs.Bytes.{comma}
use Rattle.lists.specs.LineText.{line_text}
use Rattle.verdicts.specs.declared.verdict.Verdict.{Verdict}
use Rattle.verdicts.specs.declared.verdict.Verdict.TheVariants.{Unsettled, Generated, Misfit, Insufficient}
use Rattle.verdicts.specs.Taking.{taken_of}
use Rattle.verdicts.specs.Verdicts.{letter_of, verdict_on}

-- C
abbrev pub column_letter : ℕ
column_letter = 67

-- D
abbrev pub degree_letter : ℕ
degree_letter = 68

-- X
abbrev pub misfit_letter : ℕ
misfit_letter = 88

-- X and the place, where there is a misfit
abbrev pub misfit_line : Verdict → List ℕ
misfit_line Unsettled = []
misfit_line Generated = []
misfit_line (Misfit l) = line_text (misfit_letter ∷ []) (l ∷ [])
misfit_line Insufficient = []

-- of a run of size N that took some matrices
module _ (a : Arithmetic) (N : ℕ) (taken : List ℕ) where
  -- D, the verdict's letter, how many matrices were taken, the total of the generator degrees, and these degrees
  abbrev pub degree_line : Verdict → List ℕ
  degree_line v =
      line_text (degree_letter ∷ comma ∷ letter_of v ∷ []) (count_of N taken ∷ total N (columns_after a N taken).gen_degree ∷ listed N (columns_after a N taken).gen_degree)

  -- C, the number of a generator column, counted from 1, and its codes
  abbrev pub column_line : ℕ → List ℕ
  column_line j = line_text (column_letter ∷ []) (suc j ∷ column_after a N taken j)

  -- the lines of the first k generator columns
  abbrev pub column_lines : ℕ → List ℕ
  column_lines zero = []
  column_lines (suc k) = column_lines k ++ column_line k

  -- those of all, but none where the bound is insufficient
  abbrev pub columns_under : Verdict → List ℕ
  columns_under Unsettled = column_lines N
  columns_under Generated = column_lines N
  columns_under (Misfit l) = column_lines N
  columns_under Insufficient = []

  abbrev pub lines_under : Verdict → List ℕ
  lines_under v = degree_line v ++ (misfit_line v ++ columns_under v)

-- the answer to a list of matrices of size N over the arithmetic of a field, at a bound
abbrev pub answer_text : Arithmetic → ℕ → ℕ → List ℕ → List ℕ
answer_text a N bound list = lines_under a N (taken_of a N bound list) (verdict_on a N bound list)

-- A verdict under which columns are given is that of a run that is not short, and the place of a misfit is a number of 32 bits.
abbrev pub ColumnsGiven : Phase → Verdict → Type 0
ColumnsGiven p Unsettled = p ≢ Short
ColumnsGiven p Generated = p ≢ Short
ColumnsGiven p (Misfit l) = (p ≢ Short) × (l < 2 ^ 32)
ColumnsGiven p Insufficient = Unit {0}
