-- What it is to continue the matrices that a run has taken. Matrices of N rows and columns stand as their codes, one behind the other.
use Rattle.std.specs.Prelude.{◌≡◌, ℕ, ◌<◌, ◌≤◌, true, List, ◌++◌, length}
use Rattle.rings.specs.Arithmetic.{Arithmetic}
use Rattle.recurrences.specs.Codes.{all_codes}
use Rattle.recurrences.specs.Discrepancy.{discrepancy}
use Rattle.recurrences.specs.Reading.{matrices_in}
use Rattle.runs.specs.Operations.{operations_of}
use Rattle.runs.specs.Standings.{count_of, columns_after}

-- `place` continues the matrices taken by the generator columns: it holds codes, and with its matrices behind those taken
-- the discrepancy of each generator column j is zero at each of their places l
pub record ContinuesWith (a : Arithmetic) (N : ℕ) (taken place : List ℕ) : Type 0 where
  pub codes : all_codes a.size place ≡ true
  pub zero_discrepancies : (l j r : ℕ) → count_of N taken ≤ l → l < count_of N (taken ++ place) → j < N → r < N
      → discrepancy (operations_of a).ring N (matrices_in N N (taken ++ place)) ((columns_after a N taken).gen j) ((columns_after a N taken).gen_degree j) l r ≡ 0

-- no other list of that length does
abbrev pub OnlyContinuation : Arithmetic → ℕ → List ℕ → List ℕ → Type 0
OnlyContinuation a N taken place = (other : List ℕ) → length other ≡ length place → ContinuesWith a N taken other → other ≡ place

-- the continuation: it continues the matrices taken, and no other list of its length does
pub record ContinuationIs (a : Arithmetic) (N : ℕ) (taken place : List ℕ) : Type 0 where
  pub continues : ContinuesWith a N taken place
  pub only : OnlyContinuation a N taken place
