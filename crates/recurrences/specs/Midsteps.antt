-- What is proved of the columns in the midst of a step: what a program may rely on while it takes a matrix.
use Rattle.std.specs.Prelude.{◌≡◌, ℕ, suc, ◌<◌, ◌≤◌, ◌≢◌, Some, None, Option}
use Rattle.rings.specs.Meaning.{Meaning}
use Rattle.recurrences.specs.Operations.{Operations, numbers}
use Rattle.recurrences.specs.Fields.{field_numbers}
use Rattle.recurrences.specs.Discrepancy.{Column}
use Rattle.recurrences.specs.Pivot.{Midstep, gen_entry, aux_entry, Candidate, pivot}
use Rattle.recurrences.specs.Step.{rows, at_first}
use Rattle.recurrences.specs.Run.{entry_at}
use Rattle.recurrences.specs.Theorems.{OfEveryField, ListOfMatrices, run_of}

-- the columns before row i of the step that takes matrix n
abbrev pub before_row : (q : ℕ) (m : Meaning) → (ℕ → Option ℕ) → ℕ → ℕ → ListOfMatrices → ℕ → ℕ → Midstep (numbers q m)
before_row q m inv R C M n i = rows (field_numbers q m inv) C (entry_at (numbers q m) C M n) i (at_first (numbers q m) C (run_of q m inv R C M n))

-- columns of codes below q, of C entries, each of which ends at its degree, which is at most n + 1
pub record Bounded (O : Operations) (below : O.K → Type 0) (R C n : ℕ) (t : Midstep O) : Type 0 where
  pub gen_codes : (j k c : ℕ) → below (t.columns.gen j k c)
  pub aux_codes : (j k c : ℕ) → below (t.columns.aux j k c)
  pub gen_ends : (j k c : ℕ) → j < C → t.columns.gen_degree j < k → t.columns.gen j k c ≡ O.𝟘
  pub aux_ends : (j k c : ℕ) → j < R → t.columns.aux_degree j < k → t.columns.aux j k c ≡ O.𝟘
  pub gen_width : (j k c : ℕ) → j < C → C ≤ c → t.columns.gen j k c ≡ O.𝟘
  pub aux_width : (j k c : ℕ) → j < R → C ≤ c → t.columns.aux j k c ≡ O.𝟘
  pub gen_degrees : (j : ℕ) → j < C → t.columns.gen_degree j ≤ suc n
  pub aux_degrees : (j : ℕ) → j < R → t.columns.aux_degree j ≤ suc n

abbrev pub MidstepsAreBounded : Type 0
MidstepsAreBounded = OfEveryField (λ q m inv. (R C : ℕ) (M : ListOfMatrices) (n i : ℕ) → i ≤ R
    → Bounded (numbers q m) (λ a. a < q) R C n (before_row q m inv R C M n i))

-- the entry that the candidates of row i are divided by
abbrev pub divisor : (O : Operations) (C : ℕ) → (ℕ → ℕ → Column O → O.K) → Midstep O → ℕ → Option ℕ → O.K
divisor O C entry t i None = aux_entry O C entry t i
divisor O C entry t i (Some l) = gen_entry O C entry t i l

-- where a row has a candidate, the divisor is not zero
abbrev pub DivisorsAreNotZero : Type 0
DivisorsAreNotZero = OfEveryField (λ q m inv. (R C : ℕ) (M : ListOfMatrices) (n i j : ℕ) → i < R → j < C
    → Candidate (numbers q m) C (entry_at (numbers q m) C M n) (before_row q m inv R C M n i) i j
    → divisor (numbers q m) C (entry_at (numbers q m) C M n) (before_row q m inv R C M n i) i (pivot (numbers q m) C (entry_at (numbers q m) C M n) i (before_row q m inv R C M n i)) ≢ 0)

-- after n matrices a generator degree is at most n
abbrev pub GeneratorDegreesAreAtMostCount : Type 0
GeneratorDegreesAreAtMostCount = OfEveryField (λ q m inv. (R C : ℕ) (M : ListOfMatrices) (n j : ℕ) → j < C → (run_of q m inv R C M n).gen_degree j ≤ n)

-- the run rests on the matrices taken alone, in their R rows and C columns
abbrev pub RunRestsOnMatricesTaken : Type 0
RunRestsOnMatricesTaken = (q : ℕ) (m : Meaning) (inv : ℕ → Option ℕ) (R C : ℕ) (M N : ListOfMatrices) (n : ℕ)
    → ((l r c : ℕ) → l < n → r < R → c < C → M l r c ≡ N l r c) → run_of q m inv R C M n ≡ run_of q m inv R C N n
