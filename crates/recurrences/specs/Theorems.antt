-- What is proved of every run, over every field. The numbers stand for codes: the operations read a number of q or more as 0.
use Rattle.std.specs.Prelude.{◌≡◌, ℕ, suc, ◌+◌, ◌*◌, ◌<◌, ◌≤◌, ◌⊎◌, Option}
use Rattle.rings.specs.Meaning.{Meaning, Laws, Inverse}
use Rattle.recurrences.specs.declared.phase.Phase.TheVariants.{Running, Settled}
use Rattle.recurrences.specs.Operations.{numbers}
use Rattle.recurrences.specs.Fields.{field_numbers}
use Rattle.recurrences.specs.Columns.{Columns}
use Rattle.recurrences.specs.Degrees.{total, greatest}
use Rattle.recurrences.specs.Generators.{Generates}
use Rattle.recurrences.specs.Pairing.{Pairing}
use Rattle.recurrences.specs.Run.{run}
use Rattle.recurrences.specs.Phases.{phase_at}
use Rattle.recurrences.specs.Continuation.{Continues}

-- a statement of every field: of its size q, its meaning m and its inverse, by their laws
abbrev pub OfEveryField : ((q : ℕ) → Meaning → (ℕ → Option ℕ) → Type 0) → Type 0
OfEveryField P = (q : ℕ) (m : Meaning) (inv : ℕ → Option ℕ) → Laws q m → ((a : ℕ) → a < q → Inverse q m a (inv a)) → P q m inv

-- on numbers: a list of matrices, a column, the columns of the run, a generator
abbrev pub ListOfMatrices : Type 0
ListOfMatrices = ℕ → ℕ → ℕ → ℕ

abbrev pub OneColumn : Type 0
OneColumn = ℕ → ℕ → ℕ

abbrev pub run_of : (q : ℕ) (m : Meaning) → (ℕ → Option ℕ) → ℕ → ℕ → ListOfMatrices → ℕ → Columns (numbers q m)
run_of q m inv R C M n = run (field_numbers q m inv) R C M n

abbrev pub Generator : ℕ → Meaning → ℕ → ℕ → ListOfMatrices → ℕ → (ℕ → OneColumn) → (ℕ → ℕ) → Type 0
Generator q m R C M n h d = Generates (numbers q m) R C M n h d

-- each generator of n matrices totals more than the bound
abbrev pub Beyond : ℕ → Meaning → ℕ → ℕ → ListOfMatrices → ℕ → ℕ → Type 0
Beyond q m R C M n bound = (h : ℕ → OneColumn) (d : ℕ → ℕ) → Generator q m R C M n h d → bound < total C d

-- all degrees add up to R × (n + 1)
abbrev pub DegreesAddUp : Type 0
DegreesAddUp = OfEveryField (λ q m inv. (R C : ℕ) (M : ListOfMatrices) (n : ℕ)
    → total C (run_of q m inv R C M n).gen_degree + total R (run_of q m inv R C M n).aux_degree ≡ R * suc n)

-- after n matrices of R rows all degrees add up to s
abbrev pub DegreesAddUpTo : ℕ → ℕ → ℕ → Type 0
DegreesAddUpTo R n s = OfEveryField (λ q m inv. (C : ℕ) (M : ListOfMatrices)
    → total C (run_of q m inv R C M n).gen_degree + total R (run_of q m inv R C M n).aux_degree ≡ s)

-- the generator columns generate the matrices taken
abbrev pub ColumnsGenerate : Type 0
ColumnsGenerate = OfEveryField (λ q m inv. (R C : ℕ) (M : ListOfMatrices) (n : ℕ)
    → Generator q m R C M n (run_of q m inv R C M n).gen (run_of q m inv R C M n).gen_degree)

-- the degrees of every generator pair off with ours, each at least as great as its partner
abbrev pub DegreesAreLeast : Type 0
DegreesAreLeast = OfEveryField (λ q m inv. (R C : ℕ) (M : ListOfMatrices) (n : ℕ) (h : ℕ → OneColumn) (d : ℕ → ℕ) → Generator q m R C M n h d
    → (π : Pairing C) × ((k : ℕ) → k < C → (run_of q m inv R C M n).gen_degree (π.to k) ≤ d k))

-- σ exceeds the bound exactly when each generator totals more than the bound
abbrev pub ShortExactlyWhenBeyond : Type 0
ShortExactlyWhenBeyond = OfEveryField (λ q m inv. (R C : ℕ) (M : ListOfMatrices) (n bound : ℕ)
    → (bound < total C (run_of q m inv R C M n).gen_degree → Beyond q m R C M n bound)
    × (Beyond q m R C M n bound → bound < total C (run_of q m inv R C M n).gen_degree))

-- where each of the n matrices was taken while running, n is at most 2 × bound, and at most the bound + μ
abbrev pub CountsAreBounded : Type 0
CountsAreBounded = OfEveryField (λ q m inv. (R C : ℕ) (M : ListOfMatrices) (n bound : ℕ) → 0 < R
    → ((i : ℕ) → i < n → phase_at (numbers q m) R C bound (run_of q m inv R C M i) ≡ Running)
    → (n ≤ 2 * bound) × (n ≤ bound + greatest C (run_of q m inv R C M n).gen_degree))

-- where a run is settled: of every longer list that begins with the matrices taken, our columns are a generator, or each of its generators totals more than the bound
abbrev pub SettledIsFinal : Type 0
SettledIsFinal = OfEveryField (λ q m inv. (R C : ℕ) (M : ListOfMatrices) (n bound : ℕ) → 0 < R
    → phase_at (numbers q m) R C bound (run_of q m inv R C M n) ≡ Settled
    → (longer : ListOfMatrices) (k : ℕ) → n ≤ k → ((l r c : ℕ) → l < n → r < R → c < C → longer l r c ≡ M l r c)
    → Generator q m R C longer k (run_of q m inv R C M n).gen (run_of q m inv R C M n).gen_degree ⊎ Beyond q m R C longer k bound)

-- at every place of every list, so at place n of the list taken, exactly one matrix of codes continues it by our generator columns
abbrev pub ContinuationIsUnique : Type 0
ContinuationIsUnique = OfEveryField (λ q m inv. (R C : ℕ) (M : ListOfMatrices) (n : ℕ) (list : ListOfMatrices) (l : ℕ)
    → (X : ℕ → ℕ → ℕ) × ((r c : ℕ) → X r c < q) × Continues (numbers q m) R C list l (run_of q m inv R C M n).gen (run_of q m inv R C M n).gen_degree X
    × ((Y : ℕ → ℕ → ℕ) → ((r c : ℕ) → r < R → c < C → Y r c < q) → Continues (numbers q m) R C list l (run_of q m inv R C M n).gen (run_of q m inv R C M n).gen_degree Y
    → (r c : ℕ) → r < R → c < C → Y r c ≡ X r c))
