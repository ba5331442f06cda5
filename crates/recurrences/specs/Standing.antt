-- Where a run stands after a recording: a list of codes offered to it, matrix by matrix.
use Rattle.std.specs.Prelude.{ℕ, zero, suc, ◌*◌, ◌/◌, ◌%◌, List, [], ◌∷◌, length, Option}
use Rattle.rings.specs.Meaning.{Meaning}
use Rattle.recurrences.specs.declared.phase.Phase.{Phase}
use Rattle.recurrences.specs.declared.phase.Phase.TheVariants.{Short, Running, Settled}
use Rattle.recurrences.specs.Operations.{numbers}
use Rattle.recurrences.specs.Reading.{matrices_in}
use Rattle.recurrences.specs.Phases.{phase_at}
use Rattle.recurrences.specs.Theorems.{run_of}

-- f 0, …, f (n - 1)
unfoldable pub listed : {A : Type 0} → ℕ → (ℕ → A) → List A
listed zero f = []
listed (suc n) f = f 0 ∷ listed n (λ i. f (suc i))

-- the phase, how many matrices were taken, and the degrees and the codes of the generator columns
pub record Standing : Type 0 where
  pub phase : Phase
  pub count : ℕ
  pub degrees : List ℕ
  pub columns : List (List ℕ)

module _ (q : ℕ) (m : Meaning) (inv : ℕ → Option ℕ) (N bound : ℕ) (codes : List ℕ) where
  -- the phase after the first n matrices of N rows and N columns
  abbrev pub phase_after : ℕ → Phase
  phase_after n = phase_at (numbers q m) N N bound (run_of q m inv N N (matrices_in N N codes) n)

  -- how many are taken of the `more` matrices that follow n: the run takes one while it is running
  unfoldable pub taken : ℕ → ℕ → ℕ
  taken n zero = n
  taken n (suc more) = elim (phase_after n) [ Short ↦ n | Running ↦ taken (suc n) more | Settled ↦ n ]

  -- column j after n matrices, its coefficients one behind the other
  abbrev pub column_after : ℕ → ℕ → List ℕ
  column_after n j =
      listed (suc ((run_of q m inv N N (matrices_in N N codes) n).gen_degree j) * N) (λ i. (run_of q m inv N N (matrices_in N N codes) n).gen j (i / N) (i % N))

  abbrev pub standing_after : ℕ → Standing
  standing_after n = record {
    phase = phase_after n;
    count = n;
    degrees = listed N (run_of q m inv N N (matrices_in N N codes) n).gen_degree;
    columns = listed N (column_after n);
  }

  -- after the whole recording
  abbrev pub standing : Standing
  standing = standing_after (taken 0 (length codes / (N * N)))
