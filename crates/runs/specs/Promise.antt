-- What is promised of a run of size N over the arithmetic a of a field, at a bound, that has taken some matrices.
use Rattle.std.specs.Prelude.{◌≡◌, ℕ, ◌+◌, ◌*◌, ◌<◌, ◌≤◌, ◌⊎◌, List, ◌++◌}
use Rattle.rings.specs.Arithmetic.{Arithmetic}
use Rattle.recurrences.specs.declared.phase.Phase.TheVariants.{Short, Settled}
use Rattle.recurrences.specs.Degrees.{total, greatest}
use Rattle.recurrences.specs.Generators.{Generates}
use Rattle.recurrences.specs.Pairing.{Pairing}
use Rattle.recurrences.specs.Reading.{matrices_in}
use Rattle.runs.specs.Operations.{operations_of}
use Rattle.runs.specs.Standings.{count_of, columns_after, phase_after}

module _ (a : Arithmetic) (N bound : ℕ) where
  -- N columns h with nominal degrees d generate the matrices of a list of codes
  abbrev pub Generating : List ℕ → (ℕ → ℕ → ℕ → ℕ) → (ℕ → ℕ) → Type 0
  Generating list h d = Generates (operations_of a).ring N N (matrices_in N N list) (count_of N list) h d

  -- each generator of the list totals more than the bound
  abbrev pub BeyondBound : List ℕ → Type 0
  BeyondBound list = (h : ℕ → ℕ → ℕ → ℕ) (d : ℕ → ℕ) → Generating list h d → bound < total N d

  pub record Promise (taken : List ℕ) : Type 0 where
    pub degrees_add_up : total N (columns_after a N taken).gen_degree + total N (columns_after a N taken).aux_degree ≡ N * (count_of N taken + 1)
    pub columns_generate : Generating taken (columns_after a N taken).gen (columns_after a N taken).gen_degree
    pub every_generator_pairs_off : (h : ℕ → ℕ → ℕ → ℕ) (d : ℕ → ℕ) → Generating taken h d
        → (π : Pairing N) × ((k : ℕ) → k < N → (columns_after a N taken).gen_degree (π.to k) ≤ d k)
    pub short_only_beyond_the_bound : phase_after a N bound taken ≡ Short → BeyondBound taken
    pub short_if_beyond_the_bound : BeyondBound taken → phase_after a N bound taken ≡ Short
    pub at_most_twice_the_bound : count_of N taken ≤ 2 * bound
    pub settled_within_bound_and_degree : phase_after a N bound taken ≡ Settled → count_of N taken ≤ bound + greatest N (columns_after a N taken).gen_degree
    pub settled_is_final : phase_after a N bound taken ≡ Settled → (more : List ℕ)
        → Generating (taken ++ more) (columns_after a N taken).gen (columns_after a N taken).gen_degree ⊎ BeyondBound (taken ++ more)
