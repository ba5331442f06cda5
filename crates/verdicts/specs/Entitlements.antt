-- What a verdict on a list entitles to say of it. *Ours* are the generator columns and degrees of the run that took the first
-- matrices of the list.
use Rattle.std.specs.Prelude.{◌≡◌, ℕ, ◌<◌, ◌≤◌, ◌≢◌, ◌⊎◌, List, ◌++◌}
use Rattle.rings.specs.Arithmetic.{Arithmetic}
use Rattle.recurrences.specs.Degrees.{total}
use Rattle.recurrences.specs.Pairing.{Pairing}
use Rattle.runs.specs.Promise.{Generating, BeyondBound}
use Rattle.runs.specs.Standings.{count_of, columns_after}
use Rattle.verdicts.specs.declared.verdict.Verdict.{Verdict}
use Rattle.verdicts.specs.declared.verdict.Verdict.TheVariants.{Unsettled, Generated, Misfit, Insufficient}
use Rattle.verdicts.specs.Misfits.{generator_discrepancy}
use Rattle.verdicts.specs.Taking.{taken_of}

module _ (a : Arithmetic) (N bound : ℕ) (list : List ℕ) where
  abbrev taken : List ℕ
  taken = taken_of a N bound list

  abbrev our_degree : ℕ → ℕ
  our_degree = (columns_after a N taken).gen_degree

  -- our columns generate some matrices
  abbrev pub OursGenerate : List ℕ → Type 0
  OursGenerate matrices = Generating a N bound matrices (columns_after a N taken).gen our_degree

  -- no smaller recurrence exists: the degrees of every generator of some matrices pair off with ours, each at least as great,
  -- and so no generator totals less
  pub record OursAreLeast (matrices : List ℕ) : Type 0 where
    pub pairs_off : (h : ℕ → ℕ → ℕ → ℕ) (d : ℕ → ℕ) → Generating a N bound matrices h d → (π : Pairing N) × ((k : ℕ) → k < N → our_degree (π.to k) ≤ d k)
    pub none_totals_less : (h : ℕ → ℕ → ℕ → ℕ) (d : ℕ → ℕ) → Generating a N bound matrices h d → total N our_degree ≤ total N d

  -- R: the list ended too early for a final answer, but ours is the least recurrence of all of it
  pub record UnsettledSays : Type 0 where
    pub all_taken : taken ≡ list
    pub generates : OursGenerate list
    pub least : OursAreLeast list

  -- G: ours is the least recurrence of the whole list, and whatever matrices stand behind it, ours generate the longer list or
  -- each of its generators totals more than the bound
  pub record GeneratedSays : Type 0 where
    pub generates : OursGenerate list
    pub least : OursAreLeast list
    pub least_of_taken : OursAreLeast taken
    pub final : (more : List ℕ) → OursGenerate (list ++ more) ⊎ BeyondBound a N bound (list ++ more)

  -- X: ours is the least recurrence of the matrices taken, place l is the first at which one of our columns does not fit, and each
  -- generator of the whole list totals more than the bound
  pub record MisfitSays (l : ℕ) : Type 0 where
    pub generates_taken : OursGenerate taken
    pub least_of_taken : OursAreLeast taken
    pub behind_taken : count_of N taken ≤ l
    pub in_list : l < count_of N list
    pub column : ℕ
    pub column_is_ours : column < N
    pub row : ℕ
    pub row_of_matrix : row < N
    pub not_zero_there : generator_discrepancy a N taken list column l row ≢ 0
    pub zero_before : (k j r : ℕ) → count_of N taken ≤ k → k < l → j < N → r < N → generator_discrepancy a N taken list j k r ≡ 0
    pub beyond : BeyondBound a N bound list

  -- I: each generator of the matrices taken totals more than the bound, and so does each of the whole list
  pub record InsufficientSays : Type 0 where
    pub beyond_of_taken : BeyondBound a N bound taken
    pub beyond : BeyondBound a N bound list

  abbrev pub Entitles : Verdict → Type 0
  Entitles Unsettled = UnsettledSays
  Entitles Generated = GeneratedSays
  Entitles (Misfit l) = MisfitSays l
  Entitles Insufficient = InsufficientSays
