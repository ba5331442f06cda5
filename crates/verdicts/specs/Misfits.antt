-- Where the generator columns of a run do not fit the matrices behind those that it took.
use Rattle.std.specs.Prelude.{ℕ, ◌+◌, ◌-◌, Bool, not, List, Some, None, Option, ◌==◌}
use Rattle.rings.specs.Arithmetic.{Arithmetic}
use Rattle.recurrences.specs.Discrepancy.{discrepancy}
use Rattle.recurrences.specs.Fits.{first}
use Rattle.recurrences.specs.Reading.{matrices_in}
use Rattle.runs.specs.Operations.{operations_of}
use Rattle.runs.specs.Standings.{count_of, columns_after}
use Rattle.verdicts.specs.Searches.{some_below}

module _ (a : Arithmetic) (N : ℕ) (taken list : List ℕ) where
  -- entry r of the discrepancy of generator column j, after the matrices taken, at place l of the list
  abbrev pub generator_discrepancy : ℕ → ℕ → ℕ → ℕ
  generator_discrepancy j l r =
      discrepancy (operations_of a).ring N (matrices_in N N list) ((columns_after a N taken).gen j) ((columns_after a N taken).gen_degree j) l r

  -- whether generator column j does not fit at place l: some entry of its discrepancy there is not zero
  abbrev pub misfits : ℕ → ℕ → Bool
  misfits j l = some_below N (λ r. not (generator_discrepancy j l r == 0))

  -- the first place behind the matrices taken at which one of the first k generator columns does not fit
  abbrev pub first_misfit_of : ℕ → Option ℕ
  first_misfit_of k = first (λ l. some_below k (λ j. misfits j l)) (count_of N taken) (count_of N list - count_of N taken)

  -- at which one of them all does not fit
  abbrev pub first_misfit : Option ℕ
  first_misfit = first_misfit_of N

-- the place of a failure in a list whose first s matrices are left out, counted in the whole list
abbrev pub moved : ℕ → Option (ℕ × ℕ) → Option ℕ
moved s None = None
moved s (Some p) = Some (p.0 + s)
