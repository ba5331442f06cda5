-- Where one of several generator columns does not fit, column after column.
use Rattle.std.proofs.Common.{◌≡◌, ℕ, zero, suc, ◌+◌, ◌-◌, min, List, Some, None, Option, sym, refl, ap, ◌∙◌, add-zero, add-one, arith}
use Rattle.std.specs.List.{cons_option, filter_map, range_with_len, reduce}
use Rattle.rings.specs.Arithmetic.{Arithmetic}
use Rattle.recurrences.specs.Fits.{first}
use Rattle.recurrences.proofs.FirstFailure.{first_tells}
use Rattle.runs.specs.Standings.{count_of}
use Rattle.verdicts.specs.Misfits.{misfits, first_misfit, first_misfit_of}
use Rattle.verdicts.specs.Searches.{some_below}
use Rattle.verdicts.proofs.FirstPlaces.{earlier, first_is, first_of_either}

module _ (a : Arithmetic) (N : ℕ) (taken list : List ℕ) where
  misfit_none : None ≡ first_misfit_of a N taken list 0
  unfolding some_below
  misfit_none = first_is _ (count_of N taken) (count_of N list - count_of N taken) None (λ i _ _. refl)

  misfit_more : (k : ℕ)
      → earlier (first_misfit_of a N taken list k) (first (misfits a N taken list k) (count_of N taken) (count_of N list - count_of N taken)) ≡ first_misfit_of a N taken list (k + 1)
  unfolding some_below
  misfit_more k =
      first_is (λ l. some_below (suc k) (λ j. misfits a N taken list j l)) from more _
      (first_of_either (λ l. some_below k (λ j. misfits a N taken list j l)) (misfits a N taken list k) from more _ _ (first_tells _ more from) (first_tells _ more from))
      ∙ ap (first_misfit_of a N taken list) (sym (add-one k))
    where
      from : ℕ
      from = count_of N taken

      more : ℕ
      more = count_of N list - count_of N taken

  -- where column j does not fit
  abbrev misfit_of : ℕ → Option ℕ
  misfit_of j = first (misfits a N taken list j) (count_of N taken) (count_of N list - count_of N taken)

  -- the earliest of some place and those of n columns from j on
  abbrev earliest : Option ℕ → ℕ → ℕ → Option ℕ
  earliest place j zero = place
  earliest place j (suc n) = earliest (earlier place (misfit_of j)) (j + 1) n

  earliest_is_least : (place : Option ℕ) (j n : ℕ) → reduce min (cons_option place (filter_map misfit_of (range_with_len j n))) ≡ earliest place j n
  earliest_is_least None j zero = refl
  earliest_is_least (Some l) j zero = refl
  earliest_is_least place j (suc n) = by place (misfit_of j) ∙ earliest_is_least (earlier place (misfit_of j)) (j + 1) n
    where
      rest : List ℕ
      rest = filter_map misfit_of (range_with_len (j + 1) n)

      by : (place next : Option ℕ) → reduce min (cons_option place (cons_option next rest)) ≡ reduce min (cons_option (earlier place next) rest)
      by None next = refl
      by (Some l) None = refl
      by (Some l) (Some k) = refl

  earliest_of_first : (j n : ℕ) → earliest (first_misfit_of a N taken list j) j n ≡ first_misfit_of a N taken list (j + n)
  earliest_of_first j zero = ap (first_misfit_of a N taken list) (sym (add-zero j))
  earliest_of_first j (suc n) =
      ap (λ (place : Option ℕ). earliest place (j + 1) n) (misfit_more j) ∙ earliest_of_first (j + 1) n
      ∙ ap (first_misfit_of a N taken list) (let e : j + 1 + n ≡ j + suc n = omega arith in e)

  -- the least of the places of all columns
  pub least_misfit : reduce min (filter_map misfit_of (range_with_len 0 N)) ≡ first_misfit a N taken list
  least_misfit =
      earliest_is_least None 0 N ∙ ap (λ (place : Option ℕ). earliest place 0 N) misfit_none ∙ earliest_of_first 0 N
      ∙ ap (first_misfit_of a N taken list) (let e : 0 + N ≡ N = omega arith in e)
