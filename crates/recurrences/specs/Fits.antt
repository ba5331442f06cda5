-- The answer of the fit check, and what it says.
use Rattle.std.specs.Prelude.{◌≡◌, ℕ, zero, suc, ◌+◌, ◌-◌, ◌*◌, ◌/◌, ◌%◌, ◌<◌, ◌≤◌, Bool, cond, not, ◌≢◌, List, length, Some, None, Ok, Err, Option, Result, ◌==◌, nat_lt}
use Rattle.rings.specs.Meaning.{Meaning}
use Rattle.recurrences.specs.declared.refusal.Refusal.{Refusal}
use Rattle.recurrences.specs.declared.refusal.Refusal.TheVariants.{Size, Bound, Length, Code}
use Rattle.recurrences.specs.Codes.{all_codes}
use Rattle.recurrences.specs.Operations.{Operations, numbers}
use Rattle.recurrences.specs.Discrepancy.{discrepancy, Fits}
use Rattle.recurrences.specs.Reading.{matrices_in, column_in}
use Rattle.recurrences.specs.Limits.{greatest_size, greatest_bound}

-- the first of the `count` numbers from `from` on that passes the test
unfoldable pub first : (ℕ → Bool) → ℕ → ℕ → Option ℕ
first test from zero = None
first test from (suc count) = cond (test from) (Some from) (first test (suc from) count)

-- The checks in order: the first condition that holds refuses.
abbrev pub fits_refusal : ℕ → ℕ → ℕ → List ℕ → List ℕ → Option Refusal
fits_refusal q N d list column =
    cond (nat_lt N 1) (Some Size) (cond (nat_lt greatest_size N) (Some Size)
    (cond (nat_lt greatest_bound d) (Some Bound)
    (cond (length column == N * (d + 1)) (cond (length list % (N * N) == 0)
    (cond (all_codes q list) (cond (all_codes q column) None (Some Code)) (Some Code))
    (Some Length)) (Some Length))))

module _ (q : ℕ) (m : Meaning) (N d : ℕ) (list column : List ℕ) where
  abbrev O : Operations
  O = numbers q m

  -- how many matrices the list holds
  abbrev pub matrix_count : ℕ
  matrix_count = length list / (N * N)

  -- entry r of the column's discrepancy at place l
  abbrev pub column_discrepancy : ℕ → ℕ → ℕ
  column_discrepancy l r = discrepancy O N (matrices_in N N list) (column_in N column) d l r

  abbrev pub fails : ℕ → ℕ → Bool
  fails l r = not (column_discrepancy l r == 0)

  -- the first failing place among the `count` from `from` on, and the first failing row there, counted from 1
  unfoldable pub first_failure : ℕ → ℕ → Option (ℕ × ℕ)
  first_failure from zero = None
  first_failure from (suc count) =
      elim (first (fails from) 0 N) [ Some r ↦ Some (from, suc r) | None ↦ first_failure (suc from) count ]

  abbrev pub fits_answer : Result (Option (ℕ × ℕ)) Refusal
  fits_answer =
      elim (fits_refusal q N d list column) [ Some e ↦ Err e | None ↦ Ok (first_failure d (matrix_count - d)) ]

  abbrev pub ColumnFits : Type 0
  ColumnFits = Fits O N N (matrices_in N N list) matrix_count (column_in N column) d

  -- Place l and row i, counted from 1, are the first at which the discrepancy is not zero.
  pub record FailsFirst (l i : ℕ) : Type 0 where
    pub place_from_degree : d ≤ l
    pub place_in_list : l < matrix_count
    pub row_from_one : 1 ≤ i
    pub row_in_matrix : i ≤ N
    pub not_zero_there : column_discrepancy l (i - 1) ≢ 0
    pub zero_at_earlier_places : (k r : ℕ) → d ≤ k → k < l → r < N → column_discrepancy k r ≡ 0
    pub zero_at_earlier_rows : (r : ℕ) → r < i - 1 → column_discrepancy l r ≡ 0

  -- what an answer says of the column
  abbrev pub Says : Option (ℕ × ℕ) → Type 0
  Says None = ColumnFits
  Says (Some p) = FailsFirst p.0 p.1

  -- and that it says so whenever the column fits
  pub record Told (answer : Option (ℕ × ℕ)) : Type 0 where
    pub says : Says answer
    pub none_if_it_fits : ColumnFits → answer ≡ None
