-- What a file holds.
use Rattle.std.specs.Prelude.{ℕ, Bool, true, false, cond, List, [], ◌∷◌, ◌++◌, map, drop, Ok, Err, Result}
use Rattle.lists.specs.Bytes.{comma}
use Rattle.lists.specs.Checks.{then}
use Rattle.lists.specs.FileChecks.{lines_of, checked_file}
use Rattle.lists.specs.Kinds.{kind_of, by_kind}
use Rattle.lists.specs.Numeral.{numeral}
use Rattle.lists.specs.Split.{split, first}
use Rattle.lists.specs.declared.fault.FileFault.{FileFault}
use Rattle.lists.specs.declared.fault.NumberFault.{NumberFault}
use Rattle.lists.specs.declared.header.Listing.{Listing}

abbrev pub number_or_zero : Result ℕ NumberFault → ℕ
number_or_zero (Ok v) = v
number_or_zero (Err e) = 0

-- the number of a field, 0 where it has none
abbrev pub value_of : List ℕ → ℕ
value_of field = number_or_zero (numeral field)

-- the numbers of a line behind its letter
abbrev pub values_of : List ℕ → List ℕ
values_of line = map value_of (drop 1 (split comma line))

-- the matrices of the matrix lines among the lines, each as its codes
abbrev pub matrices_in : List (List ℕ) → List (List ℕ)
matrices_in [] = []
matrices_in (l ∷ ls) =
    by_kind (kind_of (first (split comma l))) (matrices_in ls) (values_of l ∷ matrices_in ls) (matrices_in ls) (matrices_in ls)

-- whether a line is a matrix line
abbrev pub is_matrix : List ℕ → Bool
is_matrix l = by_kind (kind_of (first (split comma l))) false true false false

-- the codes of a line: those of a matrix line, none of another
abbrev pub line_codes : List ℕ → List ℕ
line_codes l = cond (is_matrix l) (values_of l) []

-- lists one behind the other
abbrev pub flat : List (List ℕ) → List ℕ
flat [] = []
flat (m ∷ ms) = m ++ flat ms

-- all codes of a file in order
abbrev pub codes_of : List ℕ → List ℕ
codes_of b = flat (matrices_in (lines_of b))

-- a list: what its header says, the count of its matrices, and all their codes in order
pub record Contents : Type 0 where
  pub listing : Listing
  pub codes : List ℕ

-- the reading of bytes: the checks in order, and then the list that they hold
abbrev pub reading : List ℕ → Result Contents FileFault
reading b = then (checked_file b) (λ l. Ok (record { listing = l; codes = codes_of b }))
