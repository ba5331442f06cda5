-- The checks of one line, given its number and its fields. Its first field is its letter.
use Rattle.std.specs.Prelude.{ℕ, ◌+◌, ◌*◌, min, cond, List, [], ◌∷◌, length, drop, Some, None, Ok, Option, Result, ◌==◌, slice_index_or}
use Rattle.recurrences.specs.declared.refusal.Refusal.{Refusal}
use Rattle.lists.specs.Checks.{then, carried}
use Rattle.lists.specs.Faults.{found, line_refused}
use Rattle.lists.specs.Kinds.{kind_of, by_kind}
use Rattle.lists.specs.Numeral.{numeral}
use Rattle.recurrences.specs.Ranges.{checked_size, checked_bound, checked_code}
use Rattle.lists.specs.Rings.{letter_of, size_of}
use Rattle.lists.specs.Split.{first}
use Rattle.lists.specs.declared.fault.FileFault.{FileFault}
use Rattle.lists.specs.declared.fault.FileFault.TheVariants.{InNumber, InRun}
use Rattle.lists.specs.declared.fault.LineFault.TheVariants.{Letter, Count, Ring, EndCount}
use Rattle.lists.specs.declared.header.Header.{Header}
use Rattle.lists.specs.declared.letter.RingLetter.{RingLetter}

-- as many fields as are due; otherwise the fault is at the first that is missing or too many
abbrev pub counted : ℕ → ℕ → List (List ℕ) → Result (Unit {0}) FileFault
counted due line fs = cond (length fs == due) (Ok tt) (line_refused Count line (min (length fs) due + 1))

-- the number of field k
abbrev pub number_at : ℕ → ℕ → List ℕ → Result ℕ FileFault
number_at line k f = carried (λ e. InNumber (found line k e)) (numeral f)

-- what the runs say of the number of field k
abbrev pub run_at : ℕ → ℕ → Result ℕ Refusal → Result ℕ FileFault
run_at line k r = carried (λ e. InRun (found line k e)) r

-- ---- the header
-- the ring, the size and the bound of field k
abbrev pub ring_at : ℕ → ℕ → Option RingLetter → Result RingLetter FileFault
ring_at line k (Some g) = Ok g
ring_at line k None = line_refused Ring line k

abbrev pub size_at : ℕ → ℕ → List ℕ → Result ℕ FileFault
size_at line k f = then (number_at line k f) (λ n. run_at line k (checked_size n))

abbrev pub bound_at : ℕ → ℕ → List ℕ → Result ℕ FileFault
bound_at line k f = then (number_at line k f) (λ d. run_at line k (checked_bound d))

abbrev pub checked_fields : ℕ → List (List ℕ) → Result Header FileFault
checked_fields line fs =
    then (counted 4 line fs) (λ _.
    then (ring_at line 2 (letter_of (slice_index_or fs 1 []))) (λ g.
    then (size_at line 3 (slice_index_or fs 2 [])) (λ n.
    then (bound_at line 4 (slice_index_or fs 3 [])) (λ d.
    Ok (record { letter = g; size = n; bound = d })))))

abbrev pub checked_header : ℕ → List (List ℕ) → Result Header FileFault
checked_header line fs =
    by_kind (kind_of (first fs)) (checked_fields line fs) (line_refused Letter line 1) (line_refused Letter line 1) (line_refused Letter line 1)

-- the ring letter that a line names, where it is a header of the right count of fields
abbrev pub letter_named : List (List ℕ) → Option RingLetter
letter_named fs = by_kind (kind_of (first fs)) (cond (length fs == 4) (letter_of (slice_index_or fs 1 [])) None) None None None

-- ---- a matrix line
abbrev pub code_at : ℕ → ℕ → ℕ → List ℕ → Result ℕ FileFault
code_at q line k f = then (number_at line k f) (λ c. run_at line k (checked_code q c))

-- codes in all fields, of which the first is field k
abbrev pub codes_from : ℕ → ℕ → ℕ → List (List ℕ) → Result (Unit {0}) FileFault
codes_from q line k [] = Ok tt
codes_from q line k (f ∷ fs) = then (code_at q line k f) (λ _. codes_from q line (k + 1) fs)

abbrev pub checked_matrix : Header → ℕ → List (List ℕ) → Result (Unit {0}) FileFault
checked_matrix h line fs = then (counted (h.size * h.size + 1) line fs) (λ _. codes_from (size_of h.letter) line 2 (drop 1 fs))

-- ---- the end line, behind n matrix lines
abbrev pub checked_end : ℕ → ℕ → List (List ℕ) → Result (Unit {0}) FileFault
checked_end n line fs =
    then (counted 2 line fs) (λ _.
    then (number_at line 2 (slice_index_or fs 1 [])) (λ v.
    cond (v == n) (Ok tt) (line_refused EndCount line 2)))
