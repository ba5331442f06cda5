-- The checks of a whole file, line by line.
use Rattle.std.specs.Prelude.{ℕ, ◌+◌, ◌-◌, cond, List, [], ◌∷◌, length, take, None, Ok, Err, Option, Result, ◌==◌, nat_lt, slice_index}
use Rattle.lists.specs.Bytes.{line_end, comma}
use Rattle.lists.specs.Checks.{then, carried}
use Rattle.lists.specs.Faults.{line_refused}
use Rattle.lists.specs.Kinds.{kind_of, by_kind}
use Rattle.lists.specs.LineChecks.{checked_header, checked_matrix, checked_end, letter_named}
use Rattle.lists.specs.Limits.{greatest_length}
use Rattle.lists.specs.Split.{split, first}
use Rattle.lists.specs.declared.fault.FileFault.{FileFault}
use Rattle.lists.specs.declared.fault.FileFault.TheVariants.{Whole}
use Rattle.lists.specs.declared.fault.LineFault.TheVariants.{Letter}
use Rattle.lists.specs.declared.fault.WholeFault.{WholeFault}
use Rattle.lists.specs.declared.fault.WholeFault.TheVariants.{TooLong, Unended}
use Rattle.lists.specs.declared.header.Header.{Header}
use Rattle.lists.specs.declared.header.Listing.{Listing}
use Rattle.lists.specs.declared.letter.RingLetter.{RingLetter}

-- behind the end line no line may stand; the answer is the count of matrices
abbrev pub nothing_behind : ℕ → ℕ → List (List ℕ) → Result ℕ FileFault
nothing_behind n line [] = Ok n
nothing_behind n line (l ∷ ls) = line_refused Letter line 1

-- the lines behind the header and n matrices; the first of them has the number line, and the answer is the count of matrices
abbrev pub checked_body : Header → ℕ → ℕ → List (List ℕ) → Result ℕ FileFault
checked_body h n line [] = line_refused Letter line 1
checked_body h n line (l ∷ ls) =
    by_kind (kind_of (first (split comma l)))
    (line_refused Letter line 1)
    (then (checked_matrix h line (split comma l)) (λ _. checked_body h (n + 1) (line + 1) ls))
    (then (checked_end n line (split comma l)) (λ _. nothing_behind n (line + 1) ls))
    (line_refused Letter line 1)

abbrev pub checked_lines : List (List ℕ) → Result Listing FileFault
checked_lines [] = line_refused Letter 1 1
checked_lines (l ∷ ls) =
    then (checked_header 1 (split comma l)) (λ h.
    then (checked_body h 0 2 ls) (λ n.
    Ok (record { header = h; count = n })))

-- the lines of a file whose last byte is a line end
abbrev pub lines_of : List ℕ → List (List ℕ)
lines_of b = split line_end (take (length b - 1) b)

-- short enough, and ended by a line end
abbrev pub opened : List ℕ → Result (Unit {0}) WholeFault
opened b = cond (nat_lt greatest_length (length b)) (Err TooLong) (cond (slice_index b (length b - 1) == line_end) (Ok tt) (Err Unended))

-- the lines that a cursor over a file hands out: none where the file is refused as a whole
abbrev pub lines_handed : Result (Unit {0}) WholeFault → List ℕ → List (List ℕ)
lines_handed (Ok u) b = lines_of b
lines_handed (Err e) b = []

abbrev pub checked_file : List ℕ → Result Listing FileFault
checked_file b = then (carried Whole (opened b)) (λ _. checked_lines (lines_of b))

-- the ring letter that the first of the lines names, whatever stands behind it
abbrev pub letter_in : List (List ℕ) → Option RingLetter
letter_in [] = None
letter_in (l ∷ ls) = letter_named (split comma l)
