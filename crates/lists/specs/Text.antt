-- What a list is written as.
use Rattle.std.specs.Prelude.{ℕ, zero, suc, ◌*◌, ◌/◌, List, [], ◌∷◌, ◌++◌, map, length, take, drop, decimal}
use Rattle.lists.specs.Bytes.{line_end, comma, start_letter, matrix_letter, end_letter}
use Rattle.lists.specs.Rings.{byte_of}
use Rattle.lists.specs.Split.{join}
use Rattle.lists.specs.declared.header.Header.{Header}
use Rattle.lists.specs.declared.letter.RingLetter.{RingLetter}

abbrev pub header_of : RingLetter → ℕ → ℕ → Header
header_of letter size bound = record { letter = letter; size = size; bound = bound }

-- ---- one line by its fields
abbrev pub header_fields : Header → List (List ℕ)
header_fields h = (start_letter ∷ []) ∷ (byte_of h.letter ∷ []) ∷ decimal h.size ∷ decimal h.bound ∷ []

abbrev pub matrix_fields : List ℕ → List (List ℕ)
matrix_fields m = (matrix_letter ∷ []) ∷ map decimal m

abbrev pub end_fields : ℕ → List (List ℕ)
end_fields n = (end_letter ∷ []) ∷ decimal n ∷ []

-- the lines of matrices, and then the end line that tells n
abbrev pub body_fields : ℕ → List (List ℕ) → List (List (List ℕ))
body_fields n ms = map matrix_fields ms ++ (end_fields n ∷ [])

-- all lines of a list, each as its fields
abbrev pub list_fields : Header → List (List ℕ) → List (List (List ℕ))
list_fields h ms = header_fields h ∷ body_fields (length ms) ms

-- all lines of a list, without their ends
abbrev pub list_lines : Header → List (List ℕ) → List (List ℕ)
list_lines h ms = map (join comma) (list_fields h ms)

-- lines, each with its end behind it
abbrev pub closed : List (List ℕ) → List ℕ
closed [] = []
closed (l ∷ ls) = l ++ (line_end ∷ closed ls)

-- ---- a list by all its codes in order
-- how many codes a matrix has
abbrev pub cells : Header → ℕ
cells h = h.size * h.size

-- how many matrices the codes make
abbrev pub count_of : Header → List ℕ → ℕ
count_of h cs = length cs / cells h

-- the first n parts of k codes each
abbrev pub parted : ℕ → ℕ → List ℕ → List (List ℕ)
parted k zero cs = []
parted k (suc n) cs = take k cs ∷ parted k n (drop k cs)

abbrev pub matrices_of : Header → List ℕ → List (List ℕ)
matrices_of h cs = parted (cells h) (count_of h cs) cs

-- the text of a list
abbrev pub text : Header → List ℕ → List ℕ
text h cs = closed (list_lines h (matrices_of h cs))
