-- Lines with their ends, as they are written from left to right.
use Rattle.std.specs.Prelude.{ℕ, zero, suc, List, [], ◌∷◌, ◌++◌, take, drop, decimal}
use Rattle.lists.specs.Bytes.{line_end, comma, matrix_letter}

-- numbers, each behind a comma
abbrev pub commaed : List ℕ → List ℕ
commaed [] = []
commaed (x ∷ xs) = (comma ∷ decimal x) ++ commaed xs

-- the line that begins with the bytes start and goes on with numbers
abbrev pub line_text : List ℕ → List ℕ → List ℕ
line_text start numbers = start ++ (commaed numbers ++ (line_end ∷ []))

-- the lines of the first n matrices of k codes each
abbrev pub matrix_texts : ℕ → ℕ → List ℕ → List ℕ
matrix_texts k zero cs = []
matrix_texts k (suc n) cs = line_text (matrix_letter ∷ []) (take k cs) ++ matrix_texts k n (drop k cs)
