-- A text and its parts.
use Rattle.std.specs.Prelude.{ℕ, List, [], ◌∷◌, ◌==◌}
use Rattle.std.specs.List.{slice_split, join_with_byte}

-- the parts of a text between its bytes c: one more than there are such bytes
abbrev pub split : ℕ → List ℕ → List (List ℕ)
split c bs = slice_split (λ b. b == c) bs

-- the text of parts with a byte c between each two
abbrev pub join : ℕ → List (List ℕ) → List ℕ
join c ps = join_with_byte c ps

-- the first part
abbrev pub first : List (List ℕ) → List ℕ
first [] = []
first (p ∷ ps) = p
