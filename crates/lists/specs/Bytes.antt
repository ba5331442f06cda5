-- The bytes that part a file into lines and fields, and the letters of its lines.
use Rattle.std.specs.Prelude.{ℕ}

abbrev pub line_end : ℕ
line_end = 10

abbrev pub comma : ℕ
comma = 44

-- E
abbrev pub end_letter : ℕ
end_letter = 69

-- M
abbrev pub matrix_letter : ℕ
matrix_letter = 77

-- S
abbrev pub start_letter : ℕ
start_letter = 83
