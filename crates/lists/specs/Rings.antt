-- The rings by their letters.
use Rattle.std.specs.Prelude.{ℕ, ◌^◌, cond, List, [], ◌∷◌, Some, None, Option, ◌==◌}
use Rattle.lists.specs.declared.letter.RingLetter.{RingLetter}
use Rattle.lists.specs.declared.letter.RingLetter.TheVariants.{B, P, Y, W}

-- how many codes the ring has: they are the numbers below its size
abbrev pub size_of : RingLetter → ℕ
size_of B = 2
size_of P = 101
size_of Y = 256
size_of W = 2 ^ 32

-- the byte of the letter
abbrev pub byte_of : RingLetter → ℕ
byte_of B = 66
byte_of P = 80
byte_of Y = 89
byte_of W = 87

-- the ring letter that a field is, if it is just one
abbrev pub letter_of : List ℕ → Option RingLetter
letter_of [] = None
letter_of (b ∷ []) = cond (b == 66) (Some B) (cond (b == 80) (Some P) (cond (b == 89) (Some Y) (cond (b == 87) (Some W) None)))
letter_of (b ∷ c ∷ bs) = None
