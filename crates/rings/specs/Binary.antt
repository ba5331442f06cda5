-- The field of two elements, 0 and 1.
use Rattle.std.specs.Prelude.{ℕ, cond, Some, None, Option, ◌==◌, bit_and}
use Rattle.std.specs.Int.Bits.{bit_xor}
use Rattle.rings.specs.Meaning.{Meaning}

abbrev pub binary : Meaning
binary = record { sum = bit_xor; opposite = λ a. a; product = bit_and }

-- The one code that has an inverse is 1, its own.
abbrev pub binary_inverse : ℕ → Option ℕ
binary_inverse a = cond (a == 0) None (Some 1)
