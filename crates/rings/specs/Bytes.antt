-- The byte field of FIPS 197. A code is a polynomial over the field of two elements: bit k is the coefficient of power k.
use Rattle.std.specs.Prelude.{ℕ, zero, suc, ◌+◌, ◌*◌, ◌/◌, ◌%◌, ◌^◌, bit_xor}
use Rattle.rings.specs.Meaning.{Meaning}

-- The product of the polynomials a and b, where b has powers below n.
unfoldable pub polynomial_product : ℕ → ℕ → ℕ → ℕ
polynomial_product zero a b = 0
polynomial_product (suc n) a b = bit_xor (b % 2 * a) (polynomial_product n (a * 2) (b / 2))

-- What is left of a polynomial with powers below n + 8 on division by hexadecimal 11B: the highest power goes first.
unfoldable pub reduced : ℕ → ℕ → ℕ
reduced zero c = c
reduced (suc n) c = reduced n (bit_xor c (c / 2 ^ (n + 8) % 2 * (0x11B * 2 ^ n)))

unfoldable pub byte_product : ℕ → ℕ → ℕ
byte_product a b = reduced 7 (polynomial_product 8 a b)

abbrev pub bytes : Meaning
bytes = record { sum = bit_xor; opposite = λ a. a; product = byte_product }
