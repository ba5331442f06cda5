-- What is proved of lists of powers.
use Rattle.std.specs.Prelude.{◌≡◌, ℕ, ◌<◌, true, List, length}
use Rattle.rings.specs.Bytes.{bytes}
use Rattle.rings.specs.Meaning.{Laws, Inverse}
use Rattle.rings.specs.Powers.{power, by_places, inverse_by_places}
use Rattle.rings.specs.PowersCheck.{passes}
use Rattle.rings.specs.PowersOfThree.{three_to, powers_of_three}

-- Every list of 255 numbers that passes the check tells a field.
abbrev pub PowersMakeAField : Type 0
PowersMakeAField =
    (xs : List ℕ) → length xs ≡ 255 → passes xs ≡ true → Laws 256 (by_places xs) × ((a : ℕ) → a < 256 → Inverse 256 (by_places xs) a (inverse_by_places xs a))

-- The powers of 3 pass the check, and the field that they tell has the products of FIPS 197.
abbrev pub PowersOfThreeMakeTheByteField : Type 0
PowersOfThreeMakeTheByteField =
    (length powers_of_three ≡ 255) × (passes powers_of_three ≡ true) × ((i : ℕ) → i < 255 → power powers_of_three i ≡ three_to i)
    × ((a b : ℕ) → a < 256 → b < 256 → (by_places powers_of_three).product a b ≡ bytes.product a b)
