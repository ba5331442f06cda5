-- The field on the codes 0 to 255 that a list tells: its entries are the powers of one code in order, from the power 0 on, and two codes are multiplied by adding their places.
use Rattle.std.specs.Prelude.{ℕ, suc, ◌+◌, ◌-◌, ◌%◌, cond, List, [], ◌∷◌, Some, None, Option, ◌==◌, slice_index}
use Rattle.std.specs.Int.Bits.{bit_xor}
use Rattle.rings.specs.Meaning.{Meaning}

abbrev pub power : List ℕ → ℕ → ℕ
power xs i = slice_index xs i

-- The first place at which a stands; the list's length if it stands nowhere.
abbrev pub place : List ℕ → ℕ → ℕ
place [] a = 0
place (x ∷ xs) a = cond (x == a) 0 (suc (place xs a))

-- 0 goes to 0, and each entry to the one behind it, the last to the first.
abbrev pub next_power : List ℕ → ℕ → ℕ
next_power xs a = cond (a == 0) 0 (power xs ((place xs a + 1) % 255))

abbrev pub product_by_places : List ℕ → ℕ → ℕ → ℕ
product_by_places xs a b = cond (a == 0) 0 (cond (b == 0) 0 (power xs ((place xs a + place xs b) % 255)))

abbrev pub by_places : List ℕ → Meaning
by_places xs = record { sum = bit_xor; opposite = λ a. a; product = product_by_places xs }

abbrev pub inverse_by_places : List ℕ → ℕ → Option ℕ
inverse_by_places xs a = cond (a == 0) None (Some (power xs ((255 - place xs a) % 255)))
