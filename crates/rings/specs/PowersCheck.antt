-- The check on a list of 255 numbers: each is 1 to 255, no two are equal, the first is 1, and to go to the next power respects exclusive or.
use Rattle.std.specs.Prelude.{ℕ, Bool, ◌&&◌, List, ◌==◌, bit_xor, nat_lt}
use Rattle.rings.specs.AllBelow.{all_below}
use Rattle.rings.specs.Powers.{power, place, next_power}

abbrev pub nonzero_code_at : List ℕ → ℕ → Bool
nonzero_code_at xs i = nat_lt 0 (power xs i) && nat_lt (power xs i) 256

abbrev pub are_nonzero_codes : List ℕ → Bool
are_nonzero_codes xs = all_below (nonzero_code_at xs) 255

-- The entry at i equals none before it.
abbrev pub new_at : List ℕ → ℕ → Bool
new_at xs i = place xs (power xs i) == i

abbrev pub are_distinct : List ℕ → Bool
are_distinct xs = all_below (new_at xs) 255

-- The step of a sum is the sum of the steps.
abbrev pub respects_xor_at : List ℕ → ℕ → ℕ → Bool
respects_xor_at xs a b = next_power xs (bit_xor a b) == bit_xor (next_power xs a) (next_power xs b)

abbrev pub respects_xor_with : List ℕ → ℕ → Bool
respects_xor_with xs a = all_below (respects_xor_at xs a) 256

abbrev pub respects_xor : List ℕ → Bool
respects_xor xs = all_below (respects_xor_with xs) 256

abbrev pub passes : List ℕ → Bool
passes xs = are_nonzero_codes xs && (are_distinct xs && (power xs 0 == 1 && respects_xor xs))
