-- The inverses of the integers modulo 7.
use Rattle.std.specs.Prelude.{ℕ, ◌%◌, ◌^◌, cond, Some, None, Option, ◌==◌}

-- 7 is a prime, so a power of exponent 6 leaves the remainder 1 unless its base is 0: that of exponent 5 is the inverse.
abbrev pub mod7_inverse : ℕ → Option ℕ
mod7_inverse a = cond (a == 0) None (Some (a ^ 5 % 7))
