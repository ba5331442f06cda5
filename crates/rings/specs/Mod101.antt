-- The inverses of the integers modulo 101.
use Rattle.std.specs.Prelude.{ℕ, ◌%◌, ◌^◌, cond, Some, None, Option, ◌==◌}

-- 101 is a prime, so a power of exponent 100 leaves the remainder 1 unless its base is 0: that of exponent 99 is the inverse.
abbrev pub mod101_inverse : ℕ → Option ℕ
mod101_inverse a = cond (a == 0) None (Some (a ^ 99 % 101))
