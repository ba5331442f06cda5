-- What sizes, bounds and codes have to be.
use Rattle.std.specs.Prelude.{ℕ, Bool, cond, ◌&&◌, Ok, Err, Result, nat_le, nat_lt}
use Rattle.recurrences.specs.Limits.{greatest_size, greatest_bound}
use Rattle.recurrences.specs.declared.refusal.Refusal.{Refusal}
use Rattle.recurrences.specs.declared.refusal.Refusal.TheVariants.{Size, Bound, Code}

-- 1 to the greatest
abbrev pub is_size : ℕ → Bool
is_size n = nat_le 1 n && nat_le n greatest_size

abbrev pub checked_size : ℕ → Result ℕ Refusal
checked_size n = cond (is_size n) (Ok n) (Err Size)

abbrev pub checked_bound : ℕ → Result ℕ Refusal
checked_bound d = cond (nat_le d greatest_bound) (Ok d) (Err Bound)

-- c is a code of the ring of size q
abbrev pub checked_code : ℕ → ℕ → Result ℕ Refusal
checked_code q c = cond (nat_lt c q) (Ok c) (Err Code)
