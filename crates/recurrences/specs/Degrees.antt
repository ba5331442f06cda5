-- The total, the greatest and the least of d 0, …, d (n - 1).
use Rattle.std.specs.Prelude.{ℕ, zero, suc, ◌+◌, min, max}

-- d 0 + … + d (n - 1)
unfoldable pub total : ℕ → (ℕ → ℕ) → ℕ
total zero d = 0
total (suc n) d = total n d + d n

-- the greatest of them, and 0 where n is 0
abbrev pub greatest : ℕ → (ℕ → ℕ) → ℕ
greatest zero d = 0
greatest (suc n) d = max (greatest n d) (d n)

-- the least of them, and 0 where n is 0
abbrev pub least : ℕ → (ℕ → ℕ) → ℕ
least zero d = 0
least (suc zero) d = d 0
least (suc (suc n)) d = min (least (suc n) d) (d (suc n))
