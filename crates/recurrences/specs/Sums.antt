-- Finite sums in a ring.
use Rattle.std.specs.Prelude.{ℕ, zero, suc}
use Rattle.recurrences.specs.Operations.{Operations}

-- g 0 + … + g (n - 1)
unfoldable pub sum : (O : Operations) → ℕ → (ℕ → O.K) → O.K
sum O zero g = O.𝟘
sum O (suc n) g = O.add (sum O n g) (g n)
