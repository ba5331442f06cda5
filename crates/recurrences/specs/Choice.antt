-- Choosing by a decision, and changing a function at one number.
use Rattle.std.specs.Prelude.{ℕ}
use Rattle.std.proofs.Math.Decide.{ℕ_discrete}

-- a where the decision is yes, b where it is no
unfoldable pub pick : {A : Type 0} {P : Type 0} → Dec P → A → A → A
pick (yes p) a b = a
pick (no p) a b = b

-- the function that is a at k, and f elsewhere
unfoldable pub put : {A : Type 0} → ℕ → A → (ℕ → A) → ℕ → A
put k a f j = pick (ℕ_discrete j k) a (f j)
