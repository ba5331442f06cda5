-- A pairing one to one.
use Rattle.std.specs.Prelude.{◌≡◌, ℕ, ◌<◌}

-- the numbers below n paired off with the numbers below n: k has the partner `to k`, and `from` leads back
pub record Pairing (n : ℕ) : Type 0 where
  pub to : ℕ → ℕ
  pub from : ℕ → ℕ
  pub to_below : (k : ℕ) → k < n → to k < n
  pub from_below : (k : ℕ) → k < n → from k < n
  pub from_to : (k : ℕ) → k < n → from (to k) ≡ k
  pub to_from : (k : ℕ) → k < n → to (from k) ≡ k
