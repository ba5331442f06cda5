-- A test that passes at all numbers below n passes at each of them, and back.
use Rattle.std.specs.Prelude.{◌≡◌, ℕ, zero, suc, ◌<◌, Bool, true, refl}
use Rattle.std.proofs.Common.{arith, below_more}
use Rattle.std.proofs.lemmas.Bool.{and_parts, and_from}
use Rattle.rings.specs.AllBelow.{all_below}

pub all_below_at : (f : ℕ → Bool) (n : ℕ) → all_below f n ≡ true → (i : ℕ) → i < n → f i ≡ true
unfolding all_below
all_below_at f zero t i h = absurd (omega arith)
all_below_at f (suc n) t i h =
    let p = and_parts (f n) (all_below f n) t in
    below_more (λ k. f k ≡ true) n (all_below_at f n p.1) p.0 i (omega arith)

pub all_below_from : (f : ℕ → Bool) (n : ℕ) → ((i : ℕ) → i < n → f i ≡ true) → all_below f n ≡ true
unfolding all_below
all_below_from f zero h = refl
all_below_from f (suc n) h = and_from (f n) (all_below f n) (h n (omega arith)) (all_below_from f n (λ i k. h i (omega arith)))
