-- Two places changed over.
use Rattle.std.proofs.Common.{◌≡◌, ℕ, ◌<◌, ◌≢◌, sym, ap, ◌∙◌, arith}
use native.Mathlib.Decide.{ℕ_discrete}
use Rattle.std.proofs.lemmas.Bool.Decides.{nat_tests}
use Rattle.runs.specs.Clearing.{swapped}

pub swapped_first : (c p : ℕ) → swapped c p c ≡ p
swapped_first c p = grind (arith, nat_tests)

pub swapped_second : (c p : ℕ) → swapped c p p ≡ c
swapped_second c p = grind (arith, nat_tests)

pub swapped_other : (c p j : ℕ) → j ≢ c → j ≢ p → swapped c p j ≡ j
swapped_other c p j h k = grind (arith, nat_tests)

pub swapped_below : (c p n j : ℕ) → c < n → p < n → j < n → swapped c p j < n
swapped_below c p n j a b h = grind (arith, nat_tests)

pub swapped_back : (c p j : ℕ) → swapped c p (swapped c p j) ≡ j
swapped_back c p j = grind (arith, nat_tests)

pub swapped_apart : (c p j : ℕ) → j ≢ p → swapped c p j ≢ c
swapped_apart c p j h e = grind (arith, nat_tests)

-- where two elements have changed places, each comes from its place before
pub swapped_from : {X : Type 0} (f g : ℕ → X) (c p : ℕ) → f c ≡ g p → f p ≡ g c → ((j : ℕ) → j ≢ c → j ≢ p → f j ≡ g j) → (j : ℕ) → f j ≡ g (swapped c p j)
swapped_from f g c p first second other j = go (ℕ_discrete j c) (ℕ_discrete j p)
  where
    go : Dec (j ≡ c) → Dec (j ≡ p) → f j ≡ g (swapped c p j)
    go (yes e) _ = ap f e ∙ first ∙ ap g (sym (ap (swapped c p) e ∙ swapped_first c p))
    go (no h) (yes e) = ap f e ∙ second ∙ ap g (sym (ap (swapped c p) e ∙ swapped_second c p))
    go (no h) (no k) = other j h k ∙ ap g (sym (swapped_other c p j h k))
