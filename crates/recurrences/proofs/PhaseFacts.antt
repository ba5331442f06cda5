-- What each phase says of σ, μ, β and the bound.
use Rattle.std.proofs.Common.{◌≡◌, ℕ, ◌+◌, ◌<◌, ◌≤◌, Bool, true, false, cond, ltb, ◌≢◌, refl, ap, arith}
use Rattle.std.proofs.lemmas.Bool.{cond-true, lt-ltb, ltb-true, ltb-false}
use Rattle.recurrences.specs.declared.phase.Phase.{Phase}
use Rattle.recurrences.specs.declared.phase.Phase.TheVariants.{Short, Running, Settled}
use Rattle.recurrences.specs.Phases.{phase}

number_of : Phase → ℕ
number_of Short = 0
number_of Running = 1
number_of Settled = 2

apart : (p s : Phase) → number_of p ≢ number_of s → p ≢ s
apart p s n e = n (ap number_of e)

pub running_says : (bound σ μ β : ℕ) → phase bound σ μ β ≡ Running → (σ ≤ bound) × (β + σ ≤ bound + μ)
unfolding number_of
running_says bound σ μ β = go (ltb bound σ) refl (ltb (bound + μ) (β + σ)) refl
  where
    go : (a : Bool) → ltb bound σ ≡ a → (b : Bool) → ltb (bound + μ) (β + σ) ≡ b → cond a Short (cond b Settled Running) ≡ Running → (σ ≤ bound) × (β + σ ≤ bound + μ)
    go true p b r e = absurd (apart Short Running (λ z. omega arith) e)
    go false p true r e = absurd (apart Settled Running (λ z. omega arith) e)
    go false p false r e = (ltb-false bound σ p, ltb-false (bound + μ) (β + σ) r)

pub settled_says : (bound σ μ β : ℕ) → phase bound σ μ β ≡ Settled → (σ ≤ bound) × (bound + μ < β + σ)
unfolding number_of
settled_says bound σ μ β = go (ltb bound σ) refl (ltb (bound + μ) (β + σ)) refl
  where
    go : (a : Bool) → ltb bound σ ≡ a → (b : Bool) → ltb (bound + μ) (β + σ) ≡ b → cond a Short (cond b Settled Running) ≡ Settled → (σ ≤ bound) × (bound + μ < β + σ)
    go true p b r e = absurd (apart Short Settled (λ z. omega arith) e)
    go false p true r e = (ltb-false bound σ p, ltb-true (bound + μ) (β + σ) r)
    go false p false r e = absurd (apart Running Settled (λ z. omega arith) e)

pub short_says : (bound σ μ β : ℕ) → phase bound σ μ β ≡ Short → bound < σ
unfolding number_of
short_says bound σ μ β = go (ltb bound σ) refl (ltb (bound + μ) (β + σ))
  where
    go : (a : Bool) → ltb bound σ ≡ a → (b : Bool) → cond a Short (cond b Settled Running) ≡ Short → bound < σ
    go true p b e = ltb-true bound σ p
    go false p true e = absurd (apart Settled Short (λ z. omega arith) e)
    go false p false e = absurd (apart Running Short (λ z. omega arith) e)

pub short_if : (bound σ μ β : ℕ) → bound < σ → phase bound σ μ β ≡ Short
short_if bound σ μ β h = cond-true (ltb bound σ) Short (cond (ltb (bound + μ) (β + σ)) Settled Running) (lt-ltb bound σ h)
