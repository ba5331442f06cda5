-- A square of N rows and columns in a table that is 0 outside of it.
use Rattle.std.proofs.Common.{◌≡◌, ℕ, ◌<◌, ◌≤◌, Bool, true, false, cond, ltb, ◌⊎◌, refl, ap, ◌∙◌, inl, inr}
use Rattle.std.proofs.lemmas.Bool.{cond-true, cond-false, lt-ltb, le-ltb}

module _ (N : ℕ) (x f : ℕ → ℕ → ℕ) (h : (r : ℕ) → x r ≡ cond (ltb r N) (λ c. cond (ltb c N) (f r c) 0) (λ _. 0)) where
  pub framed_inside : (r c : ℕ) → r < N → c < N → x r c ≡ f r c
  framed_inside r c rN cN = ap (λ (v : ℕ → ℕ). v c) (h r ∙ cond-true (ltb r N) _ _ (lt-ltb r N rN)) ∙ cond-true (ltb c N) _ 0 (lt-ltb c N cN)

  pub framed_outside : (r c : ℕ) → (N ≤ r) ⊎ (N ≤ c) → x r c ≡ 0
  framed_outside r c (inl rN) = ap (λ (v : ℕ → ℕ). v c) (h r ∙ cond-false (ltb r N) _ _ (le-ltb r N rN))
  framed_outside r c (inr cN) = ap (λ (v : ℕ → ℕ). v c) (h r) ∙ go (ltb r N)
    where
      go : (b : Bool) → cond {A = ℕ → ℕ} b (λ (i : ℕ). cond (ltb i N) (f r i) 0) (λ _. 0) c ≡ 0
      go true = cond-false (ltb c N) _ 0 (le-ltb c N cN)
      go false = refl
