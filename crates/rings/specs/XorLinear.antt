-- A function that respects exclusive or is known from its values at the powers of two.
use Rattle.std.specs.Prelude.{◌≡◌, ℕ, zero, suc, ◌-◌, ◌^◌, ◌<◌, ◌≤◌, bit_xor}
use Rattle.std.proofs.Common.{sym, ap, ap₂, subst, ◌∙◌, ⊎_elim, one-mul, pow-suc, arith}
use Rattle.std.specs.Int.Bits.{xor_self, xor_shifted}
use Rattle.std.proofs.lemmas.Nat.{pow_pos, pow_below}
use Rattle.std.proofs.lemmas.Bool.{cases_lt}

-- The function f respects exclusive or below 2 ^ K.
abbrev pub XorLinear : ℕ → (ℕ → ℕ) → Type 0
XorLinear K f = (a b : ℕ) → a < 2 ^ K → b < 2 ^ K → f (bit_xor a b) ≡ bit_xor (f a) (f b)

linear_at_zero : (K : ℕ) (f : ℕ → ℕ) → XorLinear K f → f 0 ≡ 0
linear_at_zero K f h = h 0 0 (pow_pos K) (pow_pos K) ∙ xor_self (f 0)

highest_bit_apart : (k a : ℕ) → 2 ^ k ≤ a → a < 2 ^ suc k → bit_xor (2 ^ k) (a - 2 ^ k) ≡ a
highest_bit_apart k a h m =
    let r : a - 2 ^ k < 2 ^ k = omega (arith, pow-suc 2 k) in
    ap (λ x. bit_xor x (a - 2 ^ k)) (sym (one-mul (2 ^ k))) ∙ xor_shifted 1 k (a - 2 ^ k) r ∙ omega arith

module _ (K : ℕ) (f g : ℕ → ℕ) (hf : XorLinear K f) (hg : XorLinear K g) where
  pub equal_from_powers_of_two : (k : ℕ) → k ≤ K → ((j : ℕ) → j < k → f (2 ^ j) ≡ g (2 ^ j)) → (a : ℕ) → a < 2 ^ k → f a ≡ g a
  equal_from_powers_of_two zero m e a h =
      let z : 0 ≡ a = omega arith in
      subst (λ x. f x ≡ g x) z (linear_at_zero K f hf ∙ sym (linear_at_zero K g hg))
  equal_from_powers_of_two (suc k) m e a h =
      ⊎_elim (λ (lt : a < 2 ^ k). equal_from_powers_of_two k (omega arith) (λ j i. e j (omega arith)) a lt)
      (λ (ge : 2 ^ k ≤ a).
      let rest : a - 2 ^ k < 2 ^ k = omega (arith, pow-suc 2 k) in
      let top = pow_below k K (omega arith) in
      subst (λ x. f x ≡ g x) (highest_bit_apart k a ge h)
      (hf (2 ^ k) (a - 2 ^ k) top (omega arith)
      ∙ ap₂ bit_xor (e k (omega arith)) (equal_from_powers_of_two k (omega arith) (λ j i. e j (omega arith)) (a - 2 ^ k) rest)
      ∙ sym (hg (2 ^ k) (a - 2 ^ k) top (omega arith))))
      (cases_lt a (2 ^ k))
