-- Decimal numbers written digit by digit.
use Rattle.std.proofs.Common.{◌≡◌, ℕ, zero, suc, ◌+◌, ◌*◌, ◌/◌, ◌%◌, ◌^◌, ◌<◌, ◌≤◌, List, [], ◌∷◌, length, decimal, sym, ap, ◌∙◌, arith}
use native.Mathlib.Nat.{pow-suc}
use Rattle.std.proofs.lemmas.Fmt.{decimal_digit, decimal_step, length-decimal-le}
use Rattle.std.proofs.lemmas.List.{length_push}
use Rattle.lists.specs.Places.{written}
use Rattle.lists.proofs.Writing.{written_more}

pub length_digit : (n : ℕ) → n < 10 → length (decimal n) ≡ 1
length_digit n h = ap length (decimal_digit n h)

pub length_step : (n : ℕ) → 10 ≤ n → n < 2 ^ 32 → length (decimal n) ≡ length (decimal (n / 10)) + 1
length_step n h small = ap length (decimal_step n h (omega arith)) ∙ length_push (decimal (n / 10)) (48 + n % 10)

ten_pow_some : (k : ℕ) → 1 ≤ 10 ^ k
ten_pow_some zero = omega arith
ten_pow_some (suc k) = omega (arith, pow-suc 10 k, ten_pow_some k)

pub length_between : (k n : ℕ) → 10 ^ k ≤ n → n < 10 * 10 ^ k → n < 2 ^ 32 → length (decimal n) ≡ k + 1
length_between zero n h g small = length_digit n (omega arith)
length_between (suc k) n h g small =
    let p : 10 ^ suc k ≡ 10 ^ k * 10 = pow-suc 10 k in
    omega (arith, length_step n (omega (arith, p, ten_pow_some k)) small, length_between k (n / 10) (omega (arith, p)) (omega (arith, p)) (omega arith))

pub digits_few : (n : ℕ) → n < 2 ^ 32 → length (decimal n) ≤ 10
digits_few n small = length-decimal-le 10 n (omega arith) (omega arith) (omega arith)

pub number_put : (p q r : List ℕ) (at next n : ℕ) → 10 ≤ n → n < 2 ^ 32 → at + length (decimal n) ≤ length p → next ≡ at + length (decimal (n / 10)) → q ≡ written at (decimal (n / 10)) p → r ≡ written next ((48 + n % 10) ∷ []) q → r ≡ written at (decimal n) p
number_put p q r at next n big small room e f g =
    g ∙ ap (written next ((48 + n % 10) ∷ [])) f ∙ written_more p at (decimal (n / 10)) ((48 + n % 10) ∷ []) next e (omega (arith, length_step n big small)) ∙ ap (λ (t : List ℕ). written at t p) (sym (decimal_step n big (omega arith)))
