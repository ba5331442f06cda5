-- The field of two elements keeps the laws: each is tried at the codes 0 and 1.
use Rattle.std.specs.Prelude.{◌≡◌, ℕ, zero, suc, ◌<◌, bit_and, bit_xor, refl}
use Rattle.std.proofs.Common.{arith, lit<, lit≤}
use Rattle.rings.specs.Meaning.{Laws, Inverse}
use Rattle.rings.specs.Binary.{binary, binary_inverse}

below_two : (P : ℕ → Type 0) → P 0 → P 1 → (a : ℕ) → a < 2 → P a
below_two P p q zero h = p
below_two P p q (suc zero) h = q
below_two P p q (suc (suc a)) h = absurd (omega arith)

pairs_below_two : (P : ℕ → ℕ → Type 0) → P 0 0 → P 0 1 → P 1 0 → P 1 1 → (a b : ℕ) → a < 2 → b < 2 → P a b
pairs_below_two P p q r s a b ha hb = below_two (λ x. P x b) (below_two (P 0) p q b hb) (below_two (P 1) r s b hb) a ha

triples_below_two : (P : ℕ → ℕ → ℕ → Type 0) → P 0 0 0 → P 0 0 1 → P 0 1 0 → P 0 1 1 → P 1 0 0 → P 1 0 1 → P 1 1 0 → P 1 1 1 → (a b c : ℕ) → a < 2 → b < 2 → c < 2 → P a b c
triples_below_two P p q r s t u v w a b c ha hb hc =
    below_two (λ x. P x b c) (pairs_below_two (P 0) p q r s b c hb hc) (pairs_below_two (P 1) t u v w b c hb hc) a ha

pub binary_laws : Laws 2 binary
binary_laws = record {
  at_least_two = lit≤ tt;
  at_most_words = lit≤ tt;
  sum_code = pairs_below_two (λ a b. bit_xor a b < 2) (lit< tt) (lit< tt) (lit< tt) (lit< tt);
  opposite_code = λ a h. h;
  product_code = pairs_below_two (λ a b. bit_and a b < 2) (lit< tt) (lit< tt) (lit< tt) (lit< tt);
  sum_comm = pairs_below_two (λ a b. bit_xor a b ≡ bit_xor b a) refl refl refl refl;
  sum_assoc = triples_below_two (λ a b c. bit_xor (bit_xor a b) c ≡ bit_xor a (bit_xor b c)) refl refl refl refl refl refl refl refl;
  sum_zero = below_two (λ a. bit_xor a 0 ≡ a) refl refl;
  sum_opposite = below_two (λ a. bit_xor a a ≡ 0) refl refl;
  product_comm = pairs_below_two (λ a b. bit_and a b ≡ bit_and b a) refl refl refl refl;
  product_assoc = triples_below_two (λ a b c. bit_and (bit_and a b) c ≡ bit_and a (bit_and b c)) refl refl refl refl refl refl refl refl;
  product_one = below_two (λ a. bit_and a 1 ≡ a) refl refl;
  product_sum = triples_below_two (λ a b c. bit_and a (bit_xor b c) ≡ bit_xor (bit_and a b) (bit_and a c)) refl refl refl refl refl refl refl refl;
}

pub binary_inverts : (a : ℕ) → a < 2 → Inverse 2 binary a (binary_inverse a)
binary_inverts = below_two (λ a. Inverse 2 binary a (binary_inverse a)) refl (lit< tt, refl)
