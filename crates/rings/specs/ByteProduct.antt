-- The product of the byte field respects exclusive or on either side.
use Rattle.std.specs.Prelude.{◌≡◌, ℕ, zero, suc, ◌+◌, ◌*◌, ◌/◌, ◌%◌, ◌^◌, ◌<◌, bit_xor, refl}
use Rattle.std.proofs.Common.{sym, ap, ap₂, ◌∙◌, zero-mul, one-mul, add-zero, mod-lt, arith}
use Rattle.std.proofs.lemmas.Nat.{xor_comm, xor_shr, xor_mod, xor_block}
use Rattle.std.specs.Int.Bits.{xor_assoc, xor_zero_r, xor_self}
use Rattle.rings.specs.Bytes.{polynomial_product, reduced, byte_product}

xor_of_pairs : (a b c d : ℕ) → bit_xor (bit_xor a b) (bit_xor c d) ≡ bit_xor (bit_xor a c) (bit_xor b d)
xor_of_pairs a b c d =
    xor_assoc a b (bit_xor c d)
    ∙ ap (bit_xor a) (sym (xor_assoc b c d) ∙ ap (λ x. bit_xor x d) (xor_comm b c) ∙ xor_assoc c b d)
    ∙ sym (xor_assoc a c (bit_xor b d))

-- ---- one coefficient times a polynomial

coefficient_sum : (u v m : ℕ) → u < 2 → v < 2 → bit_xor u v * m ≡ bit_xor (u * m) (v * m)
coefficient_sum zero v m h k = sym (ap (λ x. bit_xor x (v * m)) (zero-mul m))
coefficient_sum (suc zero) zero m h k = sym (ap (bit_xor (1 * m)) (zero-mul m) ∙ xor_zero_r (1 * m))
coefficient_sum (suc zero) (suc zero) m h k = zero-mul m ∙ sym (xor_self (1 * m))
coefficient_sum (suc zero) (suc (suc v)) m h k = absurd (omega arith)
coefficient_sum (suc (suc u)) v m h k = absurd (omega arith)

lowest_of_sum : (x y m : ℕ) → bit_xor x y % 2 * m ≡ bit_xor (x % 2 * m) (y % 2 * m)
lowest_of_sum x y m =
    ap (λ z. z * m) (xor_mod x y 1) ∙ coefficient_sum (x % 2) (y % 2) m (mod-lt x (omega arith)) (mod-lt y (omega arith))

coefficient_of_sum : (u x y : ℕ) → u < 2 → u * bit_xor x y ≡ bit_xor (u * x) (u * y)
coefficient_of_sum zero x y h = zero-mul (bit_xor x y) ∙ sym (ap₂ bit_xor (zero-mul x) (zero-mul y))
coefficient_of_sum (suc zero) x y h = one-mul (bit_xor x y) ∙ sym (ap₂ bit_xor (one-mul x) (one-mul y))
coefficient_of_sum (suc (suc u)) x y h = absurd (omega arith)

double_of_sum : (x y : ℕ) → bit_xor x y * 2 ≡ bit_xor (x * 2) (y * 2)
double_of_sum x y =
    sym (ap₂ bit_xor (sym (add-zero (x * 2))) (sym (add-zero (y * 2)))
    ∙ xor_block 1 x y 0 0 (omega arith) (omega arith) ∙ add-zero (bit_xor x y * 2))

-- ---- the product, then the remainder

polynomial_product_right : (n a b c : ℕ) → polynomial_product n a (bit_xor b c) ≡ bit_xor (polynomial_product n a b) (polynomial_product n a c)
unfolding polynomial_product
polynomial_product_right zero a b c = refl
polynomial_product_right (suc n) a b c =
    ap₂ bit_xor (lowest_of_sum b c a) (ap (polynomial_product n (a * 2)) (xor_shr b c 1) ∙ polynomial_product_right n (a * 2) (b / 2) (c / 2))
    ∙ xor_of_pairs (b % 2 * a) (c % 2 * a) (polynomial_product n (a * 2) (b / 2)) (polynomial_product n (a * 2) (c / 2))

polynomial_product_left : (n a c b : ℕ) → polynomial_product n (bit_xor a c) b ≡ bit_xor (polynomial_product n a b) (polynomial_product n c b)
unfolding polynomial_product
polynomial_product_left zero a c b = refl
polynomial_product_left (suc n) a c b =
    ap₂ bit_xor (coefficient_of_sum (b % 2) a c (mod-lt b (omega arith))) (ap (λ x. polynomial_product n x (b / 2)) (double_of_sum a c) ∙ polynomial_product_left n (a * 2) (c * 2) (b / 2))
    ∙ xor_of_pairs (b % 2 * a) (b % 2 * c) (polynomial_product n (a * 2) (b / 2)) (polynomial_product n (c * 2) (b / 2))

reduced_sum : (n x y : ℕ) → reduced n (bit_xor x y) ≡ bit_xor (reduced n x) (reduced n y)
unfolding reduced
reduced_sum zero x y = refl
reduced_sum (suc n) x y =
    ap (reduced n)
    (ap (bit_xor (bit_xor x y)) (ap (λ z. z % 2 * (0x11B * 2 ^ n)) (xor_shr x y (n + 8)) ∙ lowest_of_sum (x / 2 ^ (n + 8)) (y / 2 ^ (n + 8)) (0x11B * 2 ^ n))
    ∙ xor_of_pairs x y (x / 2 ^ (n + 8) % 2 * (0x11B * 2 ^ n)) (y / 2 ^ (n + 8) % 2 * (0x11B * 2 ^ n)))
    ∙ reduced_sum n (bit_xor x (x / 2 ^ (n + 8) % 2 * (0x11B * 2 ^ n))) (bit_xor y (y / 2 ^ (n + 8) % 2 * (0x11B * 2 ^ n)))

pub byte_product_right : (a b c : ℕ) → byte_product a (bit_xor b c) ≡ bit_xor (byte_product a b) (byte_product a c)
unfolding byte_product
byte_product_right a b c = ap (reduced 7) (polynomial_product_right 8 a b c) ∙ reduced_sum 7 (polynomial_product 8 a b) (polynomial_product 8 a c)

pub byte_product_left : (a c b : ℕ) → byte_product (bit_xor a c) b ≡ bit_xor (byte_product a b) (byte_product c b)
unfolding byte_product
byte_product_left a c b = ap (reduced 7) (polynomial_product_left 8 a c b) ∙ reduced_sum 7 (polynomial_product 8 a b) (polynomial_product 8 c b)
