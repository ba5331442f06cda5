-- The byte field of FIPS 197 is the field that the powers of 3 tell.
use Rattle.std.specs.Prelude.{◌≡◌, ℕ, ◌^◌, ◌<◌, Bool, true, ◌==◌, bit_xor, refl}
use Rattle.std.proofs.Common.{ap₂, ◌∙◌, arith}
use Rattle.std.proofs.lemmas.Nat.{pow_below, xor_lt}
use Rattle.std.proofs.lemmas.Bool.{eqb-true}
use Rattle.rings.specs.AllBelow.{all_below}
use Rattle.rings.specs.Powers.{product_by_places, by_places}
use Rattle.rings.specs.Bytes.{polynomial_product, reduced, byte_product, bytes}
use Rattle.rings.specs.Meaning.{Laws, Inverse}
use Rattle.rings.specs.PowersOfThree.{powers_of_three, byte_inverse}
use Rattle.rings.specs.AllBelowLemmas.{all_below_at}
use Rattle.rings.specs.ByteProduct.{byte_product_left, byte_product_right}
use Rattle.rings.specs.CycleLaws.{cycle_laws, cycle_inverts}
use Rattle.rings.specs.SameProduct.{same_laws, same_inverse}
use Rattle.rings.specs.ThreePowers.{three_cycle}
use Rattle.rings.specs.XorLinear.{XorLinear, equal_from_powers_of_two}

abbrev times : ℕ → ℕ → ℕ
times = product_by_places powers_of_three

place_laws : Laws 256 (by_places powers_of_three)
place_laws = cycle_laws powers_of_three three_cycle

-- Both products are the same at two powers of two: 64 products, computed.
same_at : ℕ → ℕ → Bool
same_at i j = times (2 ^ i) (2 ^ j) == byte_product (2 ^ i) (2 ^ j)

same_at_all : all_below (λ i. all_below (same_at i) 8) 8 ≡ true
unfolding all_below same_at powers_of_three byte_product polynomial_product reduced
same_at_all = refl

same_at_powers_of_two : (i j : ℕ) → i < 8 → j < 8 → times (2 ^ i) (2 ^ j) ≡ byte_product (2 ^ i) (2 ^ j)
unfolding same_at
same_at_powers_of_two i j h k =
    eqb-true (times (2 ^ i) (2 ^ j)) (byte_product (2 ^ i) (2 ^ j)) (all_below_at (same_at i) 8 (all_below_at (λ i. all_below (same_at i) 8) 8 same_at_all i h) j k)

times_right : (a : ℕ) → a < 256 → XorLinear 8 (times a)
times_right a h b c k m = place_laws.product_sum a b c h k m

times_left : (b : ℕ) → b < 256 → XorLinear 8 (λ a. times a b)
times_left b h a c k m =
    place_laws.product_comm (bit_xor a c) b (xor_lt 8 a c k m) h ∙ place_laws.product_sum b a c h k m
    ∙ ap₂ bit_xor (place_laws.product_comm b a h k) (place_laws.product_comm b c h m)

pub product_by_powers_of_three : (a b : ℕ) → a < 256 → b < 256 → product_by_places powers_of_three a b ≡ byte_product a b
product_by_powers_of_three a b h k =
    equal_from_powers_of_two 8 (times a) (byte_product a) (times_right a h) (λ b c k m. byte_product_right a b c) 8 (omega arith)
    (λ j jh.
    let p = pow_below j 8 jh in
    equal_from_powers_of_two 8 (λ a. times a (2 ^ j)) (λ a. byte_product a (2 ^ j)) (times_left (2 ^ j) p) (λ a c k m. byte_product_left a c (2 ^ j)) 8 (omega arith)
    (λ i ih. same_at_powers_of_two i j ih jh) a h)
    b k

pub byte_laws : Laws 256 bytes
byte_laws = same_laws 256 (by_places powers_of_three) byte_product product_by_powers_of_three place_laws

pub byte_inverts : (a : ℕ) → a < 256 → Inverse 256 bytes a (byte_inverse a)
byte_inverts a h =
    same_inverse 256 (by_places powers_of_three) byte_product product_by_powers_of_three a h (byte_inverse a) (cycle_inverts powers_of_three three_cycle a h)
