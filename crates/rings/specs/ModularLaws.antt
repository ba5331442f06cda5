-- The remainders on division by q keep the laws of a ring, for every size q.
use Rattle.std.specs.Prelude.{◌≡◌, ℕ, ◌+◌, ◌-◌, ◌*◌, ◌/◌, ◌%◌, ◌^◌, ◌≤◌}
use Rattle.std.proofs.Common.{sym, ap, ◌∙◌, add_comm, add_assoc, add-zero, mul_comm, mul_assoc, mul-one, mul-add, add-mul, mod-lt, mod-eq_of_lt, arith}
use Rattle.std.proofs.Math.Nat.{mod_self, mod-add-mod, add-mod-mod, mod-add-div, add-mul-mod_self_left}
use Rattle.rings.specs.Meaning.{Laws}
use Rattle.rings.specs.Modular.{modular}

mod_mul_mod : (a q b : ℕ) → (a % q * b) % q ≡ (a * b) % q
mod_mul_mod a q b =
    let whole : a * b ≡ a % q * b + q * (a / q * b) =
    ap (λ n. n * b) (sym (mod-add-div a q)) ∙ add-mul (a % q) (q * (a / q)) b ∙ ap (λ n. a % q * b + n) (mul_assoc q (a / q) b) in
    sym (ap (λ n. n % q) whole ∙ add-mul-mod_self_left (a % q * b) q (a / q * b))

mul_mod_mod : (a b q : ℕ) → (a * (b % q)) % q ≡ (a * b) % q
mul_mod_mod a b q = ap (λ n. n % q) (mul_comm a (b % q)) ∙ mod_mul_mod b q a ∙ ap (λ n. n % q) (mul_comm b a)

pub modular_laws : (q : ℕ) → 2 ≤ q → q ≤ 2 ^ 32 → Laws q (modular q)
modular_laws q two small = record {
  at_least_two = two;
  at_most_words = small;
  sum_code = λ a b ha hb. mod-lt (a + b) (omega arith);
  opposite_code = λ a ha. mod-lt (q - a) (omega arith);
  product_code = λ a b ha hb. mod-lt (a * b) (omega arith);
  sum_comm = λ a b ha hb. ap (λ n. n % q) (add_comm a b);
  sum_assoc = λ a b c ha hb hc. mod-add-mod (a + b) q c ∙ ap (λ n. n % q) (add_assoc a b c) ∙ sym (add-mod-mod a (b + c) q);
  sum_zero = λ a ha. ap (λ n. n % q) (add-zero a) ∙ mod-eq_of_lt ha;
  sum_opposite = λ a ha. add-mod-mod a (q - a) q ∙ ap (λ n. n % q) (let e : a + (q - a) ≡ q = omega arith in e) ∙ mod_self q;
  product_comm = λ a b ha hb. ap (λ n. n % q) (mul_comm a b);
  product_assoc = λ a b c ha hb hc. mod_mul_mod (a * b) q c ∙ ap (λ n. n % q) (mul_assoc a b c) ∙ sym (mul_mod_mod a (b * c) q);
  product_one = λ a ha. ap (λ n. n % q) (mul-one a) ∙ mod-eq_of_lt ha;
  product_sum = λ a b c ha hb hc. mul_mod_mod a (b + c) q ∙ ap (λ n. n % q) (mul-add a b c) ∙ sym (mod-add-mod (a * b) q (a * c % q) ∙ add-mod-mod (a * b) (a * c) q);
}
