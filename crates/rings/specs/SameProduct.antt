-- The laws pass to another product with the same answers at codes.
use Rattle.std.specs.Prelude.{◌≡◌, ℕ, ◌<◌, Some, None, Option}
use Rattle.std.proofs.Common.{sym, ap, ap₂, ◌∙◌, arith}
use Rattle.rings.specs.Meaning.{Meaning, Laws, Inverse}

abbrev pub with_product : Meaning → (ℕ → ℕ → ℕ) → Meaning
with_product m f = record { sum = m.sum; opposite = m.opposite; product = f }

module _ (q : ℕ) (m : Meaning) (f : ℕ → ℕ → ℕ) (same : (a b : ℕ) → a < q → b < q → m.product a b ≡ f a b) where
  pub same_laws : Laws q m → Laws q (with_product m f)
  same_laws l = record {
    at_least_two = l.at_least_two;
    at_most_words = l.at_most_words;
    sum_code = l.sum_code;
    opposite_code = l.opposite_code;
    product_code = product_code;
    sum_comm = l.sum_comm;
    sum_assoc = l.sum_assoc;
    sum_zero = l.sum_zero;
    sum_opposite = l.sum_opposite;
    product_comm = λ a b h k. sym (same a b h k) ∙ l.product_comm a b h k ∙ same b a k h;
    product_assoc = λ a b c h k n.
        sym (same (f a b) c (product_code a b h k) n) ∙ ap (λ x. m.product x c) (sym (same a b h k))
        ∙ l.product_assoc a b c h k n
        ∙ ap (m.product a) (same b c k n) ∙ same a (f b c) h (product_code b c k n);
    product_one = λ a h. sym (same a 1 h (omega (arith, l.at_least_two))) ∙ l.product_one a h;
    product_sum = λ a b c h k n.
        sym (same a (m.sum b c) h (l.sum_code b c k n)) ∙ l.product_sum a b c h k n ∙ ap₂ m.sum (same a b h k) (same a c h n);
  }
    where
      product_code : (a b : ℕ) → a < q → b < q → f a b < q
      product_code a b h k = omega (arith, l.product_code a b h k, same a b h k)

  pub same_inverse : (a : ℕ) → a < q → (r : Option ℕ) → Inverse q m a r → Inverse q (with_product m f) a r
  same_inverse a h None e = e
  same_inverse a h (Some b) e = (e.0, sym (same a b h e.0) ∙ e.1)
