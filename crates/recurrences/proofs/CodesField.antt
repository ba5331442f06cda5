-- The codes of a field, as a type of their own, are a field in the sense of FieldLaws. Numbers are read as codes, and codes are numbers.
use mathlib.Core.HLevel.{Σ_prop_path}
use Rattle.std.proofs.Common.{◌≡◌, ℕ, suc, ◌<◌, ltb, ◌≢◌, Some, None, Option, sym, refl, ap, ◌∙◌, ap₂, arith}
use native.Mathlib.Bridge.{le_prop}
use native.Mathlib.Decide.{ℕ_discrete, dec_lt}
use Rattle.std.proofs.lemmas.Bool.{lt-ltb, le-ltb, cond-true, cond-false}
use Rattle.rings.specs.Meaning.{Meaning, Laws, Inverse, code}
use Rattle.recurrences.specs.Operations.{Operations, numbers}
use Rattle.recurrences.specs.Fields.{field_numbers, or_else}
use Rattle.recurrences.proofs.Homomorphisms.{Map, FieldMap}
use Rattle.recurrences.proofs.FieldLaws.{Field, ring_of, field_of}

module _ (q : ℕ) (m : Meaning) (inv : ℕ → Option ℕ) (L : Laws q m) (V : (a : ℕ) → a < q → Inverse q m a (inv a)) where
  abbrev O : Operations
  O = numbers q m

  abbrev pub Code : Type 0
  Code = (n : ℕ) × (n < q)

  pub same_code : (x y : Code) → x.0 ≡ y.0 → x ≡ y
  same_code x y e = Σ_prop_path (λ (k : ℕ). le_prop {n = suc k} {m = q}) {u = x} {v = y} e

  pub code_dec : (x y : Code) → Dec (x ≡ y)
  code_dec x y = go (ℕ_discrete x.0 y.0)
    where
      go : Dec (x.0 ≡ y.0) → Dec (x ≡ y)
      go (yes e) = yes (same_code x y e)
      go (no e) = no (λ p. e (ap (λ z. z.0) p))

  pub some_code : 0 < q
  some_code = let two = L.at_least_two in omega arith

  pub code_below : (x : ℕ) → code q x < q
  code_below x = go (dec_lt x q)
    where
      go : Dec (x < q) → code q x < q
      go (yes h) = rw (cond-true (ltb x q) x 0 (lt-ltb x q h)) h
      go (no h) = rw (cond-false (ltb x q) x 0 (le-ltb x q (omega arith))) some_code

  -- a code is read as itself
  pub itself : (x : ℕ) → x < q → code q x ≡ x
  itself x h = cond-true (ltb x q) x 0 (lt-ltb x q h)

  inverse_code : (a : ℕ) (o : Option ℕ) → Inverse q m a o → or_else 0 o < q
  inverse_code a None v = some_code
  inverse_code a (Some x) v = v.0

  pub inverse_is : (a : ℕ) (o : Option ℕ) → Inverse q m a o → a ≢ 0 → m.product a (or_else 0 o) ≡ 1
  inverse_is a None v n = absurd (n v)
  inverse_is a (Some x) v n = v.1

  pub one_not_zero : ◌≡◌ {A = ℕ} 1 0 → ⊥
  one_not_zero e = omega arith

  pub sum_below : (a b : ℕ) → O.add a b < q
  sum_below a b = L.sum_code _ _ (code_below a) (code_below b)

  pub product_below : (a b : ℕ) → O.mul a b < q
  product_below a b = L.product_code _ _ (code_below a) (code_below b)

  pub inverse_below : (a : ℕ) → or_else 0 (inv (code q a)) < q
  inverse_below a = inverse_code (code q a) (inv (code q a)) (V (code q a) (code_below a))

  abbrev pub codes : Field
  codes = record {
    K = Code;
    dec = code_dec;
    𝟘 = (0, some_code);
    𝟙 = (1, L.at_least_two);
    add = λ x y. (O.add x.0 y.0, sum_below x.0 y.0);
    neg = λ x. (O.neg x.0, L.opposite_code _ (code_below x.0));
    mul = λ x y. (O.mul x.0 y.0, product_below x.0 y.0);
    inv = λ x. (or_else 0 (inv (code q x.0)), inverse_below x.0);
    one≢zero = λ e. one_not_zero (ap (λ z. z.0) e);
    add_comm = λ x y. same_code _ _ (L.sum_comm _ _ (code_below x.0) (code_below y.0));
    add_assoc = λ x y z. same_code _ _
        (ap (λ (v : ℕ). m.sum v (code q z.0)) (itself _ (sum_below x.0 y.0)) ∙ L.sum_assoc _ _ _ (code_below x.0) (code_below y.0) (code_below z.0)
        ∙ ap (m.sum (code q x.0)) (sym (itself _ (sum_below y.0 z.0))));
    add_zero = λ x. same_code _ _ (ap₂ m.sum (itself x.0 x.1) (itself 0 some_code) ∙ L.sum_zero x.0 x.1);
    add_neg = λ x. same_code _ _
        (ap₂ m.sum (itself x.0 x.1) (itself _ (L.opposite_code _ (code_below x.0)) ∙ ap m.opposite (itself x.0 x.1)) ∙ L.sum_opposite x.0 x.1);
    mul_comm = λ x y. same_code _ _ (L.product_comm _ _ (code_below x.0) (code_below y.0));
    mul_assoc = λ x y z. same_code _ _
        (ap (λ (v : ℕ). m.product v (code q z.0)) (itself _ (product_below x.0 y.0)) ∙ L.product_assoc _ _ _ (code_below x.0) (code_below y.0) (code_below z.0)
        ∙ ap (m.product (code q x.0)) (sym (itself _ (product_below y.0 z.0))));
    mul_one = λ x. same_code _ _ (ap₂ m.product (itself x.0 x.1) (itself 1 L.at_least_two) ∙ L.product_one x.0 x.1);
    mul_add = λ x y z. same_code _ _
        (ap (m.product (code q x.0)) (itself _ (sum_below y.0 z.0)) ∙ L.product_sum _ _ _ (code_below x.0) (code_below y.0) (code_below z.0)
        ∙ ap₂ m.sum (sym (itself _ (product_below x.0 y.0))) (sym (itself _ (product_below x.0 z.0))));
    mul_inv = λ x n. same_code _ _
        (ap₂ m.product (itself x.0 x.1) (itself _ (inverse_below x.0) ∙ ap (λ (v : ℕ). or_else 0 (inv v)) (itself x.0 x.1))
        ∙ inverse_is x.0 (inv x.0) (V x.0 x.1) (λ e. n (same_code _ _ e)));
  }

  -- a code as a number
  abbrev pub value : FieldMap (field_of codes) (field_numbers q m inv)
  value = record {
    map = record { φ = λ x. x.0; on_zero = refl; on_one = refl; on_add = λ x y. refl; on_neg = λ x. refl; on_mul = λ x y. refl };
    on_quotient = λ x y. refl;
    only_zero = λ x e. same_code _ _ e;
  }

  -- a number read as a code
  abbrev pub reading : Map O (ring_of codes)
  reading = record {
    φ = λ a. (code q a, code_below a);
    on_zero = same_code _ _ (itself 0 some_code);
    on_one = same_code _ _ (itself 1 L.at_least_two);
    on_add = λ a b. same_code _ _ (itself _ (sum_below a b) ∙ sym (ap₂ m.sum (itself _ (code_below a)) (itself _ (code_below b))));
    on_neg = λ a. same_code _ _ (itself _ (L.opposite_code _ (code_below a)) ∙ sym (ap m.opposite (itself _ (code_below a))));
    on_mul = λ a b. same_code _ _ (itself _ (product_below a b) ∙ sym (ap₂ m.product (itself _ (code_below a)) (itself _ (code_below b))));
  }
