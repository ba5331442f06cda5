-- A line and its fields, and what the fields are that were accepted.
use Rattle.std.proofs.Common.{◌≡◌, ℕ, ◌+◌, ◌<◌, ltb, List, [], ◌∷◌, map, length, get_or, drop, Ok, decimal, sym, refl, ap, ◌∙◌, arith}
use Rattle.std.specs.List.{AllByRecursion}
use Rattle.std.proofs.lemmas.Bool.{ltb-true}
use Rattle.recurrences.specs.declared.refusal.Refusal.TheVariants.{Code}
use Rattle.lists.specs.Contents.{value_of, number_or_zero}
use Rattle.lists.specs.LineChecks.{number_at, code_at, codes_from}
use Rattle.lists.specs.Numeral.{numeral}
use Rattle.recurrences.specs.Ranges.{checked_code}
use Rattle.lists.specs.Split.{first}
use Rattle.lists.proofs.Numerals.{decimal_numeral}
use Rattle.lists.proofs.Steps.{err_ok, then_ok, carried_ok, cond_ok}

-- ---- lists of fields by their length
pub some_fields : (fs : List (List ℕ)) (n : ℕ) → length fs ≡ n + 1 → fs ≡ first fs ∷ drop 1 fs
some_fields [] n h = absurd (omega arith)
some_fields (x ∷ fs) n h = refl

pub two_fields : (fs : List (List ℕ)) → length fs ≡ 2 → fs ≡ first fs ∷ get_or fs 1 [] ∷ []
two_fields [] h = absurd (omega arith)
two_fields (x ∷ []) h = absurd (omega arith)
two_fields (x ∷ y ∷ []) h = refl
two_fields (x ∷ y ∷ z ∷ fs) h = absurd (omega arith)

pub four_fields : (fs : List (List ℕ)) → length fs ≡ 4 → fs ≡ first fs ∷ get_or fs 1 [] ∷ get_or fs 2 [] ∷ get_or fs 3 [] ∷ []
four_fields [] h = absurd (omega arith)
four_fields (x ∷ []) h = absurd (omega arith)
four_fields (x ∷ y ∷ []) h = absurd (omega arith)
four_fields (x ∷ y ∷ z ∷ []) h = absurd (omega arith)
four_fields (x ∷ y ∷ z ∷ w ∷ []) h = refl
four_fields (x ∷ y ∷ z ∷ w ∷ v ∷ fs) h = absurd (omega arith)

-- ---- numbers
pub number_field : (f : List ℕ) (v : ℕ) → numeral f ≡ Ok v → f ≡ decimal v
number_field f v h = sym (decimal_numeral f v h).0

number_some : (f : List ℕ) (v : ℕ) → numeral f ≡ Ok v → 0 < length f
number_some [] v h = absurd (err_ok h)
number_some (c ∷ f) v h = omega arith

-- ---- codes
pub code_ok : (q line k : ℕ) (f : List ℕ) (c : ℕ) → code_at q line k f ≡ Ok c → (numeral f ≡ Ok c) × (c < q)
code_ok q line k f c h =
    let a = then_ok (number_at line k f) _ c h in
    let v = a.0 in
    let r = cond_ok (ltb v q) v c Code (carried_ok _ (checked_code q v) c a.2) in
    (carried_ok _ (numeral f) v a.1 ∙ ap (λ (x : ℕ). Ok x) r.1, omega (arith, r.1, ltb-true v q r.0))

-- accepted codes: each field is the decimal number of a code
pub record CodeFields (q : ℕ) (fs : List (List ℕ)) : Type 0 where
  pub decimals : map decimal (map value_of fs) ≡ fs
  pub codes : AllByRecursion (λ c. c < q) (map value_of fs)
  pub some : AllByRecursion (λ f. 0 < length f) fs

pub codes_ok : (q line k : ℕ) (fs : List (List ℕ)) (u : Unit {0}) → codes_from q line k fs ≡ Ok u → CodeFields q fs
codes_ok q line k [] u h = record { decimals = refl; codes = tt; some = tt }
codes_ok q line k (f ∷ fs) u h =
    let a = then_ok (code_at q line k f) (λ _. codes_from q line (k + 1) fs) u h in
    let c = code_ok q line k f a.0 a.1 in
    let v : value_of f ≡ a.0 = ap number_or_zero c.0 in
    let rest = codes_ok q line (k + 1) fs u a.2 in
    record {
      decimals = ap (λ (x : List ℕ). x ∷ map decimal (map value_of fs)) (ap decimal v ∙ sym (number_field f a.0 c.0)) ∙ ap (λ (xs : List (List ℕ)). f ∷ xs) rest.decimals;
      codes = (omega (arith, v, c.1), rest.codes);
      some = (number_some f a.0 c.0, rest.some);
    }
