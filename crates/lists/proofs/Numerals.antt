-- Laws of decimal numbers.
use Rattle.std.proofs.Common.{◌≡◌, ℕ, zero, suc, ◌+◌, ◌-◌, ◌*◌, ◌^◌, ◌<◌, ◌≤◌, Bool, true, false, cond, not, ◌&&◌, eqb, ltb, List, [], ◌∷◌, length, get_or, Some, None, Ok, Err, decimal, sym, refl, ap, ◌∙◌, arith, rules}
use Rattle.std.specs.Char.{is_ascii_digit}
use Rattle.std.specs.Str.{all_ascii_digits}
use Rattle.std.proofs.lemmas.Str.Parse.{IsNumeralModel, numerals_by_fold}
use Rattle.std.proofs.lemmas.Fmt.{digits_decimal, digits_value-decimal, decimal-digits_value, decimal_digit, first_decimal, decimal_nonempty}
use Rattle.std.proofs.lemmas.Bool.{le-ltb, lt-ltb, ltb-true, ltb-false, cond-true, cond-false, ne_eqb, eq-eqb, and_right}
use Rattle.lists.specs.declared.fault.NumberFault.TheVariants.{NotNumber}
use Rattle.lists.specs.Numeral.{value_on, numeral_on, shortest, numeral}

pub value_on_ge : (n : ℕ) (cs : List ℕ) → n ≤ value_on n cs
value_on_ge n [] = omega arith
value_on_ge n (c ∷ cs) = omega (arith, value_on_ge (10 * n + (c - 48)) cs)

-- one digit
pub numeral_on_more : (n c : ℕ) (cs : List ℕ) → numeral_on n (c ∷ cs) ≡ cond (is_ascii_digit c && ltb (10 * n + (c - 48)) (2 ^ 32)) (numeral_on (10 * n + (c - 48)) cs) (Err NotNumber)
numeral_on_more n c cs = by (is_ascii_digit c) (ltb m (2 ^ 32)) refl
  where
    m : ℕ
    m = 10 * n + (c - 48)

    by : (d l : Bool) → ltb m (2 ^ 32) ≡ l → cond ((d && all_ascii_digits cs) && ltb (value_on m cs) (2 ^ 32)) (Ok (value_on m cs)) (Err NotNumber) ≡ cond (d && l) (numeral_on m cs) (Err NotNumber)
    by false l e = refl
    by true true e = refl
    by true false e = cond-false (all_ascii_digits cs && ltb (value_on m cs) (2 ^ 32)) (Ok (value_on m cs)) (Err NotNumber) (and_right (all_ascii_digits cs) _ (le-ltb (value_on m cs) (2 ^ 32) (omega (arith, value_on_ge m cs, ltb-false m (2 ^ 32) e))))

pub digit_refused : (n c : ℕ) (cs : List ℕ) → None ≡ cond (is_ascii_digit c && ltb (10 * n + (c - 48)) (2 ^ 32)) (Some (10 * n + (c - 48))) None → numeral_on n (c ∷ cs) ≡ Err NotNumber
digit_refused n c cs h = numeral_on_more n c cs ∙ by (is_ascii_digit c && ltb (10 * n + (c - 48)) (2 ^ 32)) h
  where
    by : (t : Bool) → None ≡ cond t (Some (10 * n + (c - 48))) None → cond t (numeral_on (10 * n + (c - 48)) cs) (Err NotNumber) ≡ Err NotNumber
    by true e = cc
    by false e = refl

pub digit_taken : (n c k : ℕ) (cs : List ℕ) → Some k ≡ cond (is_ascii_digit c && ltb (10 * n + (c - 48)) (2 ^ 32)) (Some (10 * n + (c - 48))) None → numeral_on n (c ∷ cs) ≡ numeral_on k cs
digit_taken n c k cs h = numeral_on_more n c cs ∙ by (is_ascii_digit c && ltb (10 * n + (c - 48)) (2 ^ 32)) h
  where
    by : (t : Bool) → Some k ≡ cond t (Some (10 * n + (c - 48))) None → cond t (numeral_on (10 * n + (c - 48)) cs) (Err NotNumber) ≡ numeral_on k cs
    by true e = let same : 10 * n + (c - 48) ≡ k = cc in ap (λ (x : ℕ). numeral_on x cs) same
    by false e = cc

pub digits_end : (n : ℕ) → n < 2 ^ 32 → numeral_on n [] ≡ Ok n
digits_end n small = cond-true (ltb n (2 ^ 32)) (Ok n) (Err NotNumber) (lt-ltb n (2 ^ 32) small)

own : IsNumeralModel (λ ds. all_ascii_digits ds ≡ true) (value_on 0)
own = numerals_by_fold _ (search rules) value_on (search rules)

shortest_decimal : (ds : List ℕ) → 0 < length ds → (get_or ds 0 0 ≡ 48 → length ds ≡ 1) → shortest ds ≡ true
shortest_decimal [] p h = absurd (omega arith)
shortest_decimal (c ∷ []) p h = refl
shortest_decimal (c ∷ d ∷ cs) p h = ap not (ne_eqb c 48 (λ e. let k : suc (suc (length cs)) ≡ 1 = h e in omega arith))

lone_zero : (n : ℕ) → n < 2 ^ 64 → get_or (decimal n) 0 0 ≡ 48 → length (decimal n) ≡ 1
lone_zero zero small e = ap length (decimal_digit 0 (omega arith))
lone_zero (suc n) small e = absurd (omega (arith, first_decimal (suc n) (omega arith) small))

-- what is written is read
pub numeral_decimal : (n : ℕ) → n < 2 ^ 32 → numeral (decimal n) ≡ Ok n
numeral_decimal n small =
    let wide : n < 2 ^ 64 = omega arith in
    let v : value_on 0 (decimal n) ≡ n = digits_value-decimal own n wide in
    let d : all_ascii_digits (decimal n) ≡ true = digits_decimal own n wide in
    let t : (all_ascii_digits (decimal n) && ltb (value_on 0 (decimal n)) (2 ^ 32)) ≡ true = simp (d, v) (lt-ltb n (2 ^ 32) small) in
    cond-true (shortest (decimal n)) (numeral_on 0 (decimal n)) (Err NotNumber) (shortest_decimal (decimal n) (decimal_nonempty n wide) (lone_zero n wide))
    ∙ cond-true _ (Ok (value_on 0 (decimal n))) (Err NotNumber) t ∙ ap (λ (x : ℕ). Ok x) v

some_shortest : (cs : List ℕ) → shortest cs ≡ true → (0 < length cs) × (get_or cs 0 0 ≡ 48 → length cs ≡ 1)
some_shortest [] h = cc
some_shortest (c ∷ []) h = (omega arith, λ e. refl)
some_shortest (c ∷ d ∷ cs) h = (omega arith, λ e. let k : eqb c 48 ≡ true = eq-eqb c 48 e in cc)

-- what is read is as it is written
pub decimal_numeral : (cs : List ℕ) (n : ℕ) → numeral cs ≡ Ok n → (decimal n ≡ cs) × (n < 2 ^ 32)
decimal_numeral cs n h = by (shortest cs) (all_ascii_digits cs) (ltb (value_on 0 cs) (2 ^ 32)) refl refl refl h
  where
    by : (s d l : Bool) → shortest cs ≡ s → all_ascii_digits cs ≡ d → ltb (value_on 0 cs) (2 ^ 32) ≡ l → cond s (cond (d && l) (Ok (value_on 0 cs)) (Err NotNumber)) (Err NotNumber) ≡ Ok n → (decimal n ≡ cs) × (n < 2 ^ 32)
    by true true true es ed el e =
        let same : value_on 0 cs ≡ n = cc in
        let low = ltb-true (value_on 0 cs) (2 ^ 32) el in
        let some = some_shortest cs es in
        (ap decimal (sym same) ∙ decimal-digits_value own cs ed some.0 some.1 (omega arith), omega arith)
    by true true false es ed el e = cc
    by true false l es ed el e = cc
    by false d l es ed el e = cc

pub decimal_digits : (n : ℕ) → n < 2 ^ 64 → all_ascii_digits (decimal n) ≡ true
decimal_digits n wide = digits_decimal own n wide
