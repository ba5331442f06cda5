-- A list of codes, code by code.
use Rattle.std.proofs.Common.{◌≡◌, ℕ, zero, suc, ◌<◌, Bool, true, false, ◌&&◌, ltb, List, [], ◌∷◌, length, get_or, refl, ap₂, arith, ltb-true}
use Rattle.std.proofs.lemmas.Bool.{lt-ltb}
use Rattle.recurrences.specs.Codes.{all_codes}

first_of : (a b : Bool) → a && b ≡ true → a ≡ true
first_of true b e = refl
first_of false b e = e

second_of : (a b : Bool) → a && b ≡ true → b ≡ true
second_of true b e = e
second_of false true e = refl
second_of false false e = e

pub all_codes_from : (q : ℕ) (xs : List ℕ) → ((i : ℕ) → i < length xs → get_or xs i 0 < q) → all_codes q xs ≡ true
all_codes_from q [] h = refl
all_codes_from q (x ∷ xs) h = ap₂ ◌&&◌ (lt-ltb x q (h 0 (omega arith))) (all_codes_from q xs (λ i lt. h (suc i) (omega arith)))

pub code_at : (q : ℕ) (xs : List ℕ) → all_codes q xs ≡ true → (i : ℕ) → i < length xs → get_or xs i 0 < q
code_at q [] e i lt = absurd (omega arith)
code_at q (x ∷ xs) e zero lt = ltb-true _ _ (first_of (ltb x q) (all_codes q xs) e)
code_at q (x ∷ xs) e (suc i) lt = code_at q xs (second_of (ltb x q) (all_codes q xs) e) i (omega arith)
