-- The parts of a list of codes are of codes.
use Rattle.std.proofs.Common.{◌≡◌, ℕ, zero, suc, true, ltb, List, [], ◌∷◌, take, drop, refl}
use Rattle.std.proofs.lemmas.Bool.{and_parts, and_from}
use Rattle.recurrences.specs.Codes.{all_codes}

module _ (q : ℕ) where
  pub codes_taken : (n : ℕ) (xs : List ℕ) → all_codes q xs ≡ true → all_codes q (take n xs) ≡ true
  codes_taken zero xs h = refl
  codes_taken (suc n) [] h = refl
  codes_taken (suc n) (x ∷ xs) h =
      let p = and_parts (ltb x q) (all_codes q xs) h in
      and_from (ltb x q) (all_codes q (take n xs)) p.0 (codes_taken n xs p.1)

  pub codes_dropped : (n : ℕ) (xs : List ℕ) → all_codes q xs ≡ true → all_codes q (drop n xs) ≡ true
  codes_dropped zero xs h = h
  codes_dropped (suc n) [] h = refl
  codes_dropped (suc n) (x ∷ xs) h = codes_dropped n xs (and_parts (ltb x q) (all_codes q xs) h).1
