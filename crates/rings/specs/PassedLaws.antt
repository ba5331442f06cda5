-- A list of 255 numbers that passes the check keeps the laws of a field: its entries are all the codes but 0, since 255 of them are distinct.
use Rattle.std.specs.Prelude.{◌≡◌, ℕ, ◌-◌, ◌<◌, ◌≤◌, true, cond, ◌&&◌, List, length, ◌==◌, ◌≢◌, bit_xor, nat_lt}
use Rattle.std.proofs.Common.{sym, ap, ◌∙◌, ⊎_elim, arith}
use Rattle.std.proofs.lemmas.Bool.{and_parts, ltb-true, lt-ltb, eqb-true, cases_lt, le-ltb, cond-true, cond-false}
use Rattle.rings.specs.Powers.{power, place, next_power}
use Rattle.rings.specs.PowersCheck.{nonzero_code_at, new_at, respects_xor_at, respects_xor_with, are_nonzero_codes, are_distinct, respects_xor, passes}
use Rattle.rings.specs.PowerTheorems.{PowersMakeAField}
use Rattle.rings.specs.AllBelowLemmas.{all_below_at}
use Rattle.rings.specs.CycleLaws.{Cycle, cycle_laws, cycle_inverts}
use Rattle.rings.specs.Pigeonhole.{no_room}
use Rattle.rings.specs.PlacesInList.{stands_at_place, place_least}

-- What each part of the check says.
codes_between : (xs : List ℕ) → are_nonzero_codes xs ≡ true → (i : ℕ) → i < 255 → (0 < power xs i) × (power xs i < 256)
codes_between xs t i h =
    let p = and_parts (nat_lt 0 (power xs i)) (nat_lt (power xs i) 256) (all_below_at (nonzero_code_at xs) 255 t i h) in
    (ltb-true 0 (power xs i) p.0, ltb-true (power xs i) 256 p.1)

own_place : (xs : List ℕ) → are_distinct xs ≡ true → (i : ℕ) → i < 255 → place xs (power xs i) ≡ i
own_place xs t i h = eqb-true (place xs (power xs i)) i (all_below_at (new_at xs) 255 t i h)

step_of_sum : (xs : List ℕ) → respects_xor xs ≡ true → (a b : ℕ) → a < 256 → b < 256 → next_power xs (bit_xor a b) ≡ bit_xor (next_power xs a) (next_power xs b)
step_of_sum xs t a b h k =
    eqb-true (next_power xs (bit_xor a b)) (bit_xor (next_power xs a) (next_power xs b))
    (all_below_at (respects_xor_at xs a) 256 (all_below_at (respects_xor_with xs) 256 t a h) b k)

module _ (xs : List ℕ) (full : length xs ≡ 255) (codes : are_nonzero_codes xs ≡ true) (distinct : are_distinct xs ≡ true) where
  positive : (i : ℕ) → i < 255 → 0 < power xs i
  positive i h = (codes_between xs codes i h).0

  small : (i : ℕ) → i < 255 → power xs i < 256
  small i h = (codes_between xs codes i h).1

  apart : (i j : ℕ) → i < 255 → j < 255 → power xs i ≡ power xs j → i ≡ j
  apart i j h k e = sym (own_place xs distinct i h) ∙ ap (place xs) e ∙ own_place xs distinct j k

  -- The entries and, as a 256th, a code a, each less 1.
  abbrev with_one_more : ℕ → ℕ → ℕ
  with_one_more a i = cond (nat_lt i 255) (power xs i - 1) (a - 1)

  every_code_stands : (a : ℕ) → 0 < a → a < 256 → place xs a < 255
  every_code_stands a h k =
      ⊎_elim (λ (lt : place xs a < 255). lt) (λ (ge : 255 ≤ place xs a). absurd (no_room 255 (with_one_more a) (fits ge) (still_apart ge)))
      (cases_lt (place xs a) 255)
    where
      absent : 255 ≤ place xs a → (i : ℕ) → i < 255 → power xs i ≢ a
      absent ge i m e = let p = place_least xs a i (omega arith) e in omega arith

      entry : (i : ℕ) → i < 255 → with_one_more a i ≡ power xs i - 1
      entry i m = cond-true (nat_lt i 255) (power xs i - 1) (a - 1) (lt-ltb i 255 m)

      added : (i : ℕ) → 255 ≤ i → with_one_more a i ≡ a - 1
      added i m = cond-false (nat_lt i 255) (power xs i - 1) (a - 1) (le-ltb i 255 m)

      fits : 255 ≤ place xs a → (i : ℕ) → i < 256 → with_one_more a i < 255
      fits ge i m =
          ⊎_elim
          (λ (lt : i < 255). let e = entry i lt in let p = positive i lt in let q = small i lt in omega arith)
          (λ (le : 255 ≤ i). let e = added i le in omega arith)
          (cases_lt i 255)

      still_apart : 255 ≤ place xs a → (i j : ℕ) → i < 256 → j < 256 → with_one_more a i ≡ with_one_more a j → i ≡ j
      still_apart ge i j hi hj e =
          ⊎_elim
          (λ (li : i < 255). ⊎_elim
          (λ (lj : j < 255). apart i j li lj (let p = entry i li in let q = entry j lj in let r = positive i li in let s = positive j lj in omega arith))
          (λ (gj : 255 ≤ j). absurd (absent ge i li (let p = entry i li in let q = added j gj in let r = positive i li in omega arith)))
          (cases_lt j 255))
          (λ (gi : 255 ≤ i). ⊎_elim
          (λ (lj : j < 255). absurd (absent ge j lj (let p = entry j lj in let q = added i gi in let r = positive j lj in omega arith)))
          (λ (gj : 255 ≤ j). omega arith)
          (cases_lt j 255))
          (cases_lt i 255)

pub passed_cycle : (xs : List ℕ) → length xs ≡ 255 → passes xs ≡ true → Cycle xs
passed_cycle xs full ok =
    let p = and_parts (are_nonzero_codes xs) (are_distinct xs && (power xs 0 == 1 && respects_xor xs)) ok in
    let q = and_parts (are_distinct xs) (power xs 0 == 1 && respects_xor xs) p.1 in
    let r = and_parts (power xs 0 == 1) (respects_xor xs) q.1 in
    record {
      first_is_one = eqb-true (power xs 0) 1 r.0;
      power_positive = λ i h. (codes_between xs p.0 i h).0;
      power_small = λ i h. (codes_between xs p.0 i h).1;
      place_of_power = own_place xs q.0;
      place_small = every_code_stands xs full p.0 q.0;
      power_at_place = λ a h k. stands_at_place xs a (let f = every_code_stands xs full p.0 q.0 a h k in omega arith);
      step_of_sum = step_of_sum xs r.1;
    }

pub powers_make_a_field : PowersMakeAField
powers_make_a_field xs full ok = let cycle = passed_cycle xs full ok in (cycle_laws xs cycle, cycle_inverts xs cycle)
