-- A list whose entries are all the codes but 0, each at its own place, keeps the laws of a field where the step to the next power respects exclusive or.
use Rattle.std.specs.Prelude.{◌≡◌, ℕ, zero, suc, ◌+◌, ◌-◌, ◌%◌, ◌<◌, cond, List, Some, None, ◌==◌, bit_xor, refl}
use Rattle.std.proofs.Common.{sym, ap, ap₂, subst, ◌∙◌, add_comm, add-zero, mod-lt, mod-eq_of_lt, arith, lit≤}
use Rattle.std.proofs.Math.Nat.{mod-add-mod, add-mod-mod}
use Rattle.std.proofs.lemmas.Nat.{xor_comm, xor_lt}
use Rattle.std.specs.Int.Bits.{xor_assoc, xor_zero_r, xor_self}
use Rattle.std.proofs.lemmas.Bool.{cond-false, cond_both, ne_eqb}
use Rattle.rings.specs.Powers.{power, place, next_power, product_by_places, by_places, inverse_by_places}
use Rattle.rings.specs.Meaning.{Laws, Inverse}

pub record Cycle (xs : List ℕ) : Type 0 where
  pub first_is_one : power xs 0 ≡ 1
  pub power_positive : (i : ℕ) → i < 255 → 0 < power xs i
  pub power_small : (i : ℕ) → i < 255 → power xs i < 256
  pub place_of_power : (i : ℕ) → i < 255 → place xs (power xs i) ≡ i
  pub place_small : (a : ℕ) → 0 < a → a < 256 → place xs a < 255
  pub power_at_place : (a : ℕ) → 0 < a → a < 256 → power xs (place xs a) ≡ a
  pub step_of_sum : (a b : ℕ) → a < 256 → b < 256 → next_power xs (bit_xor a b) ≡ bit_xor (next_power xs a) (next_power xs b)

by_zero : (P : ℕ → Type 0) → P 0 → ((a : ℕ) → 0 < a → P a) → (a : ℕ) → P a
by_zero P z s zero = z
by_zero P z s (suc a) = s (suc a) (omega arith)

at_positive : {X : Type 0} (a : ℕ) (x y : X) → 0 < a → cond (a == 0) x y ≡ y
at_positive a x y h = cond-false (a == 0) x y (ne_eqb a 0 (λ e. omega arith))

module _ (xs : List ℕ) (cycle : Cycle xs) where
  abbrev times : ℕ → ℕ → ℕ
  times a b = product_by_places xs a b

  -- The power at a place that is counted on past the last.
  abbrev turn : ℕ → ℕ
  turn i = power xs (i % 255)

  turn_positive : (i : ℕ) → 0 < turn i
  turn_positive i = cycle.power_positive (i % 255) (mod-lt i (omega arith))

  turn_small : (i : ℕ) → turn i < 256
  turn_small i = cycle.power_small (i % 255) (mod-lt i (omega arith))

  place_of_turn : (i : ℕ) → place xs (turn i) ≡ i % 255
  place_of_turn i = cycle.place_of_power (i % 255) (mod-lt i (omega arith))

  turn_at_place : (a : ℕ) → 0 < a → a < 256 → turn (place xs a) ≡ a
  turn_at_place a h k = ap (power xs) (mod-eq_of_lt (cycle.place_small a h k)) ∙ cycle.power_at_place a h k

  product_positive : (a b : ℕ) → 0 < a → 0 < b → times a b ≡ turn (place xs a + place xs b)
  product_positive a b h k =
      at_positive a 0 (cond (b == 0) 0 (turn (place xs a + place xs b))) h ∙ at_positive b 0 (turn (place xs a + place xs b)) k

  product_zero : (a : ℕ) → times a 0 ≡ 0
  product_zero a = cond_both (a == 0) 0 0 (λ x. x ≡ 0) (λ e. refl) (λ e. refl)

  product_small : (a b : ℕ) → times a b < 256
  product_small a b =
      cond_both (a == 0) 0 (cond (b == 0) 0 (turn (place xs a + place xs b))) (λ x. x < 256) (λ e. omega arith)
      (λ e. cond_both (b == 0) 0 (turn (place xs a + place xs b)) (λ x. x < 256) (λ f. omega arith) (λ f. turn_small (place xs a + place xs b)))

  product_comm : (a b : ℕ) → times a b ≡ times b a
  product_comm =
      by_zero (λ a. (b : ℕ) → times a b ≡ times b a) (λ b. sym (product_zero b))
      (λ a h. by_zero (λ b. times a b ≡ times b a) (product_zero a)
      (λ b k. product_positive a b h k ∙ ap turn (add_comm (place xs a) (place xs b)) ∙ sym (product_positive b a k h)))

  product_of_three : (a b c : ℕ) → 0 < a → 0 < b → 0 < c → times (times a b) c ≡ turn (place xs a + place xs b + place xs c)
  product_of_three a b c h k m =
      ap (λ x. times x c) (product_positive a b h k)
      ∙ product_positive (turn (place xs a + place xs b)) c (turn_positive (place xs a + place xs b)) m
      ∙ ap (λ x. turn (x + place xs c)) (place_of_turn (place xs a + place xs b))
      ∙ ap (power xs) (mod-add-mod (place xs a + place xs b) 255 (place xs c))

  product_assoc : (a b c : ℕ) → times (times a b) c ≡ times a (times b c)
  product_assoc =
      by_zero (λ a. (b c : ℕ) → times (times a b) c ≡ times a (times b c)) (λ b c. refl)
      (λ a h. by_zero (λ b. (c : ℕ) → times (times a b) c ≡ times a (times b c))
      (λ c. ap (λ x. times x c) (product_zero a) ∙ sym (product_zero a))
      (λ b k. by_zero (λ c. times (times a b) c ≡ times a (times b c))
      (product_zero (times a b) ∙ sym (ap (times a) (product_zero b) ∙ product_zero a))
      (λ c m. product_of_three a b c h k m
      ∙ ap turn (let e : place xs a + place xs b + place xs c ≡ place xs b + place xs c + place xs a = omega arith in e)
      ∙ sym (product_of_three b c a k m h)
      ∙ product_comm (times b c) a)))

  place_of_one : place xs 1 ≡ 0
  place_of_one = ap (place xs) (sym cycle.first_is_one) ∙ cycle.place_of_power 0 (omega arith)

  product_one : (a : ℕ) → a < 256 → times a 1 ≡ a
  product_one =
      by_zero (λ a. a < 256 → times a 1 ≡ a) (λ h. refl)
      (λ a h k. product_positive a 1 h (omega arith) ∙ ap (λ x. turn (place xs a + x)) place_of_one ∙ ap turn (add-zero (place xs a)) ∙ turn_at_place a h k)

  -- To multiply by a code is to step as often as its place says, and so respects exclusive or.
  abbrev steps : ℕ → ℕ → ℕ
  steps zero a = a
  steps (suc k) a = next_power xs (steps k a)

  steps_of_zero : (k : ℕ) → steps k 0 ≡ 0
  steps_of_zero zero = refl
  steps_of_zero (suc k) = ap (next_power xs) (steps_of_zero k)

  step_of_turn : (i : ℕ) → next_power xs (turn i) ≡ turn (i + 1)
  step_of_turn i =
      at_positive (turn i) 0 (turn (place xs (turn i) + 1)) (turn_positive i)
      ∙ ap (λ x. turn (x + 1)) (place_of_turn i) ∙ ap (power xs) (mod-add-mod i 255 1)

  steps_of_code : (k a : ℕ) → 0 < a → a < 256 → steps k a ≡ turn (place xs a + k)
  steps_of_code zero a h m = sym (ap turn (add-zero (place xs a)) ∙ turn_at_place a h m)
  steps_of_code (suc k) a h m =
      ap (next_power xs) (steps_of_code k a h m) ∙ step_of_turn (place xs a + k)
      ∙ ap turn (let e : place xs a + k + 1 ≡ place xs a + suc k = omega arith in e)

  step_small : (a : ℕ) → next_power xs a < 256
  step_small a = cond_both (a == 0) 0 (turn (place xs a + 1)) (λ x. x < 256) (λ e. omega arith) (λ e. turn_small (place xs a + 1))

  steps_small : (k a : ℕ) → a < 256 → steps k a < 256
  steps_small zero a h = h
  steps_small (suc k) a h = step_small (steps k a)

  steps_of_sum : (k a b : ℕ) → a < 256 → b < 256 → steps k (bit_xor a b) ≡ bit_xor (steps k a) (steps k b)
  steps_of_sum zero a b h m = refl
  steps_of_sum (suc k) a b h m =
      ap (next_power xs) (steps_of_sum k a b h m) ∙ cycle.step_of_sum (steps k a) (steps k b) (steps_small k a h) (steps_small k b m)

  product_is_steps : (a b : ℕ) → 0 < a → b < 256 → times a b ≡ steps (place xs a) b
  product_is_steps a b h =
      by_zero (λ b. b < 256 → times a b ≡ steps (place xs a) b) (λ k. product_zero a ∙ sym (steps_of_zero (place xs a)))
      (λ b k m. product_positive a b h k ∙ ap turn (add_comm (place xs a) (place xs b)) ∙ sym (steps_of_code (place xs a) b k m)) b

  product_sum : (a b c : ℕ) → b < 256 → c < 256 → times a (bit_xor b c) ≡ bit_xor (times a b) (times a c)
  product_sum =
      by_zero (λ a. (b c : ℕ) → b < 256 → c < 256 → times a (bit_xor b c) ≡ bit_xor (times a b) (times a c)) (λ b c k m. refl)
      (λ a h b c k m. product_is_steps a (bit_xor b c) h (xor_lt 8 b c k m) ∙ steps_of_sum (place xs a) b c k m
      ∙ sym (ap₂ bit_xor (product_is_steps a b h k) (product_is_steps a c h m)))

  pub cycle_laws : Laws 256 (by_places xs)
  cycle_laws = record {
    at_least_two = lit≤ tt;
    at_most_words = lit≤ tt;
    sum_code = λ a b h k. xor_lt 8 a b h k;
    opposite_code = λ a h. h;
    product_code = λ a b h k. product_small a b;
    sum_comm = λ a b h k. xor_comm a b;
    sum_assoc = λ a b c h k m. xor_assoc a b c;
    sum_zero = λ a h. xor_zero_r a;
    sum_opposite = λ a h. xor_self a;
    product_comm = λ a b h k. product_comm a b;
    product_assoc = λ a b c h k m. product_assoc a b c;
    product_one = λ a h. product_one a h;
    product_sum = λ a b c h k m. product_sum a b c k m;
  }

  opposite_place : (a : ℕ) → 0 < a → a < 256 → times a (turn (255 - place xs a)) ≡ 1
  opposite_place a h k =
      product_positive a (turn (255 - place xs a)) h (turn_positive (255 - place xs a))
      ∙ ap (λ x. turn (place xs a + x)) (place_of_turn (255 - place xs a))
      ∙ ap (power xs) (add-mod-mod (place xs a) (255 - place xs a) 255 ∙ ap (λ x. x % 255) (let m = cycle.place_small a h k in let e : place xs a + (255 - place xs a) ≡ 255 = omega arith in e))
      ∙ cycle.first_is_one

  pub cycle_inverts : (a : ℕ) → a < 256 → Inverse 256 (by_places xs) a (inverse_by_places xs a)
  cycle_inverts =
      by_zero (λ a. a < 256 → Inverse 256 (by_places xs) a (inverse_by_places xs a)) (λ h. refl)
      (λ a h k. subst (Inverse 256 (by_places xs) a) (sym (at_positive a None (Some (turn (255 - place xs a))) h)) (turn_small (255 - place xs a), opposite_place a h k))
