-- What a ring means: functions on its codes, the whole numbers below its size q, and the laws that they keep.
use Rattle.std.specs.Prelude.{◌≡◌, ℕ, ◌^◌, ◌<◌, ◌≤◌, cond, Some, None, Option, nat_lt}

pub record Meaning : Type 0 where
  pub sum : ℕ → ℕ → ℕ
  pub opposite : ℕ → ℕ
  pub product : ℕ → ℕ → ℕ

-- How an operation reads a number: one of q or more is read as 0.
abbrev pub code : ℕ → ℕ → ℕ
code q x = cond (nat_lt x q) x 0

pub record Laws (q : ℕ) (m : Meaning) : Type 0 where
  pub at_least_two : 2 ≤ q
  pub at_most_words : q ≤ 2 ^ 32
  pub sum_code : (a b : ℕ) → a < q → b < q → m.sum a b < q
  pub opposite_code : (a : ℕ) → a < q → m.opposite a < q
  pub product_code : (a b : ℕ) → a < q → b < q → m.product a b < q
  pub sum_comm : (a b : ℕ) → a < q → b < q → m.sum a b ≡ m.sum b a
  pub sum_assoc : (a b c : ℕ) → a < q → b < q → c < q → m.sum (m.sum a b) c ≡ m.sum a (m.sum b c)
  pub sum_zero : (a : ℕ) → a < q → m.sum a 0 ≡ a
  pub sum_opposite : (a : ℕ) → a < q → m.sum a (m.opposite a) ≡ 0
  pub product_comm : (a b : ℕ) → a < q → b < q → m.product a b ≡ m.product b a
  pub product_assoc : (a b c : ℕ) → a < q → b < q → c < q → m.product (m.product a b) c ≡ m.product a (m.product b c)
  pub product_one : (a : ℕ) → a < q → m.product a 1 ≡ a
  pub product_sum : (a b c : ℕ) → a < q → b < q → c < q → m.product a (m.sum b c) ≡ m.sum (m.product a b) (m.product a c)

-- The law of an inverse at a code a: it is absent at 0 alone, and otherwise the code whose product with a is 1.
abbrev pub Inverse : ℕ → Meaning → ℕ → Option ℕ → Type 0
Inverse q m a None = a ≡ 0
Inverse q m a (Some b) = (b < q) × (m.product a b ≡ 1)
