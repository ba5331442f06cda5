-- Fields with their laws, and what follows from them in general.
use Rattle.std.proofs.Common.{◌≡◌, ◌≢◌, Some, sym, ap, ◌∙◌, ap₂}
use Rattle.recurrences.specs.Operations.{Operations}
use Rattle.recurrences.specs.Fields.{FieldOperations}

-- a field with a decidable equality; what `inv` is at zero does not matter
pub record Field : Type 1 where
  pub K : Type 0
  pub dec : Discrete K
  pub 𝟘 : K
  pub 𝟙 : K
  pub add : K → K → K
  pub neg : K → K
  pub mul : K → K → K
  pub inv : K → K
  pub one≢zero : 𝟙 ≢ 𝟘
  pub add_comm : (a b : K) → add a b ≡ add b a
  pub add_assoc : (a b c : K) → add (add a b) c ≡ add a (add b c)
  pub add_zero : (a : K) → add a 𝟘 ≡ a
  pub add_neg : (a : K) → add a (neg a) ≡ 𝟘
  pub mul_comm : (a b : K) → mul a b ≡ mul b a
  pub mul_assoc : (a b c : K) → mul (mul a b) c ≡ mul a (mul b c)
  pub mul_one : (a : K) → mul a 𝟙 ≡ a
  pub mul_add : (a b c : K) → mul a (add b c) ≡ add (mul a b) (mul a c)
  pub mul_inv : (a : K) → a ≢ 𝟘 → mul a (inv a) ≡ 𝟙

abbrev pub ring_of : Field → Operations
ring_of F = record { K = F.K; dec = F.dec; 𝟘 = F.𝟘; 𝟙 = F.𝟙; add = F.add; neg = F.neg; mul = F.mul }

abbrev pub field_of : Field → FieldOperations
field_of F = record { ring = ring_of F; inverse = λ a. Some (F.inv a) }

module _ (F : Field) where
  open F use {K, 𝟘, 𝟙, add as ◌⊕◌, neg as ⊖, mul as ◌⊗◌, inv, add_comm, add_assoc, add_zero, add_neg, mul_comm, mul_assoc, mul_one, mul_add, mul_inv}

  infixl 60 ◌⊕◌
  infixl 70 ◌⊗◌
  pub zero_add : (a : K) → 𝟘 ⊕ a ≡ a
  zero_add a = add_comm 𝟘 a ∙ add_zero a

  pub neg_add : (a : K) → ⊖ a ⊕ a ≡ 𝟘
  neg_add a = add_comm (⊖ a) a ∙ add_neg a

  pub add_left_comm : (a b c : K) → a ⊕ (b ⊕ c) ≡ b ⊕ (a ⊕ c)
  add_left_comm a b c = sym (add_assoc a b c) ∙ ap (λ x. x ⊕ c) (add_comm a b) ∙ add_assoc b a c

  pub neg_add_left : (a b : K) → ⊖ a ⊕ (a ⊕ b) ≡ b
  neg_add_left a b = sym (add_assoc (⊖ a) a b) ∙ ap (λ x. x ⊕ b) (neg_add a) ∙ zero_add b

  pub add_cancel : (a b c : K) → a ⊕ b ≡ a ⊕ c → b ≡ c
  add_cancel a b c e = sym (neg_add_left a b) ∙ ap (λ x. ⊖ a ⊕ x) e ∙ neg_add_left a c

  pub neg_unique : (a b : K) → a ⊕ b ≡ 𝟘 → b ≡ ⊖ a
  neg_unique a b e = add_cancel a b (⊖ a) (e ∙ sym (add_neg a))

  pub neg_zero : ⊖ 𝟘 ≡ 𝟘
  neg_zero = sym (neg_unique 𝟘 𝟘 (add_zero 𝟘))

  pub neg_neg : (a : K) → ⊖ (⊖ a) ≡ a
  neg_neg a = sym (neg_unique (⊖ a) a (neg_add a))

  pub one_mul : (a : K) → 𝟙 ⊗ a ≡ a
  one_mul a = mul_comm 𝟙 a ∙ mul_one a

  pub add_mul : (a b c : K) → (a ⊕ b) ⊗ c ≡ (a ⊗ c) ⊕ (b ⊗ c)
  add_mul a b c = mul_comm (a ⊕ b) c ∙ mul_add c a b ∙ ap₂ ◌⊕◌ (mul_comm c a) (mul_comm c b)

  pub mul_zero : (a : K) → a ⊗ 𝟘 ≡ 𝟘
  mul_zero a = add_cancel (a ⊗ 𝟘) (a ⊗ 𝟘) 𝟘 (sym (mul_add a 𝟘 𝟘) ∙ ap (λ x. a ⊗ x) (add_zero 𝟘) ∙ sym (add_zero (a ⊗ 𝟘)))

  pub zero_mul : (a : K) → 𝟘 ⊗ a ≡ 𝟘
  zero_mul a = mul_comm 𝟘 a ∙ mul_zero a

  pub mul_neg : (a b : K) → a ⊗ ⊖ b ≡ ⊖ (a ⊗ b)
  mul_neg a b = neg_unique (a ⊗ b) (a ⊗ ⊖ b) (sym (mul_add a b (⊖ b)) ∙ ap (λ x. a ⊗ x) (add_neg b) ∙ mul_zero a)

  pub neg_mul : (a b : K) → ⊖ a ⊗ b ≡ ⊖ (a ⊗ b)
  neg_mul a b = mul_comm (⊖ a) b ∙ mul_neg b a ∙ ap ⊖ (mul_comm b a)

  pub mul_left_comm : (a b c : K) → a ⊗ (b ⊗ c) ≡ b ⊗ (a ⊗ c)
  mul_left_comm a b c = sym (mul_assoc a b c) ∙ ap (λ x. x ⊗ c) (mul_comm a b) ∙ mul_assoc b a c

  pub inv_mul : (a : K) → a ≢ 𝟘 → inv a ⊗ a ≡ 𝟙
  inv_mul a n = mul_comm (inv a) a ∙ mul_inv a n

  pub div_mul : (a b : K) → b ≢ 𝟘 → (a ⊗ inv b) ⊗ b ≡ a
  div_mul a b n = mul_assoc a (inv b) b ∙ ap (λ x. a ⊗ x) (inv_mul b n) ∙ mul_one a

  pub mul_cancel_zero : (a b : K) → a ≢ 𝟘 → a ⊗ b ≡ 𝟘 → b ≡ 𝟘
  mul_cancel_zero a b n e = sym (one_mul b) ∙ ap (λ x. x ⊗ b) (sym (inv_mul a n)) ∙ mul_assoc (inv a) a b ∙ ap (λ x. inv a ⊗ x) e ∙ mul_zero (inv a)
