-- A list made of a function's first values.
use Rattle.std.proofs.Common.{◌≡◌, ℕ, zero, suc, ◌+◌, ◌<◌, List, [], ◌∷◌, ◌++◌, length, get_or, sym, refl, ap, ◌∙◌, ap₂, suc-add, zero-add, arith}
use Rattle.recurrences.specs.Standing.{listed}

module _ {A : Type 0} where
  pub length_listed : (n : ℕ) (f : ℕ → A) → length (listed n f) ≡ n
  unfolding listed
  length_listed zero f = refl
  length_listed (suc n) f = ap suc (length_listed n (λ i. f (suc i)))

  pub get_or_listed : (n : ℕ) (f : ℕ → A) (i : ℕ) (d : A) → i < n → get_or (listed n f) i d ≡ f i
  unfolding listed
  get_or_listed zero f i d h = absurd (omega arith)
  get_or_listed (suc n) f zero d h = refl
  get_or_listed (suc n) f (suc i) d h = get_or_listed n (λ i. f (suc i)) i d (omega arith)

  pub listed_same : (n : ℕ) (f g : ℕ → A) → ((i : ℕ) → i < n → f i ≡ g i) → listed n f ≡ listed n g
  unfolding listed
  listed_same zero f g h = refl
  listed_same (suc n) f g h = ap₂ ◌∷◌ (h 0 (omega arith)) (listed_same n (λ i. f (suc i)) (λ i. g (suc i)) (λ i l. h (suc i) (omega arith)))

  pub listed_append : (a b : ℕ) (f : ℕ → A) → listed (a + b) f ≡ listed a f ++ listed b (λ i. f (a + i))
  unfolding listed
  listed_append zero b f = ap (λ (n : ℕ). listed n f) (zero-add b) ∙ listed_same b f (λ i. f (0 + i)) (λ i l. ap f (sym (zero-add i)))
  listed_append (suc a) b f =
      ap (λ (n : ℕ). listed n f) (suc-add a b)
      ∙ ap (λ (xs : List A). f 0 ∷ xs) (listed_append a b (λ i. f (suc i)) ∙ ap (λ (xs : List A). listed a (λ i. f (suc i)) ++ xs) (listed_same b (λ i. f (suc (a + i))) (λ i. f (suc a + i)) (λ i l. ap f (sym (suc-add a i)))))

  -- a list is made of its own entries
  pub listed_own : (xs : List A) (d : A) → listed (length xs) (λ i. get_or xs i d) ≡ xs
  unfolding listed
  listed_own [] d = refl
  listed_own (x ∷ xs) d = ap (λ (ys : List A). x ∷ ys) (listed_own xs d)
