-- Finite sums in a field.
use Rattle.std.proofs.Common.{◌≡◌, ℕ, zero, suc, ◌<◌, ◌≤◌, ◌≢◌, sym, refl, ap, ◌∙◌, ap₂, arith}
use native.Mathlib.Decide.{ℕ_discrete, dec_le}
use Rattle.recurrences.specs.Choice.{put}
use Rattle.recurrences.specs.Sums.{sum}
use Rattle.recurrences.proofs.FieldLaws.{ring_of, Field, mul_zero}
use Rattle.recurrences.proofs.Choosing.{put_here, put_away}
use Rattle.recurrences.proofs.Transpositions.{flip, flip_left, flip_right, flip_away}
use Rattle.recurrences.proofs.Vectors.{ScalarSpace}
use Rattle.recurrences.proofs.Combinations.{vadd_four}
use Rattle.recurrences.proofs.Summing.{sum_same}

module _ (F : Field) where
  open F use {K, 𝟘, 𝟙, add as ◌⊕◌, neg as ⊖, mul as ◌⊗◌, inv}

  infixl 60 ◌⊕◌
  infixl 70 ◌⊗◌
  pub sum_add : (n : ℕ) (f g : ℕ → K) → sum (ring_of F) n (λ i. f i ⊕ g i) ≡ sum (ring_of F) n f ⊕ sum (ring_of F) n g
  unfolding sum
  sum_add zero f g = sym (F.add_zero 𝟘)
  sum_add (suc n) f g = ap (λ x. x ⊕ (f n ⊕ g n)) (sum_add n f g) ∙ vadd_four F (ScalarSpace F) _ _ _ _

  pub sum_mul : (n : ℕ) (k : K) (f : ℕ → K) → sum (ring_of F) n (λ i. k ⊗ f i) ≡ k ⊗ sum (ring_of F) n f
  unfolding sum
  sum_mul zero k f = sym (mul_zero F k)
  sum_mul (suc n) k f = ap (λ x. x ⊕ (k ⊗ f n)) (sum_mul n k f) ∙ sym (F.mul_add _ _ _)

  pub sum_zero : (n : ℕ) (f : ℕ → K) → ((i : ℕ) → i < n → f i ≡ 𝟘) → sum (ring_of F) n f ≡ 𝟘
  unfolding sum
  sum_zero zero f h = refl
  sum_zero (suc n) f h = ap₂ ◌⊕◌ (sum_zero n f (λ i l. h i (omega arith))) (h n (omega arith)) ∙ F.add_zero 𝟘

  pub sum_head : (n : ℕ) (f : ℕ → K) → sum (ring_of F) (suc n) f ≡ f 0 ⊕ sum (ring_of F) n (λ i. f (suc i))
  unfolding sum
  sum_head zero f = F.add_comm 𝟘 (f 0)
  sum_head (suc n) f = ap (λ x. x ⊕ f (suc n)) (sum_head n f) ∙ F.add_assoc _ _ _

  -- where the terms from n on are zero, the sum (ring_of F) may end at n
  pub sum_cut : (n m : ℕ) (f : ℕ → K) → n ≤ m → ((i : ℕ) → n ≤ i → i < m → f i ≡ 𝟘) → sum (ring_of F) m f ≡ sum (ring_of F) n f
  unfolding sum
  sum_cut n zero f h z = let e : ◌≡◌ {A = ℕ} 0 n = omega arith in ap (λ k. sum (ring_of F) k f) e
  sum_cut n (suc m) f h z = go (sum_cut n m f) (dec_le n m)
    where
      go : (n ≤ m → ((i : ℕ) → n ≤ i → i < m → f i ≡ 𝟘) → sum (ring_of F) m f ≡ sum (ring_of F) n f) → Dec (n ≤ m) → sum (ring_of F) m f ⊕ f m ≡ sum (ring_of F) n f
      go ih (yes l) = ap (λ x. sum (ring_of F) m f ⊕ x) (z m l (omega arith)) ∙ F.add_zero _ ∙ ih l (λ i a b. z i a (omega arith))
      go ih (no l) = let e : suc m ≡ n = omega arith in ap (λ k. sum (ring_of F) k f) e

  pub sum_put : (n k : ℕ) (c : K) (g : ℕ → K) → k < n → sum (ring_of F) n (put k c g) ⊕ g k ≡ sum (ring_of F) n g ⊕ c
  unfolding sum
  sum_put zero k c g h = absurd (omega arith)
  sum_put (suc n) k c g h = go (λ l. sum_put n k c g l) (ℕ_discrete n k)
    where
      swap : (a b c : K) → (a ⊕ b) ⊕ c ≡ (a ⊕ c) ⊕ b
      swap a b c = F.add_assoc a b c ∙ ap (λ x. a ⊕ x) (F.add_comm b c) ∙ sym (F.add_assoc a c b)

      go : (k < n → sum (ring_of F) n (put k c g) ⊕ g k ≡ sum (ring_of F) n g ⊕ c) → Dec (n ≡ k) → (sum (ring_of F) n (put k c g) ⊕ put k c g n) ⊕ g k ≡ (sum (ring_of F) n g ⊕ g n) ⊕ c
      go ih (yes e) = rw (put_here k c g n e, sum_same (ring_of F) n (put k c g) g (λ i l. put_away k c g i (omega arith)), e) (swap _ _ _)
      go ih (no e) = rw (put_away k c g n e) (swap _ _ _ ∙ ap (λ x. x ⊕ g n) (ih (omega arith)) ∙ swap _ _ _)

  pub sum_flip : (n j : ℕ) (g : ℕ → K) → j < suc n → sum (ring_of F) (suc n) (λ i. g (flip j n i)) ≡ sum (ring_of F) (suc n) g
  unfolding sum
  sum_flip n j g h = go (ℕ_discrete j n)
    where
      one : (i : ℕ) → i < n → Dec (i ≡ j) → g (flip j n i) ≡ put j (g n) g i
      one i l (yes e) = rw e (ap g (flip_left j n) ∙ sym (put_here j (g n) g j refl))
      one i l (no e) = ap g (flip_away j n i e (omega arith)) ∙ sym (put_away j (g n) g i e)

      same : j ≡ n → (i : ℕ) → i < n → g (flip j n i) ≡ g i
      same e i l = ap g (flip_away j n i (omega arith) (omega arith))

      go : Dec (j ≡ n) → sum (ring_of F) n (λ i. g (flip j n i)) ⊕ g (flip j n n) ≡ sum (ring_of F) n g ⊕ g n
      go (yes e) = ap₂ ◌⊕◌ (sum_same (ring_of F) n _ _ (same e)) (ap g (flip_right j n ∙ e))
      go (no e) = ap₂ ◌⊕◌ (sum_same (ring_of F) n _ _ (λ i l. one i l (ℕ_discrete i j))) (ap g (flip_right j n)) ∙ sum_put n j (g n) g (omega arith)

  pub sum_nonzero : (n : ℕ) (g : ℕ → K) → sum (ring_of F) n g ≢ 𝟘 → (j : ℕ) × (j < n) × (g j ≢ 𝟘)
  unfolding sum
  sum_nonzero zero g h = absurd (h refl)
  sum_nonzero (suc n) g h = go (λ e. sum_nonzero n g e) (F.dec (g n) 𝟘)
    where
      go : (sum (ring_of F) n g ≢ 𝟘 → (j : ℕ) × (j < n) × (g j ≢ 𝟘)) → Dec (g n ≡ 𝟘) → (j : ℕ) × (j < suc n) × (g j ≢ 𝟘)
      go ih (no e) = (n, omega arith, e)
      go ih (yes e) = let (j, l, p) = ih (λ z. h (ap₂ ◌⊕◌ z e ∙ F.add_zero 𝟘)) in (j, omega arith, p)

  pub sum_swap : (n m : ℕ) (a : ℕ → ℕ → K) → sum (ring_of F) n (λ i. sum (ring_of F) m (λ j. a i j)) ≡ sum (ring_of F) m (λ j. sum (ring_of F) n (λ i. a i j))
  unfolding sum
  sum_swap zero m a = sym (sum_zero m _ (λ j _. refl))
  sum_swap (suc n) m a = ap (λ x. x ⊕ sum (ring_of F) m (λ j. a n j)) (sum_swap n m a) ∙ sym (sum_add m _ _)

  pub sum_mul_right : (n : ℕ) (k : K) (f : ℕ → K) → sum (ring_of F) n (λ i. f i ⊗ k) ≡ sum (ring_of F) n f ⊗ k
  sum_mul_right n k f = sum_same (ring_of F) n _ _ (λ i _. F.mul_comm _ _) ∙ sum_mul n k f ∙ F.mul_comm _ _

  -- (A B) C = A (B C), at one entry
  pub sum_assoc : (N : ℕ) (a : ℕ → K) (B : ℕ → ℕ → K) (c : ℕ → K)
      → sum (ring_of F) N (λ j. sum (ring_of F) N (λ i. a i ⊗ B i j) ⊗ c j) ≡ sum (ring_of F) N (λ i. a i ⊗ sum (ring_of F) N (λ j. B i j ⊗ c j))
  sum_assoc N a B c =
      sum_same (ring_of F) N _ _ (λ j _. sym (sum_mul_right N (c j) _)) ∙ sum_swap N N _
      ∙ sum_same (ring_of F) N _ _ (λ i _. sum_same (ring_of F) N _ _ (λ j _. F.mul_assoc _ _ _) ∙ sum_mul N (a i) _)
