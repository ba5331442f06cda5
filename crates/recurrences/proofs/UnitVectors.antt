-- Combinations with, and of, the unit vectors.
use Rattle.std.proofs.Common.{◌≡◌, ℕ, zero, suc, ◌<◌, ◌≤◌, ◌≢◌, sym, refl, ap, ◌∙◌, arith}
use mathlib.Core.Path.{fun_ext}
use native.Mathlib.Decide.{ℕ_discrete, dec_lt}
use Rattle.recurrences.specs.Choice.{put}
use Rattle.recurrences.specs.Columns.{unit}
use Rattle.recurrences.specs.Sums.{sum}
use Rattle.recurrences.proofs.FieldLaws.{ring_of, Field, mul_zero}
use Rattle.recurrences.proofs.Combinations.{comb, comb_cong_l, comb_delta, comb_single, comb_vanish}
use Rattle.recurrences.proofs.Choosing.{pick_yes, pick_no, put_here, put_away}
use Rattle.recurrences.proofs.Vectors.{ScalarSpace, VectorSpace}
use Rattle.recurrences.proofs.LinearMaps.{on_comb, at_index}

module _ (F : Field) where
  open F use {K, 𝟘, 𝟙, add as ◌⊕◌, neg as ⊖, mul as ◌⊗◌, inv}

  infixl 60 ◌⊕◌
  infixl 70 ◌⊗◌
  pub comb_sum : (n : ℕ) (γ f : ℕ → K) → comb F (ScalarSpace F) n γ f ≡ sum (ring_of F) n (λ j. γ j ⊗ f j)
  unfolding comb sum
  comb_sum zero γ f = refl
  comb_sum (suc n) γ f = ap (λ x. x ⊕ (γ n ⊗ f n)) (comb_sum n γ f)

  pub unit_sym : (i k : ℕ) → unit (ring_of F) i k ≡ unit (ring_of F) k i
  unit_sym i k = go (ℕ_discrete i k)
    where
      go : Dec (i ≡ k) → unit (ring_of F) i k ≡ unit (ring_of F) k i
      go (yes e) = pick_yes (ℕ_discrete i k) 𝟙 𝟘 e ∙ sym (pick_yes (ℕ_discrete k i) 𝟙 𝟘 (sym e))
      go (no e) = pick_no (ℕ_discrete i k) 𝟙 𝟘 e ∙ sym (pick_no (ℕ_discrete k i) 𝟙 𝟘 (λ p. e (sym p)))

  pub comb_unit : (N k : ℕ) (v : ℕ → ℕ → K) → k < N → comb F (VectorSpace F) N (λ i. unit (ring_of F) i k) v ≡ v k
  comb_unit N k v kN =
      comb_cong_l F (VectorSpace F) N (λ i. unit (ring_of F) i k) (put k 𝟙 (λ _. 𝟘)) v (λ i iN. same i (ℕ_discrete i k))
      ∙ comb_delta F (VectorSpace F) N k 𝟙 v kN ∙ (VectorSpace F).one_smul (v k)
    where
      same : (i : ℕ) → Dec (i ≡ k) → unit (ring_of F) i k ≡ put k 𝟙 (λ _. 𝟘) i
      same i (yes q) = pick_yes (ℕ_discrete i k) 𝟙 𝟘 q ∙ sym (put_here k 𝟙 (λ _. 𝟘) i q)
      same i (no q) = pick_no (ℕ_discrete i k) 𝟙 𝟘 q ∙ sym (put_away k 𝟙 (λ _. 𝟘) i q)

  -- a vector of length N by its entries
  pub by_entries : (N : ℕ) (w : ℕ → K) → ((c : ℕ) → N ≤ c → w c ≡ 𝟘) → w ≡ comb F (VectorSpace F) N w (unit (ring_of F))
  by_entries N w out = fun_ext (λ c. sym (on_comb F (VectorSpace F) (ScalarSpace F) (λ f. f c) (at_index F (ScalarSpace F) c) N w (unit (ring_of F)) ∙ go c (dec_lt c N)))
    where
      off : (c i : ℕ) → i ≢ c → w i ⊗ unit (ring_of F) i c ≡ 𝟘
      off c i ne = ap (λ x. w i ⊗ x) (pick_no (ℕ_discrete i c) 𝟙 𝟘 ne) ∙ mul_zero F _

      go : (c : ℕ) → Dec (c < N) → comb F (ScalarSpace F) N w (λ j. unit (ring_of F) j c) ≡ w c
      go c (yes l) = comb_single F (ScalarSpace F) N c w (λ j. unit (ring_of F) j c) l (λ i iN ne. off c i ne) ∙ ap (λ x. w c ⊗ x) (pick_yes (ℕ_discrete c c) 𝟙 𝟘 refl) ∙ F.mul_one _
      go c (no l) = comb_vanish F (ScalarSpace F) N w (λ j. unit (ring_of F) j c) (λ i iN. off c i (omega arith)) ∙ sym (out c (omega arith))

  pub sum_unit : (n : ℕ) (a : ℕ → K) (j : ℕ) → j < n → sum (ring_of F) n (λ i. a i ⊗ unit (ring_of F) i j) ≡ a j
  sum_unit n a j jn =
      sym (comb_sum n a (λ i. unit (ring_of F) i j))
      ∙ comb_single F (ScalarSpace F) n j a (λ i. unit (ring_of F) i j) jn (λ i iN ne. ap (λ x. a i ⊗ x) (pick_no (ℕ_discrete i j) 𝟙 𝟘 ne) ∙ mul_zero F _)
      ∙ ap (λ x. a j ⊗ x) (pick_yes (ℕ_discrete j j) 𝟙 𝟘 refl) ∙ F.mul_one _
