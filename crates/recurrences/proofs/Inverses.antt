-- Vectors are a basis exactly where, side by side, they form a matrix that has an inverse.
use Rattle.std.proofs.Common.{◌≡◌, ℕ, ◌<◌, ◌≤◌, sym, refl, ap, ◌∙◌, inr, arith}
use mathlib.Core.Path.{fun_ext}
use native.Mathlib.Decide.{ℕ_discrete, dec_lt}
use Rattle.recurrences.specs.Generators.{Undoes}
use Rattle.recurrences.specs.Columns.{unit}
use Rattle.recurrences.specs.Sums.{sum}
use Rattle.recurrences.proofs.FieldLaws.{ring_of, Field, mul_zero, zero_mul}
use Rattle.recurrences.proofs.Combinations.{comb, comb_span, comb_comb, comb_cong_r, comb_single, comb_vanish, span_eq, span_bind}
use Rattle.recurrences.proofs.Choosing.{pick_yes, pick_no}
use Rattle.recurrences.proofs.Vectors.{ScalarSpace, VectorSpace}
use Rattle.recurrences.proofs.LinearMaps.{on_comb, at_index}
use Rattle.recurrences.proofs.Summing.{sum_same}
use Rattle.recurrences.proofs.Bases.{Basis, One, coordinates, basis_same}
use Rattle.recurrences.proofs.UnitVectors.{by_entries, comb_unit, unit_sym, comb_sum}

module _ (F : Field) where
  open F use {K, 𝟘, 𝟙, add as ◌⊕◌, neg as ⊖, mul as ◌⊗◌, inv}

  infixl 60 ◌⊕◌
  infixl 70 ◌⊗◌
  -- the vectors side by side are a matrix that has an inverse
  pub record Invertible (N : ℕ) (v : ℕ → ℕ → K) : Type 0 where
    pub B : ℕ → ℕ → K
    pub left : Undoes (ring_of F) N B (λ c j. v j c)
    pub right : Undoes (ring_of F) N (λ c j. v j c) B

  module _ (N : ℕ) (v : ℕ → ℕ → K) (out : (j : ℕ) → j < N → (c : ℕ) → N ≤ c → v j c ≡ 𝟘) where
    unit_out : (k : ℕ) → k < N → (c : ℕ) → N ≤ c → unit (ring_of F) k c ≡ 𝟘
    unit_out k kN c cN = pick_no (ℕ_discrete k c) 𝟙 𝟘 (omega arith)

    module _ (b : Basis F N v) where
      β : (c : ℕ) → Dec (c < N) → ℕ → K
      β c (yes cN) = (coordinates F N v b (unit (ring_of F) c) (unit_out c cN)).0
      β c (no _) = λ _. 𝟘

      β_is : (c : ℕ) → c < N → (d : Dec (c < N)) → unit (ring_of F) c ≡ comb F (VectorSpace F) N (β c d) v
      unfolding β
      β_is c cN (yes q) = (coordinates F N v b (unit (ring_of F) c) (unit_out c q)).1
      β_is c cN (no q) = absurd (q cN)

      pub basis_invertible : Invertible N v
      unfolding sum
      basis_invertible = record {
        B = λ j c. β c (dec_lt c N) j;
        left = λ i k iN kN.
            sum_same (ring_of F) N _ _ (λ c _. F.mul_comm _ _)
            ∙ basis_same F N v b (λ i. sum (ring_of F) N (λ c. v k c ⊗ β c (dec_lt c N) i)) (λ i. unit (ring_of F) i k)
            (sym (comb_comb F (VectorSpace F) N N (v k) (λ c. β c (dec_lt c N)) v (λ m i. sum (ring_of F) m (λ c. v k c ⊗ β c (dec_lt c N) i)) (λ i. refl) (λ m i. refl))
            ∙ comb_cong_r F (VectorSpace F) N (v k) _ _ (λ c cN. sym (β_is c cN (dec_lt c N)))
            ∙ sym (by_entries F N (v k) (out k kN)) ∙ sym (comb_unit F N k v kN)) i iN;
        right = λ c c' cN cN'.
            sum_same (ring_of F) N _ _ (λ j _. F.mul_comm _ _) ∙ sym (comb_sum F N (β c' (dec_lt c' N)) (λ j. v j c))
            ∙ sym (on_comb F (VectorSpace F) (ScalarSpace F) (λ f. f c) (at_index F (ScalarSpace F) c) N (β c' (dec_lt c' N)) v)
            ∙ ap (λ f. f c) (sym (β_is c' cN' (dec_lt c' N))) ∙ unit_sym F c' c;
      }

    pub invertible_basis : Invertible N v → Basis F N v
    unfolding sum
    invertible_basis w = record {
      indep = λ γ z i iN.
          sym (comb_single F (ScalarSpace F) N i γ (λ j. unit (ring_of F) i j) iN (λ j jN ne. ap (λ x. γ j ⊗ x) (pick_no (ℕ_discrete i j) 𝟙 𝟘 (λ p. ne (sym p))) ∙ mul_zero F _)
          ∙ ap (λ x. γ i ⊗ x) (pick_yes (ℕ_discrete i i) 𝟙 𝟘 refl) ∙ F.mul_one _)
          ∙ comb_cong_r F (ScalarSpace F) N γ _ _ (λ j jN. sym (w.left i j iN jN) ∙ sum_same (ring_of F) N _ _ (λ c _. F.mul_comm _ _) ∙ sym (comb_sum F N (v j) (w.B i)))
          ∙ comb_comb F (ScalarSpace F) N N γ v (w.B i) (λ m c. sum (ring_of F) m (λ j. γ j ⊗ v j c)) (λ c. refl) (λ m c. refl)
          ∙ comb_vanish F (ScalarSpace F) N _ (w.B i) (λ c cN. ap (λ x. x ⊗ w.B i c)
          (sym (comb_sum F N γ (λ j. v j c)) ∙ sym (on_comb F (VectorSpace F) (ScalarSpace F) (λ f. f c) (at_index F (ScalarSpace F) c) N γ v) ∙ ap (λ f. f c) z) ∙ zero_mul F _);
      spans = λ x xout. span_eq F (VectorSpace F) (One F N v) (by_entries F N x xout)
          (span_bind F (VectorSpace F) _ (One F N v) (comb_span F (VectorSpace F) N (λ _. Unit {0}) (unit (ring_of F)) x (λ j jN. inr tt))
          (λ y (c, cN, _, p). span_eq F (VectorSpace F) (One F N v) (p ∙ fun_ext (λ c'. entry c cN c' (dec_lt c' N))) (comb_span F (VectorSpace F) N (λ _. Unit {0}) v (λ j. w.B j c) (λ j jN. inr tt))));
    }
      where
        entry : (c : ℕ) → c < N → (c' : ℕ) → Dec (c' < N) → unit (ring_of F) c c' ≡ comb F (VectorSpace F) N (λ j. w.B j c) v c'
        entry c cN c' (yes q) =
            unit_sym F c c' ∙ sym (w.right c' c q cN) ∙ sum_same (ring_of F) N _ _ (λ j _. F.mul_comm _ _)
            ∙ sym (comb_sum F N (λ j. w.B j c) (λ j. v j c')) ∙ sym (on_comb F (VectorSpace F) (ScalarSpace F) (λ f. f c') (at_index F (ScalarSpace F) c') N (λ j. w.B j c) v)
        entry c cN c' (no q) =
            unit_out c cN c' (omega arith)
            ∙ sym (on_comb F (VectorSpace F) (ScalarSpace F) (λ f. f c') (at_index F (ScalarSpace F) c') N (λ j. w.B j c) v
            ∙ comb_vanish F (ScalarSpace F) N (λ j. w.B j c) (λ j. v j c') (λ j jN. ap (λ x. w.B j c ⊗ x) (out j jN c' (omega arith)) ∙ mul_zero F _))
