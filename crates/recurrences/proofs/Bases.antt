-- Bases of the vectors of N entries: what keeps a basis, and coordinates in it.
use Rattle.std.proofs.Common.{◌≡◌, ℕ, zero, suc, ◌<◌, ◌≤◌, ◌≢◌, sym, refl, ap, ◌∙◌, ap₂, inr}
use native.Mathlib.Decide.{ℕ_discrete}
use Rattle.recurrences.specs.Columns.{unit}
use Rattle.recurrences.specs.Choice.{put}
use Rattle.recurrences.specs.Sums.{sum}
use Rattle.recurrences.proofs.FieldLaws.{ring_of, Field, mul_zero, zero_mul, neg_zero}
use Rattle.recurrences.proofs.Vectors.{ScalarSpace, VectorSpace}
use Rattle.recurrences.proofs.Combinations.{comb, comb_span, comb_single, comb_cong_r, Span, span_eq, span_map, Among, comb_add, comb_smul, span_comb, vadd_neg, comb_add_r, comb_put, span_one, span_bind, span_less, less_back, vzero_add}
use Rattle.recurrences.proofs.Choosing.{pick_yes, pick_no, put_here, put_away}
use Rattle.recurrences.proofs.LinearMaps.{on_comb, at_index}
use Rattle.recurrences.proofs.FieldSums.{sum_zero}
use Rattle.recurrences.proofs.UnitVectors.{by_entries}

module _ (F : Field) where
  open F use {K, 𝟘, 𝟙, add as ◌⊕◌, neg as ⊖, mul as ◌⊗◌, inv}
  open VectorSpace F use {vzero as 𝟎, vadd as ◌⊞◌, smul as ◌⊡◌, vadd_comm, vadd_assoc, vadd_zero, zero_smul, one_smul, mul_smul, add_smul}

  infixl 60 ◌⊕◌
  infixl 70 ◌⊗◌
  infixl 60 ◌⊞◌
  infixr 70 ◌⊡◌
  abbrev pub One : ℕ → (ℕ → ℕ → K) → (ℕ → K) → Type 0
  One N v = Among F (VectorSpace F) N (λ _. Unit {0}) v

  -- N vectors of length N, independent, of which every vector is made
  pub record Basis (N : ℕ) (v : ℕ → ℕ → K) : Type 0 where
    pub indep : (γ : ℕ → K) → comb F (VectorSpace F) N γ v ≡ 𝟎 → (j : ℕ) → j < N → γ j ≡ 𝟘
    pub spans : (w : ℕ → K) → ((c : ℕ) → N ≤ c → w c ≡ 𝟘) → Span F (VectorSpace F) (One N v) w

  pub basis_cong : (N : ℕ) (v u : ℕ → ℕ → K) → ((j : ℕ) → j < N → u j ≡ v j) → Basis N v → Basis N u
  basis_cong N v u same b = record {
    indep = λ γ z. b.indep γ (sym (comb_cong_r F (VectorSpace F) N γ u v same) ∙ z);
    spans = λ w h. span_map F (VectorSpace F) (One N v) (One N u) (b.spans w h) (λ x (j, jN, q, p). (j, jN, q, p ∙ sym (same j jN)));
  }

  comb_scaled : (n : ℕ) (γ c : ℕ → K) (p : ℕ → K) → comb F (VectorSpace F) n γ (λ j. c j ⊡ p) ≡ sum (ring_of F) n (λ j. γ j ⊗ c j) ⊡ p
  unfolding comb sum
  comb_scaled zero γ c p = sym (zero_smul p)
  comb_scaled (suc n) γ c p = ap₂ ◌⊞◌ (comb_scaled n γ c p) (sym (mul_smul (γ n) (c n) p)) ∙ sym (add_smul _ _ p)

  -- each vector but l may reduced a multiple of l
  pub basis_less : (N l : ℕ) (v : ℕ → ℕ → K) (c : ℕ → K) → l < N → c l ≡ 𝟘 → Basis N v → Basis N (λ j. v j ⊞ (⊖ (c j) ⊡ v l))
  basis_less N l v c lN cl b = record { indep = ind; spans = λ w h. span_bind F (VectorSpace F) (One N v) (One N u) (b.spans w h) made }
    where
      u : ℕ → ℕ → K
      u = λ j. v j ⊞ (⊖ (c j) ⊡ v l)

      ul : v l ≡ u l
      ul = sym (ap (λ k. v l ⊞ (⊖ k ⊡ v l)) cl ∙ ap (λ k. v l ⊞ (k ⊡ v l)) (neg_zero F) ∙ ap (λ x. v l ⊞ x) (zero_smul (v l)) ∙ vadd_zero (v l))

      made : (x : ℕ → K) → One N v x → Span F (VectorSpace F) (One N u) x
      made x (j, jN, q, p) =
          span_eq F (VectorSpace F) (One N u) (p ∙ less_back F (VectorSpace F) (v j) (v l) (c j))
          (span_less F (VectorSpace F) (One N u) (c j) (span_one F (VectorSpace F) (One N u) (u j) (j, jN, q, refl)) (inr (span_one F (VectorSpace F) (One N u) (v l) (l, lN, q, ul))))

      ind : (γ : ℕ → K) → comb F (VectorSpace F) N γ u ≡ 𝟎 → (j : ℕ) → j < N → γ j ≡ 𝟘
      ind γ z j jN = go (ℕ_discrete j l)
        where
          s : K
          s = sum (ring_of F) N (λ j. γ j ⊗ ⊖ (c j))

          whole : comb F (VectorSpace F) N (put l (γ l ⊕ s) γ) v ≡ 𝟎
          whole =
              sym (vadd_zero _) ∙ ap (λ x. comb F (VectorSpace F) N (put l (γ l ⊕ s) γ) v ⊞ x) (sym (vadd_neg F (VectorSpace F) (γ l ⊡ v l))) ∙ sym (vadd_assoc _ _ _)
              ∙ ap (λ x. x ⊞ (⊖ 𝟙 ⊡ (γ l ⊡ v l))) (comb_put F (VectorSpace F) N l (γ l ⊕ s) γ v lN
              ∙ ap (λ x. comb F (VectorSpace F) N γ v ⊞ x) (add_smul (γ l) s (v l) ∙ vadd_comm _ _) ∙ sym (vadd_assoc _ _ _)
              ∙ ap (λ x. x ⊞ (γ l ⊡ v l)) (ap (λ x. comb F (VectorSpace F) N γ v ⊞ x) (sym (comb_scaled N γ (λ j. ⊖ (c j)) (v l))) ∙ sym (comb_add_r F (VectorSpace F) N γ v (λ j. ⊖ (c j) ⊡ v l)) ∙ z)
              ∙ vzero_add F (VectorSpace F) _)
              ∙ vadd_neg F (VectorSpace F) (γ l ⊡ v l)

          away : (k : ℕ) → k < N → k ≢ l → γ k ≡ 𝟘
          away k kN q = sym (put_away l (γ l ⊕ s) γ k q) ∙ b.indep _ whole k kN

          s_zero : (k : ℕ) → k < N → Dec (k ≡ l) → γ k ⊗ ⊖ (c k) ≡ 𝟘
          s_zero k kN (yes q) = ap (λ x. γ k ⊗ ⊖ x) (ap c q ∙ cl) ∙ ap (λ x. γ k ⊗ x) (neg_zero F) ∙ mul_zero F _
          s_zero k kN (no q) = ap (λ x. x ⊗ ⊖ (c k)) (away k kN q) ∙ zero_mul F _

          go : Dec (j ≡ l) → γ j ≡ 𝟘
          go (no q) = away j jN q
          go (yes q) =
              ap γ q ∙ sym (F.add_zero (γ l)) ∙ ap (λ x. γ l ⊕ x) (sym (sum_zero F N _ (λ k kN. s_zero k kN (ℕ_discrete k l))))
              ∙ sym (put_here l (γ l ⊕ s) γ l refl) ∙ b.indep _ whole l lN

  pub unit_basis : (N : ℕ) → Basis N (unit (ring_of F))
  unit_basis N = record {
    indep = λ γ z j jN.
        sym (F.mul_one (γ j)) ∙ ap (λ x. γ j ⊗ x) (sym (pick_yes (ℕ_discrete j j) 𝟙 𝟘 refl))
        ∙ sym (comb_single F (ScalarSpace F) N j γ (λ i. unit (ring_of F) i j) jN (λ i iN ne. ap (λ x. γ i ⊗ x) (pick_no (ℕ_discrete i j) 𝟙 𝟘 ne) ∙ mul_zero F _))
        ∙ sym (on_comb F (VectorSpace F) (ScalarSpace F) (λ f. f j) (at_index F (ScalarSpace F) j) N γ (unit (ring_of F))) ∙ ap (λ f. f j) z;
    spans = λ w out. span_eq F (VectorSpace F) (One N (unit (ring_of F))) (by_entries F N w out) (comb_span F (VectorSpace F) N (λ _. Unit {0}) (unit (ring_of F)) w (λ j jN. inr tt));
  }

  -- equal combinations of a basis have equal coefficients
  pub basis_same : (N : ℕ) (v : ℕ → ℕ → K) → Basis N v → (γ δ : ℕ → K) → comb F (VectorSpace F) N γ v ≡ comb F (VectorSpace F) N δ v → (j : ℕ) → j < N → γ j ≡ δ j
  basis_same N v b γ δ e j jN =
      sym (F.add_zero _) ∙ ap (λ x. γ j ⊕ x) (sym (vadd_neg F (ScalarSpace F) (δ j)) ∙ F.add_comm _ _) ∙ sym (F.add_assoc _ _ _)
      ∙ ap (λ x. x ⊕ δ j) (b.indep (λ j. γ j ⊕ (⊖ 𝟙 ⊗ δ j))
      (comb_add F (VectorSpace F) N γ (λ j. ⊖ 𝟙 ⊗ δ j) v ∙ ap₂ ◌⊞◌ e (comb_smul F (VectorSpace F) N (⊖ 𝟙) δ v) ∙ vadd_neg F (VectorSpace F) _) j jN)
      ∙ F.add_comm _ _ ∙ F.add_zero _

  -- the coefficients of a vector at a basis
  pub coordinates : (N : ℕ) (v : ℕ → ℕ → K) → Basis N v → (w : ℕ → K) → ((c : ℕ) → N ≤ c → w c ≡ 𝟘) → (γ : ℕ → K) × (w ≡ comb F (VectorSpace F) N γ v)
  coordinates N v b w out = let (γ, _, e) = span_comb F (VectorSpace F) N (λ _. Unit {0}) v w (b.spans w out) in (γ, e)
