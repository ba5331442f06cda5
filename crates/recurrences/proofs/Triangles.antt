-- A triangular system with no zero on its diagonal has the zero solution only.
use Rattle.std.proofs.Common.{◌≡◌, ℕ, zero, suc, ◌<◌, ◌≤◌, ◌≢◌, ◌⊎◌, sym, ap, ◌∙◌, inl, inr, arith}
use native.Mathlib.Decide.{dec_lt}
use Rattle.recurrences.specs.Discrepancy.{Column}
use Rattle.recurrences.proofs.FieldLaws.{ring_of, Field, zero_mul, mul_zero, mul_cancel_zero}
use Rattle.recurrences.proofs.Combinations.{comb, comb_single, comb_zero, Span, Among, span_comb}
use Rattle.recurrences.proofs.Vectors.{ScalarSpace, ColumnSpace}
use Rattle.recurrences.proofs.LinearMaps.{on_comb}
use Rattle.recurrences.proofs.Convolutions.{convolution_linear, convolution}

module _ (F : Field) where
  open F use {K, 𝟘, 𝟙, add as ◌⊕◌, neg as ⊖, mul as ◌⊗◌, inv}

  infixl 60 ◌⊕◌
  infixl 70 ◌⊗◌
  -- D r i is entry r of vector i: zero above the diagonal, and on it nonzero or the coefficient is zero
  pub tri_zero : (N : ℕ) (D : ℕ → ℕ → K) (α : ℕ → K)
      → ((r i : ℕ) → r < i → i < N → D r i ≡ 𝟘)
      → ((i : ℕ) → i < N → (D i i ≢ 𝟘) ⊎ (α i ≡ 𝟘))
      → ((r : ℕ) → r < N → comb F (ScalarSpace F) N α (D r) ≡ 𝟘)
      → (m : ℕ) → (r : ℕ) → r < m → r < N → α r ≡ 𝟘
  tri_zero N D α low diag z zero r h hN = absurd (omega arith)
  tri_zero N D α low diag z (suc m) r h hN = go (λ i l. tri_zero N D α low diag z m i (omega arith) (omega arith)) (diag r hN)
    where
      term : ((i : ℕ) → i < r → α i ≡ 𝟘) → (i : ℕ) → i < N → i ≢ r → Dec (i < r) → α i ⊗ D r i ≡ 𝟘
      term before i l ne (yes a) = ap (λ x. x ⊗ D r i) (before i a) ∙ zero_mul F _
      term before i l ne (no a) = ap (λ x. α i ⊗ x) (low r i (omega arith) l) ∙ mul_zero F _

      go : ((i : ℕ) → i < r → α i ≡ 𝟘) → (D r r ≢ 𝟘) ⊎ (α r ≡ 𝟘) → α r ≡ 𝟘
      go before (inr e) = e
      go before (inl n) = mul_cancel_zero F (D r r) (α r) n
          (F.mul_comm _ _ ∙ sym (comb_single F (ScalarSpace F) N r α (D r) hN (λ i l ne. term before i l ne (dec_lt i r))) ∙ z r hN)

  -- of columns whose discrepancies at place n are triangular, only zero is made with the discrepancy zero
  pub apart_from : (R C n : ℕ) (M : ℕ → ℕ → ℕ → K) (g : ℕ → Column (ring_of F)) (d : ℕ → ℕ)
      → ((r i : ℕ) → r < i → i < R → convolution (ring_of F) C M n r (g i) ≡ 𝟘)
      → ((i : ℕ) → i < R → (convolution (ring_of F) C M n i (g i) ≢ 𝟘) ⊎ (n < d i))
      → (e : ℕ) (b : Column (ring_of F)) → Span F (ColumnSpace F) (Among F (ColumnSpace F) R (λ i. d i ≤ e) g) b → e ≤ n
      → ((r : ℕ) → r < R → convolution (ring_of F) C M n r b ≡ 𝟘) → b ≡ (ColumnSpace F).vzero
  apart_from R C n M g d low diag e b lb en z =
      let (α, out, p) = span_comb F (ColumnSpace F) R (λ i. d i ≤ e) g b lb in
      p ∙ comb_zero F (ColumnSpace F) R α g (λ i l. tri_zero R (λ r i. convolution (ring_of F) C M n r (g i)) α low
      (λ j jN. elim (diag j jN) [ inl a ↦ inl a | inr a ↦ inr (out j (omega arith)) ])
      (λ r rN. sym (on_comb F (ColumnSpace F) (ScalarSpace F) (convolution (ring_of F) C M n r) (convolution_linear F C M n r) R α g) ∙ ap (convolution (ring_of F) C M n r) (sym p) ∙ z r rN)
      R i l l)
