-- Linear maps, on combinations and on spans.
use Rattle.std.proofs.Common.{◌≡◌, ℕ, zero, suc, sym, refl, ap, ◌∙◌, ap₂}
use Rattle.recurrences.proofs.FieldLaws.{Field}
use Rattle.recurrences.proofs.Vectors.{Space, ScalarSpace, FunctionSpace, ColumnSpace}
use Rattle.recurrences.proofs.Combinations.{comb, Span, span_none, span_more, smul_zero}

pub record Linear (F : Field) (M W : Space F) (φ : M.V → W.V) : Type 0 where
  pub on_add : (a b : M.V) → φ (M.vadd a b) ≡ W.vadd (φ a) (φ b)
  pub on_smul : (k : F.K) (a : M.V) → φ (M.smul k a) ≡ W.smul k (φ a)

module _ (F : Field) (M W : Space F) (φ : M.V → W.V) (L : Linear F M W φ) where
  pub on_zero : φ M.vzero ≡ W.vzero
  on_zero = ap φ (sym (M.zero_smul M.vzero)) ∙ L.on_smul F.𝟘 M.vzero ∙ W.zero_smul (φ M.vzero)

  pub on_comb : (n : ℕ) (γ : ℕ → F.K) (f : ℕ → M.V) → φ (comb F M n γ f) ≡ comb F W n γ (λ j. φ (f j))
  unfolding comb
  on_comb zero γ f = on_zero
  on_comb (suc n) γ f = L.on_add _ _ ∙ ap₂ W.vadd (on_comb n γ f) (L.on_smul (γ n) (f n))

  -- what is zero on P is zero on all that is made of P
  pub on_span : (P : M.V → Type 0) {h : M.V} → Span F M P h → ((x : M.V) → P x → φ x ≡ W.vzero) → φ h ≡ W.vzero
  on_span P (span_none p) z = ap φ p ∙ on_zero
  on_span P (span_more c x t px l p) z =
      ap φ p ∙ L.on_add _ _ ∙ ap₂ W.vadd (L.on_smul c x ∙ ap (W.smul c) (z x px) ∙ smul_zero F W c) (on_span P l z) ∙ W.vadd_zero W.vzero

  pub span_image : (P : M.V → Type 0) (Q : W.V → Type 0) {h : M.V} → Span F M P h → ((x : M.V) → P x → Q (φ x)) → Span F W Q (φ h)
  span_image P Q (span_none p) f = span_none (ap φ p ∙ on_zero)
  span_image P Q (span_more c x t px l p) f =
      span_more c (φ x) (φ t) (f x px) (span_image P Q l f) (ap φ p ∙ L.on_add _ _ ∙ ap (λ y. W.vadd y (φ t)) (L.on_smul c x))

-- to look at one place is linear
pub at_index : (F : Field) (M : Space F) (i : ℕ) → Linear F (FunctionSpace F M) M (λ f. f i)
at_index F M i = record { on_add = λ a b. refl; on_smul = λ k a. refl }

pub at_place : (F : Field) (k c : ℕ) → Linear F (ColumnSpace F) (ScalarSpace F) (λ f. f k c)
at_place F k c = record { on_add = λ a b. refl; on_smul = λ q a. refl }
