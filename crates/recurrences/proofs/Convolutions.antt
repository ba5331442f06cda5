-- The discrepancy with its sum not cut at a degree: it is linear, follows the shift, and is the discrepancy where a column ends at its degree.
use Rattle.std.proofs.Common.{◌≡◌, ℕ, zero, suc, ◌-◌, min, sym, refl, ap, ◌∙◌, ap₂, arith}
use mathlib.Core.Path.{fun_ext}
use Rattle.recurrences.specs.Discrepancy.{Matrices, Column, discrepancy}
use Rattle.recurrences.specs.Generators.{Ends}
use Rattle.recurrences.specs.Columns.{shift}
use Rattle.recurrences.specs.Operations.{Operations}
use Rattle.recurrences.specs.Sums.{sum}
use Rattle.recurrences.proofs.Summing.{sum_same}
use Rattle.recurrences.proofs.FieldSums.{sum_add, sum_mul, sum_zero, sum_head, sum_cut}
use Rattle.recurrences.proofs.LinearMaps.{Linear}
use Rattle.recurrences.proofs.FieldLaws.{ring_of, Field, mul_zero, mul_left_comm}
use Rattle.recurrences.proofs.Vectors.{ScalarSpace, ColumnSpace}

-- entry r of the discrepancy at place l with the sum not cut at a degree: coefficient l of the product of the list M with the column f
unfoldable pub convolution : (O : Operations) → ℕ → Matrices O → ℕ → ℕ → Column O → O.K
convolution O C M l r f = sum O (suc l) (λ k. sum O C (λ c. O.mul (M (l - k) r c) (f k c)))

module _ (F : Field) where
  open F use {K, 𝟘, 𝟙, add as ◌⊕◌, neg as ⊖, mul as ◌⊗◌, inv}

  infixl 60 ◌⊕◌
  infixl 70 ◌⊗◌
  pub convolution_linear : (C : ℕ) (M : Matrices (ring_of F)) (l r : ℕ) → Linear F (ColumnSpace F) (ScalarSpace F) (convolution (ring_of F) C M l r)
  unfolding convolution
  convolution_linear C M l r = record {
    on_add = λ f g. sum_same (ring_of F) (suc l) _ _ (λ k _. sum_same (ring_of F) C _ _ (λ c _. F.mul_add _ _ _) ∙ sum_add F C _ _) ∙ sum_add F (suc l) _ _;
    on_smul = λ a f. sum_same (ring_of F) (suc l) _ _ (λ k _. sum_same (ring_of F) C _ _ (λ c _. mul_left_comm F _ _ _) ∙ sum_mul F C a _) ∙ sum_mul F (suc l) a _;
  }

  pub shift_linear : Linear F (ColumnSpace F) (ColumnSpace F) (shift (ring_of F))
  unfolding shift
  shift_linear = record {
    on_add = λ f g. fun_ext (elim [ zero ↦ fun_ext (λ c. sym (F.add_zero 𝟘)) | suc k ↦ refl ]);
    on_smul = λ a f. fun_ext (elim [ zero ↦ fun_ext (λ c. sym (mul_zero F a)) | suc k ↦ refl ]);
  }

  pub convolution_shift : (C : ℕ) (M : Matrices (ring_of F)) (l r : ℕ) (f : Column (ring_of F)) → convolution (ring_of F) C M (suc l) r (shift (ring_of F) f) ≡ convolution (ring_of F) C M l r f
  unfolding convolution shift
  convolution_shift C M l r f =
      sum_head F (suc l) (λ k. sum (ring_of F) C (λ c. M (suc l - k) r c ⊗ shift (ring_of F) f k c))
      ∙ ap₂ ◌⊕◌ (sum_zero F C _ (λ c _. mul_zero F _)) (sum_same (ring_of F) (suc l) _ _ (λ k h. ap (λ m. sum (ring_of F) C (λ c. M m r c ⊗ f k c)) (sub k)))
      ∙ F.add_comm _ _ ∙ F.add_zero _
    where
      sub : (k : ℕ) → suc l - suc k ≡ l - k
      sub k = omega arith

  pub convolution_shift_zero : (C : ℕ) (M : Matrices (ring_of F)) (r : ℕ) (f : Column (ring_of F)) → convolution (ring_of F) C M 0 r (shift (ring_of F) f) ≡ 𝟘
  unfolding convolution shift sum
  convolution_shift_zero C M r f = F.add_comm _ _ ∙ F.add_zero _ ∙ sum_zero F C _ (λ c _. mul_zero F _)

  -- where the column ends at d, so may the sum
  pub discrepancy_is : (C : ℕ) (M : Matrices (ring_of F)) (f : Column (ring_of F)) (d l r : ℕ) → Ends (ring_of F) C d f
      → discrepancy (ring_of F) C M f d l r ≡ convolution (ring_of F) C M l r f
  unfolding convolution discrepancy
  discrepancy_is C M f d l r z =
      sym (sum_cut F (suc (min l d)) (suc l) _ (omega arith)
      (λ k h g. sum_zero F C _ (λ c cC. ap (λ y. M (l - k) r c ⊗ y) (z k c (omega arith) cC) ∙ mul_zero F _)))
