-- Over a field, to generate by the definition and to be a FieldGenerator, of columns with nothing beyond entry C, are the same.
use Rattle.std.proofs.Common.{◌≡◌, ℕ, ◌<◌, sym, ap, ◌∙◌, inl, inr, arith}
use native.Mathlib.Decide.{dec_lt}
use Rattle.recurrences.specs.Discrepancy.{Matrices, Column}
use Rattle.recurrences.specs.Choice.{pick}
use Rattle.recurrences.specs.Generators.{Generates}
use Rattle.recurrences.proofs.PairingOff.{FieldGenerator}
use Rattle.recurrences.proofs.Invariant.{Inside}
use Rattle.recurrences.proofs.Dependence.{discrepancy_cong}
use Rattle.recurrences.proofs.Inverses.{basis_invertible, invertible_basis}
use Rattle.recurrences.proofs.Convolutions.{discrepancy_is}
use Rattle.recurrences.proofs.Summing.{sum_same}
use Rattle.recurrences.proofs.Choosing.{pick_yes, pick_no}
use Rattle.recurrences.proofs.FieldLaws.{Field, ring_of}

module _ (F : Field) (R C : ℕ) (M : Matrices (ring_of F)) (n : ℕ) where
  open F use {K, 𝟘, 𝟙, mul as ◌⊗◌}

  infixl 70 ◌⊗◌
  -- the column with zero for each entry beyond C
  trimmed : Column (ring_of F) → Column (ring_of F)
  trimmed f k c = pick (dec_lt c C) (f k c) 𝟘

  trimmed_is : (f : Column (ring_of F)) (k c : ℕ) → c < C → trimmed f k c ≡ f k c
  unfolding trimmed
  trimmed_is f k c cC = pick_yes (dec_lt c C) (f k c) 𝟘 cC

  pub generates_generator : (h : ℕ → Column (ring_of F)) (d : ℕ → ℕ) → Generates (ring_of F) R C M n h d → (g : ℕ → Column (ring_of F)) × FieldGenerator F R C M n g d
  unfolding trimmed
  generates_generator h d g = (
    (λ j. trimmed (h j)),
    record {
      inside = inside;
      fits = λ j jC l r dl ln rR.
          sym (discrepancy_is F C M (trimmed (h j)) (d j) l r (λ k c dk cC. inside j jC k c (inl dk)))
          ∙ discrepancy_cong (ring_of F) C M M (trimmed (h j)) (h j) (d j) l r (λ m k c ml kd cC. ap (λ x. M m r c ⊗ x) (trimmed_is (h j) k c cC))
          ∙ g.fits j jC l r dl ln rR;
      basis = invertible_basis F C (λ j. trimmed (h j) 0) (λ j jC c cC. inside j jC 0 c (inr cC))
          record {
            B = g.inverse;
            left = λ i k iC kC. sum_same (ring_of F) C _ _ (λ c cC. ap (λ x. g.inverse i c ⊗ x) (trimmed_is (h k) 0 c cC)) ∙ g.inverse_left i k iC kC;
            right = λ i k iC kC. sum_same (ring_of F) C _ _ (λ j jC. ap (λ x. x ⊗ g.inverse j k) (trimmed_is (h j) 0 i iC)) ∙ g.inverse_right i k iC kC;
          };
    },
  )
    where
      entry : (j : ℕ) → j < C → (k c : ℕ) → d j < k → Dec (c < C) → trimmed (h j) k c ≡ 𝟘
      entry j jC k c dk (yes cC) = trimmed_is (h j) k c cC ∙ g.ends j jC k c dk cC
      entry j jC k c dk (no cC) = pick_no (dec_lt c C) (h j k c) 𝟘 cC

      inside : (j : ℕ) → j < C → Inside F C (d j) (trimmed (h j))
      inside j jC k c (inl dk) = entry j jC k c dk (dec_lt c C)
      inside j jC k c (inr cC) = pick_no (dec_lt c C) (h j k c) 𝟘 (omega arith)

  pub generator_generates : (h : ℕ → Column (ring_of F)) (d : ℕ → ℕ) → FieldGenerator F R C M n h d → Generates (ring_of F) R C M n h d
  generator_generates h d g =
      let w = basis_invertible F C (λ j. h j 0) (λ j jC c cC. g.inside j jC 0 c (inr cC)) g.basis in
      record {
        ends = λ j jC k c dk cC. g.inside j jC k c (inl dk);
        fits = λ j jC l r dl ln rR. discrepancy_is F C M (h j) (d j) l r (λ k c dk cC. g.inside j jC k c (inl dk)) ∙ g.fits j jC l r dl ln rR;
        inverse = w.B;
        inverse_left = w.left;
        inverse_right = w.right;
      }
