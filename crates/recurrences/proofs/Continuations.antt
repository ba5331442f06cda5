-- Where the constant coefficients of C columns have an inverse, exactly one matrix continues a list by them.
use Rattle.std.proofs.Common.{◌≡◌, ℕ, suc, ◌-◌, ◌<◌, sym, ap, ◌∙◌, ap₂, arith}
use Rattle.recurrences.specs.Sums.{sum}
use Rattle.recurrences.specs.Continuation.{Continues}
use Rattle.recurrences.specs.Discrepancy.{Column, Matrices}
use Rattle.recurrences.specs.Choice.{put}
use Rattle.recurrences.specs.Generators.{Undoes, Generates}
use Rattle.recurrences.proofs.Convolutions.{convolution, discrepancy_is}
use Rattle.recurrences.proofs.FieldSums.{sum_assoc, sum_head}
use Rattle.recurrences.proofs.Summing.{sum_same}
use Rattle.recurrences.proofs.Choosing.{put_here, put_away}
use Rattle.recurrences.proofs.UnitVectors.{sum_unit}
use Rattle.recurrences.proofs.FieldLaws.{Field, neg_unique, ring_of}

module _ (F : Field) (C : ℕ) where
  open F use {K, 𝟘, add as ◌⊕◌, neg as ⊖, mul as ◌⊗◌}

  infixl 60 ◌⊕◌
  infixl 70 ◌⊗◌
  -- what the coefficients behind the constant one give at place l
  unfoldable pub behind : Matrices (ring_of F) → ℕ → ℕ → Column (ring_of F) → K
  behind M l r f = sum (ring_of F) l (λ k. sum (ring_of F) C (λ c. M (l - suc k) r c ⊗ f (suc k) c))

  placed : (M : Matrices (ring_of F)) (X : ℕ → ℕ → K) (l r : ℕ) (f : Column (ring_of F))
      → convolution (ring_of F) C (put l X M) l r f ≡ sum (ring_of F) C (λ c. X r c ⊗ f 0 c) ⊕ behind M l r f
  unfolding convolution behind
  placed M X l r f =
      sum_head F l _
      ∙ ap₂ ◌⊕◌
      (ap (λ (m : ℕ → ℕ → K). sum (ring_of F) C (λ c. m r c ⊗ f 0 c)) (put_here l X M (l - 0) (omega arith)))
      (sum_same (ring_of F) l _ _ (λ k kl. ap (λ (m : ℕ → ℕ → K). sum (ring_of F) C (λ c. m r c ⊗ f (suc k) c)) (put_away l X M (l - suc k) (omega arith))))

  -- B is the inverse of the constant coefficients of the columns g
  module _ (g : ℕ → Column (ring_of F)) (B : ℕ → ℕ → K) (left : Undoes (ring_of F) C B (λ c j. g j 0 c)) (right : Undoes (ring_of F) C (λ c j. g j 0 c) B)
      (M : Matrices (ring_of F)) (l : ℕ) where
    unfoldable pub solution : ℕ → ℕ → K
    solution r c = sum (ring_of F) C (λ j. ⊖ (behind M l r (g j)) ⊗ B j c)

    pub solution_continues : (r j : ℕ) → j < C → convolution (ring_of F) C (put l solution M) l r (g j) ≡ 𝟘
    unfolding solution
    solution_continues r j jC = placed M solution l r (g j) ∙ ap (λ x. x ⊕ behind M l r (g j)) whole ∙ F.add_comm _ _ ∙ F.add_neg _
      where
        whole : sum (ring_of F) C (λ c. solution r c ⊗ g j 0 c) ≡ ⊖ (behind M l r (g j))
        whole = sum_assoc F C _ B (λ c. g j 0 c)
            ∙ sum_same (ring_of F) C _ _ (λ i iC. ap (λ x. ⊖ (behind M l r (g i)) ⊗ x) (left i j iC jC)) ∙ sum_unit F C (λ i. ⊖ (behind M l r (g i))) j jC

    pub only_solution : (Y : ℕ → ℕ → K) (r : ℕ) → ((j : ℕ) → j < C → convolution (ring_of F) C (put l Y M) l r (g j) ≡ 𝟘) → (c : ℕ) → c < C → Y r c ≡ solution r c
    unfolding solution
    only_solution Y r z c cC =
        sym (sum_unit F C (Y r) c cC) ∙ sum_same (ring_of F) C _ _ (λ b bC. ap (λ x. Y r b ⊗ x) (sym (right b c bC cC)))
        ∙ sym (sum_assoc F C (Y r) (λ b j. g j 0 b) (λ j. B j c))
        ∙ sum_same (ring_of F) C _ _ (λ j jC. ap (λ x. x ⊗ B j c) (neg_unique F (behind M l r (g j)) _ (F.add_comm _ _ ∙ sym (placed M Y l r (g j)) ∙ z j jC)))

-- the same in the words of the definition
module _ (F : Field) (R C : ℕ) (N : Matrices (ring_of F)) (n : ℕ) (g : ℕ → Column (ring_of F)) (d : ℕ → ℕ) (G : Generates (ring_of F) R C N n g d)
    (M : Matrices (ring_of F)) (l : ℕ) where
  unfoldable pub next : ℕ → ℕ → F.K
  next = solution F C g G.inverse G.inverse_left G.inverse_right M l

  pub next_continues : Continues (ring_of F) R C M l g d next
  unfolding next
  next_continues j r jC rR =
      discrepancy_is F C (put l next M) (g j) (d j) l r (G.ends j jC) ∙ solution_continues F C g G.inverse G.inverse_left G.inverse_right M l r j jC

  pub only_next : (Y : ℕ → ℕ → F.K) → Continues (ring_of F) R C M l g d Y → (r c : ℕ) → r < R → c < C → Y r c ≡ next r c
  unfolding next
  only_next Y y r c rR cC = only_solution F C g G.inverse G.inverse_left G.inverse_right M l Y r
      (λ j jC. sym (discrepancy_is F C (put l Y M) (g j) (d j) l r (G.ends j jC)) ∙ y j r jC rR) c cC
