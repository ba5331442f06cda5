-- A matrix with a left inverse has a nonzero entry in each column, in rows that pair off with the columns.
use Rattle.std.proofs.Common.{◌≡◌, ℕ, zero, suc, ◌+◌, ◌<◌, ◌≢◌, sym, refl, ap, ◌∙◌, ap₂, arith}
use native.Mathlib.Decide.{ℕ_discrete}
use Rattle.recurrences.specs.Choice.{put}
use Rattle.recurrences.specs.Pairing.{Pairing}
use Rattle.recurrences.specs.Sums.{sum}
use Rattle.recurrences.specs.Degrees.{total}
use Rattle.recurrences.specs.Generators.{Undoes}
use Rattle.recurrences.proofs.FieldLaws.{ring_of, Field, zero_mul, mul_zero, add_mul, neg_mul, mul_neg, neg_neg, neg_unique, div_mul}
use Rattle.recurrences.proofs.Choosing.{pick_yes, pick_no, put_here, put_away}
use Rattle.recurrences.proofs.Transpositions.{flip, flip_right}
use Rattle.recurrences.proofs.Totals.{total_cong, total_flip}
use Rattle.recurrences.proofs.Summing.{sum_same}
use Rattle.recurrences.proofs.FieldSums.{sum_add, sum_mul, sum_nonzero, sum_flip}
use Rattle.recurrences.proofs.Pairings.{pairing_more, pairing_flip, pairing_trans}

module _ (F : Field) where
  open F use {K, 𝟘, 𝟙, add as ◌⊕◌, neg as ⊖, mul as ◌⊗◌, inv}

  infixl 60 ◌⊕◌
  infixl 70 ◌⊗◌
  -- without the last row and column, where the last entry of B is not zero
  pub minor : (n : ℕ) (B P : ℕ → ℕ → K) → B n n ≢ 𝟘 → Undoes (ring_of F) (suc n) B P
      → Undoes (ring_of F) n (λ i m. B i m ⊕ (⊖ (B i n ⊗ inv (B n n)) ⊗ B n m)) P
  unfolding sum
  minor n B P nz inverse i k hi hk =
      sum_same (ring_of F) n _ _ (λ m _. add_mul F _ _ _ ∙ ap (λ x. B i m ⊗ P m k ⊕ x) (F.mul_assoc _ _ _))
      ∙ sum_add F n (λ m. B i m ⊗ P m k) (λ m. ⊖ c ⊗ (B n m ⊗ P m k))
      ∙ ap₂ ◌⊕◌ refl (sum_mul F n (⊖ c) (λ m. B n m ⊗ P m k) ∙ ap (λ x. ⊖ c ⊗ x) last ∙ neg_mul F _ _ ∙ ap ⊖ (mul_neg F _ _) ∙ neg_neg F _
      ∙ sym (F.mul_assoc _ _ _) ∙ ap (λ x. x ⊗ P n k) (div_mul F (B i n) (B n n) nz))
      ∙ inverse i k (omega arith) (omega arith)
    where
      c : K
      c = B i n ⊗ inv (B n n)

      last : sum (ring_of F) n (λ m. B n m ⊗ P m k) ≡ ⊖ (B n n ⊗ P n k)
      last = neg_unique F _ _ (F.add_comm _ _ ∙ inverse n k (omega arith) (omega arith) ∙ pick_no (ℕ_discrete n k) 𝟙 𝟘 (omega arith))

  more_total : (n : ℕ) (π : Pairing n) (d : ℕ → ℕ) → ((d : ℕ → ℕ) → total n (λ k. d (π.to k)) ≡ total n d) → total (suc n) (λ k. d ((pairing_more n π).to k)) ≡ total (suc n) d
  unfolding pairing_more total
  more_total n π d h =
      ap₂ ◌+◌ (total_cong n _ _ (λ i l. ap d (put_away n n π.to i (omega arith))) ∙ h d) (ap d (put_here n n π.to n refl))

  -- a matrix with a left inverse has a nonzero entry in each column, in rows that pair off with the columns
  pub transversal : (n : ℕ) (B P : ℕ → ℕ → K) → Undoes (ring_of F) n B P
      → (π : Pairing n) × ((k : ℕ) → k < n → P (π.to k) k ≢ 𝟘) × ((d : ℕ → ℕ) → total n (λ k. d (π.to k)) ≡ total n d)
  unfolding pairing_trans pairing_flip pairing_more
  transversal zero B P inverse = (
    record { to = λ k. k; from = λ k. k; to_below = λ k h. h; from_below = λ k h. h; from_to = λ k h. refl; to_from = λ k h. refl },
    (λ k h. absurd (omega arith)),
    λ d. refl,
  )
  transversal (suc n) B P inverse =
      let (j, jn, nz) = sum_nonzero F (suc n) (λ j. B n j ⊗ P j n)
      (λ e. F.one≢zero (sym (pick_yes (ℕ_discrete n n) 𝟙 𝟘 refl) ∙ sym (inverse n n (omega arith) (omega arith)) ∙ e)) in
      let B' : ℕ → ℕ → K = λ i m. B i (flip j n m) in
      let P' : ℕ → ℕ → K = λ m k. P (flip j n m) k in
      let inverse' : Undoes (ring_of F) (suc n) B' P' = λ i k hi hk. sum_flip F n j (λ m. B i m ⊗ P m k) jn ∙ inverse i k hi hk in
      let bn : B' n n ≢ 𝟘 = λ e. nz (ap (λ x. x ⊗ P j n) (sym (ap (B n) (flip_right j n)) ∙ e) ∙ zero_mul F _) in
      let pn : P j n ≢ 𝟘 = λ e. nz (ap (λ x. B n j ⊗ x) e ∙ mul_zero F _) in
      let (π, hit, same) = transversal n (λ i m. B' i m ⊕ (⊖ (B' i n ⊗ inv (B' n n)) ⊗ B' n m)) P' (minor n B' P' bn inverse') in (
        pairing_trans (suc n) (pairing_more n π) (pairing_flip (suc n) j n jn (omega arith)),
        (λ k h. found j pn π hit k h (ℕ_discrete k n)),
        λ d. more_total n π (λ k. d (flip j n k)) same ∙ total_flip n j d jn,
      )
    where
      found : (j : ℕ) → P j n ≢ 𝟘 → (π : Pairing n) → ((k : ℕ) → k < n → P (flip j n (π.to k)) k ≢ 𝟘)
          → (k : ℕ) → k < suc n → Dec (k ≡ n) → P (flip j n (put n n π.to k)) k ≢ 𝟘
      found j pn π hit k h (yes e) = rw (put_here n n π.to k e, flip_right j n, e) pn
      found j pn π hit k h (no e) = rw (put_away n n π.to k e) (hit k (omega arith))
