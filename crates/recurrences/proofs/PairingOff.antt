-- The degrees of every generator pair off with ours, each at least as great.
use Rattle.std.proofs.Common.{◌≡◌, ℕ, suc, ◌<◌, ◌≤◌, ◌≢◌, sym, refl, ap, ◌∙◌, subst, inl, inr, arith}
use native.Mathlib.Decide.{dec_le, dec_lt}
use Rattle.recurrences.specs.Discrepancy.{Matrices, Column}
use Rattle.recurrences.specs.Generators.{Undoes}
use Rattle.recurrences.specs.Columns.{Columns, shift, unit}
use Rattle.recurrences.specs.Pairing.{Pairing}
use Rattle.recurrences.specs.Sums.{sum}
use Rattle.recurrences.specs.Degrees.{total}
use Rattle.recurrences.proofs.FieldLaws.{ring_of, Field}
use Rattle.recurrences.proofs.Vectors.{ColumnSpace, VectorSpace}
use Rattle.recurrences.proofs.Combinations.{comb, comb_comb, comb_cong_r, span_split, span_comb}
use Rattle.recurrences.proofs.LinearMaps.{on_comb, on_span, at_index}
use Rattle.recurrences.proofs.Totals.{total_le}
use Rattle.recurrences.proofs.Transversals.{transversal}
use Rattle.recurrences.proofs.Spans.{ShiftSpan, made_more}
use Rattle.recurrences.proofs.Changes.{Generators, Auxiliaries, All}
use Rattle.recurrences.proofs.Bases.{Basis, basis_same, coordinates}
use Rattle.recurrences.proofs.Invariant.{Holds, Inside, Annihilates}
use Rattle.recurrences.proofs.Summing.{sum_same}
use Rattle.recurrences.proofs.UnitVectors.{comb_unit}

module _ (F : Field) where
  open F use {K, 𝟘, 𝟙, add as ◌⊕◌, neg as ⊖, mul as ◌⊗◌, inv}
  open VectorSpace F use {vzero as 𝟎, vadd as ◌⊞◌, smul as ◌⊡◌, vadd_zero}

  infixl 60 ◌⊕◌
  infixl 70 ◌⊗◌
  infixl 60 ◌⊞◌
  infixr 70 ◌⊡◌
  module _ (R C : ℕ) (M : Matrices (ring_of F)) where
    -- N columns with nominal degrees e that fit n matrices, and whose constant coefficients are a basis
    pub record FieldGenerator (n : ℕ) (h : ℕ → Column (ring_of F)) (e : ℕ → ℕ) : Type 0 where
      pub inside : (k : ℕ) → k < C → Inside F C (e k) (h k)
      pub fits : (k : ℕ) → k < C → Annihilates F R C M n (e k) (h k)
      pub basis : Basis F C (λ k. h k 0)

    pub own_generator : (n : ℕ) (s : Columns (ring_of F)) → Holds F R C M n s → FieldGenerator n s.gen s.gen_degree
    own_generator n s H = record {
      inside = λ k kN. H.inside (s.gen_degree k) (s.gen k) (inl (k, kN, omega arith, refl));
      fits = λ k kN. H.fits (s.gen_degree k) (s.gen k) (inl (k, kN, omega arith, refl));
      basis = H.basis;
    }

    module _ (n : ℕ) (s : Columns (ring_of F)) (H : Holds F R C M n s) (h : ℕ → Column (ring_of F)) (e : ℕ → ℕ) (g : FieldGenerator n h e) where
      -- the constant coefficient of a column of degree d that fits, by those of the generator columns of degree at most d
      first_coordinates : (d : ℕ) (f : Column (ring_of F)) → Inside F C d f → Annihilates F R C M n d f
          → (γ : ℕ → K) × ((j : ℕ) → j < C → ¬ (s.gen_degree j ≤ d) → γ j ≡ 𝟘) × (f 0 ≡ comb F (VectorSpace F) C γ (λ j. s.gen j 0))
      unfolding shift
      first_coordinates d f i ft = go (dec_le d n)
        where
          go : Dec (d ≤ n) → (γ : ℕ → K) × ((j : ℕ) → j < C → ¬ (s.gen_degree j ≤ d) → γ j ≡ 𝟘) × (f 0 ≡ comb F (VectorSpace F) C γ (λ j. s.gen j 0))
          go (yes q) = take (H.spanning d q f i ft)
            where
              take : ShiftSpan F (All F R C s) (suc d) f → (γ : ℕ → K) × ((j : ℕ) → j < C → ¬ (s.gen_degree j ≤ d) → γ j ≡ 𝟘) × (f 0 ≡ comb F (VectorSpace F) C γ (λ j. s.gen j 0))
              take (made_more a t la mt p) =
                  let (b, c, lb, lc, q) = span_split F (ColumnSpace F) (Generators F R C s d) (Auxiliaries F R C s d) la in
                  let (γ, out, r) = span_comb F (ColumnSpace F) C (λ j. s.gen_degree j ≤ d) s.gen b lb in
                  let c0 : c 0 ≡ 𝟎 = on_span F (ColumnSpace F) (VectorSpace F) (λ f. f 0) (at_index F (VectorSpace F) 0) (Auxiliaries F R C s d) lc (λ x (k, kN, _, xp). ap (λ f. f 0) xp ∙ H.aux_constant k kN) in (
                    γ,
                    (λ j jN nj. out j nj),
                    ap (λ f. f 0) p ∙ vadd_zero (a 0) ∙ ap (λ f. f 0) q ∙ ap (λ x. b 0 ⊞ x) c0 ∙ vadd_zero (b 0)
                        ∙ ap (λ f. f 0) r ∙ on_comb F (ColumnSpace F) (VectorSpace F) (λ f. f 0) (at_index F (VectorSpace F) 0) C γ s.gen,
                  )
          go (no q) =
              let (γ, p) = coordinates F C (λ j. s.gen j 0) H.basis (f 0) (λ c cN. i 0 c (inr cN)) in
              (γ, (λ j jN nj. let x = H.gen_degrees j jN in absurd (nj (omega arith))), p)

      part : (k : ℕ) → k < C → (γ : ℕ → K) × ((j : ℕ) → j < C → ¬ (s.gen_degree j ≤ e k) → γ j ≡ 𝟘) × (h k 0 ≡ comb F (VectorSpace F) C γ (λ j. s.gen j 0))
      part k kN = first_coordinates (e k) (h k) (g.inside k kN) (g.fits k kN)

      P_at : (k : ℕ) → Dec (k < C) → ℕ → K
      P_at k (yes kN) = (part k kN).0
      P_at k (no _) = λ _. 𝟘

      P : ℕ → ℕ → K
      P j k = P_at k (dec_lt k C) j

      P_is : (k : ℕ) → k < C → (d : Dec (k < C)) → (((j : ℕ) → j < C → ¬ (s.gen_degree j ≤ e k) → P_at k d j ≡ 𝟘) × (h k 0 ≡ comb F (VectorSpace F) C (P_at k d) (λ j. s.gen j 0)))
      unfolding P_at
      P_is k kN (yes q) = ((part k q).1, (part k q).2)
      P_is k kN (no q) = absurd (q kN)

      back : (j : ℕ) → Dec (j < C) → ℕ → K
      back j (yes jN) = (coordinates F C (λ k. h k 0) g.basis (s.gen j 0) (λ c cN. (own_generator n s H).inside j jN 0 c (inr cN))).0
      back j (no _) = λ _. 𝟘

      B : ℕ → ℕ → K
      B i j = back j (dec_lt j C) i

      back_is : (j : ℕ) → j < C → (d : Dec (j < C)) → s.gen j 0 ≡ comb F (VectorSpace F) C (back j d) (λ k. h k 0)
      unfolding back
      back_is j jN (yes q) = (coordinates F C (λ k. h k 0) g.basis (s.gen j 0) (λ c cN. (own_generator n s H).inside j q 0 c (inr cN))).1
      back_is j jN (no q) = absurd (q jN)

      left : Undoes (ring_of F) C B P
      unfolding sum P B
      left i k iN kN =
          sum_same (ring_of F) C _ _ (λ j _. F.mul_comm _ _)
          ∙ basis_same F C (λ k. h k 0) g.basis (λ i. sum (ring_of F) C (λ j. P j k ⊗ B i j)) (λ i. unit (ring_of F) i k)
          (sym (comb_comb F (VectorSpace F) C C (λ j. P j k) (λ j i. B i j) (λ k. h k 0) (λ m i. sum (ring_of F) m (λ j. P j k ⊗ B i j)) (λ i. refl) (λ m i. refl))
          ∙ comb_cong_r F (VectorSpace F) C (λ j. P j k) _ _ (λ j jN. sym (back_is j jN (dec_lt j C)))
          ∙ sym (P_is k kN (dec_lt k C)).1
          ∙ sym (comb_unit F C k (λ k. h k 0) kN)) i iN

      -- each generator has degrees that pair off with ours, each at least its partner
      pub pairs_off : (π : Pairing C) × ((k : ℕ) → k < C → s.gen_degree (π.to k) ≤ e k) × ((d : ℕ → ℕ) → total C (λ k. d (π.to k)) ≡ total C d)
      unfolding P
      pairs_off =
          let (π, hit, same) = transversal F C B P left in
          (π, (λ k kN. go k kN (π.to k) (π.to_below k kN) (hit k kN) (dec_le (s.gen_degree (π.to k)) (e k))), same)
        where
          go : (k : ℕ) → k < C → (j : ℕ) → j < C → P j k ≢ 𝟘 → Dec (s.gen_degree j ≤ e k) → s.gen_degree j ≤ e k
          go k kN j jN nz (yes q) = q
          go k kN j jN nz (no q) = absurd (nz ((P_is k kN (dec_lt k C)).0 j jN q))

      pub total_least : total C s.gen_degree ≤ total C e
      total_least =
          let (π, le, same) = pairs_off in
          subst (λ x. x ≤ total C e) (same s.gen_degree) (total_le C (λ k. s.gen_degree (π.to k)) e le)
