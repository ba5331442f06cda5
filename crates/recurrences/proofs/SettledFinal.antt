-- What a settled run has found generates each longer list that has a generator within the bound.
use Rattle.std.proofs.Common.{◌≡◌, ℕ, zero, suc, ◌+◌, ◌<◌, ◌≤◌, ◌≢◌, ◌⊎◌, sym, refl, ap, ◌∙◌, subst, inl, inr, arith}
use native.Mathlib.Decide.{dec_lt}
use Rattle.recurrences.specs.Discrepancy.{Matrices, Column}
use Rattle.recurrences.specs.Choice.{put}
use Rattle.recurrences.specs.Columns.{Columns, shift}
use Rattle.recurrences.specs.Sums.{sum}
use Rattle.recurrences.specs.Degrees.{total}
use Rattle.recurrences.proofs.FieldLaws.{ring_of, Field, mul_zero}
use Rattle.recurrences.proofs.Combinations.{comb, comb_comb, comb_vanish, comb_cong_r, comb_cong_l, comb_delta, span_comb}
use Rattle.recurrences.proofs.Vectors.{ScalarSpace, ColumnSpace, VectorSpace}
use Rattle.recurrences.proofs.LinearMaps.{on_comb, at_index}
use Rattle.recurrences.proofs.Convolutions.{convolution_linear, convolution_shift, convolution_shift_zero, convolution}
use Rattle.recurrences.proofs.Totals.{total_lift}
use Rattle.recurrences.proofs.Spans.{ShiftSpan, made_more, made_under, made_disc}
use Rattle.recurrences.proofs.Changes.{Generators, All}
use Rattle.recurrences.proofs.Invariant.{Holds}
use Rattle.recurrences.proofs.PairingOff.{FieldGenerator, own_generator, pairs_off}
use Rattle.recurrences.proofs.Bases.{coordinates, basis_same}

module _ (F : Field) (R C : ℕ) (M : Matrices (ring_of F)) where
  open F use {K, 𝟘, 𝟙, add as ◌⊕◌, neg as ⊖, mul as ◌⊗◌, inv}

  infixl 60 ◌⊕◌
  infixl 70 ◌⊗◌
  pub fewer : (n m : ℕ) → n ≤ m → (h : ℕ → Column (ring_of F)) (e : ℕ → ℕ) → FieldGenerator F R C M m h e → FieldGenerator F R C M n h e
  fewer n m nm h e g = record { inside = g.inside; fits = λ k kN l r el ln rN. g.fits k kN l r el (omega arith) rN; basis = g.basis }

  module _ (n m δ : ℕ) (pos : 0 < R) (nm : n ≤ m) (s : Columns (ring_of F)) (H : Holds F R C M n s)
      (settled : (i j : ℕ) → i < R → j < C → δ + s.gen_degree j < s.aux_degree i + total C s.gen_degree)
      (h : ℕ → Column (ring_of F)) (e : ℕ → ℕ) (g : FieldGenerator F R C M m h e) (small : total C e ≤ δ) where
    under_aux : (k i : ℕ) → k < C → i < R → e k < s.aux_degree i
    under_aux k i kN iN =
        let (π, le, same) = pairs_off F R C M n s H h e (fewer n m nm h e g) in
        let a = total_lift C k (λ k. s.gen_degree (π.to k)) e kN le in
        let b = same s.gen_degree in
        let c = settled i (π.to k) iN (π.to_below k kN) in
        omega arith

    under_count : (k : ℕ) → k < C → e k ≤ n
    under_count k kN = go (H.aux_diagonal 0 pos)
      where
        go : ((convolution (ring_of F) C M n 0 (s.aux 0) ≢ 𝟘) × (s.aux_degree 0 ≤ n)) ⊎ ((s.aux 0 ≡ (ColumnSpace F).vzero) × (s.aux_degree 0 ≡ suc n)) → e k ≤ n
        go (inl (_, q)) = let x = under_aux k 0 kN pos in omega arith
        go (inr (_, q)) = let x = under_aux k 0 kN pos in omega arith

    by_gens : (k : ℕ) → k < C → ShiftSpan F (Generators F R C s) (suc (e k)) (h k)
    by_gens k kN = made_under F (All F R C s) (Generators F R C s)
        (H.spanning (e k) (under_count k kN) (h k) (g.inside k kN) (λ l r el ln rN. g.fits k kN l r el (omega arith) rN))
        (λ i x l a. only i x l a)
      where
        only : (i : ℕ) (x : Column (ring_of F)) → i < suc (e k) → All F R C s i x → Generators F R C s i x
        only i x l (inl a) = a
        only i x l (inr (q, qN, qi, _)) = let y = under_aux k q kN qN in absurd (omega arith)

    -- the first layer of column k, and what is behind it
    record Layer (k : ℕ) : Type 0 where
      γ : ℕ → K
      tail : Column (ring_of F)
      rest : ShiftSpan F (Generators F R C s) (e k) tail
      is : h k ≡ (ColumnSpace F).vadd (comb F (ColumnSpace F) C γ s.gen) (shift (ring_of F) tail)

    layer_of : (k : ℕ) → ShiftSpan F (Generators F R C s) (suc (e k)) (h k) → Layer k
    layer_of k (made_more a t la mt p) =
        let (γ, _, q) = span_comb F (ColumnSpace F) C (λ j. s.gen_degree j ≤ e k) s.gen a la in
        record { γ = γ; tail = t; rest = mt; is = p ∙ ap (λ y. (ColumnSpace F).vadd y (shift (ring_of F) t)) q }

    layer : (k : ℕ) → k < C → Layer k
    layer k kN = layer_of k (by_gens k kN)

    A : (k : ℕ) → Dec (k < C) → ℕ → K
    A k (yes kN) = (layer k kN).γ
    A k (no _) = λ _. 𝟘

    a : ℕ → Column (ring_of F)
    a k = comb F (ColumnSpace F) C (A k (dec_lt k C)) s.gen

    a_first : (k : ℕ) → k < C → a k 0 ≡ h k 0
    unfolding a A shift
    a_first k kN = go (dec_lt k C)
      where
        go : (d : Dec (k < C)) → comb F (ColumnSpace F) C (A k d) s.gen 0 ≡ h k 0
        go (yes q) = sym (ap (λ f. f 0) (layer k q).is ∙ (VectorSpace F).vadd_zero _)
        go (no q) = absurd (q kN)

    Before : ℕ → Type 0
    Before L = (l r j : ℕ) → l < L → s.gen_degree j ≤ l → l < m → r < R → j < C → convolution (ring_of F) C M l r (s.gen j) ≡ 𝟘

    a_zero : (L : ℕ) → n ≤ L → L < m → Before L → (r : ℕ) → r < R → (k : ℕ) → k < C → convolution (ring_of F) C M L r (a k) ≡ 𝟘
    unfolding a A Before
    a_zero L nL Lm before r rN k kN = go (dec_lt k C)
      where
        behind : (L' : ℕ) → L' ≡ L → (t : Column (ring_of F)) → ShiftSpan F (Generators F R C s) (e k) t → convolution (ring_of F) C M L' r (shift (ring_of F) t) ≡ 𝟘
        behind zero q t mt = convolution_shift_zero F C M r t
        behind (suc l) q t mt = convolution_shift F C M l r t
            ∙ made_disc F C M L r (Generators F R C s) (λ d x (j, jN, jd, p) l' dl lL. ap (convolution (ring_of F) C M l' r) p ∙ before l' r j lL (omega arith) (omega arith) rN jN) mt l
            (let x = under_count k kN in omega arith) (omega arith)

        go : (d : Dec (k < C)) → convolution (ring_of F) C M L r (comb F (ColumnSpace F) C (A k d) s.gen) ≡ 𝟘
        go (no q) = absurd (q kN)
        go (yes q) =
            sym (F.add_zero _) ∙ ap (λ y. convolution (ring_of F) C M L r (comb F (ColumnSpace F) C (layer k q).γ s.gen) ⊕ y) (sym (behind L refl (layer k q).tail (layer k q).rest))
            ∙ sym ((convolution_linear F C M L r).on_add _ _) ∙ ap (convolution (ring_of F) C M L r) (sym (layer k q).is)
            ∙ g.fits k kN L r (let x = under_count k kN in omega arith) Lm rN

    -- each generator column is made of the first layers
    gen_by : (j : ℕ) → j < C → (ε : ℕ → K) × (s.gen j ≡ comb F (ColumnSpace F) C ε a)
    unfolding a sum
    gen_by j jN =
        let (ε, q) = coordinates F C (λ k. h k 0) g.basis (s.gen j 0) (λ c cN. (own_generator F R C M n s H).inside j jN 0 c (inr cN)) in
        let θ : ℕ → K = λ i. sum (ring_of F) C (λ k. ε k ⊗ A k (dec_lt k C) i) in
        let x_is : comb F (ColumnSpace F) C ε a ≡ comb F (ColumnSpace F) C θ s.gen =
        comb_comb F (ColumnSpace F) C C ε (λ k. A k (dec_lt k C)) s.gen (λ m i. sum (ring_of F) m (λ k. ε k ⊗ A k (dec_lt k C) i)) (λ i. refl) (λ m i. refl) in
        let first : comb F (VectorSpace F) C (put j 𝟙 (λ _. 𝟘)) (λ j. s.gen j 0) ≡ comb F (VectorSpace F) C θ (λ j. s.gen j 0) =
        comb_delta F (VectorSpace F) C j 𝟙 (λ j. s.gen j 0) jN ∙ (VectorSpace F).one_smul (s.gen j 0) ∙ q
        ∙ comb_cong_r F (VectorSpace F) C ε (λ k. h k 0) (λ k. a k 0) (λ k kN. sym (a_first k kN))
        ∙ sym (on_comb F (ColumnSpace F) (VectorSpace F) (λ f. f 0) (at_index F (VectorSpace F) 0) C ε a) ∙ ap (λ f. f 0) x_is
        ∙ on_comb F (ColumnSpace F) (VectorSpace F) (λ f. f 0) (at_index F (VectorSpace F) 0) C θ s.gen in (
          ε,
          sym ((ColumnSpace F).one_smul (s.gen j)) ∙ sym (comb_delta F (ColumnSpace F) C j 𝟙 s.gen jN)
              ∙ comb_cong_l F (ColumnSpace F) C (put j 𝟙 (λ _. 𝟘)) θ s.gen (basis_same F C (λ j. s.gen j 0) H.basis _ _ first) ∙ sym x_is,
        )

    before_all : (L : ℕ) → Before L
    unfolding Before
    before_all zero l r j lL jl lm rN jN = absurd (omega arith)
    before_all (suc L) l r j lL jl lm rN jN = go (before_all L) (dec_lt l L) (dec_lt l n)
      where
        go : Before L → Dec (l < L) → Dec (l < n) → convolution (ring_of F) C M l r (s.gen j) ≡ 𝟘
        go ih (yes q) d = ih l r j q jl lm rN jN
        go ih (no q) (yes d) = H.fits (s.gen_degree j) (s.gen j) (inl (j, jN, omega arith, refl)) l r jl d rN
        go ih (no q) (no d) =
            let (ε, p) = gen_by j jN in
            let lL' : L ≡ l = omega arith in
            ap (convolution (ring_of F) C M l r) p ∙ on_comb F (ColumnSpace F) (ScalarSpace F) (convolution (ring_of F) C M l r) (convolution_linear F C M l r) C ε a
            ∙ comb_vanish F (ScalarSpace F) C ε (λ k. convolution (ring_of F) C M l r (a k)) (λ k kN. ap (λ y. ε k ⊗ y) (a_zero l (omega arith) lm (subst Before lL' ih) r rN k kN) ∙ mul_zero F _)

    pub stays_generator : FieldGenerator F R C M m s.gen s.gen_degree
    unfolding Before
    stays_generator = record {
      inside = (own_generator F R C M n s H).inside;
      fits = λ k kN l r kl lm rN. before_all m l r k lm kl lm rN kN;
      basis = H.basis;
    }
