-- The changes of a row in one uniform form: each column before is made of columns after of at most its degree, and the other way round.
use Rattle.std.proofs.Common.{◌≡◌, ℕ, ◌<◌, ◌≤◌, ◌≢◌, ◌⊎◌, sym, refl, ap, ◌∙◌, inl, inr, arith}
use native.Mathlib.Decide.{ℕ_discrete}
use Rattle.recurrences.specs.Choice.{put}
use Rattle.recurrences.specs.Discrepancy.{Column}
use Rattle.recurrences.specs.Columns.{Columns, lessen}
use Rattle.recurrences.specs.Operations.{Operations}
use Rattle.recurrences.proofs.FieldLaws.{ring_of, Field, neg_zero}
use Rattle.recurrences.proofs.Vectors.{ColumnSpace}
use Rattle.recurrences.proofs.Combinations.{Span, span_one, span_eq, span_bind, span_less, less_back, Among}
use Rattle.recurrences.proofs.Choosing.{put_here, put_away}

module _ (O : Operations) where
  open O use {K, add as ◌⊕◌, neg as ⊖, mul as ◌⊗◌}

  infixl 60 ◌⊕◌
  infixl 70 ◌⊗◌
  -- each generator column j loses c j times the column p
  unfoldable pub less : (ℕ → K) → Column O → (ℕ → Column O) → ℕ → Column O
  less c p f j = lessen O (c j) p (f j)

  -- by an auxiliary column
  abbrev pub by_aux : ℕ → (ℕ → K) → Columns O → Columns O
  by_aux i c s = record { gen = less c (s.aux i) s.gen; gen_degree = s.gen_degree; aux = s.aux; aux_degree = s.aux_degree }

  -- generator column l is changed for x and goes to auxiliary place i, the degrees change places, the others lose c j times column l
  abbrev pub by_gen : ℕ → ℕ → Column O → (ℕ → K) → Columns O → Columns O
  by_gen i l x c s = record {
    gen = put l x (less c (s.gen l) s.gen);
    gen_degree = put l (s.aux_degree i) s.gen_degree;
    aux = put i (s.gen l) s.aux;
    aux_degree = put i (s.gen_degree l) s.aux_degree;
  }

module _ (F : Field) (R C : ℕ) where
  open F use {K, 𝟘, 𝟙, add as ◌⊕◌, neg as ⊖, mul as ◌⊗◌, inv}
  open ColumnSpace F use {vzero as 𝟎, vadd as ◌⊞◌, smul as ◌⊡◌, vadd_comm, vadd_assoc, vadd_zero, zero_smul, one_smul, mul_smul, add_smul}

  infixl 60 ◌⊕◌
  infixl 70 ◌⊗◌
  infixl 60 ◌⊞◌
  infixr 70 ◌⊡◌
  -- the generator columns of degree at most e, the auxiliary ones, and both
  abbrev pub Generators : Columns (ring_of F) → ℕ → Column (ring_of F) → Type 0
  Generators s e = Among F (ColumnSpace F) C (λ j. s.gen_degree j ≤ e) s.gen

  abbrev pub Auxiliaries : Columns (ring_of F) → ℕ → Column (ring_of F) → Type 0
  Auxiliaries s e = Among F (ColumnSpace F) R (λ j. s.aux_degree j ≤ e) s.aux

  abbrev pub All : Columns (ring_of F) → ℕ → Column (ring_of F) → Type 0
  All s e x = Generators s e x ⊎ Auxiliaries s e x

  -- each column of s is made of columns of t of at most its degree
  abbrev pub Within : Columns (ring_of F) → Columns (ring_of F) → Type 0
  Within s t = (e : ℕ) (x : Column (ring_of F)) → All s e x → Span F (ColumnSpace F) (All t e) x

  pub within_refl : (s : Columns (ring_of F)) → Within s s
  within_refl s e x h = span_one F (ColumnSpace F) (All s e) x h

  pub within_trans : (s t u : Columns (ring_of F)) → Within s t → Within t u → Within s u
  within_trans s t u f g e x h = span_bind F (ColumnSpace F) (All t e) (All u e) (f e x h) (g e)

  neg_or : {A : Type 0} (k : K) → (k ≡ 𝟘) ⊎ A → (⊖ k ≡ 𝟘) ⊎ A
  neg_or k (inl e) = inl (ap ⊖ e ∙ neg_zero F)
  neg_or k (inr a) = inr a

  or_map : {A B C : Type 0} → (B → C) → A ⊎ B → A ⊎ C
  or_map f (inl a) = inl a
  or_map f (inr b) = inr (f b)

  pub by_aux_new : (s : Columns (ring_of F)) (i : ℕ) (c : ℕ → K) → i < R → ((j : ℕ) → j < C → (c j ≡ 𝟘) ⊎ (s.aux_degree i ≤ s.gen_degree j)) → Within (by_aux (ring_of F) i c s) s
  unfolding less
  by_aux_new s i c iN low e x (inl (j, jN, je, p)) =
      span_eq F (ColumnSpace F) (All s e) p (span_less F (ColumnSpace F) (All s e) (⊖ (c j)) (span_one F (ColumnSpace F) (All s e) (s.gen j) (inl (j, jN, je, refl)))
      (or_map (λ h. span_one F (ColumnSpace F) (All s e) (s.aux i) (inr (i, iN, omega arith, refl))) (neg_or (c j) (low j jN))))
  by_aux_new s i c iN low e x (inr a) = span_one F (ColumnSpace F) (All s e) x (inr a)

  pub by_aux_old : (s : Columns (ring_of F)) (i : ℕ) (c : ℕ → K) → i < R → ((j : ℕ) → j < C → (c j ≡ 𝟘) ⊎ (s.aux_degree i ≤ s.gen_degree j)) → Within s (by_aux (ring_of F) i c s)
  unfolding less
  by_aux_old s i c iN low e x (inl (j, jN, je, p)) =
      let t = by_aux (ring_of F) i c s in
      span_eq F (ColumnSpace F) (All t e) (p ∙ less_back F (ColumnSpace F) (s.gen j) (s.aux i) (c j))
      (span_less F (ColumnSpace F) (All t e) (c j) (span_one F (ColumnSpace F) (All t e) (less (ring_of F) c (s.aux i) s.gen j) (inl (j, jN, je, refl)))
      (or_map (λ h. span_one F (ColumnSpace F) (All t e) (s.aux i) (inr (i, iN, omega arith, refl))) (low j jN)))
  by_aux_old s i c iN low e x (inr a) = span_one F (ColumnSpace F) (All (by_aux (ring_of F) i c s) e) x (inr a)

  module _ (s : Columns (ring_of F)) (i l : ℕ) (x : Column (ring_of F)) (c : ℕ → K) (iN : i < R) (lN : l < C) (under : s.gen_degree l ≤ s.aux_degree i)
      (low : (j : ℕ) → j < C → j ≢ l → (c j ≡ 𝟘) ⊎ (s.gen_degree l ≤ s.gen_degree j)) where
    pub by_gen_new : ((e : ℕ) → s.aux_degree i ≤ e → Span F (ColumnSpace F) (All s e) x) → Within (by_gen (ring_of F) i l x c s) s
    unfolding less
    by_gen_new xin e y (inl (j, jN, je, p)) = go (ℕ_discrete j l)
      where
        go : Dec (j ≡ l) → Span F (ColumnSpace F) (All s e) y
        go (yes q) = span_eq F (ColumnSpace F) (All s e) (p ∙ put_here l x _ j q) (xin e (rw (put_here l (s.aux_degree i) s.gen_degree j q) at je))
        go (no q) =
            let je' : s.gen_degree j ≤ e = rw (put_away l (s.aux_degree i) s.gen_degree j q) at je in
            span_eq F (ColumnSpace F) (All s e) (p ∙ put_away l x _ j q)
            (span_less F (ColumnSpace F) (All s e) (⊖ (c j)) (span_one F (ColumnSpace F) (All s e) (s.gen j) (inl (j, jN, je', refl)))
            (or_map (λ h. span_one F (ColumnSpace F) (All s e) (s.gen l) (inl (l, lN, omega arith, refl))) (neg_or (c j) (low j jN q))))
    by_gen_new xin e y (inr (k, kN, ke, p)) = go (ℕ_discrete k i)
      where
        go : Dec (k ≡ i) → Span F (ColumnSpace F) (All s e) y
        go (yes q) = span_one F (ColumnSpace F) (All s e) y (inl (l, lN, rw (put_here i (s.gen_degree l) s.aux_degree k q) at ke, p ∙ put_here i (s.gen l) s.aux k q))
        go (no q) = span_one F (ColumnSpace F) (All s e) y (inr (k, kN, rw (put_away i (s.gen_degree l) s.aux_degree k q) at ke, p ∙ put_away i (s.gen l) s.aux k q))

    pub by_gen_old : ((e : ℕ) → s.aux_degree i ≤ e → Span F (ColumnSpace F) (All (by_gen (ring_of F) i l x c s) e) (s.aux i)) → Within s (by_gen (ring_of F) i l x c s)
    unfolding less
    by_gen_old back e y (inl (j, jN, je, p)) = go (ℕ_discrete j l)
      where
        t : Columns (ring_of F)
        t = by_gen (ring_of F) i l x c s

        moved : s.gen_degree l ≤ e → Span F (ColumnSpace F) (All t e) (s.gen l)
        moved h = span_one F (ColumnSpace F) (All t e) (s.gen l) (inr (i, iN, rw (put_here i (s.gen_degree l) s.aux_degree i refl) h, sym (put_here i (s.gen l) s.aux i refl)))

        go : Dec (j ≡ l) → Span F (ColumnSpace F) (All t e) y
        go (yes q) = span_eq F (ColumnSpace F) (All t e) (p ∙ ap s.gen q) (moved (rw q at je))
        go (no q) = span_eq F (ColumnSpace F) (All t e) (p ∙ less_back F (ColumnSpace F) (s.gen j) (s.gen l) (c j))
            (span_less F (ColumnSpace F) (All t e) (c j)
            (span_one F (ColumnSpace F) (All t e) (less (ring_of F) c (s.gen l) s.gen j) (inl (j, jN, rw (put_away l (s.aux_degree i) s.gen_degree j q) je, sym (put_away l x _ j q))))
            (or_map (λ h. moved (omega arith)) (low j jN q)))
    by_gen_old back e y (inr (k, kN, ke, p)) = go (ℕ_discrete k i)
      where
        t : Columns (ring_of F)
        t = by_gen (ring_of F) i l x c s

        go : Dec (k ≡ i) → Span F (ColumnSpace F) (All t e) y
        go (yes q) = span_eq F (ColumnSpace F) (All t e) (p ∙ ap s.aux q) (back e (rw q at ke))
        go (no q) = span_one F (ColumnSpace F) (All t e) y
            (inr (k, kN, rw (put_away i (s.gen_degree l) s.aux_degree k q) ke, p ∙ sym (put_away i (s.gen l) s.aux k q)))
