-- Columns made of given columns and their shifts: how they follow a step.
use Rattle.std.proofs.Common.{◌≡◌, ℕ, zero, suc, ◌<◌, ◌≤◌, ◌⊎◌, sym, refl, ap, ◌∙◌, subst, ap₂, arith}
use Rattle.recurrences.specs.Discrepancy.{Column}
use Rattle.recurrences.specs.Columns.{shift}
use Rattle.recurrences.proofs.FieldLaws.{ring_of, Field}
use Rattle.recurrences.proofs.Vectors.{ScalarSpace, ColumnSpace}
use Rattle.recurrences.proofs.Combinations.{Span, span_none, span_add, span_bind, span_map, span_split, vzero_add}
use Rattle.recurrences.proofs.LinearMaps.{on_zero, on_span, span_image}
use Rattle.recurrences.proofs.Convolutions.{convolution_linear, convolution_shift, convolution_shift_zero, shift_linear, convolution}

module _ (F : Field) where
  open F use {K, 𝟘, 𝟙, add as ◌⊕◌, neg as ⊖, mul as ◌⊗◌, inv}
  open ColumnSpace F use {vzero as 𝟎, vadd as ◌⊞◌, smul as ◌⊡◌, vadd_comm, vadd_assoc, vadd_zero}

  infixl 60 ◌⊕◌
  infixl 60 ◌⊞◌
  -- what is made of columns x of G e', shifted by at most e - e' - 1 places, with any coefficients, where G e' says that x has a degree of at most e'
  pub data ShiftSpan (G : ℕ → Column (ring_of F) → Type 0) : ℕ → Column (ring_of F) → Type 0 where
    made_none : {h : Column (ring_of F)} → h ≡ 𝟎 → ShiftSpan G zero h
    made_more : {e : ℕ} {h : Column (ring_of F)} (a t : Column (ring_of F)) → Span F (ColumnSpace F) (G e) a → ShiftSpan G e t → h ≡ a ⊞ shift (ring_of F) t → ShiftSpan G (suc e) h

  pub made_bind : (G H : ℕ → Column (ring_of F) → Type 0) {e : ℕ} {h : Column (ring_of F)} → ((e : ℕ) (x : Column (ring_of F)) → G e x → Span F (ColumnSpace F) (H e) x) → ShiftSpan G e h → ShiftSpan H e h
  made_bind G H f (made_none p) = made_none p
  made_bind G H f (made_more {e = e} a t la mt p) = made_more a t (span_bind F (ColumnSpace F) (G e) (H e) la (f e)) (made_bind G H f mt) p

  pub made_add : (G : ℕ → Column (ring_of F) → Type 0) {e : ℕ} {h b : Column (ring_of F)} → Span F (ColumnSpace F) (G e) b → ShiftSpan G (suc e) h → ShiftSpan G (suc e) (b ⊞ h)
  made_add G {e} {h} {b} lb (made_more a t la mt p) =
      made_more (b ⊞ a) t (span_add F (ColumnSpace F) (G e) lb la) mt (ap (λ y. b ⊞ y) p ∙ sym (vadd_assoc b a (shift (ring_of F) t)))

  pub made_disc : (C : ℕ) (M : ℕ → ℕ → ℕ → K) (n : ℕ) (r : ℕ) (G : ℕ → Column (ring_of F) → Type 0)
      → ((e : ℕ) (x : Column (ring_of F)) → G e x → (l : ℕ) → e ≤ l → l < n → convolution (ring_of F) C M l r x ≡ 𝟘)
      → {e : ℕ} {h : Column (ring_of F)} → ShiftSpan G e h → (l : ℕ) → e ≤ suc l → l < n → convolution (ring_of F) C M l r h ≡ 𝟘
  made_disc C M n r G fits (made_none p) l el ln = ap (convolution (ring_of F) C M l r) p ∙ on_zero F (ColumnSpace F) (ScalarSpace F) (convolution (ring_of F) C M l r) (convolution_linear F C M l r)
  made_disc C M n r G fits (made_more {e = e} a t la mt p) zero el ln =
      ap (convolution (ring_of F) C M 0 r) p ∙ (convolution_linear F C M 0 r).on_add a (shift (ring_of F) t)
      ∙ ap₂ ◌⊕◌ (on_span F (ColumnSpace F) (ScalarSpace F) (convolution (ring_of F) C M 0 r) (convolution_linear F C M 0 r) (G e) la (λ x gx. fits e x gx 0 (omega arith) ln)) (convolution_shift_zero F C M r t)
      ∙ F.add_zero 𝟘
  made_disc C M n r G fits (made_more {e = e} a t la mt p) (suc l) el ln =
      ap (convolution (ring_of F) C M (suc l) r) p ∙ (convolution_linear F C M (suc l) r).on_add a (shift (ring_of F) t)
      ∙ ap₂ ◌⊕◌ (on_span F (ColumnSpace F) (ScalarSpace F) (convolution (ring_of F) C M (suc l) r) (convolution_linear F C M (suc l) r) (G e) la (λ x gx. fits e x gx (suc l) (omega arith) ln))
      (convolution_shift F C M l r t ∙ made_disc C M n r G fits mt l (omega arith) (omega arith))
      ∙ F.add_zero 𝟘

  -- the family of the next count: the columns of P as they are, those of Q shifted
  module _ (P Q H : ℕ → Column (ring_of F) → Type 0)
      (stays : (e : ℕ) (x : Column (ring_of F)) → P e x → H e x)
      (moves : (e : ℕ) (x : Column (ring_of F)) → Q e x → H (suc e) (shift (ring_of F) x)) where
    pub made_shift : {e : ℕ} {h : Column (ring_of F)} → ShiftSpan (λ e x. P e x ⊎ Q e x) e h → ShiftSpan H (suc e) (shift (ring_of F) h)
    made_shift (made_none p) =
        made_more 𝟎 𝟎 (span_none refl) (made_none refl)
        (ap (shift (ring_of F)) p ∙ sym (vzero_add F (ColumnSpace F) (shift (ring_of F) 𝟎)))
    made_shift (made_more {e = e} {h = h} a t la mt p) =
        let (b, c, lb, lc, q) = span_split F (ColumnSpace F) (P e) (Q e) la in
        made_more (shift (ring_of F) c) (b ⊞ shift (ring_of F) t)
        (span_image F (ColumnSpace F) (ColumnSpace F) (shift (ring_of F)) (shift_linear F) (Q e) (H (suc e)) lc (moves e))
        (made_add H (span_map F (ColumnSpace F) (P e) (H e) lb (stays e)) (made_shift mt))
        (ap (shift (ring_of F)) (p ∙ ap (λ y. y ⊞ shift (ring_of F) t) (q ∙ vadd_comm b c) ∙ vadd_assoc c b (shift (ring_of F) t))
        ∙ (shift_linear F).on_add c (b ⊞ shift (ring_of F) t))

    -- the step from n to n + 1, for a bound e ≤ n
    module _ (R C n : ℕ) (M : ℕ → ℕ → ℕ → K) (G : ℕ → Column (ring_of F) → Type 0)
        (filtered : (e : ℕ) (x : Column (ring_of F)) → G e x → Span F (ColumnSpace F) (λ y. P e y ⊎ Q e y) x)
        (fits : (e : ℕ) (x : Column (ring_of F)) → G e x → (r : ℕ) → r < R → (l : ℕ) → e ≤ l → l < n → convolution (ring_of F) C M l r x ≡ 𝟘)
        (opened : (e : ℕ) (x : Column (ring_of F)) → P e x → e ≤ n → (r : ℕ) → r < R → convolution (ring_of F) C M n r x ≡ 𝟘)
        (apart : (e : ℕ) (b : Column (ring_of F)) → Span F (ColumnSpace F) (Q e) b → e ≤ n → ((r : ℕ) → r < R → convolution (ring_of F) C M n r b ≡ 𝟘) → b ≡ 𝟎) where
      pub tail_zero : {e : ℕ} {t : Column (ring_of F)} → ShiftSpan G e t → e ≤ n → (m : ℕ) → m ≡ n → (r : ℕ) → r < R → convolution (ring_of F) C M m r (shift (ring_of F) t) ≡ 𝟘
      tail_zero {e} {t} mt en zero q r rN = convolution_shift_zero F C M r t
      tail_zero {e} {t} mt en (suc m) q r rN =
          convolution_shift F C M m r t ∙ made_disc C M n r G (λ e x gx l el ln. fits e x gx r rN l el ln) mt m (omega arith) (omega arith)

      pub made_next : {e : ℕ} {h : Column (ring_of F)} → e ≤ n → ShiftSpan G (suc e) h → ((r : ℕ) → r < R → convolution (ring_of F) C M n r h ≡ 𝟘) → ShiftSpan H (suc e) h
      made_next {e} {h} en (made_more a t la mt p) z =
          let la' = span_bind F (ColumnSpace F) (G e) (λ y. P e y ⊎ Q e y) la (filtered e) in
          let (b, c, lb, lc, q) = span_split F (ColumnSpace F) (P e) (Q e) la' in
          let c0 : c ≡ 𝟎 = apart e c lc en (λ r rN.
          sym (F.add_comm _ _ ∙ F.add_zero (convolution (ring_of F) C M n r c))
          ∙ ap (λ y. y ⊕ convolution (ring_of F) C M n r c) (sym (on_span F (ColumnSpace F) (ScalarSpace F) (convolution (ring_of F) C M n r) (convolution_linear F C M n r) (P e) lb (λ x px. opened e x px en r rN)))
          ∙ sym ((convolution_linear F C M n r).on_add b c) ∙ ap (convolution (ring_of F) C M n r) (sym q)
          ∙ sym (F.add_zero _) ∙ ap (λ y. convolution (ring_of F) C M n r a ⊕ y) (sym (tail_zero mt en n refl r rN))
          ∙ sym ((convolution_linear F C M n r).on_add a (shift (ring_of F) t)) ∙ ap (convolution (ring_of F) C M n r) (sym p) ∙ z r rN) in
          subst (ShiftSpan H (suc e)) (sym (p ∙ ap (λ y. y ⊞ shift (ring_of F) t) (q ∙ ap (λ y. b ⊞ y) c0 ∙ vadd_zero b)))
          (made_add H (span_map F (ColumnSpace F) (P e) (H e) lb (stays e)) (made_shift (made_bind G (λ e y. P e y ⊎ Q e y) filtered mt)))

      -- the step for the bound n + 1: `rest` is what the constants leave
      pub made_top : {h b t : Column (ring_of F)} → Span F (ColumnSpace F) (H (suc n)) b → h ≡ b ⊞ shift (ring_of F) t → ShiftSpan G (suc n) t → ShiftSpan H (suc (suc n)) h
      made_top {h} {b} {t} lb p mt =
          subst (ShiftSpan H (suc (suc n))) (sym p) (made_add H lb (made_shift (made_bind G (λ e y. P e y ⊎ Q e y) filtered mt)))

  pub made_under : (G H : ℕ → Column (ring_of F) → Type 0) {e : ℕ} {h : Column (ring_of F)} → ShiftSpan G e h → ((i : ℕ) (x : Column (ring_of F)) → i < e → G i x → H i x) → ShiftSpan H e h
  made_under G H (made_none p) f = made_none p
  made_under G H (made_more {e = e} a t la mt p) f =
      made_more a t (span_map F (ColumnSpace F) (G e) (H e) la (λ x. f e x (omega arith))) (made_under G H mt (λ i x l. f i x (omega arith))) p
