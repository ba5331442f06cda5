-- What holds of the columns after n matrices, and that one step keeps it.
use Rattle.std.proofs.Common.{◌≡◌, ℕ, zero, suc, ◌+◌, ◌*◌, ◌<◌, ◌≤◌, Bool, true, false, ◌≢◌, ◌⊎◌, sym, refl, ap, ◌∙◌, subst, ap₂, inl, inr, true≢false, arith}
use mathlib.Core.Path.{fun_ext}
use native.Mathlib.Decide.{dec_le, dec_lt}
use Rattle.std.proofs.lemmas.Bool.{ltb-true, lt-ltb}
use Rattle.recurrences.specs.Run.{entry_at}
use Rattle.recurrences.specs.Discrepancy.{Matrices, Column}
use Rattle.recurrences.specs.Columns.{Columns, shift}
use Rattle.recurrences.specs.Pivot.{Midstep}
use Rattle.recurrences.specs.Step.{shifted, rows, step, at_first}
use Rattle.recurrences.specs.Degrees.{total}
use Rattle.recurrences.proofs.FieldLaws.{ring_of, Field, mul_zero, add_left_comm, field_of}
use Rattle.recurrences.proofs.Vectors.{ScalarSpace, ColumnSpace, VectorSpace}
use Rattle.recurrences.proofs.Combinations.{comb, comb_span, Span, span_map, span_comb, vadd_neg}
use Rattle.recurrences.proofs.LinearMaps.{on_span, on_comb, at_index, at_place}
use Rattle.recurrences.proofs.Convolutions.{convolution_linear, convolution_shift, convolution}
use Rattle.recurrences.proofs.Spans.{ShiftSpan, made_next, made_top}
use Rattle.recurrences.proofs.Triangles.{apart_from}
use Rattle.recurrences.proofs.Changes.{Generators, Auxiliaries, All, Within, within_refl}
use Rattle.recurrences.proofs.Bases.{Basis}
use Rattle.recurrences.proofs.RowInvariant.{Row}
use Rattle.recurrences.proofs.RowByRow.{rows_keep}
use Rattle.recurrences.proofs.Totals.{total_suc}

-- no coefficient beyond d, and no entry beyond C
abbrev pub Inside : (F : Field) → ℕ → ℕ → Column (ring_of F) → Type 0
Inside F C d f = (k c : ℕ) → (d < k) ⊎ (C ≤ c) → f k c ≡ F.𝟘

module _ (F : Field) (R C : ℕ) (M : Matrices (ring_of F)) where
  open F use {K, 𝟘, 𝟙, add as ◌⊕◌, neg as ⊖, mul as ◌⊗◌, inv}
  open ColumnSpace F use {vzero as 𝟎, vadd as ◌⊞◌, smul as ◌⊡◌}

  infixl 60 ◌⊕◌
  infixl 70 ◌⊗◌
  infixl 60 ◌⊞◌
  infixr 70 ◌⊡◌
  -- the discrepancies of f, not cut, are zero from place d up to n
  abbrev pub Annihilates : ℕ → ℕ → Column (ring_of F) → Type 0
  Annihilates n d f = (l r : ℕ) → d ≤ l → l < n → r < R → convolution (ring_of F) C M l r f ≡ 𝟘

  pub record Holds (n : ℕ) (s : Columns (ring_of F)) : Type 0 where
    pub gen_degrees : (j : ℕ) → j < C → s.gen_degree j ≤ n
    pub inside : (e : ℕ) (x : Column (ring_of F)) → All F R C s e x → Inside F C e x
    pub fits : (e : ℕ) (x : Column (ring_of F)) → All F R C s e x → Annihilates n e x
    -- the discrepancies of the auxiliary columns at place n: a triangle, with no zero on its diagonal but at zero columns
    pub aux_triangle : (r k : ℕ) → r < k → k < R → convolution (ring_of F) C M n r (s.aux k) ≡ 𝟘
    pub aux_diagonal : (k : ℕ) → k < R → ((convolution (ring_of F) C M n k (s.aux k) ≢ 𝟘) × (s.aux_degree k ≤ n)) ⊎ ((s.aux k ≡ 𝟎) × (s.aux_degree k ≡ suc n))
    pub aux_constant : (k : ℕ) → k < R → s.aux k 0 ≡ (VectorSpace F).vzero
    pub basis : Basis F C (λ j. s.gen j 0)
    pub sums : total C s.gen_degree + total R s.aux_degree ≡ R * suc n
    -- what bounds the count
    pub reach : (k : ℕ) → k < R → suc n ≤ total C s.gen_degree + s.aux_degree k
    -- every column that fits is made of ours and their shifts, within its degree
    pub spanning : (e : ℕ) → e ≤ n → (h : Column (ring_of F)) → Inside F C e h → Annihilates n e h → ShiftSpan F (All F R C s) (suc e) h

  -- the columns s in the midst of the step that takes M n, before row i
  abbrev pub midstep : ℕ → Columns (ring_of F) → ℕ → Midstep (ring_of F)
  midstep n s i = rows (field_of F) C (entry_at (ring_of F) C M n) i (at_first (ring_of F) C s)

  module _ (n : ℕ) (s : Columns (ring_of F)) (H : Holds n s) where
    -- before row i of the step
    pub before_row : (i : ℕ) → i ≤ R → Row F R C M n s (midstep n s i).columns (midstep n s i).opened i
    before_row = rows_keep F R C M n s (λ e x a k c h cC. H.inside e x a k c (inl h)) (at_first (ring_of F) C s)
        record {
          new = within_refl F R C s;
          old = within_refl F R C s;
          opened_below = λ j v. ltb-true j C v;
          opened_degree = λ j jN v. H.gen_degrees j jN;
          closed_degree = λ j jN v. absurd (true≢false (sym (lt-ltb j C jN) ∙ v));
          opened_zero = λ j jN v r ri. absurd (omega arith);
          aux_triangle = H.aux_triangle;
          aux_diagonal = H.aux_diagonal;
          aux_constant = λ k ik kN. H.aux_constant k kN;
          basis = H.basis;
          sums = refl;
          reach = H.reach;
          rising = λ j jN. omega arith;
        }

    t : Midstep (ring_of F)
    t = midstep n s R

    W : Row F R C M n s t.columns t.opened R
    unfolding t
    W = before_row R (omega arith)

    u : Columns (ring_of F)
    u = t.columns

    open_zero : (e : ℕ) (x : Column (ring_of F)) → Generators F R C u e x → e ≤ n → (r : ℕ) → r < R → convolution (ring_of F) C M n r x ≡ 𝟘
    unfolding u
    open_zero e x (j, jN, je, p) en r rN = ap (convolution (ring_of F) C M n r) p ∙ go (t.opened j) refl
      where
        go : (b : Bool) → t.opened j ≡ b → convolution (ring_of F) C M n r (t.columns.gen j) ≡ 𝟘
        go true v = W.opened_zero j jN v r rN
        go false v = let a = W.closed_degree j jN v in absurd (omega arith)

    u_inside : (e : ℕ) (x : Column (ring_of F)) → All F R C u e x → Inside F C e x
    unfolding u
    u_inside e x a k c o = on_span F (ColumnSpace F) (ScalarSpace F) (λ f. f k c) (at_place F k c) (All F R C s e) (W.new e x a) (λ y ay. H.inside e y ay k c o)

    u_fits : (e : ℕ) (x : Column (ring_of F)) → All F R C u e x → Annihilates n e x
    unfolding u
    u_fits e x a l r el ln rN = on_span F (ColumnSpace F) (ScalarSpace F) (convolution (ring_of F) C M l r) (convolution_linear F C M l r) (All F R C s e) (W.new e x a) (λ y ay. H.fits e y ay l r el ln rN)

    next : Columns (ring_of F)
    next = shifted (ring_of F) u

    next_inside : (e : ℕ) (x : Column (ring_of F)) → All F R C next e x → Inside F C e x
    unfolding next shifted shift
    next_inside e x (inl a) = u_inside e x (inl a)
    next_inside e x (inr (k, kN, ke, p)) = λ i c o. ap (λ f. f i c) p ∙ go i c o
      where
        down : (i c : ℕ) → (e < suc i) ⊎ (C ≤ c) → (u.aux_degree k < i) ⊎ (C ≤ c)
        down i c (inl h) = inl (omega arith)
        down i c (inr h) = inr h

        go : (i c : ℕ) → (e < i) ⊎ (C ≤ c) → shift (ring_of F) (u.aux k) i c ≡ 𝟘
        go zero c o = refl
        go (suc i) c o = u_inside (u.aux_degree k) (u.aux k) (inr (k, kN, omega arith, refl)) i c (down i c o)

    next_fits : (e : ℕ) (x : Column (ring_of F)) → All F R C next e x → Annihilates (suc n) e x
    unfolding next shifted
    next_fits e x (inl a) l r el ln rN = go (dec_lt l n)
      where
        go : Dec (l < n) → convolution (ring_of F) C M l r x ≡ 𝟘
        go (yes h) = u_fits e x (inl a) l r el h rN
        go (no h) = let q : l ≡ n = omega arith in ap (λ l. convolution (ring_of F) C M l r x) q ∙ open_zero e x a (omega arith) r rN
    next_fits e x (inr (k, kN, ke, p)) l r el ln rN = ap (convolution (ring_of F) C M l r) p ∙ go l el ln
      where
        go : (l : ℕ) → e ≤ l → l < suc n → convolution (ring_of F) C M l r (shift (ring_of F) (u.aux k)) ≡ 𝟘
        go zero el ln = absurd (omega arith)
        go (suc l) el ln = convolution_shift F C M l r (u.aux k) ∙ u_fits (u.aux_degree k) (u.aux k) (inr (k, kN, omega arith, refl)) l r (omega arith) (omega arith) rN

    module _ where
      stays : (e : ℕ) (x : Column (ring_of F)) → Generators F R C u e x → All F R C next e x
      unfolding next shifted
      stays e x a = inl a

      moves : (e : ℕ) (x : Column (ring_of F)) → Auxiliaries F R C u e x → All F R C next (suc e) (shift (ring_of F) x)
      unfolding next shifted
      moves e x (k, kN, ke, p) = inr (k, kN, omega arith, ap (shift (ring_of F)) p)

      apart : (e : ℕ) (b : Column (ring_of F)) → Span F (ColumnSpace F) (Auxiliaries F R C u e) b → e ≤ n → ((r : ℕ) → r < R → convolution (ring_of F) C M n r b ≡ 𝟘) → b ≡ 𝟎
      unfolding u
      apart = apart_from F R C n M u.aux u.aux_degree W.aux_triangle
          (λ k kN. elim (W.aux_diagonal k kN) [ inl h ↦ inl h.0 | inr h ↦ inr (omega arith) ])

      filtered : Within F R C s u
      unfolding u
      filtered = W.old

    next_spanning_low : (e : ℕ) → e ≤ n → (h : Column (ring_of F)) → Inside F C e h → Annihilates (suc n) e h → ShiftSpan F (All F R C next) (suc e) h
    next_spanning_low e en h i f =
        made_next F (Generators F R C u) (Auxiliaries F R C u) (All F R C next) stays moves R C n M (All F R C s) filtered
        (λ e x a r rN l el ln. H.fits e x a l r el ln rN) open_zero apart en
        (H.spanning e en h i (λ l r el ln rN. f l r el (omega arith) rN))
        (λ r rN. f n r en (omega arith) rN)

    -- the coefficients behind the first
    tail : Column (ring_of F) → Column (ring_of F)
    tail h k c = h (suc k) c

    next_deg : (j : ℕ) → j < C → u.gen_degree j ≤ suc n
    unfolding u
    next_deg j jN = go (t.opened j) refl
      where
        go : (b : Bool) → t.opened j ≡ b → t.columns.gen_degree j ≤ suc n
        go true v = let a = W.opened_degree j jN v in omega arith
        go false v = let a = W.closed_degree j jN v in omega arith

    next_gens : (γ : ℕ → K) → Span F (ColumnSpace F) (All F R C next (suc n)) (comb F (ColumnSpace F) C γ u.gen)
    unfolding next shifted
    next_gens γ = span_map F (ColumnSpace F) _ _ (comb_span F (ColumnSpace F) C (λ _. Unit {0}) u.gen γ (λ j jN. inr tt))
        (λ x (j, jN, _, p). inl (j, jN, next_deg j jN, p))

    next_spanning_top : (h : Column (ring_of F)) → Inside F C (suc n) h → ShiftSpan F (All F R C next) (suc (suc n)) h
    unfolding u next shifted tail shift
    next_spanning_top h i = go (span_comb F (VectorSpace F) C (λ _. Unit {0}) (λ j. u.gen j 0) (h 0) (W.basis.spans (h 0) (λ c cN. i 0 c (inr cN))))
      where
        go : (γ : ℕ → K) × ((j : ℕ) → ¬ (Unit {0}) → γ j ≡ 𝟘) × (h 0 ≡ comb F (VectorSpace F) C γ (λ j. u.gen j 0)) → ShiftSpan F (All F R C next) (suc (suc n)) h
        go (γ, _, q) =
            made_top F (Generators F R C u) (Auxiliaries F R C u) (All F R C next) stays moves R C n M (All F R C s) filtered
            (λ e x a r rN l el ln. H.fits e x a l r el ln rN) open_zero apart
            (next_gens γ) (fun_ext parts)
            (H.spanning n (omega arith) tl tl_inside (λ l r nl ln rN. absurd (omega arith)))
          where
            b : Column (ring_of F)
            b = comb F (ColumnSpace F) C γ u.gen

            tl : Column (ring_of F)
            tl = tail (h ⊞ (⊖ 𝟙 ⊡ b))

            back : (x y : K) → y ≡ x ⊕ (y ⊕ (⊖ 𝟙 ⊗ x))
            back x y = sym (add_left_comm F x y (⊖ 𝟙 ⊗ x) ∙ ap (λ z. y ⊕ z) (vadd_neg F (ScalarSpace F) x) ∙ F.add_zero y)

            parts : (k : ℕ) → h k ≡ (b ⊞ shift (ring_of F) tl) k
            parts zero = q ∙ sym (on_comb F (ColumnSpace F) (VectorSpace F) (λ f. f 0) (at_index F (VectorSpace F) 0) C γ u.gen) ∙ fun_ext (λ c. sym (F.add_zero (b 0 c)))
            parts (suc k) = fun_ext (λ c. back (b (suc k) c) (h (suc k) c))

            up : (k c : ℕ) → (n < k) ⊎ (C ≤ c) → (suc n < suc k) ⊎ (C ≤ c)
            up k c (inl o) = inl (omega arith)
            up k c (inr o) = inr o

            tl_inside : Inside F C n tl
            tl_inside k c o =
                ap₂ (λ x y. x ⊕ (⊖ 𝟙 ⊗ y)) (i (suc k) c (up k c o))
                (on_span F (ColumnSpace F) (ScalarSpace F) (λ f. f (suc k) c) (at_place F (suc k) c) (All F R C next (suc n)) (next_gens γ) (λ y ay. next_inside (suc n) y ay (suc k) c (up k c o)))
                ∙ ap (λ z. 𝟘 ⊕ z) (mul_zero F _) ∙ F.add_zero 𝟘

    next_spanning : (e : ℕ) → e ≤ suc n → (h : Column (ring_of F)) → Inside F C e h → Annihilates (suc n) e h → ShiftSpan F (All F R C next) (suc e) h
    next_spanning e en h i f = go (dec_le e n)
      where
        go : Dec (e ≤ n) → ShiftSpan F (All F R C next) (suc e) h
        go (yes q) = next_spanning_low e q h i f
        go (no q) =
            let p : suc n ≡ e = omega arith in
            subst (λ e. ShiftSpan F (All F R C next) (suc e) h) p (next_spanning_top h (subst (λ e. Inside F C e h) (sym p) i))

    pub step_holds : Holds (suc n) (step (field_of F) C (entry_at (ring_of F) C M n) R s)
    unfolding step next shifted u t shift
    step_holds = record {
      gen_degrees = next_deg;
      inside = next_inside;
      fits = next_fits;
      aux_triangle = λ r k rk kN. convolution_shift F C M n r (u.aux k) ∙ W.aux_triangle r k rk kN;
      aux_diagonal = λ k kN. elim (W.aux_diagonal k kN) [
        | inl h ↦ inl ((λ z. h.0 (sym (convolution_shift F C M n k (u.aux k)) ∙ z)), omega arith)
        | inr h ↦ inr (ap (shift (ring_of F)) h.0 ∙ fun_ext (elim [ zero ↦ refl | suc k ↦ refl ]), omega arith)
      ];
      aux_constant = λ k kN. refl;
      basis = W.basis;
      sums = let x = W.sums in let y = H.sums in let z = total_suc R u.aux_degree in omega arith;
      reach = λ k kN. let x = W.reach k kN in omega arith;
      spanning = next_spanning;
    }

    pub step_rises : (j : ℕ) → j < C → s.gen_degree j ≤ (step (field_of F) C (entry_at (ring_of F) C M n) R s).gen_degree j
    unfolding step next shifted u t
    step_rises j jN = W.rising j jN
