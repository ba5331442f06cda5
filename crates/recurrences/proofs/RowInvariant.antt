-- What holds before each row of a step, and that each of the changes keeps it.
use Rattle.std.proofs.Common.{◌≡◌, ℕ, suc, ◌+◌, ◌<◌, ◌≤◌, Bool, true, false, cond, ◌≢◌, ◌⊎◌, sym, refl, ap, ◌∙◌, ap₂, inl, inr, arith}
use mathlib.Core.Path.{fun_ext}
use native.Mathlib.Decide.{ℕ_discrete}
use Rattle.recurrences.specs.Choice.{pick, put}
use Rattle.recurrences.specs.Discrepancy.{Column}
use Rattle.recurrences.specs.Columns.{Columns}
use Rattle.recurrences.specs.Degrees.{total}
use Rattle.recurrences.proofs.FieldLaws.{ring_of, Field, zero_mul, mul_zero, neg_zero, div_mul, neg_mul}
use Rattle.recurrences.proofs.Vectors.{ScalarSpace, ColumnSpace, VectorSpace}
use Rattle.recurrences.proofs.Combinations.{Span, span_none, span_one, span_eq, span_add, span_smul, span_less, less_solve}
use Rattle.recurrences.proofs.Choosing.{pick_yes, pick_no, put_here, put_away}
use Rattle.recurrences.proofs.LinearMaps.{on_zero}
use Rattle.recurrences.proofs.Convolutions.{convolution_linear, convolution}
use Rattle.recurrences.proofs.Changes.{All, Within, within_trans, less, by_aux, by_gen, by_aux_new, by_aux_old, by_gen_new, by_gen_old}
use Rattle.recurrences.proofs.Totals.{total_put}
use Rattle.recurrences.proofs.Bases.{Basis, basis_cong, basis_less}

-- the multiples that the open columns reduced by an auxiliary pivot, where E gives the entries of a column's discrepancy
unfoldable pub aux_part : (F : Field) → (ℕ → Column (ring_of F) → F.K) → Columns (ring_of F) → (ℕ → Bool) → ℕ → ℕ → F.K
aux_part F E s opened i j = cond (opened j) (F.mul (E i (s.gen j)) (F.inv (E i (s.aux i)))) F.𝟘

-- the multiples that the other open columns reduced by the pivot l
unfoldable pub gen_part : (F : Field) → (ℕ → Column (ring_of F) → F.K) → Columns (ring_of F) → (ℕ → Bool) → ℕ → ℕ → ℕ → F.K
gen_part F E s opened i l j = cond (opened j) (pick (ℕ_discrete j l) F.𝟘 (F.mul (E i (s.gen j)) (F.inv (E i (s.gen l))))) F.𝟘

module _ (F : Field) (R C : ℕ) (M : ℕ → ℕ → ℕ → F.K) (n : ℕ) where
  open F use {K, 𝟘, 𝟙, add as ◌⊕◌, neg as ⊖, mul as ◌⊗◌, inv}
  open ColumnSpace F use {vzero as 𝟎, vadd as ◌⊞◌, smul as ◌⊡◌, vadd_comm, vadd_assoc, vadd_zero, zero_smul, one_smul, mul_smul, add_smul}

  infixl 60 ◌⊕◌
  infixl 70 ◌⊗◌
  infixl 60 ◌⊞◌
  infixr 70 ◌⊡◌
  abbrev E : ℕ → Column (ring_of F) → K
  E = convolution (ring_of F) C M n

  -- what holds before row i of the step that takes M n, of the columns s, where `start` are the columns at its start
  pub record Row (start s : Columns (ring_of F)) (opened : ℕ → Bool) (i : ℕ) : Type 0 where
    pub new : Within F R C s start
    pub old : Within F R C start s
    pub opened_below : (j : ℕ) → opened j ≡ true → j < C
    pub opened_degree : (j : ℕ) → j < C → opened j ≡ true → s.gen_degree j ≤ n
    pub closed_degree : (j : ℕ) → j < C → opened j ≡ false → s.gen_degree j ≡ suc n
    -- the rows done
    pub opened_zero : (j : ℕ) → j < C → opened j ≡ true → (r : ℕ) → r < i → convolution (ring_of F) C M n r (s.gen j) ≡ 𝟘
    pub aux_triangle : (r k : ℕ) → r < k → k < R → convolution (ring_of F) C M n r (s.aux k) ≡ 𝟘
    pub aux_diagonal : (k : ℕ) → k < R → ((convolution (ring_of F) C M n k (s.aux k) ≢ 𝟘) × (s.aux_degree k ≤ n)) ⊎ ((s.aux k ≡ 𝟎) × (s.aux_degree k ≡ suc n))
    pub aux_constant : (k : ℕ) → i ≤ k → k < R → s.aux k 0 ≡ (VectorSpace F).vzero
    pub basis : Basis F C (λ j. s.gen j 0)
    pub sums : total C s.gen_degree + total R s.aux_degree ≡ total C start.gen_degree + total R start.aux_degree
    pub reach : (k : ℕ) → k < R → suc n ≤ total C s.gen_degree + s.aux_degree k
    pub rising : (j : ℕ) → j < C → start.gen_degree j ≤ s.gen_degree j

  convolution_less : (r : ℕ) (a b : Column (ring_of F)) (k : K) → convolution (ring_of F) C M n r (a ⊞ (⊖ k ⊡ b)) ≡ convolution (ring_of F) C M n r a ⊕ (⊖ k ⊗ convolution (ring_of F) C M n r b)
  convolution_less r a b k = (convolution_linear F C M n r).on_add _ _ ∙ ap (λ x. convolution (ring_of F) C M n r a ⊕ x) ((convolution_linear F C M n r).on_smul _ _)

  less_zero : (a b k : K) → a ≡ 𝟘 → (k ≡ 𝟘) ⊎ (b ≡ 𝟘) → a ⊕ (⊖ k ⊗ b) ≡ 𝟘
  less_zero a b k p (inl q) = ap₂ ◌⊕◌ p (ap (λ x. ⊖ x ⊗ b) q ∙ neg_mul F _ _ ∙ ap ⊖ (zero_mul F b) ∙ neg_zero F) ∙ F.add_zero 𝟘
  less_zero a b k p (inr q) = ap₂ ◌⊕◌ p (ap (λ x. ⊖ k ⊗ x) q ∙ mul_zero F _) ∙ F.add_zero 𝟘

  less_div : (a b : K) → b ≢ 𝟘 → a ⊕ (⊖ (a ⊗ inv b) ⊗ b) ≡ 𝟘
  less_div a b nz = ap (λ x. a ⊕ x) (neg_mul F _ _ ∙ ap ⊖ (div_mul F a b nz)) ∙ F.add_neg a

  t≢f : {A : Type 0} {b : Bool} → b ≡ true → b ≡ false → A
  t≢f {A} {b} p q = absurd (let z : ◌≡◌ {A = ℕ} 0 1 = cc in omega arith)

  module _ (start s : Columns (ring_of F)) (opened : ℕ → Bool) (i : ℕ) (iN : i < R) (W : Row start s opened i) where
    pub row_aux : ((j : ℕ) → j < C → opened j ≡ true → convolution (ring_of F) C M n i (s.gen j) ≢ 𝟘 → s.aux_degree i ≤ s.gen_degree j)
        → Row start (by_aux (ring_of F) i (aux_part F E s opened i) s) opened (suc i)
    unfolding aux_part less
    row_aux least = record {
      new = within_trans F R C _ _ _ (by_aux_new F R C s i (aux_part F E s opened i) iN low) W.new;
      old = within_trans F R C _ _ _ W.old (by_aux_old F R C s i (aux_part F E s opened i) iN low);
      opened_below = W.opened_below;
      opened_degree = W.opened_degree;
      closed_degree = W.closed_degree;
      opened_zero = λ j jN lv r ri. convolution_less r (s.gen j) (s.aux i) (aux_part F E s opened i j) ∙ zeroed j jN lv r ri (ℕ_discrete r i);
      aux_triangle = W.aux_triangle;
      aux_diagonal = W.aux_diagonal;
      aux_constant = λ k h kN. W.aux_constant k (omega arith) kN;
      basis = basis_cong F C (λ j. s.gen j 0) (λ j. less (ring_of F) (aux_part F E s opened i) (s.aux i) s.gen j 0)
          (λ j jN. ap (λ w. (VectorSpace F).vadd (s.gen j 0) ((VectorSpace F).smul (⊖ (aux_part F E s opened i j)) w)) (W.aux_constant i (omega arith) iN) ∙ fun_ext (λ c. ap (λ x. s.gen j 0 c ⊕ x) (mul_zero F _) ∙ F.add_zero _))
          W.basis;
      sums = W.sums;
      reach = W.reach;
      rising = W.rising;
    }
      where
        part_zero : (j : ℕ) → convolution (ring_of F) C M n i (s.gen j) ≡ 𝟘 → aux_part F E s opened i j ≡ 𝟘
        part_zero j e = go (opened j)
          where
            go : (b : Bool) → cond b (convolution (ring_of F) C M n i (s.gen j) ⊗ inv (convolution (ring_of F) C M n i (s.aux i))) 𝟘 ≡ 𝟘
            go true = ap (λ x. x ⊗ inv (convolution (ring_of F) C M n i (s.aux i))) e ∙ zero_mul F _
            go false = refl

        low : (j : ℕ) → j < C → (aux_part F E s opened i j ≡ 𝟘) ⊎ (s.aux_degree i ≤ s.gen_degree j)
        low j jN = go (opened j) refl (F.dec (convolution (ring_of F) C M n i (s.gen j)) 𝟘)
          where
            go : (b : Bool) → opened j ≡ b → Dec (convolution (ring_of F) C M n i (s.gen j) ≡ 𝟘) → (aux_part F E s opened i j ≡ 𝟘) ⊎ (s.aux_degree i ≤ s.gen_degree j)
            go b e (yes z) = inl (part_zero j z)
            go false e (no z) = inl (ap (λ b. cond b (convolution (ring_of F) C M n i (s.gen j) ⊗ inv (convolution (ring_of F) C M n i (s.aux i))) 𝟘) e)
            go true e (no z) = inr (least j jN e z)

        zeroed : (j : ℕ) → j < C → opened j ≡ true → (r : ℕ) → r < suc i → Dec (r ≡ i)
            → convolution (ring_of F) C M n r (s.gen j) ⊕ (⊖ (aux_part F E s opened i j) ⊗ convolution (ring_of F) C M n r (s.aux i)) ≡ 𝟘
        zeroed j jN lv r ri (no ne) = less_zero _ _ _ (W.opened_zero j jN lv r (omega arith)) (inr (W.aux_triangle r i (omega arith) iN))
        zeroed j jN lv r ri (yes e) = rw e (go (W.aux_diagonal i iN) (F.dec (convolution (ring_of F) C M n i (s.gen j)) 𝟘))
          where
            go : ((convolution (ring_of F) C M n i (s.aux i) ≢ 𝟘) × (s.aux_degree i ≤ n)) ⊎ ((s.aux i ≡ 𝟎) × (s.aux_degree i ≡ suc n)) → Dec (convolution (ring_of F) C M n i (s.gen j) ≡ 𝟘)
                → convolution (ring_of F) C M n i (s.gen j) ⊕ (⊖ (aux_part F E s opened i j) ⊗ convolution (ring_of F) C M n i (s.aux i)) ≡ 𝟘
            go d (yes z) = less_zero _ _ _ z (inl (part_zero j z))
            go (inl (nz, _)) (no z) = ap (λ b. convolution (ring_of F) C M n i (s.gen j) ⊕ (⊖ (cond b (convolution (ring_of F) C M n i (s.gen j) ⊗ inv (convolution (ring_of F) C M n i (s.aux i))) 𝟘) ⊗ convolution (ring_of F) C M n i (s.aux i))) lv ∙ less_div _ _ nz
            go (inr (_, dg)) (no z) = let a = least j jN lv z in let b = W.opened_degree j jN lv in absurd (omega arith)

    module _ (l : ℕ) (lN : l < C) (lv : opened l ≡ true) (nz : convolution (ring_of F) C M n i (s.gen l) ≢ 𝟘) (under : s.gen_degree l < s.aux_degree i)
        (least : (j : ℕ) → j < C → opened j ≡ true → convolution (ring_of F) C M n i (s.gen j) ≢ 𝟘 → s.gen_degree l ≤ s.gen_degree j) where
      part_here : gen_part F E s opened i l l ≡ 𝟘
      unfolding gen_part
      part_here = go (opened l)
        where
          go : (b : Bool) → cond b (pick (ℕ_discrete l l) 𝟘 (convolution (ring_of F) C M n i (s.gen l) ⊗ inv (convolution (ring_of F) C M n i (s.gen l)))) 𝟘 ≡ 𝟘
          go true = pick_yes (ℕ_discrete l l) 𝟘 _ refl
          go false = refl

      part_opened : (j : ℕ) → opened j ≡ true → j ≢ l → gen_part F E s opened i l j ≡ convolution (ring_of F) C M n i (s.gen j) ⊗ inv (convolution (ring_of F) C M n i (s.gen l))
      unfolding gen_part
      part_opened j e ne = ap (λ b. cond b (pick (ℕ_discrete j l) 𝟘 (convolution (ring_of F) C M n i (s.gen j) ⊗ inv (convolution (ring_of F) C M n i (s.gen l)))) 𝟘) e ∙ pick_no (ℕ_discrete j l) 𝟘 _ ne

      part_closed : (j : ℕ) → opened j ≡ false → gen_part F E s opened i l j ≡ 𝟘
      unfolding gen_part
      part_closed j e = ap (λ b. cond b (pick (ℕ_discrete j l) 𝟘 (convolution (ring_of F) C M n i (s.gen j) ⊗ inv (convolution (ring_of F) C M n i (s.gen l)))) 𝟘) e

      part_low : (j : ℕ) → j < C → j ≢ l → (gen_part F E s opened i l j ≡ 𝟘) ⊎ (s.gen_degree l ≤ s.gen_degree j)
      part_low j jN ne = go (opened j) refl (F.dec (convolution (ring_of F) C M n i (s.gen j)) 𝟘)
        where
          go : (b : Bool) → opened j ≡ b → Dec (convolution (ring_of F) C M n i (s.gen j) ≡ 𝟘) → (gen_part F E s opened i l j ≡ 𝟘) ⊎ (s.gen_degree l ≤ s.gen_degree j)
          go false e d = inl (part_closed j e)
          go true e (yes z) = inl (part_opened j e ne ∙ ap (λ x. x ⊗ inv (convolution (ring_of F) C M n i (s.gen l))) z ∙ zero_mul F _)
          go true e (no z) = inr (least j jN e z)

      row_gen : (x : Column (ring_of F)) (opened' : ℕ → Bool)
          → x 0 ≡ s.gen l 0
          → ((e : ℕ) → s.aux_degree i ≤ e → Span F (ColumnSpace F) (All F R C s e) x)
          → ((e : ℕ) → s.aux_degree i ≤ e → Span F (ColumnSpace F) (All F R C (by_gen (ring_of F) i l x (gen_part F E s opened i l) s) e) (s.aux i))
          → ((j : ℕ) → j ≢ l → opened' j ≡ opened j)
          → (opened' l ≡ true → (s.aux_degree i ≤ n) × ((r : ℕ) → r < suc i → convolution (ring_of F) C M n r x ≡ 𝟘))
          → (opened' l ≡ false → s.aux_degree i ≡ suc n)
          → Row start (by_gen (ring_of F) i l x (gen_part F E s opened i l) s) opened' (suc i)
      unfolding less
      row_gen x opened' xc xin back others when_opened when_closed = record {
        new = within_trans F R C _ _ _ (by_gen_new F R C s i l x (gen_part F E s opened i l) iN lN (omega arith) part_low xin) W.new;
        old = within_trans F R C _ _ _ W.old (by_gen_old F R C s i l x (gen_part F E s opened i l) iN lN (omega arith) part_low back);
        opened_below = λ j v. below j v (ℕ_discrete j l);
        opened_degree = λ j jN v. ldeg j jN v (ℕ_discrete j l);
        closed_degree = λ j jN v. ddeg j jN v (ℕ_discrete j l);
        opened_zero = λ j jN v r ri. lzero j jN v r ri (ℕ_discrete j l) (ℕ_discrete r i);
        aux_triangle = λ r k rk kN. alow r k rk kN (ℕ_discrete k i);
        aux_diagonal = λ k kN. adiag k kN (ℕ_discrete k i);
        aux_constant = λ k ik kN. ap (λ y. y 0) (put_away i (s.gen l) s.aux k (omega arith)) ∙ W.aux_constant k (omega arith) kN;
        basis = basis_cong F C _ _ (λ j jN. const j (ℕ_discrete j l)) (basis_less F C l (λ j. s.gen j 0) (gen_part F E s opened i l) lN part_here W.basis);
        sums = omega (arith, tg, ta, W.sums);
        reach = λ k kN. far k kN (ℕ_discrete k i);
        rising = λ j jN. rise j jN (ℕ_discrete j l);
      }
        where
          tg : total C (put l (s.aux_degree i) s.gen_degree) + s.gen_degree l ≡ total C s.gen_degree + s.aux_degree i
          tg = total_put C l (s.aux_degree i) s.gen_degree lN

          ta : total R (put i (s.gen_degree l) s.aux_degree) + s.aux_degree i ≡ total R s.aux_degree + s.gen_degree l
          ta = total_put R i (s.gen_degree l) s.aux_degree iN

          below : (j : ℕ) → opened' j ≡ true → Dec (j ≡ l) → j < C
          below j v (yes q) = rw q lN
          below j v (no q) = W.opened_below j (sym (others j q) ∙ v)

          ldeg : (j : ℕ) → j < C → opened' j ≡ true → Dec (j ≡ l) → put l (s.aux_degree i) s.gen_degree j ≤ n
          ldeg j jN v (yes q) = rw (put_here l (s.aux_degree i) s.gen_degree j q) (when_opened (ap opened' (sym q) ∙ v)).0
          ldeg j jN v (no q) = rw (put_away l (s.aux_degree i) s.gen_degree j q) (W.opened_degree j jN (sym (others j q) ∙ v))

          ddeg : (j : ℕ) → j < C → opened' j ≡ false → Dec (j ≡ l) → put l (s.aux_degree i) s.gen_degree j ≡ suc n
          ddeg j jN v (yes q) = put_here l (s.aux_degree i) s.gen_degree j q ∙ when_closed (ap opened' (sym q) ∙ v)
          ddeg j jN v (no q) = put_away l (s.aux_degree i) s.gen_degree j q ∙ W.closed_degree j jN (sym (others j q) ∙ v)

          lzero : (j : ℕ) → j < C → opened' j ≡ true → (r : ℕ) → r < suc i → Dec (j ≡ l) → Dec (r ≡ i)
              → convolution (ring_of F) C M n r (put l x (less (ring_of F) (gen_part F E s opened i l) (s.gen l) s.gen) j) ≡ 𝟘
          lzero j jN v r ri (yes q) d = ap (convolution (ring_of F) C M n r) (put_here l x _ j q) ∙ (when_opened (ap opened' (sym q) ∙ v)).1 r ri
          lzero j jN v r ri (no q) (no d) =
              ap (convolution (ring_of F) C M n r) (put_away l x _ j q) ∙ convolution_less r (s.gen j) (s.gen l) (gen_part F E s opened i l j)
              ∙ less_zero _ _ _ (W.opened_zero j jN (sym (others j q) ∙ v) r (omega arith)) (inr (W.opened_zero l lN lv r (omega arith)))
          lzero j jN v r ri (no q) (yes d) =
              ap (convolution (ring_of F) C M n r) (put_away l x _ j q) ∙ convolution_less r (s.gen j) (s.gen l) (gen_part F E s opened i l j)
              ∙ ap (λ r. convolution (ring_of F) C M n r (s.gen j) ⊕ (⊖ (gen_part F E s opened i l j) ⊗ convolution (ring_of F) C M n r (s.gen l))) d
              ∙ ap (λ c. convolution (ring_of F) C M n i (s.gen j) ⊕ (⊖ c ⊗ convolution (ring_of F) C M n i (s.gen l))) (part_opened j (sym (others j q) ∙ v) q) ∙ less_div _ _ nz

          alow : (r k : ℕ) → r < k → k < R → Dec (k ≡ i) → convolution (ring_of F) C M n r (put i (s.gen l) s.aux k) ≡ 𝟘
          alow r k rk kN (yes q) = ap (convolution (ring_of F) C M n r) (put_here i (s.gen l) s.aux k q) ∙ W.opened_zero l lN lv r (omega arith)
          alow r k rk kN (no q) = ap (convolution (ring_of F) C M n r) (put_away i (s.gen l) s.aux k q) ∙ W.aux_triangle r k rk kN

          adiag : (k : ℕ) → k < R → Dec (k ≡ i) → ((convolution (ring_of F) C M n k (put i (s.gen l) s.aux k) ≢ 𝟘) × (put i (s.gen_degree l) s.aux_degree k ≤ n)) ⊎ ((put i (s.gen l) s.aux k ≡ 𝟎) × (put i (s.gen_degree l) s.aux_degree k ≡ suc n))
          adiag k kN (yes q) = rw (put_here i (s.gen l) s.aux k q, put_here i (s.gen_degree l) s.aux_degree k q, q) (inl (nz, W.opened_degree l lN lv))
          adiag k kN (no q) = rw (put_away i (s.gen l) s.aux k q, put_away i (s.gen_degree l) s.aux_degree k q) (W.aux_diagonal k kN)

          const : (j : ℕ) → Dec (j ≡ l) → put l x (less (ring_of F) (gen_part F E s opened i l) (s.gen l) s.gen) j 0 ≡ (VectorSpace F).vadd (s.gen j 0) ((VectorSpace F).smul (⊖ (gen_part F E s opened i l j)) (s.gen l 0))
          const j (no q) = ap (λ y. y 0) (put_away l x _ j q)
          const j (yes q) =
              ap (λ y. y 0) (put_here l x _ j q) ∙ xc ∙ ap (λ j. s.gen j 0) (sym q)
              ∙ fun_ext (λ c. sym (ap (λ k. s.gen j 0 c ⊕ (⊖ k ⊗ s.gen l 0 c)) (ap (gen_part F E s opened i l) q ∙ part_here) ∙ ap (λ x. s.gen j 0 c ⊕ x) (neg_mul F _ _ ∙ ap ⊖ (zero_mul F _) ∙ neg_zero F) ∙ F.add_zero _))

          rise : (j : ℕ) → j < C → Dec (j ≡ l) → start.gen_degree j ≤ put l (s.aux_degree i) s.gen_degree j
          rise j jN (yes q) = rw (put_here l (s.aux_degree i) s.gen_degree j q, q) (let x = W.rising l lN in omega arith)
          rise j jN (no q) = rw (put_away l (s.aux_degree i) s.gen_degree j q) (W.rising j jN)

          far : (k : ℕ) → k < R → Dec (k ≡ i) → suc n ≤ total C (put l (s.aux_degree i) s.gen_degree) + put i (s.gen_degree l) s.aux_degree k
          far k kN (yes q) = rw (put_here i (s.gen_degree l) s.aux_degree k q) (omega (arith, tg, W.reach i iN))
          far k kN (no q) = rw (put_away i (s.gen_degree l) s.aux_degree k q) (omega (arith, tg, W.reach k kN))

      -- the pivot's column is changed by the auxiliary column, and stays open
      pub row_trade : convolution (ring_of F) C M n i (s.aux i) ≢ 𝟘
          → Row start (by_gen (ring_of F) i l (s.gen l ⊞ (⊖ (convolution (ring_of F) C M n i (s.gen l) ⊗ inv (convolution (ring_of F) C M n i (s.aux i))) ⊡ s.aux i)) (gen_part F E s opened i l) s) opened (suc i)
      row_trade az = row_gen x opened
          (ap (λ w. (VectorSpace F).vadd (s.gen l 0) ((VectorSpace F).smul (⊖ q) w)) (W.aux_constant i (omega arith) iN) ∙ fun_ext (λ c. ap (λ y. s.gen l 0 c ⊕ y) (mul_zero F _) ∙ F.add_zero _))
          (λ e h. span_less F (ColumnSpace F) (All F R C s e) (⊖ q) (span_one F (ColumnSpace F) (All F R C s e) (s.gen l) (inl (l, lN, omega arith, refl))) (inr (span_one F (ColumnSpace F) (All F R C s e) (s.aux i) (inr (i, iN, h, refl)))))
          (λ e h. span_eq F (ColumnSpace F) (All F R C t e) (less_solve F (ColumnSpace F) (s.gen l) (s.aux i) q qz)
          (span_smul F (ColumnSpace F) (All F R C t e) (inv q) (span_add F (ColumnSpace F) (All F R C t e)
          (span_one F (ColumnSpace F) (All F R C t e) (s.gen l) (inr (i, iN, rw (put_here i (s.gen_degree l) s.aux_degree i refl) (omega arith), sym (put_here i (s.gen l) s.aux i refl))))
          (span_smul F (ColumnSpace F) (All F R C t e) (⊖ 𝟙) (span_one F (ColumnSpace F) (All F R C t e) x (inl (l, lN, rw (put_here l (s.aux_degree i) s.gen_degree l refl) h, sym (put_here l x _ l refl))))))))
          (λ j ne. refl)
          (λ v. (deg (W.aux_diagonal i iN), λ r ri. convolution_less r (s.gen l) (s.aux i) q ∙ zeroed r ri (ℕ_discrete r i)))
          (λ v. t≢f lv v)
        where
          q : K
          q = convolution (ring_of F) C M n i (s.gen l) ⊗ inv (convolution (ring_of F) C M n i (s.aux i))

          x : Column (ring_of F)
          x = s.gen l ⊞ (⊖ q ⊡ s.aux i)

          t : Columns (ring_of F)
          t = by_gen (ring_of F) i l x (gen_part F E s opened i l) s

          qz : q ≢ 𝟘
          qz e = nz (sym (div_mul F _ _ az) ∙ ap (λ y. y ⊗ convolution (ring_of F) C M n i (s.aux i)) e ∙ zero_mul F _)

          deg : ((convolution (ring_of F) C M n i (s.aux i) ≢ 𝟘) × (s.aux_degree i ≤ n)) ⊎ ((s.aux i ≡ 𝟎) × (s.aux_degree i ≡ suc n)) → s.aux_degree i ≤ n
          deg (inl (_, h)) = h
          deg (inr (e, _)) = absurd (az (ap (convolution (ring_of F) C M n i) e ∙ on_zero F (ColumnSpace F) (ScalarSpace F) (convolution (ring_of F) C M n i) (convolution_linear F C M n i)))

          zeroed : (r : ℕ) → r < suc i → Dec (r ≡ i) → convolution (ring_of F) C M n r (s.gen l) ⊕ (⊖ q ⊗ convolution (ring_of F) C M n r (s.aux i)) ≡ 𝟘
          zeroed r ri (no d) = less_zero _ _ _ (W.opened_zero l lN lv r (omega arith)) (inr (W.aux_triangle r i (omega arith) iN))
          zeroed r ri (yes d) = ap (λ r. convolution (ring_of F) C M n r (s.gen l) ⊕ (⊖ q ⊗ convolution (ring_of F) C M n r (s.aux i))) d ∙ less_div _ _ az

      -- the pivot's column is copied to the auxiliary place, and closed
      pub row_close : convolution (ring_of F) C M n i (s.aux i) ≡ 𝟘 → Row start (by_gen (ring_of F) i l (s.gen l) (gen_part F E s opened i l) s) (put l false opened) (suc i)
      row_close az = row_gen (s.gen l) (put l false opened) refl
          (λ e h. span_one F (ColumnSpace F) (All F R C s e) (s.gen l) (inl (l, lN, omega arith, refl)))
          (λ e h. span_none (gone (W.aux_diagonal i iN)).0)
          (λ j ne. put_away l false opened j ne)
          (λ v. t≢f v (put_here l false opened l refl))
          (λ v. (gone (W.aux_diagonal i iN)).1)
        where
          gone : ((convolution (ring_of F) C M n i (s.aux i) ≢ 𝟘) × (s.aux_degree i ≤ n)) ⊎ ((s.aux i ≡ 𝟎) × (s.aux_degree i ≡ suc n)) → (s.aux i ≡ 𝟎) × (s.aux_degree i ≡ suc n)
          gone (inl (h, _)) = absurd (h az)
          gone (inr h) = h
