-- Elimination in N linear equations over a field: what one turn keeps, what it clears, and what stands at the end.
use Rattle.std.proofs.Common.{◌≡◌, ℕ, ◌+◌, ◌<◌, ◌≤◌, Bool, true, false, cond, eqb, ◌≢◌, sym, refl, ap, ◌∙◌, ap₂, arith}
use native.Mathlib.Decide.{ℕ_discrete, dec_lt}
use Rattle.std.proofs.lemmas.Bool.{cond-true, cond-false, eq-eqb, ne_eqb}
use Rattle.std.proofs.lemmas.Bool.Decides.{nat_tests}
use Rattle.recurrences.specs.Choice.{pick}
use Rattle.recurrences.specs.Columns.{unit}
use Rattle.recurrences.specs.Sums.{sum}
use Rattle.recurrences.proofs.Choosing.{pick_yes, pick_no}
use Rattle.recurrences.proofs.Combinations.{comb_single}
use Rattle.recurrences.proofs.FieldLaws.{Field, ring_of, field_of, zero_add, add_mul, div_mul, mul_left_comm, mul_zero, neg_mul, one_mul, zero_mul}
use Rattle.recurrences.proofs.FieldSums.{sum_add, sum_mul}
use Rattle.recurrences.proofs.Summing.{sum_same}
use Rattle.recurrences.proofs.UnitVectors.{comb_sum}
use Rattle.recurrences.proofs.Vectors.{ScalarSpace}
use Rattle.runs.specs.Clearing.{Clears, combined, share, swapped}
use Rattle.runs.specs.Equations.{Side, left, right}
use Rattle.runs.proofs.Swaps.{swapped_apart, swapped_back, swapped_below, swapped_other}

module _ (F : Field) (N : ℕ) where
  open F use {K, 𝟘, 𝟙, add as ◌⊕◌, neg as ⊖, mul as ◌⊗◌, inv}

  infixl 60 ◌⊕◌
  infixl 70 ◌⊗◌
  -- a row times a vector
  abbrev pub dot : (ℕ → K) → (ℕ → K) → K
  dot y g = sum (ring_of F) N (λ e. y e ⊗ g e)

  pub dot_plus : (y g p : ℕ → K) (k : K) → dot y (λ e. g e ⊕ (k ⊗ p e)) ≡ dot y g ⊕ (k ⊗ dot y p)
  dot_plus y g p k =
      sum_same (ring_of F) N _ _ (λ e _. F.mul_add _ _ _ ∙ ap (λ x. (y e ⊗ g e) ⊕ x) (mul_left_comm F (y e) k (p e)))
      ∙ sum_add F N _ _ ∙ ap (λ x. dot y g ⊕ x) (sum_mul F N k _)

  pub plus_dot : (y z g : ℕ → K) → dot (λ e. y e ⊕ z e) g ≡ dot y g ⊕ dot z g
  plus_dot y z g = sum_same (ring_of F) N _ _ (λ e _. add_mul F _ _ _) ∙ sum_add F N _ _

  -- one term alone
  pub dot_single : (y g : ℕ → K) (j : ℕ) → j < N → ((e : ℕ) → e < N → e ≢ j → y e ⊗ g e ≡ 𝟘) → dot y g ≡ y j ⊗ g j
  dot_single y g j h z = sym (comb_sum F N y g) ∙ comb_single F (ScalarSpace F) N j y g h z

  plus_none : (x k t : K) → t ≡ 𝟘 → x ⊕ (k ⊗ t) ≡ x
  plus_none x k t e = ap (λ u. x ⊕ u) (ap (λ u. k ⊗ u) e ∙ mul_zero F k) ∙ F.add_zero x

  module _ (c p : ℕ) (k : ℕ → K) where
    combined_same : (a : ℕ → K) (j : ℕ) → j ≡ c → combined (field_of F) c p k a j ≡ a p
    combined_same a j e = cond-true (eqb j c) (a p) _ (eq-eqb j c e)

    combined_other : (a : ℕ → K) (j : ℕ) → j ≢ c → combined (field_of F) c p k a j ≡ a (swapped c p j) ⊕ (⊖ (k j) ⊗ a p)
    combined_other a j e = cond-false (eqb j c) (a p) _ (ne_eqb j c e)

    dot_combined : (A : ℕ → ℕ → K) (y : ℕ → K) (j : ℕ) → dot y (λ e. combined (field_of F) c p k (λ i. A i e) j) ≡ combined (field_of F) c p k (λ i. dot y (A i)) j
    dot_combined A y j = go (eqb j c)
      where
        go : (b : Bool) → dot y (λ e. cond b (A p e) (A (swapped c p j) e ⊕ (⊖ (k j) ⊗ A p e)))
            ≡ cond b (dot y (A p)) (dot y (A (swapped c p j)) ⊕ (⊖ (k j) ⊗ dot y (A p)))
        go true = refl
        go false = dot_plus y (A (swapped c p j)) (A p) (⊖ (k j))

    module _ (cN : c < N) (pN : p < N) where
      combined_cong : (a b : ℕ → K) → ((j : ℕ) → j < N → a j ≡ b j) → (j : ℕ) → j < N → combined (field_of F) c p k a j ≡ combined (field_of F) c p k b j
      combined_cong a b h j jN = ap₂ (λ x y. cond (eqb j c) x (y ⊕ (⊖ (k j) ⊗ x))) (h p pN) (h (swapped c p j) (swapped_below c p N j cN pN jN))

      -- nothing but zero becomes zero
      combined_zero : (a : ℕ → K) → ((j : ℕ) → j < N → combined (field_of F) c p k a j ≡ 𝟘) → (j : ℕ) → j < N → a j ≡ 𝟘
      combined_zero a z j jN = go (ℕ_discrete j p)
        where
          at_pivot : a p ≡ 𝟘
          at_pivot = sym (combined_same a c refl) ∙ z c cN

          go : Dec (j ≡ p) → a j ≡ 𝟘
          go (yes e) = ap a e ∙ at_pivot
          go (no n) =
              let i : ℕ = swapped c p j in
              sym (ap a (swapped_back c p j)) ∙ sym (plus_none (a (swapped c p i)) (⊖ (k i)) (a p) at_pivot) ∙ sym (combined_other a i (swapped_apart c p j n))
              ∙ z i (swapped_below c p N j cN pN jN)

  -- only the zero row has product zero with each vector
  abbrev pub Spanning : (ℕ → ℕ → K) → Type 0
  Spanning A = (y : ℕ → K) → ((j : ℕ) → j < N → dot y (A j) ≡ 𝟘) → (c : ℕ) → c < N → y c ≡ 𝟘

  -- in the first c columns the diagonal alone is not zero
  pub record Diagonal (c : ℕ) (A : ℕ → ℕ → K) : Type 0 where
    pub off : (j e : ℕ) → j < N → e < c → j ≢ e → A j e ≡ 𝟘
    pub on : (e : ℕ) → e < c → A e e ≢ 𝟘

  -- otherwise a row that is one at c would have product zero with each vector
  pub pivot_exists : (c : ℕ) (A : ℕ → ℕ → K) → c < N → Spanning A → Diagonal c A → ((j : ℕ) → c ≤ j → j < N → A j c ≡ 𝟘) → ⊥
  pivot_exists c A cN s d none = F.one≢zero (sym (ap₂ ◌⊕◌ (pick_yes (ℕ_discrete c c) 𝟙 𝟘 refl) (past c (omega arith)) ∙ F.add_zero 𝟙) ∙ s y zero c cN)
    where
      z : ℕ → K
      z e = pick (dec_lt e c) (⊖ (A e c ⊗ inv (A e e))) 𝟘

      y : ℕ → K
      y e = unit (ring_of F) e c ⊕ z e

      past : (e : ℕ) → c ≤ e → z e ≡ 𝟘
      past e h = pick_no (dec_lt e c) _ 𝟘 (omega arith)

      first : (j : ℕ) → dot (λ e. unit (ring_of F) e c) (A j) ≡ A j c
      first j = dot_single (λ e. unit (ring_of F) e c) (A j) c cN (λ e _ n. ap (λ x. x ⊗ A j e) (pick_no (ℕ_discrete e c) 𝟙 𝟘 n) ∙ zero_mul F _)
          ∙ ap (λ x. x ⊗ A j c) (pick_yes (ℕ_discrete c c) 𝟙 𝟘 refl) ∙ one_mul F _

      off_term : (j e : ℕ) → j < N → e ≢ j → Dec (e < c) → z e ⊗ A j e ≡ 𝟘
      off_term j e jN n (yes h) = ap (λ x. z e ⊗ x) (d.off j e jN h (omega arith)) ∙ mul_zero F _
      off_term j e jN n (no h) = ap (λ x. x ⊗ A j e) (past e (omega arith)) ∙ zero_mul F _

      cancels : (j : ℕ) → j < N → Dec (j < c) → A j c ⊕ (z j ⊗ A j j) ≡ 𝟘
      cancels j jN (yes h) =
          ap (λ x. A j c ⊕ x) (ap (λ x. x ⊗ A j j) (pick_yes (dec_lt j c) _ 𝟘 h) ∙ neg_mul F _ _ ∙ ap ⊖ (div_mul F (A j c) (A j j) (d.on j h))) ∙ F.add_neg _
      cancels j jN (no h) = ap₂ (λ x t. x ⊕ (t ⊗ A j j)) (none j (omega arith) jN) (past j (omega arith)) ∙ zero_add F _ ∙ zero_mul F _

      zero : (j : ℕ) → j < N → dot y (A j) ≡ 𝟘
      zero j jN = plus_dot (λ e. unit (ring_of F) e c) z (A j)
          ∙ ap₂ ◌⊕◌ (first j) (dot_single z (A j) j jN (λ e _ n. off_term j e jN n (dec_lt e c))) ∙ cancels j jN (dec_lt j c)

  -- of the equations E₀ the equations E are left, with the first c columns cleared: what solves those solves these
  pub record Progress (c : ℕ) (E₀ E : ℕ → Side → ℕ → K) : Type 0 where
    pub spans : Spanning (λ j. E j left)
    pub diagonal : Diagonal c (λ j. E j left)
    pub keeps : (y : ℕ → K) (r : ℕ) → r < N → ((j : ℕ) → j < N → dot y (E₀ j left) ≡ E₀ j right r) → (j : ℕ) → j < N → dot y (E j left) ≡ E j right r

  pub at_start : (E : ℕ → Side → ℕ → K) → Spanning (λ j. E j left) → Progress 0 E E
  at_start E s = record { spans = s; diagonal = record { off = λ j e jN h. absurd (omega arith); on = λ e h. absurd (omega arith) }; keeps = λ y r rN h. h }

  module _ (c : ℕ) (E₀ E E' : ℕ → Side → ℕ → K) (cN : c < N) (P : Progress c E₀ E) (C : Clears (field_of F) N c E E') where
    open C use {pivot, becomes}

    abbrev k : ℕ → K
    k = share (field_of F) c pivot E

    found : E pivot left c ≢ 𝟘
    found e = pivot_exists c (λ j. E j left) cN P.spans P.diagonal (C.none e)

    -- before column c, the pivot's entries are zero
    bare : (e : ℕ) → e < c → E pivot left e ≡ 𝟘
    bare e h = let f = C.from in P.diagonal.off pivot e C.below h (omega arith)

    dot_becomes : (y : ℕ → K) (j : ℕ) → j < N → dot y (E' j left) ≡ combined (field_of F) c pivot k (λ i. dot y (E i left)) j
    dot_becomes y j jN = sum_same (ring_of F) N _ _ (λ e eN. ap (λ x. y e ⊗ x) (becomes j left e jN eN)) ∙ dot_combined c pivot k (λ i. E i left) y j

    kept : (j e : ℕ) → j < N → e < c → j ≢ c → E' j left e ≡ E (swapped c pivot j) left e
    kept j e jN h n = becomes j left e jN (omega arith) ∙ combined_other c pivot k (λ i. E i left e) j n ∙ plus_none _ _ _ (bare e h)

    off_more : (j e : ℕ) → j < N → e < c + 1 → j ≢ e → E' j left e ≡ 𝟘
    off_more j e jN h n = go (ℕ_discrete j c) (dec_lt e c)
      where
        apart : e < c → j ≢ c → swapped c pivot j ≢ e
        apart l m q = grind (arith, nat_tests)

        go : Dec (j ≡ c) → Dec (e < c) → E' j left e ≡ 𝟘
        go (yes q) (yes l) = becomes j left e jN (omega arith) ∙ combined_same c pivot k (λ i. E i left e) j q ∙ bare e l
        go (yes q) (no l) = absurd (omega arith)
        go (no q) (yes l) = kept j e jN l q ∙ P.diagonal.off (swapped c pivot j) e (swapped_below c pivot N j cN C.below jN) l (apart l q)
        go (no q) (no l) =
            let ec : e ≡ c = omega arith in
            ap (E' j left) ec ∙ becomes j left c jN cN ∙ combined_other c pivot k (λ i. E i left c) j q
            ∙ ap (λ x. E (swapped c pivot j) left c ⊕ x) (neg_mul F _ _ ∙ ap ⊖ (div_mul F _ (E pivot left c) found)) ∙ F.add_neg _

    on_more : (e : ℕ) → e < c + 1 → E' e left e ≢ 𝟘
    on_more e h z = go (dec_lt e c)
      where
        go : Dec (e < c) → ⊥
        go (yes l) =
            let f = C.from in P.diagonal.on e l (ap (λ i. E i left e) (sym (swapped_other c pivot e (omega arith) (omega arith))) ∙ sym (kept e e (omega arith) l (omega arith)) ∙ z)
        go (no l) =
            let ec : e ≡ c = omega arith in found (sym (becomes c left c cN cN ∙ combined_same c pivot k (λ i. E i left c) c refl) ∙ ap (λ i. E' i left i) (sym ec) ∙ z)

    pub one_more : Progress (c + 1) E₀ E'
    one_more = record {
      spans = λ y z. P.spans y (combined_zero c pivot k cN C.below (λ i. dot y (E i left)) (λ j jN. sym (dot_becomes y j jN) ∙ z j jN));
      diagonal = record { off = off_more; on = on_more };
      keeps = λ y r rN h j jN. dot_becomes y j jN
          ∙ combined_cong c pivot k cN C.below (λ i. dot y (E i left)) (λ i. E i right r) (P.keeps y r rN h) j jN ∙ sym (becomes j right r jN rN);
    }

  -- at the end each equation gives one entry of a solution's row
  pub at_end : (E₀ E : ℕ → Side → ℕ → K) → Progress N E₀ E → (y : ℕ → K) (r : ℕ) → r < N → ((j : ℕ) → j < N → dot y (E₀ j left) ≡ E₀ j right r)
      → (c : ℕ) → c < N → E c right r ⊗ inv (E c left c) ≡ y c
  at_end E₀ E P y r rN h c cN =
      ap (λ x. x ⊗ inv (E c left c))
      (sym (P.keeps y r rN h c cN) ∙ dot_single y (E c left) c cN (λ e eN n. ap (λ x. y e ⊗ x) (P.diagonal.off c e cN eN (omega arith)) ∙ mul_zero F _))
      ∙ F.mul_assoc _ _ _ ∙ ap (λ x. y c ⊗ x) (F.mul_inv _ (P.diagonal.on c cN)) ∙ F.mul_one _
