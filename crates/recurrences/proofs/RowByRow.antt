-- Row by row, the definition of the step keeps what RowInvariant says.
use Rattle.std.proofs.Common.{◌≡◌, ℕ, zero, suc, ◌<◌, ◌≤◌, Bool, true, false, cond, ◌≢◌, Some, None, Option, sym, refl, ap, ◌∙◌, subst, ap₂, inl, inr, arith}
use mathlib.Core.Path.{fun_ext}
use native.Mathlib.Decide.{ℕ_discrete, dec_le}
use Rattle.recurrences.specs.Choice.{pick, put}
use Rattle.recurrences.specs.Discrepancy.{Column, Matrices}
use Rattle.recurrences.specs.Columns.{Columns, lessen}
use Rattle.recurrences.specs.Operations.{Operations}
use Rattle.recurrences.specs.Pivot.{Candidate, Midstep, best, candidate, candidate_by, gen_entry, aux_entry, against, pivot}
use Rattle.recurrences.specs.Step.{by_auxiliary, copied, by_open, reduced, moved, row, row_by, rows, traded}
use Rattle.recurrences.specs.Run.{entry_at}
use Rattle.recurrences.specs.Degrees.{least}
use Rattle.recurrences.specs.Generators.{Ends}
use Rattle.recurrences.proofs.FieldLaws.{ring_of, Field, neg_mul, zero_mul, neg_zero, field_of}
use Rattle.recurrences.proofs.Choosing.{pick_no, put_here, put_away}
use Rattle.recurrences.proofs.Vectors.{ScalarSpace, ColumnSpace}
use Rattle.recurrences.proofs.Changes.{less, by_aux, by_gen, All}
use Rattle.recurrences.proofs.RowInvariant.{Row, aux_part, gen_part, row_aux, row_trade, row_close}
use Rattle.recurrences.proofs.Convolutions.{convolution, discrepancy_is}
use Rattle.recurrences.proofs.LinearMaps.{at_place, on_span}
use Rattle.recurrences.proofs.BestCandidate.{best_is, Best}

abbrev midstep_of : {O : Operations} → Columns O → (ℕ → Bool) → Midstep O
midstep_of s v = record { columns = s; opened = v }

abbrev columns_of : {O : Operations} → (ℕ → Column O) → (ℕ → ℕ) → (ℕ → Column O) → (ℕ → ℕ) → Columns O
columns_of g d a e = record { gen = g; gen_degree = d; aux = a; aux_degree = e }

-- where the entries of the definition are those of E, its changes are those of Changes
module _ (F : Field) (C : ℕ) (entry : ℕ → ℕ → Column (ring_of F) → F.K) (E : ℕ → Column (ring_of F) → F.K) where
  abbrev pub Agrees : ℕ → Midstep (ring_of F) → Type 0
  Agrees i t = ((j : ℕ) → t.opened j ≡ true → gen_entry (ring_of F) C entry t i j ≡ E i (t.columns.gen j)) × (aux_entry (ring_of F) C entry t i ≡ E i (t.columns.aux i))

  lessen_zero : (p f : Column (ring_of F)) → lessen (ring_of F) F.𝟘 p f ≡ f
  lessen_zero p f = fun_ext (λ k. fun_ext (λ c. ap (λ x. F.add (f k c) x) (neg_mul F _ _ ∙ ap F.neg (zero_mul F _) ∙ neg_zero F) ∙ F.add_zero _))

  loss : (b : Bool) (x x' y y' : F.K) (p f : Column (ring_of F)) (d : Dec (x ≡ F.𝟘)) → (b ≡ true → x ≡ x') → y ≡ y'
      → pick (candidate_by (ring_of F) b x d) (lessen (ring_of F) (F.mul x (F.inv y)) p f) f ≡ lessen (ring_of F) (cond b (F.mul x' (F.inv y')) F.𝟘) p f
  unfolding pick candidate_by
  loss true x x' y y' p f (yes z) ex ey =
      sym (ap (λ a. lessen (ring_of F) a p f) (ap (λ x. F.mul x (F.inv y')) (sym (ex refl) ∙ z) ∙ zero_mul F _) ∙ lessen_zero p f)
  loss true x x' y y' p f (no z) ex ey = ap₂ (λ x y. lessen (ring_of F) (F.mul x (F.inv y)) p f) (ex refl) ey
  loss false x x' y y' p f d ex ey = sym (lessen_zero p f)

  pub by_auxiliary_is : (i : ℕ) (t : Midstep (ring_of F)) → Agrees i t
      → midstep_of (by_aux (ring_of F) i (aux_part F E t.columns t.opened i) t.columns) t.opened ≡ by_auxiliary (field_of F) C entry i t
  unfolding by_auxiliary reduced candidate aux_part less
  by_auxiliary_is i t (same, same_aux) = ap (λ g. midstep_of (columns_of g t.columns.gen_degree t.columns.aux t.columns.aux_degree) t.opened)
      (fun_ext (λ j. sym (loss (t.opened j) _ _ _ _ _ _ (F.dec (gen_entry (ring_of F) C entry t i j) F.𝟘) (same j) same_aux)))

  pub moved_is : (i l : ℕ) (x : Column (ring_of F)) (t : Midstep (ring_of F)) → Agrees i t → t.opened l ≡ true
      → by_gen (ring_of F) i l x (gen_part F E t.columns t.opened i l) t.columns ≡ moved (field_of F) C entry i l x t
  unfolding moved reduced candidate gen_part less
  moved_is i l x t (same, same_aux) lv = ap (λ g. columns_of g (put l (t.columns.aux_degree i) t.columns.gen_degree) (put i (t.columns.gen l) t.columns.aux) (put i (t.columns.gen_degree l) t.columns.aux_degree))
      (fun_ext (λ j. one j (ℕ_discrete j l)))
    where
      one : (j : ℕ) → Dec (j ≡ l)
          → put l x (less (ring_of F) (gen_part F E t.columns t.opened i l) (t.columns.gen l) t.columns.gen) j
          ≡ put l x (reduced (field_of F) C entry i (t.columns.gen l) (gen_entry (ring_of F) C entry t i l) t) j
      one j (yes e) = put_here l x _ j e ∙ sym (put_here l x _ j e)
      one j (no e) = put_away l x _ j e
          ∙ ap (λ a. lessen (ring_of F) (cond (t.opened j) a F.𝟘) (t.columns.gen l) (t.columns.gen j)) (pick_no (ℕ_discrete j l) _ _ e)
          ∙ sym (loss (t.opened j) _ _ _ _ _ _ (F.dec (gen_entry (ring_of F) C entry t i j) F.𝟘) (same j) (same l lv))
          ∙ sym (put_away l x _ j e)

-- one row after the other, where the columns at the start of the step end at their degrees
module _ (F : Field) (R C : ℕ) (M : Matrices (ring_of F)) (n : ℕ) (start : Columns (ring_of F))
    (ends : (e : ℕ) (x : Column (ring_of F)) → All F R C start e x → Ends (ring_of F) C e x) where
  abbrev E : ℕ → Column (ring_of F) → F.K
  E = convolution (ring_of F) C M n

  abbrev entry : ℕ → ℕ → Column (ring_of F) → F.K
  entry = entry_at (ring_of F) C M n

  abbrev RowOf : Midstep (ring_of F) → ℕ → Type 0
  RowOf t i = Row F R C M n start t.columns t.opened i

  pub row_ends : (t : Midstep (ring_of F)) (i : ℕ) → RowOf t i → (e : ℕ) (x : Column (ring_of F)) → All F R C t.columns e x → Ends (ring_of F) C e x
  row_ends t i W e x a k c h cC = on_span F (ColumnSpace F) (ScalarSpace F) (λ f. f k c) (at_place F k c) (All F R C start e) (W.new e x a) (λ y ay. ends e y ay k c h cC)

  pub agrees : (t : Midstep (ring_of F)) (i : ℕ) → i < R → RowOf t i → Agrees F C entry E i t
  agrees t i iR W = (
    (λ j v. discrepancy_is F C M (t.columns.gen j) (t.columns.gen_degree j) n i (row_ends t i W _ _ (inl (j, W.opened_below j v, omega arith, refl)))),
    discrepancy_is F C M (t.columns.aux i) (t.columns.aux_degree i) n i (row_ends t i W _ _ (inr (i, iR, omega arith, refl))),
  )

  row_keeps : (i : ℕ) (t : Midstep (ring_of F)) → i < R → RowOf t i → RowOf (row (field_of F) C entry i t) (suc i)
  unfolding row pivot against row_by by_open traded copied pick
  row_keeps i t iR W = go (best (Candidate (ring_of F) C entry t i) (candidate (ring_of F) C entry t i) t.columns.gen_degree C) (best_is (Candidate (ring_of F) C entry t i) (candidate (ring_of F) C entry t i) t.columns.gen_degree C)
    where
      same : Agrees F C entry E i t
      same = agrees t i iR W

      auxed : ((j : ℕ) → j < C → t.opened j ≡ true → E i (t.columns.gen j) ≢ F.𝟘 → t.columns.aux_degree i ≤ t.columns.gen_degree j) → RowOf (by_auxiliary (field_of F) C entry i t) (suc i)
      auxed least = subst (λ t. RowOf t (suc i)) (by_auxiliary_is F C entry E i t same) (row_aux F R C M n start t.columns t.opened i iR W least)

      candidate_of : (j : ℕ) → t.opened j ≡ true → E i (t.columns.gen j) ≢ F.𝟘 → Candidate (ring_of F) C entry t i j
      candidate_of j v nz = (v, λ z. nz (sym (same.0 j v) ∙ z))

      go : (r : Option ℕ) → Best (Candidate (ring_of F) C entry t i) t.columns.gen_degree C r
          → RowOf (row_by (field_of F) C entry i t (against (t.columns.aux_degree i) t.columns.gen_degree r)) (suc i)
      go None h = auxed (λ j jC v nz. absurd (h j jC (candidate_of j v nz)))
      go (Some l) (lC, (lv, nz), least, first) = by (dec_le (t.columns.aux_degree i) (t.columns.gen_degree l))
        where
          nz' : E i (t.columns.gen l) ≢ F.𝟘
          nz' z = nz (same.0 l lv ∙ z)

          least' : (j : ℕ) → j < C → t.opened j ≡ true → E i (t.columns.gen j) ≢ F.𝟘 → t.columns.gen_degree l ≤ t.columns.gen_degree j
          least' j jC v z = least j jC (candidate_of j v z)

          gened : t.columns.gen_degree l < t.columns.aux_degree i → (a : Dec (aux_entry (ring_of F) C entry t i ≡ F.𝟘))
              → RowOf (pick a (copied (field_of F) C entry i l t) (traded (field_of F) C entry i l t)) (suc i)
          gened under (yes z) = subst (λ s. Row F R C M n start s (put l false t.opened) (suc i)) (moved_is F C entry E i l _ t same lv)
              (row_close F R C M n start t.columns t.opened i iR W l lC lv nz' under least' (sym same.1 ∙ z))
          gened under (no z) = subst (λ s. Row F R C M n start s t.opened (suc i))
              (moved_is F C entry E i l _ t same lv
              ∙ ap₂ (λ x y. moved (field_of F) C entry i l (lessen (ring_of F) (F.mul x (F.inv y)) (t.columns.aux i) (t.columns.gen l)) t) (sym (same.0 l lv)) (sym same.1))
              (row_trade F R C M n start t.columns t.opened i iR W l lC lv nz' under least' (λ e. z (same.1 ∙ e)))

          by : (d : Dec (t.columns.aux_degree i ≤ t.columns.gen_degree l)) → RowOf (row_by (field_of F) C entry i t (pick d None (Some l))) (suc i)
          by (yes q) = auxed (λ j jC v z. let x = least' j jC v z in omega arith)
          by (no q) = gened (omega arith) (F.dec (aux_entry (ring_of F) C entry t i) F.𝟘)

  pub rows_keep : (t : Midstep (ring_of F)) → RowOf t 0 → (i : ℕ) → i ≤ R → RowOf (rows (field_of F) C entry i t) i
  unfolding rows
  rows_keep t W zero h = W
  rows_keep t W (suc i) h = row_keeps i (rows (field_of F) C entry i t) (omega arith) (rows_keep t W i (omega arith))
