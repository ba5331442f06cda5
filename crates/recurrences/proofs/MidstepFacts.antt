-- What holds in the midst of a step: first over a field, then on numbers.
use Rattle.std.proofs.Common.{◌≡◌, ℕ, suc, ◌<◌, ◌≤◌, Bool, true, false, ◌≢◌, ◌⊎◌, Some, None, Option, sym, refl, ◌∙◌, inl, inr, arith}
use native.Mathlib.Decide.{dec_le}
use Rattle.recurrences.specs.Midsteps.{Bounded, divisor}
use Rattle.recurrences.specs.Pivot.{aux_entry, candidate, against, best, Midstep, Candidate, pivot}
use Rattle.recurrences.specs.Run.{entry_at}
use Rattle.recurrences.specs.Discrepancy.{Column, Matrices}
use Rattle.recurrences.specs.Choice.{pick}
use Rattle.recurrences.specs.Columns.{Columns}
use Rattle.recurrences.proofs.Invariant.{midstep, before_row as row_before, Holds, Inside}
use Rattle.recurrences.proofs.Vectors.{ColumnSpace, ScalarSpace}
use Rattle.recurrences.proofs.LinearMaps.{at_place, on_span}
use Rattle.recurrences.proofs.BestCandidate.{Best, best_is}
use Rattle.recurrences.proofs.Convolutions.{convolution}
use Rattle.recurrences.proofs.Changes.{All}
use Rattle.recurrences.proofs.FieldLaws.{Field, ring_of}
use Rattle.recurrences.proofs.RowInvariant.{Row}
use Rattle.recurrences.proofs.RowByRow.{agrees}

module _ (F : Field) (R C : ℕ) (M : Matrices (ring_of F)) (n : ℕ) (s : Columns (ring_of F)) (H : Holds F R C M n s) where
  mid_inside : (i : ℕ) → i ≤ R → (e : ℕ) (x : Column (ring_of F)) → All F R C (midstep F R C M n s i).columns e x → Inside F C e x
  mid_inside i h e x a k c o =
      on_span F (ColumnSpace F) (ScalarSpace F) (λ f. f k c) (at_place F k c) (All F R C s e) ((row_before F R C M n s H i h).new e x a) (λ y ay. H.inside e y ay k c o)

  pub mid_bounded : (i : ℕ) → i ≤ R → (below : F.K → Type 0) → ((x : F.K) → below x) → Bounded (ring_of F) below R C n (midstep F R C M n s i)
  mid_bounded i h below all = record {
    gen_codes = λ j k c. all _;
    aux_codes = λ j k c. all _;
    gen_ends = λ j k c jC o. mid_inside i h ((midstep F R C M n s i).columns.gen_degree j) ((midstep F R C M n s i).columns.gen j) (inl (j, jC, omega arith, refl)) k c (inl o);
    aux_ends = λ j k c jR o. mid_inside i h ((midstep F R C M n s i).columns.aux_degree j) ((midstep F R C M n s i).columns.aux j) (inr (j, jR, omega arith, refl)) k c (inl o);
    gen_width = λ j k c jC o. mid_inside i h ((midstep F R C M n s i).columns.gen_degree j) ((midstep F R C M n s i).columns.gen j) (inl (j, jC, omega arith, refl)) k c (inr o);
    aux_width = λ j k c jR o. mid_inside i h ((midstep F R C M n s i).columns.aux_degree j) ((midstep F R C M n s i).columns.aux j) (inr (j, jR, omega arith, refl)) k c (inr o);
    gen_degrees = λ j jC. gen_degree_of j jC ((midstep F R C M n s i).opened j) refl;
    aux_degrees = λ j jR. aux_degree_of j ((row_before F R C M n s H i h).aux_diagonal j jR);
  }
    where
      gen_degree_of : (j : ℕ) → j < C → (b : Bool) → (midstep F R C M n s i).opened j ≡ b → (midstep F R C M n s i).columns.gen_degree j ≤ suc n
      gen_degree_of j jC true v = let a = (row_before F R C M n s H i h).opened_degree j jC v in omega arith
      gen_degree_of j jC false v = let a = (row_before F R C M n s H i h).closed_degree j jC v in omega arith

      aux_degree_of : (j : ℕ)
          → ((convolution (ring_of F) C M n j ((midstep F R C M n s i).columns.aux j) ≢ F.𝟘) × ((midstep F R C M n s i).columns.aux_degree j ≤ n))
          ⊎ (((midstep F R C M n s i).columns.aux j ≡ (ColumnSpace F).vzero) × ((midstep F R C M n s i).columns.aux_degree j ≡ suc n))
          → (midstep F R C M n s i).columns.aux_degree j ≤ suc n
      aux_degree_of j (inl (_, a)) = omega arith
      aux_degree_of j (inr (_, a)) = omega arith

  abbrev entry : ℕ → ℕ → Column (ring_of F) → F.K
  entry = entry_at (ring_of F) C M n

  pub mid_divisor : (i j : ℕ) → i < R → j < C → Candidate (ring_of F) C entry (midstep F R C M n s i) i j
      → divisor (ring_of F) C entry (midstep F R C M n s i) i (pivot (ring_of F) C entry i (midstep F R C M n s i)) ≢ F.𝟘
  unfolding pivot against pick
  mid_divisor i j iR jC found =
      go (best (Candidate (ring_of F) C entry t i) (candidate (ring_of F) C entry t i) t.columns.gen_degree C) (best_is (Candidate (ring_of F) C entry t i) (candidate (ring_of F) C entry t i) t.columns.gen_degree C)
    where
      t : Midstep (ring_of F)
      t = midstep F R C M n s i

      W : Row F R C M n s t.columns t.opened i
      W = row_before F R C M n s H i (omega arith)

      aux_same : aux_entry (ring_of F) C entry t i ≡ convolution (ring_of F) C M n i (t.columns.aux i)
      aux_same = (agrees F R C M n s (λ e x a k c h cC. H.inside e x a k c (inl h)) t i iR W).1

      auxed : (l : ℕ) → l < C → t.opened l ≡ true → t.columns.aux_degree i ≤ t.columns.gen_degree l
          → ((convolution (ring_of F) C M n i (t.columns.aux i) ≢ F.𝟘) × (t.columns.aux_degree i ≤ n)) ⊎ ((t.columns.aux i ≡ (ColumnSpace F).vzero) × (t.columns.aux_degree i ≡ suc n))
          → aux_entry (ring_of F) C entry t i ≢ F.𝟘
      auxed l lC v under (inl (nz, _)) z = nz (sym aux_same ∙ z)
      auxed l lC v under (inr (_, e)) z = let a = W.opened_degree l lC v in absurd (omega arith)

      go : (r : Option ℕ) → Best (Candidate (ring_of F) C entry t i) t.columns.gen_degree C r
          → divisor (ring_of F) C entry t i (against (t.columns.aux_degree i) t.columns.gen_degree r) ≢ F.𝟘
      go None h = absurd (h j jC found)
      go (Some l) (lC, (lv, nz), least, first) = by (dec_le (t.columns.aux_degree i) (t.columns.gen_degree l))
        where
          by : (d : Dec (t.columns.aux_degree i ≤ t.columns.gen_degree l)) → divisor (ring_of F) C entry t i (pick d None (Some l)) ≢ F.𝟘
          by (yes under) = auxed l lC lv under (W.aux_diagonal i iR)
          by (no _) = nz
