-- What it says of a matrix that it continues a list at a place: it solves the equations of that place.
use Rattle.std.proofs.Common.{◌≡◌, ℕ, zero, suc, ◌-◌, ◌<◌, min, Option, sym, ap, ◌∙◌, arith}
use Rattle.rings.specs.Meaning.{Meaning, Laws, Inverse}
use Rattle.rings.specs.Arithmetic.{Arithmetic, reading}
use Rattle.recurrences.specs.Choice.{put}
use Rattle.recurrences.specs.Continuation.{Continues}
use Rattle.recurrences.specs.Discrepancy.{discrepancy}
use Rattle.recurrences.specs.Fields.{FieldOperations}
use Rattle.recurrences.specs.Sums.{sum}
use Rattle.recurrences.proofs.Choosing.{put_here, put_away}
use Rattle.recurrences.proofs.CodesField as field_of_codes
use Rattle.recurrences.proofs.FieldLaws.{Field, ring_of, neg_unique}
use Rattle.recurrences.proofs.FieldSums.{sum_head}
use Rattle.recurrences.proofs.Homomorphisms.{Map, sum_map}
use Rattle.recurrences.proofs.Summing.{sum_same}
use Rattle.runs.specs.NextMatrix.{behind}
use Rattle.runs.specs.Operations.{operations_of}
use Rattle.runs.specs.Solve.{Solves, row_times}

module _ (q : ℕ) (m : Meaning) (inv : ℕ → Option ℕ) (L : Laws q m) (V : (a : ℕ) → a < q → Inverse q m a (inv a)) where
  abbrev a : Arithmetic
  a = reading q m inv

  abbrev O : FieldOperations
  O = operations_of a

  abbrev F : Field
  F = field_of_codes.codes q m inv L V

  abbrev H : Map O.ring (ring_of F)
  H = field_of_codes.reading q m inv L V

  sum_code : (n : ℕ) (g : ℕ → ℕ) → sum O.ring n g < q
  unfolding sum
  sum_code zero g = field_of_codes.some_code q m inv L V
  sum_code (suc n) g = field_of_codes.sum_below q m inv L V _ _

  -- where terms add up to zero, the first is the opposite of the sum of the others
  first_term : (n : ℕ) (g : ℕ → ℕ) → g 0 < q → sum O.ring (suc n) g ≡ 0 → g 0 ≡ a.opposite (sum O.ring n (λ k. g (suc k)))
  first_term n g first e =
      sym (field_of_codes.itself q m inv L V (g 0) first)
      ∙ ap (λ x. x.0) (neg_unique F (H.φ rest) (H.φ (g 0)) (F.add_comm (H.φ rest) (H.φ (g 0)) ∙ sym split ∙ ap H.φ e ∙ H.on_zero) ∙ sym (H.on_neg rest))
      ∙ field_of_codes.itself q m inv L V _ (L.opposite_code _ (field_of_codes.code_below q m inv L V rest))
    where
      rest : ℕ
      rest = sum O.ring n (λ k. g (suc k))

      split : H.φ (sum O.ring (suc n) g) ≡ F.add (H.φ (g 0)) (H.φ rest)
      split = sum_map O.ring (ring_of F) H (suc n) g ∙ sum_head F n (λ k. H.φ (g k)) ∙ ap (F.add (H.φ (g 0))) (sym (sum_map O.ring (ring_of F) H n (λ k. g (suc k))))

  pub continues_solves : (N : ℕ) (M : ℕ → ℕ → ℕ → ℕ) (l : ℕ) (h : ℕ → ℕ → ℕ → ℕ) (d : ℕ → ℕ) (X : ℕ → ℕ → ℕ) → Continues O.ring N N M l h d X
      → Solves a N (λ j. h j 0) (λ j r. a.opposite (behind a N M (h j) (d j) l r)) X
  unfolding discrepancy
  continues_solves N M l h d X z j r jN rN =
      sym here ∙ first_term (min l (d j)) term (sum_code N _) (z j r jN rN) ∙ ap a.opposite (sum_same O.ring (min l (d j)) _ _ away)
    where
      term : ℕ → ℕ
      term k = sum O.ring N (λ c. a.product (put l X M (l - k) r c) (h j k c))

      here : term 0 ≡ row_times a N (X r) (h j 0)
      here = ap (λ (x : ℕ → ℕ → ℕ). row_times a N (x r) (h j 0)) (put_here l X M (l - 0) (omega arith))

      away : (k : ℕ) → k < min l (d j) → term (suc k) ≡ sum O.ring N (λ c. a.product (M (l - suc k) r c) (h j (suc k) c))
      away k lt = ap (λ (x : ℕ → ℕ → ℕ). row_times a N (x r) (h j (suc k))) (put_away l X M (l - suc k) (omega arith))
