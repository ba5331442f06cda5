-- The run keeps the invariant, from its start on.
use Rattle.std.proofs.Common.{◌≡◌, ℕ, zero, suc, ◌<◌, ◌≤◌, ◌⊎◌, sym, refl, ap, ◌∙◌, inl, inr, arith}
use mathlib.Core.Path.{fun_ext}
use native.Mathlib.Decide.{ℕ_discrete}
use Rattle.recurrences.specs.Discrepancy.{Matrices, Column}
use Rattle.recurrences.specs.Columns.{constant, shift, unit}
use Rattle.recurrences.specs.Run.{run, start}
use Rattle.recurrences.proofs.FieldLaws.{ring_of, Field, mul_zero, field_of}
use Rattle.recurrences.proofs.Vectors.{ScalarSpace, ColumnSpace, VectorSpace}
use Rattle.recurrences.proofs.Combinations.{comb, comb_span, comb_vanish, Span, span_eq, span_map, span_none}
use Rattle.recurrences.proofs.Choosing.{pick_no}
use Rattle.recurrences.proofs.LinearMaps.{on_comb, on_zero, at_place, at_index}
use Rattle.recurrences.proofs.Convolutions.{convolution_linear, shift_linear, convolution}
use Rattle.recurrences.proofs.Spans.{ShiftSpan, made_none, made_more}
use Rattle.recurrences.proofs.Changes.{All}
use Rattle.recurrences.proofs.Invariant.{Holds, Inside, step_holds}
use Rattle.recurrences.proofs.Bases.{unit_basis}
use Rattle.recurrences.proofs.UnitVectors.{by_entries}
use Rattle.recurrences.proofs.Totals.{total_const}

module _ (F : Field) where
  open F use {K, 𝟘, 𝟙, add as ◌⊕◌, neg as ⊖, mul as ◌⊗◌, inv}
  open ColumnSpace F use {vzero as 𝟎, vadd as ◌⊞◌, smul as ◌⊡◌, vadd_zero}

  infixl 60 ◌⊕◌
  infixl 70 ◌⊗◌
  infixl 60 ◌⊞◌
  pub start_holds : (R C : ℕ) (M : Matrices (ring_of F)) → Holds F R C M 0 (start (ring_of F))
  unfolding start constant
  start_holds R C M = record {
    gen_degrees = λ j jN. omega arith;
    inside = inside_go;
    fits = λ e x a l r el ln rN. absurd (omega arith);
    aux_triangle = λ r k rk kN. on_zero F (ColumnSpace F) (ScalarSpace F) (convolution (ring_of F) C M 0 r) (convolution_linear F C M 0 r);
    aux_diagonal = λ k kN. inr (refl, refl);
    aux_constant = λ k kN. refl;
    basis = unit_basis F C;
    sums = omega (arith, total_const C 0, total_const R 1);
    reach = λ k kN. omega arith;
    spanning = λ e e0 h i f. made_more h 𝟎 (made e h (λ k c o. i k c (low e e0 k c o))) (zero_made e) (sym (ap (λ y. h ⊞ y) (on_zero F (ColumnSpace F) (ColumnSpace F) (shift (ring_of F)) (shift_linear F)) ∙ vadd_zero h));
  }
    where
      low : (e : ℕ) → e ≤ 0 → (k c : ℕ) → (0 < k) ⊎ (C ≤ c) → (e < k) ⊎ (C ≤ c)
      low e e0 k c (inl h) = inl (omega arith)
      low e e0 k c (inr h) = inr h

      zero_made : (e : ℕ) → ShiftSpan F (All F R C (start (ring_of F))) e 𝟎
      zero_made zero = made_none refl
      zero_made (suc e) = made_more 𝟎 𝟎 (span_none refl) (zero_made e) (sym (ap (λ y. 𝟎 ⊞ y) (on_zero F (ColumnSpace F) (ColumnSpace F) (shift (ring_of F)) (shift_linear F)) ∙ vadd_zero 𝟎))

      inside_go : (e : ℕ) (x : Column (ring_of F)) → All F R C (start (ring_of F)) e x → Inside F C e x
      inside_go e x (inl (j, jN, je, p)) k c o = ap (λ f. f k c) p ∙ go k o
        where
          go : (k : ℕ) → (e < k) ⊎ (C ≤ c) → constant (ring_of F) (unit (ring_of F) j) k c ≡ 𝟘
          go zero (inl h) = absurd (omega arith)
          go zero (inr h) = pick_no (ℕ_discrete j c) 𝟙 𝟘 (omega arith)
          go (suc k) o = refl
      inside_go e x (inr (j, jN, je, p)) k c o = ap (λ f. f k c) p

      made : (e : ℕ) (h : Column (ring_of F)) → Inside F C 0 h → Span F (ColumnSpace F) (All F R C (start (ring_of F)) e) h
      made e h i = span_eq F (ColumnSpace F) (All F R C (start (ring_of F)) e) (fun_ext parts)
          (span_map F (ColumnSpace F) _ _ (comb_span F (ColumnSpace F) C (λ _. Unit {0}) (λ j. constant (ring_of F) (unit (ring_of F) j)) (h 0) (λ j jN. inr tt)) (λ x (j, jN, _, p). inl (j, jN, omega arith, p)))
        where
          parts : (k : ℕ) → h k ≡ comb F (ColumnSpace F) C (h 0) (λ j. constant (ring_of F) (unit (ring_of F) j)) k
          parts zero = by_entries F C (h 0) (λ c cN. i 0 c (inr cN)) ∙ sym (on_comb F (ColumnSpace F) (VectorSpace F) (λ f. f 0) (at_index F (VectorSpace F) 0) C (h 0) (λ j. constant (ring_of F) (unit (ring_of F) j)))
          parts (suc k) = fun_ext (λ c. i (suc k) c (inl (omega arith))
              ∙ sym (on_comb F (ColumnSpace F) (ScalarSpace F) (λ f. f (suc k) c) (at_place F (suc k) c) C (h 0) (λ j. constant (ring_of F) (unit (ring_of F) j))
              ∙ comb_vanish F (ScalarSpace F) C (h 0) (λ j. 𝟘) (λ j jN. mul_zero F _)))

  pub run_holds : (R C : ℕ) (M : Matrices (ring_of F)) (n : ℕ) → Holds F R C M n (run (field_of F) R C M n)
  unfolding run
  run_holds R C M zero = start_holds R C M
  run_holds R C M (suc n) = step_holds F R C M n (run (field_of F) R C M n) (run_holds R C M n)
