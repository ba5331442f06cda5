-- The matrix that solves the equations of a place, written there, continues the list.
use Rattle.std.proofs.Common.{◌≡◌, ℕ, ◌+◌, ◌*◌, ◌/◌, ◌%◌, ◌<◌, ltb, List, get_or, Option, sym, ap, ◌∙◌, subst, ap₂, arith}
use mathlib.Core.Path.{fun_ext}
use Rattle.std.proofs.lemmas.Bool.{cond-true, lt-ltb}
use Rattle.rings.specs.Meaning.{Meaning, Laws, Inverse}
use Rattle.rings.specs.Arithmetic.{Arithmetic, reading}
use Rattle.recurrences.specs.Columns.{Columns}
use Rattle.recurrences.specs.Discrepancy.{discrepancy}
use Rattle.recurrences.specs.Operations.{numbers}
use Rattle.recurrences.specs.Reading.{matrices_in}
use Rattle.runs.specs.Equations.{Side, left, right, equations_of}
use Rattle.runs.specs.NextMatrix.{matrices_with, behind, equation_for}
use Rattle.runs.specs.Recorded.{recorded}
use Rattle.runs.specs.Solve.{OnlySolution}
use Rattle.runs.specs.Sound.{Sound}
use Rattle.runs.specs.Standings.{columns_after}
use Rattle.runs.specs.Views.{matrices_of}
use Rattle.runs.specs.declared.equation.Equation.{Equation}
use Rattle.runs.specs.declared.tables.State.{State}
use Rattle.runs.proofs.Appended.{Alike, matrix_written, at_back, alike_matrices}
use Rattle.runs.proofs.Continued.{Next, discrepancy_put, solution_next}
use Rattle.runs.proofs.Recalled.{columns_recorded}
use Rattle.runs.proofs.TakenAndWritten.{length_recorded}

module _ (q : ℕ) (m : Meaning) (inv : ℕ → Option ℕ) (L : Laws q m) (V : (a : ℕ) → a < q → Inverse q m a (inv a)) (s : State) (S : Sound (reading q m inv) s) where
  abbrev a : Arithmetic
  a = reading q m inv

  abbrev N : ℕ
  N = s.size

  module _ (p p' : List ℕ) (i : ℕ) (qs : List Equation) (x : ℕ → ℕ → ℕ) (equations : (j : ℕ) → j < N → equations_of qs j ≡ equation_for a s p (s.count + i) j)
      (only : OnlySolution a N (λ j. equations_of qs j left) (λ j. equations_of qs j right) x)
      (written : (t : ℕ) → t < N * N → get_or p' (i * (N * N) + t) 0 ≡ x (t / N) (t % N)) where
    next : ((r c : ℕ) → r < N → c < N → x r c < q) × Next q m inv L V N (matrices_of N s.matrices) s.count (matrices_with s p) (s.count + i) x
    next = solution_next q m inv L V N (matrices_of N s.matrices) s.count (matrices_with s p) (s.count + i) _ _ x
        (λ j c jN cN. ap (λ (f : Side → ℕ → ℕ). f left c) (equations j jN) ∙ sym (cond-true (ltb c N) _ 0 (lt-ltb c N cN)) ∙ S.gens (j, jN) 0 c)
        (λ j r jN rN. ap (λ (f : Side → ℕ → ℕ). f right r) (equations j jN) ∙ cond-true (ltb r N) _ 0 (lt-ltb r N rN)
        ∙ ap₂ (λ (f : ℕ → ℕ → ℕ) (d : ℕ). a.opposite (behind a N (matrices_with s p) f d (s.count + i) r)) (fun_ext (λ k. fun_ext (λ e. S.gens (j, jN) k e))) (S.gen_degrees j jN))
        only

    pub written_codes : (r c : ℕ) → r < N → c < N → matrices_in N N p' i r c < q
    written_codes r c rN cN = subst (λ (y : ℕ). y < q) (sym (matrix_written N p' i x written r c rN cN)) (next.0 r c rN cN)

    pub written_zeros : Alike N i p p' → (j r : ℕ) → j < N → r < N
        → discrepancy (numbers q m) N (matrices_with s p') ((columns_after a N (recorded s)).gen j) ((columns_after a N (recorded s)).gen_degree j) (s.count + i) r ≡ 0
    written_zeros same j r jN rN =
        let some = S.some in
        subst (λ (C : Columns (numbers q m)). discrepancy (numbers q m) N (matrices_with s p') (C.gen j) (C.gen_degree j) (s.count + i) r ≡ 0) (sym (columns_recorded a s (omega arith)))
        (sym (discrepancy_put (numbers q m) N (matrices_with s p) (matrices_with s p') (s.count + i) x
        (alike_matrices N s.count (recorded s) (length_recorded s) p p' i same)
        (λ e c eN cN. sym (at_back N s.count (recorded s) (length_recorded s) p' i e c ∙ matrix_written N p' i x written e c eN cN)) _ _ r rN)
        ∙ next.1 j r jN rN)
